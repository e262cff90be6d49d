use Rattle.stream_merge.proofs.Pass.{Merging}
use Rattle.stream_merge.proofs.put_all.Given as goal

abbrev pub invariant-loop-to : goal.invariant-loop-to
invariant-loop-to l = Merging l.z l.first.octets.now l.second.octets.now l.initial.out l.out l.t l.to
