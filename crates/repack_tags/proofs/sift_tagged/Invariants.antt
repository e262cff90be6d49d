use Rattle.repack_tags.proofs.Sifting.{Sifting}
use Rattle.repack_tags.proofs.sift_tagged.Given as goal

abbrev pub invariant-loop-lane : goal.invariant-loop-lane
invariant-loop-lane l = Sifting l.m l.keep l.strb l.user l.lanes l.initial.items l.at l.items l.n l.k l.t l.u l.lane-index
