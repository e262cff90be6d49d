use Rattle.repack_emit.specs.Emit.{Counts}
use Rattle.repack_emit.proofs.list_counts.Given as goal

abbrev pub invariant-loop-n : goal.invariant-loop-n
invariant-loop-n l = Counts l.v l.n l.count-items
