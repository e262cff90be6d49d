use Prim.Native.Nat.{◌*◌}
use Rattle.stream_fill_in.specs.Filling.{Filling}
use Rattle.stream_fill_in.proofs.fill.Given as goal

abbrev pub invariant-loop-k : goal.invariant-loop-k
invariant-loop-k l = Filling l.level l.fn.s l.initial.capture l.capture (l.k * l.size)
