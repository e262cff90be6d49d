use mathlib.Core.Path.{◌≡◌}
use Prim.Native.Nat.{◌+◌, ◌*◌, ◌≤◌}
use lib.ListN.{drop}
use Rattle.repack_emit.specs.Emit.{count_of}
use Rattle.repack_emit.proofs.count.Given as goal

abbrev pub invariant-loop-e : goal.invariant-loop-e
invariant-loop-e l = (l.n ≤ 0x10000 * l.e-index) × (l.n + count_of l.v (drop l.e-index l.table) ≡ count_of l.v l.table)
