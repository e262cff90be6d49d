use mathlib.Core.Bool.{false}
use mathlib.Core.Path.{◌≡◌}
use Prim.Native.Nat.{◌*◌}
use Rattle.write_data_spec.specs.Layout.{lanes_each}
use Rattle.write_data.specs.Scan.{stray_below}
use Rattle.write_data.proofs.any_outside.Given as goal

abbrev pub invariant-loop-i : goal.invariant-loop-i
invariant-loop-i l = stray_below (lanes_each * l.i) l.rec l.lower l.upper ≡ false
