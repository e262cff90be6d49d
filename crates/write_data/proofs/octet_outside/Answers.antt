-- `write_data::octet_outside` meets its contract: one test after the other. Assumes nothing.
use mathlib.Core.Bool.{not}
use mathlib.Core.Path.{sym, ap, ◌∙◌}
use Prim.Native.Nat.{◌+◌}
use borrow.Author.Tests.{ne_eqb, lt-leb, leb-true}
use Rattle.burst_spec.proofs.Known.{clash}
use Rattle.write_data.proofs.Octets.{stray_zero, stray_inside, told-low, told-high}
use Rattle.write_data.proofs.octet_outside.Goals as goal
use Rattle.write_data.proofs.octet_outside.Goals.{then-octet-eq0-via-then-octet-eq0, then-octet-eq0-via-else-octet-eq0+then-lane-upper, then-lower-lane, else-lower-lane}

pub returns-then-octet-eq0 : goal.returns-then-octet-eq0
returns-then-octet-eq0 c =
    let a = c.args in
    elim c.then-octet-eq0.branch [
      | then-octet-eq0-via-then-octet-eq0 w ↦ sym (stray_zero a.octet a.lane a.lower a.upper w.if-octet-eq0.true)
      | then-octet-eq0-via-else-octet-eq0+then-lane-upper w ↦
          elim w.if-lower-lane.branch [
            | then-lower-lane v ↦
                sym
                (stray_inside a.octet a.lane a.lower a.upper v.if-lower-lane.true
                (leb-true (a.lane + 8) (a.upper + 1) (sym v.value-is ∙ w.if-lane-upper.true)))
            | else-lower-lane v ↦ absurd (clash (sym w.if-lane-upper.true ∙ v.value-is ∙ lt-leb a.lower a.lane v.if-lower-lane.false))
          ]
    ]

pub returns-then-strobes-below-ne0 : goal.returns-then-strobes-below-ne0
returns-then-strobes-below-ne0 c =
    let a = c.args in
    ap not (ne_eqb _ 0 c.if-strobes-below-ne0.true)
    ∙ told-low a.octet a.lane a.lower a.upper c.from-strobes.result c.lanes_below-below.result c.from-strobes.ensures
    (rw c.from-strobes.ensures c.ranges.octet.fits) c.lanes_below-below.ensures c.if-strobes-below-ne0.true

pub returns-else-strobes-below-ne0 : goal.returns-else-strobes-below-ne0
returns-else-strobes-below-ne0 c =
    let a = c.args in
    told-high a.octet a.lane a.lower a.upper c.from-strobes.result c.lanes_below-below.result c.from-strobes.ensures
    (rw c.from-strobes.ensures c.ranges.octet.fits) c.lanes_below-below.ensures c.lanes_below-end.result c.lanes_below-end.ensures
    c.if-strobes-below-ne0.false
