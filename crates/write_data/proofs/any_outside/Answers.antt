-- `write_data::any_outside` meets its contract: up to octet i no strobe is high outside the lanes. Assumes nothing.
use native.Mathlib.Nat.{le_antisymm}
use Rattle.write_data.proofs.Lanes.{passing_start, passing_found, passing_next, passing_end}
use Rattle.write_data.proofs.any_outside.Goals as goal

pub loop-i-init : goal.loop-i-init
loop-i-init c = passing_start c.args.rec.now c.args.lower c.args.upper

pub returns-then-octet_outside : goal.returns-then-octet_outside
returns-then-octet_outside c =
    let a = c.args in
    let o = c.octet_outside in
    passing_found a.rec.now a.lower a.upper c.loop-i.i c.loop-i.invariant c.loop-i-test.true o.result o.ensures c.if-octet_outside.true

pub loop-i-preserved : goal.loop-i-preserved
loop-i-preserved c =
    let a = c.args in
    let o = c.octet_outside in
    passing_next a.rec.now a.lower a.upper c.loop-i.i c.loop-i.invariant c.loop-i-test.true o.result o.ensures c.if-octet_outside.false

pub returns : goal.returns
returns c =
    let a = c.args in
    passing_end a.rec.now a.lower a.upper c.loop-i.i c.loop-i.invariant (le_antisymm c.loop-i.auto.i-end c.loop-i-test.false)
