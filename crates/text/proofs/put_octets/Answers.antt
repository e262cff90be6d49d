-- `text::put_octets` meets its contract: after i turns the first i octets stand in their place. Assumes nothing.
use native.Mathlib.Omega.{arith}
use Rattle.text.proofs.Laws.{copied_none, copied_more, copied_long, copied_all}
use Rattle.text.proofs.put_octets.Goals as goal

pub loop-i-init : goal.loop-i-init
loop-i-init c = copied_none c.args.at c.args.octets.now c.args.out.now c.requires

pub overflow_add-out : goal.overflow_add-out
overflow_add-out c =
    omega (arith, c.loop-i-test.true, c.loop-i.invariant.room, c.well_formed)

pub bounds-out-at : goal.bounds-out-at
bounds-out-at c =
    omega
    (arith, c.loop-i-test.true, c.loop-i.invariant.room, copied_long c.args.at c.args.octets.now c.args.out.now c.loop-i.out c.loop-i.i c.loop-i.invariant)

pub loop-i-preserved : goal.loop-i-preserved
loop-i-preserved c =
    copied_more c.args.at c.args.octets.now c.args.out.now c.loop-i.out c.loop-i.i c.loop-i.invariant
    c.loop-i-test.true

pub returns : goal.returns
returns c =
    copied_all c.args.at c.args.octets.now c.args.out.now c.loop-i.out
    c.loop-i.i c.loop-i.invariant c.loop-i-test.false
