-- `stream_downsize::put_lanes` meets its contract: lane by lane. Assumes nothing.
use Prim.Native.Nat.{◌+◌}
use native.Mathlib.Omega.{arith}
use borrow.Rule.Slice.PartMut.{mid_len}
use Rattle.stream_downsize.proofs.Lanes.{filling_starts, filling_lane, filling_done}
use Rattle.stream_downsize.proofs.put_lanes.Goals as goal

pub loop-j-init : goal.loop-j-init
loop-j-init c = filling_starts _ _ _ _ (omega (arith, mid_len 7 (7 + c.args.v) c.args.out.now c.requires.2))

pub loop-j-preserved : goal.loop-j-preserved
loop-j-preserved c =
    let l = c.loop-j in
    filling_lane _ _ _ _ _ l.invariant _ (omega (arith, c.loop-j-test.true, l.invariant.long, l.auto.octet-items)) c.requires.3 c.if_high.ensures

pub returns : goal.returns
returns c =
    let l = c.loop-j in
    filling_done _ _ _ _ _ l.invariant c.args.out.now _ (omega arith) (omega (arith, c.loop-j-test.false, l.invariant.long, l.auto.octet-items))
