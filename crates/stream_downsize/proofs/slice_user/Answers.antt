-- `stream_downsize::slice_user` meets its contract: lane by lane, from the last one down. Assumes nothing.
use native.Mathlib.Omega.{arith}
use Rattle.stream_downsize.proofs.Lanes.{shifted_lane, tagging_starts, tagging_fits, tagging_lane, tagging_done}
use Rattle.stream_downsize.proofs.slice_user.Goals as goal

pub loop-j-init : goal.loop-j-init
loop-j-init c = let a = c.args in tagging_starts a.t.user a.t.width a.keep a.user

pub overflow_add-bits : goal.overflow_add-bits
overflow_add-bits c =
    let p = c.requires in
    let lane = rw (shifted_lane c.args.t.user p.user) at c.if_high.ensures in
    record {
      fits = omega (arith, tagging_fits _ _ _ _ _ _ _ _ c.loop-j.invariant (omega (arith, c.loop-j-test.true)) lane p.width p.user);
    }

pub loop-j-preserved : goal.loop-j-preserved
loop-j-preserved c =
    let p = c.requires in
    let lane = rw (shifted_lane c.args.t.user p.user) at c.if_high.ensures in
    tagging_lane _ _ _ _ _ _ _ _ c.loop-j.invariant (omega (arith, c.loop-j-test.true)) lane p.width p.user

pub returns : goal.returns
returns c = tagging_done _ _ _ _ _ _ c.loop-j.invariant c.loop-j-test.false
