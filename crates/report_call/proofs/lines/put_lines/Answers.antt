-- `report_call::lines::put_lines` meets its contract: one line after the other. Assumes nothing.
use native.Mathlib.Omega.{arith}
use Rattle.report_call.proofs.Told.{next_room, next_put}
use Rattle.report_call.proofs.lines.put_lines.Goals as goal

pub put_line-at-requires : goal.put_line-at-requires
put_line-at-requires c =
    next_room _ _ _ _ c.requires _ c.loop-key-test.true _ _ c.loop-key.invariant (omega arith) _ c.as_bytes-in-loop-key.ensures.value

pub loop-key-preserved : goal.loop-key-preserved
loop-key-preserved c =
    next_put _ _ _ _ c.requires _ c.loop-key-test.true _ _ c.loop-key.invariant (omega arith) _ c.as_bytes-in-loop-key.ensures.value _ _
    c.put_line-at.ensures
