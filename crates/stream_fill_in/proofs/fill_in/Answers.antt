-- `stream_fill_in::fill_in` meets its contract: the tests in paper 01's order, then the records. Assumes nothing.
use Rattle.std.proofs.lemmas.Result.{err_from_is_err_and}
use Rattle.stream_fill_in.proofs.Laws.{refused, filled}
use Rattle.stream_fill_in.proofs.fill_in.Goals as goal

pub returns-in_err-new : goal.returns-in_err-new
returns-in_err-new c =
    let a = c.args in
    let p = err_from_is_err_and c.from_residual.result c.from_residual.ensures.1 in
    rw (p.1, p.2) (refused a.level a.s a.capture.now c.new.result c.new.ensures.refused _ c.in_err-new.was)

pub returns : goal.returns
returns c =
    let a = c.args in
    filled a.level a.s a.capture.now c.new.result c.new.ensures.refused _ c.in_ok-new.was
    c.fill.new.capture c.fill.result c.fill.ensures
