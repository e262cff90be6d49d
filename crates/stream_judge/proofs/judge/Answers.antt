-- `stream_judge::judge` meets its contract: the tests in front, then the cycles. Assumes nothing.
use native.Mathlib.Omega.{arith}
use Rattle.std.proofs.lemmas.Result.{err_from_is_err_and}
use Rattle.stream_spec.proofs.Legal.{octets-of}
use Rattle.stream_judge.proofs.Turns.{judged_refused, judged_cycles}
use Rattle.stream_judge.proofs.judge.Goals as goal

pub returns-in_err-take : goal.returns-in_err-take
returns-in_err-take c =
    let a = c.args in
    let p = err_from_is_err_and c.from_residual.result c.from_residual.ensures.1 in
    rw (p.1, p.2) (judged_refused a.s a.capture.now c.new.result c.new.ensures.refused _ c.in_err-take.was)

pub judge_passed-requires : goal.judge_passed-requires
judge_passed-requires c = rw c.in_ok-take.ensures.taken.octets (octets-of c.args.capture.now (λ j. omega (arith, c.type_inv.capture j)))

pub returns : goal.returns
returns c =
    let a = c.args in
    let t = c.in_ok-take.ensures.taken in
    judged_cycles a.s a.capture.now c.new.result c.new.ensures.refused _ c.in_ok-take.was c.judge_passed.result
    (rw (t.shape, t.octets) at c.judge_passed.ensures)
