-- `write_data::judge_writes` meets its contract: the burst's own refusals come first. Assumes nothing.
use Rattle.std.proofs.lemmas.Result.{err_from_is_err_and}
use mathlib.Core.Path.{sym}
use Rattle.write_data_spec.proofs.Answers.{judged_is, refused-answer, refusal_judged}
use Rattle.write_data.proofs.judge_writes.Goals as goal

pub returns-in_err-accepted : goal.returns-in_err-accepted
returns-in_err-accepted c =
    let p = err_from_is_err_and c.from_residual.result c.from_residual.ensures.1 in
    let b = c.args.b in
    let xs = c.args.beats.now in
    rw (p.1, p.2) (judged_is b xs _ (sym ((refused-answer b xs _).1 (refusal_judged b xs _ c.in_err-accepted.ensures.refused))))
