-- `burst::beat` meets its contract: what is refused keeps its refusal, and a beat that is there is worked out.
-- Assumes nothing.
use Rattle.std.proofs.lemmas.Result.{err_from_is_err_and}
use mathlib.Core.Path.{sym}
use lib.Dec.{leb}
use Rattle.burst_spec.specs.Address.{beats}
use Rattle.burst_spec.proofs.Answers.{refused-first, refused-beat}
use Rattle.burst.proofs.beat.Goals as goal

pub returns-in_err-accepted : goal.returns-in_err-accepted
returns-in_err-accepted c =
    let p = err_from_is_err_and c.from_residual.result c.from_residual.ensures.1 in
    let b = c.args.b in
    rw (p.1, p.2) (refused-beat b c.args.k _ (sym (refused-first b (leb (beats b) c.args.k) _ c.in_err-accepted.ensures.refused)))
