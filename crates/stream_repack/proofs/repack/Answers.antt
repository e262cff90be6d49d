-- `stream_repack::repack` meets its contract: a test that refuses is the answer, and else the conversion. Assumes nothing.
use Rattle.std.specs.Prelude.{Some}
use Rattle.std.specs.Result.{result_err}
use Rattle.std.proofs.Common.{rules, ◌≡◌}
use Rattle.stream_repack.specs.Tests.{input_checks}
use Rattle.stream_record.proofs.Tests.{refused-is}
use Rattle.stream_repack.proofs.Answer.{not_passed}
use Rattle.stream_repack.proofs.repack.Goals as goal

pub returns-in_err-take : goal.returns-in_err-take
returns-in_err-take c =
    let a = c.args in
    let f = c.in_err-take in
    let given : result_err c.from_residual.result ≡ Some f.field-0.0 = search rules in
    not_passed a.s a.v a.transfers.now a.out.now f.field-0.0
    (refused-is c.for_width.result (input_checks a.s a.v a.transfers.now) c.for_width.ensures.refused f.field-0.0 f.was) c.from_residual.result given
