-- `Job::of_capture` meets its contract: LENGTH, or what the take says. Assumes nothing.
use Rattle.std.proofs.Common.{rules}
use Rattle.report_call.proofs.Steps.{ill}
use Rattle.report_call.proofs.outcome.Job.of_capture.Goals as goal

pub returns-in_err-check_length : goal.returns-in_err-check_length
returns-in_err-check_length c =
    let a = c.args in
    ill a.self.setup a.capture.now a.out.now a.self.passes _ c.shape_of.ensures _ c.check_length.ensures _ c.in_err-check_length.was
    c.from_residual.result (search rules)
