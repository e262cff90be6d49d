-- `Job::prepare`: a take that has passed its tests is filled in. Assumes nothing.
use Rattle.report_call.proofs.Steps.{is_filled}
use Rattle.report_call.proofs.outcome.Job.prepare.Goals as goal

pub unwrap-requires : goal.unwrap-requires
unwrap-requires c = is_filled _ _ _ _ _ _ c.requires c.shape_of.ensures c.fill_in.ensures
