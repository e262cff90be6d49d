-- `report_call::report` meets its contract: the outcome, and its text. Assumes nothing.
use Rattle.std.proofs.Common.{rules, option_copied}
use Rattle.report_call.proofs.Steps.{reported}
use Rattle.report_call.proofs.report.Goals as goal

pub returns : goal.returns
returns c =
    reported (option_copied c.args.sheet) (option_copied c.args.capture) _ _ _ _ c.of_sheet-ending.result c.map-verdict.result _ c.map_or.result
    c.of_sheet-ending.ensures (search rules) (search rules) c.render.ensures
