-- `report_setup::entry` meets its contract: the line up to its LF, and the key in front of it. Assumes nothing.
use mathlib.Core.Path.{sym, ◌∙◌}
use Rattle.std.proofs.Common.{arith}
use Rattle.std.proofs.lemmas.Grind.{common_steps}
use Rattle.report_setup.proofs.Laws.{first_line-is, after-is, entry-found}
use Rattle.report_setup.proofs.entry.Goals as goal

pub returns-in_err-end : goal.returns-in_err-end
returns-in_err-end c = grind (arith, common_steps, first_line-is)

pub returns-in_err-value : goal.returns-in_err-value
returns-in_err-value c = grind (arith, common_steps, first_line-is, after-is)

pub returns : goal.returns
returns c =
    let found = c.in_ok-value.ensures.cases in
    entry-found c.args.key.now c.args.text.now c.in_ok-value.value.now c.in_ok-end.end (sym c.line_end.ensures ∙ c.in_ok-end.was)
    found.0 found.1
