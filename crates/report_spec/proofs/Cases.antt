-- Every worked case holds: antt computes what the definitions tell, and compares it with what was typed. Assumes nothing.
use mathlib.Core.Path.{◌≡◌, refl}
use mathlib.Core.List.{map}
use Rattle.stream_spec.specs.Layout.{size}
use Rattle.stream_spec.specs.Answers.{judge_answer, fill_after, repack_answer, downsize_answer}
use Rattle.report_setup_spec.specs.Grammar.{sheet_of}
use Rattle.text.specs.Text.{decimal}
use Rattle.report_spec.specs.Report.{report_of}
use Rattle.report_spec.specs.Cases.{cases, computed, expected}

pub worked : map computed cases ≡ map expected cases
unfolding computed cases report_of sheet_of decimal size judge_answer fill_after repack_answer downsize_answer
worked = refl
