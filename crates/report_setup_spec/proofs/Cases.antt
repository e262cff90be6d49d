-- Every worked case holds: antt computes what the grammar says of each sheet and what that shows, and compares both with
-- what was typed from paper 01. Assumes nothing.
use Rattle.std.specs.Prelude.{Option}
use mathlib.Core.List.{List, map}
use mathlib.Core.Path.{◌≡◌, refl}
use Rattle.report_setup_spec.specs.declared.Setup.{Setup}
use Rattle.report_setup_spec.specs.Grammar.{text, sheet_of}
use Rattle.report_setup_spec.specs.Answers.{sheet_values}
use Rattle.report_setup_spec.specs.Cases.{Told, Case, worked_cases}

abbrev told : Option Setup → Told
told s = record { answer = s; shows = sheet_values s }

abbrev pub AllHold : List Case → Type 0
AllHold cs = ◌≡◌ {A = List Told} (map (λ (c : Case). told (sheet_of (text c.sheet))) cs) (map (λ (c : Case). c.told) cs)

pub worked : AllHold worked_cases
unfolding sheet_of worked_cases
worked = refl
