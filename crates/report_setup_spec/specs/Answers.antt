-- What `parse` answers, as paper 01's number and values: "If an answer is an enum, a definition lists this paper's number and
-- values for each of its cases, and the promises use that definition." What the answer is, is Grammar's `sheet_of`.
use Rattle.std.specs.Prelude.{List, [], ◌≡◌, ℕ, Option, Some, None}
use Rattle.refusal.specs.Code.{code_of}
use Rattle.refusal.specs.declared.Refusal.TheVariants.{Setup as BadSheet}
use Rattle.report_setup_spec.specs.declared.Setup.{Setup}
use Rattle.report_setup_spec.specs.declared.Mode.{Mode}
use Rattle.report_setup_spec.specs.declared.Mode.TheVariants.{Pack, Lanes}
use Rattle.report_setup_spec.specs.declared.Tlast.{Tlast}
use Rattle.report_setup_spec.specs.declared.Tlast.TheVariants.{Wired, Absent, Low}
use Rattle.report_setup_spec.specs.Grammar.{text, sheet_of}

-- a mode and a TLAST wire as the sheet spells them
abbrev pub mode_word : Mode → List ℕ
mode_word Pack = text "pack"
mode_word Lanes = text "lanes"

abbrev pub tlast_word : Tlast → List ℕ
tlast_word Wired = text "wired"
tlast_word Absent = text "none"
tlast_word Low = text "low"

-- the refusal's number, or 0 with the five values of the sheet; what an answer does not have is 0, or no octet
pub record Values : Type 0 where
  pub refusal : ℕ
  pub width_in : ℕ
  pub width_out : ℕ
  pub mode : List ℕ
  pub tlast : List ℕ
  pub user : ℕ

abbrev pub sheet_values : Option Setup → Values
sheet_values (Some u) =
    record { refusal = 0; width_in = u.width_in; width_out = u.width_out; mode = mode_word u.mode; tlast = tlast_word u.tlast; user = u.user }
sheet_values None = record { refusal = (code_of BadSheet).0; width_in = 0; width_out = 0; mode = []; tlast = []; user = 0 }

-- the contract of `parse`: the answer is the grammar's, with 01's number and values for it
pub record Parsed (sheet : List ℕ) (r : Option Setup) : Type 0 where
  pub is : r ≡ sheet_of sheet
  pub shows : sheet_values r ≡ sheet_values (sheet_of sheet)
