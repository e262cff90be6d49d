-- What the grammar's readers take, as statements; proofs/Promises has a proof of each.
use Rattle.std.specs.Prelude.{cond, List, [], ◌∷◌, ◌++◌, ◌↔◌, ◌≢◌, ◌≡◌, ℕ, ◌+◌, ◌/◌, ◌%◌, ◌≤◌, ltb, None, Some}
use Rattle.report_setup_spec.specs.declared.Tlast.{Tlast}
use Rattle.report_setup_spec.specs.declared.Setup.{Setup}
use Rattle.report_setup_spec.specs.Grammar.{text, digit, number, one_of, tlasts, sheet_of}
use Rattle.report_setup_spec.specs.Answers.{Values, tlast_word, sheet_values}

-- a number up to 99 in decimal, without a leading zero
abbrev pub numeral : ℕ → List ℕ
numeral n = cond (ltb n 10) ((48 + n) ∷ []) ((48 + n / 10) ∷ (48 + n % 10) ∷ [])

-- "0 to 99, no leading zeros": each number from 0 to 99 is read from its numeral, and nothing else is read
pub record NumbersExactly : Type 0 where
  pub each : (n : ℕ) → n ≤ 99 → number (numeral n) ≡ Some n
  pub only : (value : List ℕ) (n : ℕ) → number value ≡ Some n → (n ≤ 99) × (value ≡ numeral n)

-- T-06: "0 to 9": each number from 0 to 9 is read from its one digit, and nothing else is read
pub record DigitsExactly : Type 0 where
  pub each : (n : ℕ) → n ≤ 9 → digit ((48 + n) ∷ []) ≡ Some n
  pub only : (value : List ℕ) (n : ℕ) → digit value ≡ Some n → (n ≤ 9) × (value ≡ (48 + n) ∷ [])

-- T-03: "SHEET accepts three words now": each of the three is read, as what it means, and nothing else is read
pub record WordsExactly : Type 0 where
  pub each : (t : Tlast) → one_of tlasts (tlast_word t) ≡ Some t
  pub only : (value : List ℕ) (t : Tlast) → one_of tlasts value ≡ Some t → value ≡ tlast_word t
  pub refused : (value : List ℕ) → (one_of tlasts value ≡ None) ↔ ((value ≢ text "wired") × (value ≢ text "none") × (value ≢ text "low"))

-- ---- a setup, written as a sheet

-- a key and its value, LF-ended, in front of the lines after it
abbrev pub line_text : List ℕ → List ℕ → List ℕ → List ℕ
line_text key value rest = key ++ (value ++ (10 ∷ rest))

-- the five lines of these values
abbrev pub values_text : Values → List ℕ
values_text v =
    line_text (text "width_in=") (numeral v.width_in)
    (line_text (text "width_out=") (numeral v.width_out)
    (line_text (text "mode=") v.mode (line_text (text "tlast=") v.tlast (line_text (text "user=") (numeral v.user) []))))

abbrev pub sheet_text : Setup → List ℕ
sheet_text u = values_text (sheet_values (Some u))

-- each setup with widths from 0 to 99 and user bits from 0 to 9 is read from its text; and a sheet that is read is the text of what it says, octet for
-- octet, so that nothing else is read
pub record SheetsExactly : Type 0 where
  pub each : (u : Setup) → u.width_in ≤ 99 → u.width_out ≤ 99 → u.user ≤ 9 → sheet_of (sheet_text u) ≡ Some u
  pub only : (xs : List ℕ) (u : Setup) → sheet_of xs ≡ Some u
      → (u.width_in ≤ 99) × (u.width_out ≤ 99) × (u.user ≤ 9) × (xs ≡ sheet_text u)
