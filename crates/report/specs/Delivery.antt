-- What the program hands on: what it knows of a file, the report that a summary and its buffers are of, and what may be saved
-- and printed. Words in quotes are paper 01's.
use Rattle.std.specs.Prelude.{◌≡◌, true, List, ℕ, take, Option, option_copied}
use denote.Ref.{Bor}
use Rattle.report.specs.Counts.{IsPrefixLen}
use Rattle.report_spec.specs.declared.Summary.{Summary}
use Rattle.report_spec.specs.Report.{Whole, report_of}
use Rattle.report_spec.specs.Promises.{is_clean}

-- the octets of a file that was read, or none where they are not the whole file
abbrev pub known : Option (Bor (List ℕ)) → Option (List ℕ)
known read = option_copied read

-- "buffers of 65,536 octets"
abbrev pub room : ℕ
room = 65536

-- The summary has the report's verdict, and says how much at the front of either buffer is its result and its text.
pub record Tells (w : Whole) (told : Summary) (output text : List ℕ) : Type 0 where
  pub verdict : told.verdict ≡ w.verdict
  pub octets : IsPrefixLen told.octets output
  pub result : take told.octets output ≡ w.result
  pub letters : IsPrefixLen told.text text
  pub says : take told.text text ≡ w.text

-- These are summary and buffers of the report on a sheet and a take.
pub record Delivers (told : Summary) (output text : List ℕ) : Type 0 where
  pub sheet : Option (List ℕ)
  pub capture : Option (List ℕ)
  pub tells : Tells (report_of sheet capture room) told output text

-- "`out.bin` is written only when the verdict is clean", and is the result of the report that has this verdict.
pub record Saves (told : Summary) (octets : List ℕ) : Type 0 where
  pub sheet : Option (List ℕ)
  pub capture : Option (List ℕ)
  pub verdict : told.verdict ≡ (report_of sheet capture room).verdict
  pub clean : is_clean told.verdict ≡ true
  pub result : octets ≡ (report_of sheet capture room).result

-- What is printed is the whole text of the report that has this verdict.
pub record Prints (told : Summary) (letters : List ℕ) : Type 0 where
  pub sheet : Option (List ℕ)
  pub capture : Option (List ℕ)
  pub verdict : told.verdict ≡ (report_of sheet capture room).verdict
  pub text : letters ≡ (report_of sheet capture room).text
