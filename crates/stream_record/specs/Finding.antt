-- The first fault of a take's records by a fault of one record, whatever that looks at.
use Rattle.std.specs.Prelude.{◌≡◌, List, ℕ, ◌<◌, length, Result}
use Rattle.std.specs.Result.{result_err}
use Rattle.std.specs.Borrow.{Bor}
use Rattle.refusal.specs.declared.Refusal.{Refusal}
use Rattle.refusal.specs.Checks.{Check, first}
use Rattle.stream_spec.specs.declared.Shape.{Shape}
use Rattle.stream_spec.specs.Layout.{size, record_count, records}
use Rattle.stream_spec.specs.Checks.{each}

-- it may be asked of any record of the shape, at the place of any record of the take
abbrev pub TakesRecords : (ℕ → Bor (List ℕ) → Type 0) → Shape → List ℕ → Type 0
TakesRecords pre s xs = (k : ℕ) (rec : Bor (List ℕ)) → k < record_count s xs → length rec.now ≡ size s → pre k rec

-- what it may answer there tells a list of checks of the record
abbrev pub TellsFaults : (ℕ → Bor (List ℕ) → Result (Unit {0}) Refusal → Type 0) → Shape → List ℕ → (ℕ → List ℕ → List (Check Refusal)) → Type 0
TellsFaults post s xs checks =
    (k : ℕ) (rec : Bor (List ℕ)) (r : Result (Unit {0}) Refusal) → k < record_count s xs → length rec.now ≡ size s → post k rec r
    → result_err r ≡ first (checks k rec.now)

-- then the answer for all tells the checks of all, in order
abbrev pub FindsFirst : (ℕ → Bor (List ℕ) → Result (Unit {0}) Refusal → Type 0) → Shape → List ℕ → Result (Unit {0}) Refusal → Type 0
FindsFirst post s xs r =
    (checks : ℕ → List ℕ → List (Check Refusal)) → TellsFaults post s xs checks → result_err r ≡ first (each checks 0 (records s xs))
