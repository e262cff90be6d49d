-- What the calls that cut a burst answer, over all their arguments, and every description and number of lent memory
-- afterwards; and the numbers of paper 01 that each answer shows.
use Rattle.std.specs.Prelude.{List, [], ◌∷◌, ◌++◌, map, ◌≡◌, ℕ, ◌/◌, ltb, length, drop, replicate, Option, None, Some, Result, Ok, Err}
use Rattle.refusal.specs.Checks.{Check, check, first}
use Rattle.refusal.specs.Code.{code_of}
use Rattle.refusal.specs.declared.Refusal.{Refusal}
use Rattle.refusal.specs.declared.Refusal.TheVariants.{Room}
use Rattle.burst_spec.specs.declared.Burst.{Burst}
use Rattle.burst_spec.specs.declared.Kind.TheVariants.{Fixed}
use Rattle.burst_spec.specs.Answers.{kind_number}
use Rattle.burst_spec.specs.Checks.{checks}
use Rattle.axi3_spec.specs.declared.CutRow.{CutRow}
use Rattle.axi3_spec.specs.Cut.{piece_count, pieces, joined}

-- "Refusals: 7 to 12 as in 01, then ROOM when the row is too short." `room` counts descriptions.
abbrev pub cut_checks : Burst → ℕ → List (Check Refusal)
cut_checks x room = checks x ++ (check (ltb room (piece_count x)) Room ∷ [])

abbrev pub cut_refusal : Burst → ℕ → Option Refusal
cut_refusal x room = first (cut_checks x room)

-- ---- how an answer, and lent memory afterwards, are made of the first refusal, if there is one

-- "The answer is the number used"
abbrev pub cut_for : Option Refusal → ℕ → Result ℕ Refusal
cut_for (Some r) n = Err r
cut_for None n = Ok n

-- "descriptions beyond are untouched"; refused, lent memory keeps its content
abbrev pub row_for : {A : Type 0} → Option Refusal → List A → List A → List A
row_for (Some r) written lent = lent
row_for None written lent = written ++ drop (length written) lent

-- a description that says nothing
abbrev pub blank : Burst
blank = record { start = 0; len = 0; size = 0; kind = Fixed; bus = 0 }

-- ---- a burst cut into a lent row of descriptions

abbrev pub cut_answer : Burst → ℕ → Result ℕ Refusal
cut_answer x room = cut_for (cut_refusal x room) (piece_count x)

abbrev pub cut_after : Burst → List Burst → List Burst
cut_after x row = row_for (cut_refusal x (length row)) (pieces x) row

-- ---- the same into a row of its own, of 16 descriptions, of which at most `room` may be used: what is not used is blank

-- as many descriptions as a cut can need: 256 beats are 16 bursts
abbrev pub row_length : ℕ
row_length = 16

abbrev pub blank_row : List Burst
blank_row = replicate row_length blank

abbrev pub row_after : Burst → ℕ → List Burst
row_after x room = row_for (cut_refusal x room) (pieces x) blank_row

-- ---- the same into a lent row of plain numbers, five to a description. A rest of fewer than five is no room.

abbrev pub numbers_each : ℕ
numbers_each = 5

-- a description: start address, AxLEN, AxSIZE, kind, bus
abbrev pub numbers_of : Burst → List ℕ
numbers_of x = x.start ∷ x.len ∷ x.size ∷ kind_number x.kind ∷ x.bus ∷ []

abbrev pub numbers_room : List ℕ → ℕ
numbers_room row = length row / numbers_each

abbrev pub numbers_after : Burst → List ℕ → List ℕ
numbers_after x row = row_for (cut_refusal x (numbers_room row)) (joined (map numbers_of (pieces x))) row

-- ---- the paper's numbers for each answer: the refusal's number, its place and its rule, and the number of bursts.
-- "Its other numbers are 0."

pub record Values : Type 0 where
  pub refusal : ℕ
  pub place : ℕ
  pub rule : ℕ
  pub count : ℕ

abbrev pub refusal_values : Refusal → Values
refusal_values r = record { refusal = (code_of r).0; place = (code_of r).1; rule = (code_of r).2; count = 0 }

abbrev pub count_values : ℕ → Values
count_values n = record { refusal = 0; place = 0; rule = 0; count = n }

abbrev pub cut_values : Result ℕ Refusal → Values
cut_values (Ok n) = count_values n
cut_values (Err r) = refusal_values r

-- ---- the contracts of the calls: the answer is the definition's, with 01's numbers for it, and so is lent memory. The numbers
-- are said through the checks and not through the answer, so that a wrong line of `cut_values` breaks the contract itself.

abbrev pub values_for : Option Refusal → ℕ → Values
values_for (Some r) n = refusal_values r
values_for None n = count_values n

pub record Answered (x : Burst) (room : ℕ) (r : Result ℕ Refusal) : Type 0 where
  pub is : r ≡ cut_answer x room
  pub shows : cut_values r ≡ values_for (cut_refusal x room) (piece_count x)

-- row is the lent row as it was, after as it is left
pub record Cut (x : Burst) (row : List Burst) (r : Result ℕ Refusal) (after : List Burst) : Type 0 where
  pub answers : Answered x (length row) r
  pub leaves : after ≡ cut_after x row

pub record CutAlone (x : Burst) (room : ℕ) (r : CutRow) : Type 0 where
  pub answers : Answered x room r.answer
  pub leaves : r.bursts ≡ row_after x room

pub record CutNumbers (x : Burst) (row : List ℕ) (r : Result ℕ Refusal) (after : List ℕ) : Type 0 where
  pub answers : Answered x (numbers_room row) r
  pub leaves : after ≡ numbers_after x row
