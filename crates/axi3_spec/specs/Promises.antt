-- What is proved of a cut, a statement each. Words in quotes are the request's (paper 02, T-02); its numbers are typed here once
-- more, which pins the named ones. The proofs are in proofs/Promises.
use Rattle.std.specs.Prelude.{List, [], ◌∷◌, ◌++◌, map, ◌⊎◌, ◌↔◌, ◌≢◌, ◌≡◌, ℕ, zero, suc, ◌+◌, ◌-◌, ◌*◌, ◌/◌, ◌^◌, ◌≤◌, ◌<◌, length, take, drop, get_or, replicate, Ok, Err}
use Rattle.refusal.specs.declared.Refusal.{Refusal}
use Rattle.refusal.specs.declared.Refusal.TheVariants.{Room}
use Rattle.burst_spec.specs.declared.Burst.{Burst}
use Rattle.burst_spec.specs.declared.Kind.TheVariants.{Incr}
use Rattle.burst_spec.specs.Address.{beats, bytes, aligned}
use Rattle.burst_spec.specs.Answers.{burst_of, judgement}
use Rattle.axi3_spec.specs.Cut.{run, pieces, beats_of, beats_of_all}
use Rattle.axi3_spec.specs.Answers.{cut_answer, Cut, CutNumbers}

-- a burst that none of 7 to 12 refuses
abbrev pub IsAccepted : Burst → Type 0
IsAccepted x = judgement x ≡ Ok tt

-- each of a list has the property
abbrev pub Every : {A : Type 0} → (A → Type 0) → List A → Type 0
Every P [] = Unit
Every P (y ∷ ys) = P y × Every P ys

-- N/16, rounded up
abbrev pub sixteens : ℕ → ℕ
sixteens n = (n + 15) / 16

-- ---- the list

-- "The beats of the list, one burst after another, are the old beats with the same addresses and lanes"
abbrev pub BeatsKept : Type 0
BeatsKept = (x : Burst) → IsAccepted x → beats_of_all (pieces x) ≡ beats_of x

-- "and every burst in it is accepted"
abbrev pub AllAccepted : Type 0
AllAccepted = (x : Burst) → IsAccepted x → Every IsAccepted (pieces x)

-- "each of 16 beats but perhaps the last", which has 1 to 16; so pieces of one beat, whose beats are the old ones too, are barred
pub record InSixteens (n : ℕ) (ys : List Burst) : Type 0 where
  pub before : ℕ
  pub last : ℕ
  pub counts : map beats ys ≡ replicate before 16 ++ (last ∷ [])
  pub some : 1 ≤ last
  pub most : last ≤ 16
  pub number : length ys ≡ sixteens n

abbrev pub CutInSixteens : Type 0
CutInSixteens = (x : Burst) → IsAccepted x → InSixteens (beats x) (pieces x)

-- "Older boards take at most 16 beats": each AxLEN fits the 4 bits that it has in AXI3 (source 002, table 4-1)
abbrev pub FitsAxi3 : Type 0
FitsAxi3 = (x : Burst) → Every (λ y. y.len < 2 ^ 4) (pieces x)

-- "the first at the old start, the later ones at their aligned beat address"
abbrev pub Starts : Type 0
Starts =
    (x : Burst) → IsAccepted x → x.kind ≡ Incr
    → map (λ (y : Burst). y.start) (pieces x)
    ≡ x.start ∷ run (λ j. aligned x.start (bytes x) + 16 * j * bytes x) 1 (sixteens (beats x) - 1)

-- "size, kind and bus unchanged"
abbrev pub Unchanged : Type 0
Unchanged = (x : Burst) → Every (λ y. (y.size ≡ x.size) × (y.kind ≡ x.kind) × (y.bus ≡ x.bus)) (pieces x)

-- "A burst of 16 beats or fewer, and every FIXED or WRAP, comes out as itself."
abbrev pub Itself : Type 0
Itself = (x : Burst) → IsAccepted x → (beats x ≤ 16) ⊎ (x.kind ≢ Incr) → pieces x ≡ x ∷ []

-- ---- the answer

-- "7 to 12 as in 01": what judging refuses, cutting refuses with the same, however long the row is
abbrev pub RefusedAsJudged : Type 0
RefusedAsJudged = (x : Burst) (room : ℕ) (r : Refusal) → judgement x ≡ Err r → cut_answer x room ≡ Err r

-- "then ROOM when the row is too short"
abbrev pub RoomExactly : Type 0
RoomExactly = (x : Burst) (room : ℕ) → (cut_answer x room ≡ Err Room) ↔ (IsAccepted x × (room < sixteens (beats x)))

-- "The answer is the number used"
abbrev pub CutExactly : Type 0
CutExactly = (x : Burst) (room n : ℕ) → (cut_answer x room ≡ Ok n) ↔ (IsAccepted x × (n ≡ sixteens (beats x)) × (n ≤ room))

-- ---- the row

-- what stands in the lent row after a cut into n bursts: the list, so that all that is said of it holds there, and that they are
-- accepted and their beats the old ones is said once more; and "descriptions beyond are untouched"
pub record Stands (x : Burst) (row : List Burst) (n : ℕ) (after : List Burst) : Type 0 where
  pub list : take n after ≡ pieces x
  pub accepted : Every IsAccepted (take n after)
  pub kept : beats_of_all (take n after) ≡ beats_of x
  pub beyond : drop n after ≡ drop n row
  pub long : length after ≡ length row

abbrev pub RowStands : Type 0
RowStands = (x : Burst) (row : List Burst) (n : ℕ) (after : List Burst) → Cut x row (Ok n) after → Stands x row n after

-- refused, "lent memory keeps its content" (01)
abbrev pub RowKept : Type 0
RowKept = (x : Burst) (row : List Burst) (r : Refusal) (after : List Burst) → Cut x row (Err r) after → after ≡ row

-- ---- the row of numbers

-- the first n descriptions of a row of numbers, read back: five numbers each
unfoldable pub read_back : ℕ → List ℕ → List Burst
read_back zero row = []
read_back (suc n) row = burst_of (get_or row 0 0) (get_or row 1 0) (get_or row 2 0) (get_or row 3 0) (get_or row 4 0) ∷ read_back n (drop 5 row)

-- what stands in a lent row of numbers after a cut into n bursts: these bursts, so that all that is said of the list holds of
-- them, and every number beyond as it was
pub record NumbersStand (x : Burst) (row : List ℕ) (n : ℕ) (after : List ℕ) : Type 0 where
  pub read : read_back n after ≡ pieces x
  pub beyond : drop (5 * n) after ≡ drop (5 * n) row
  pub long : length after ≡ length row

abbrev pub RowOfNumbersStands : Type 0
RowOfNumbersStands = (x : Burst) (row : List ℕ) (n : ℕ) (after : List ℕ) → CutNumbers x row (Ok n) after → NumbersStand x row n after

abbrev pub RowOfNumbersKept : Type 0
RowOfNumbersKept = (x : Burst) (row : List ℕ) (r : Refusal) (after : List ℕ) → CutNumbers x row (Err r) after → after ≡ row
