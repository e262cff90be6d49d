-- What is proved of judging write beats, a statement each. Words in quotes are the request's (paper 02, T-05); its numbers are typed here
-- once more, which pins the named ones. The proofs are in proofs/Promises.
use Rattle.std.specs.Prelude.{Bool, true, false, List, [], ◌∷◌, ◌⊎◌, ◌↔◌, ◌≢◌, ◌≡◌, ℕ, zero, suc, ◌+◌, ◌*◌, ◌/◌, ◌%◌, ◌≤◌, ◌<◌, eqb, length, get_or, None, Ok, Err}
use Rattle.refusal.specs.declared.Refusal.{Refusal}
use Rattle.refusal.specs.declared.Refusal.TheVariants.{Length, Field}
use Rattle.stream_spec.specs.Layout.{bit}
use Rattle.stream_spec.specs.Legal.{Octets}
use Rattle.burst_spec.specs.declared.Burst.{Burst}
use Rattle.burst_spec.specs.Address.{beats, beat_of}
use Rattle.burst_spec.specs.Answers.{judgement}
use Rattle.write_data_spec.specs.declared.WriteVerdict.TheVariants.{Clean, Broken}
use Rattle.write_data_spec.specs.Layout.{write_beats, flags, wlast, strobe, all_strobes}
use Rattle.write_data_spec.specs.Rules.{w1, w2, w3, w4, Finding, finding}
use Rattle.write_data_spec.specs.Answers.{field_fault, write_refusal, write_answer}

-- a burst that none of 7 to 12 refuses
abbrev pub IsAccepted : Burst → Type 0
IsAccepted b = judgement b ≡ Ok tt

-- the octets of a beat record: "one octet .., then bus/8 octets (rounded up)"
abbrev pub octets_each : ℕ → ℕ
octets_each bus = 1 + (bus + 7) / 8

-- "one octet with bit 0 WLAST"
abbrev pub LastBit : Type 0
LastBit = (octet : ℕ) (wstrb : List ℕ) → wlast (octet ∷ wstrb) ≡ bit 0 octet

-- octets as one number, low octet first
abbrev pub low_first : List ℕ → ℕ
low_first [] = 0
low_first (x ∷ xs) = x + 256 * low_first xs

-- "WSTRB with lane 0 in the lowest bit": the strobe of lane x is bit x of the number that the octets behind the first one make
abbrev pub StrobeBits : Type 0
StrobeBits = (octet : ℕ) (wstrb : List ℕ) → Octets wstrb → (x : ℕ) → strobe (octet ∷ wstrb) x ≡ bit x (low_first wstrb)

-- record k of a take
abbrev pub beat : List (List ℕ) → ℕ → List ℕ
beat rs k = get_or rs k []

-- ---- findings

-- rule n, 1 to 4, at beat k with this record
abbrev pub rule : Burst → ℕ → List ℕ → ℕ → Bool
rule b k r zero = false
rule b k r (suc zero) = w1 b k r
rule b k r (suc (suc zero)) = w2 b k r
rule b k r (suc (suc (suc zero))) = w3 b k r
rule b k r (suc (suc (suc (suc zero)))) = w4 b k
rule b k r (suc (suc (suc (suc (suc n))))) = false

-- rule n is broken at place k: one of W1 to W4 at a beat given, or W5 at the count given
abbrev pub Breaks : Burst → List (List ℕ) → ℕ → ℕ → Type 0
Breaks b rs k n = ((k < length rs) × (rule b k (beat rs k) n ≡ true)) ⊎ ((n ≡ 5) × (k ≡ length rs) × (k < beats b))

-- "the first beat that breaks a rule, the lowest rule first"
pub record IsEarliest (b : Burst) (rs : List (List ℕ)) (f : Finding) : Type 0 where
  pub broken : Breaks b rs f.place f.rule
  pub others : (k n : ℕ) → Breaks b rs k n → (f.place < k) ⊎ ((f.place ≡ k) × (f.rule ≤ n))

-- so much is broken exactly where nothing is refused and it is the earliest
abbrev pub BrokenExactly : Type 0
BrokenExactly =
    (b : Burst) (xs : List ℕ) (p n : ℕ)
    → (write_answer b xs ≡ Ok (Broken p n)) ↔ ((write_refusal b xs ≡ None) × IsEarliest b (write_beats b.bus xs) (finding p n))

-- no rule is broken at any of the first n beats
abbrev pub Sound : Burst → List (List ℕ) → ℕ → Type 0
Sound b rs n = (k : ℕ) → k < n → (m : ℕ) → rule b k (beat rs k) m ≡ false

-- W1 in plain words, of a beat that the burst has: some strobe below the bus is high, on a lane below the lower or above the upper
-- one that the beat call answers
pub record Stray (b : Burst) (k : ℕ) (r : List ℕ) : Type 0 where
  pub lane : ℕ
  pub within : lane < b.bus
  pub high : strobe r lane ≡ true
  pub outside : (lane < (beat_of b k).lower) ⊎ ((beat_of b k).upper < lane)

abbrev pub StrayExactly : Type 0
StrayExactly = (b : Burst) (k : ℕ) (r : List ℕ) → (w1 b k r ≡ true) ↔ ((k < beats b) × Stray b k r)

-- ---- the answers

-- "A clean answer gives the number of high strobes": given exactly where nothing is refused, there are as many beats as the burst has, and
-- none of them breaks a rule
abbrev pub CleanSound : Type 0
CleanSound =
    (b : Burst) (xs : List ℕ) (n : ℕ)
    → (write_answer b xs ≡ Ok (Clean n))
    ↔ ((write_refusal b xs ≡ None) × (length (write_beats b.bus xs) ≡ beats b) × Sound b (write_beats b.bus xs) (beats b)
    × (n ≡ all_strobes b.bus (write_beats b.bus xs)))

-- what is so of a clean take: as many beats as the burst has, WLAST on the last one alone, every high strobe on a lane of its beat
pub record CleanTake (b : Burst) (rs : List (List ℕ)) : Type 0 where
  pub count : length rs ≡ beats b
  pub last : (k : ℕ) → k < beats b → wlast (beat rs k) ≡ eqb (k + 1) (beats b)
  pub lanes : (k x : ℕ) → k < beats b → x < b.bus → strobe (beat rs k) x ≡ true → ((beat_of b k).lower ≤ x) × (x ≤ (beat_of b k).upper)

-- clean exactly where nothing is refused and the take is so
abbrev pub CleanExactly : Type 0
CleanExactly =
    (b : Burst) (xs : List ℕ) (n : ℕ)
    → (write_answer b xs ≡ Ok (Clean n))
    ↔ ((write_refusal b xs ≡ None) × CleanTake b (write_beats b.bus xs) × (n ≡ all_strobes b.bus (write_beats b.bus xs)))

-- "W4 a beat past the last": exactly where there are more beats than the burst has and none of the burst's breaks a rule, at the
-- first one too many, whatever its octets
abbrev pub TooManyExactly : Type 0
TooManyExactly =
    (b : Burst) (xs : List ℕ) (p : ℕ)
    → (write_answer b xs ≡ Ok (Broken p 4))
    ↔ ((write_refusal b xs ≡ None) × (p ≡ beats b) × (beats b < length (write_beats b.bus xs)) × Sound b (write_beats b.bus xs) (beats b))

-- "W5, too few beats, names the count given as its place": exactly where there are fewer and none given breaks a rule
abbrev pub TooFewExactly : Type 0
TooFewExactly =
    (b : Burst) (xs : List ℕ) (p : ℕ)
    → (write_answer b xs ≡ Ok (Broken p 5))
    ↔ ((write_refusal b xs ≡ None) × (p ≡ length (write_beats b.bus xs)) × (p < beats b) × Sound b (write_beats b.bus xs) p)

-- ---- the refusals

-- nothing is refused exactly where the burst is accepted, the octets are whole records and no bit is set that must be zero
pub record WellFormed (b : Burst) (xs : List ℕ) : Type 0 where
  pub accepted : IsAccepted b
  pub short : length xs ≤ 65536
  pub whole : length xs % octets_each b.bus ≡ 0
  pub sound : (k : ℕ) → k < length (write_beats b.bus xs) → field_fault b.bus (beat (write_beats b.bus xs) k) ≡ false

abbrev pub NothingRefused : Type 0
NothingRefused = (b : Burst) (xs : List ℕ) → (write_refusal b xs ≡ None) ↔ WellFormed b xs

-- "the burst's own": what judging refuses is refused with the same, whatever the octets
abbrev pub RefusedAsJudged : Type 0
RefusedAsJudged = (b : Burst) (xs : List ℕ) (r : Refusal) → judgement b ≡ Err r → write_answer b xs ≡ Err r

-- "then LENGTH": "input is over 65,536 octets or no whole number of records" (01)
abbrev pub LengthExactly : Type 0
LengthExactly =
    (b : Burst) (xs : List ℕ)
    → (write_answer b xs ≡ Err Length) ↔ (IsAccepted b × ((65536 < length xs) ⊎ (length xs % octets_each b.bus ≢ 0)))

-- "then FIELD at the first record with a bit set that must be zero", beats past the last included
pub record FirstBad (b : Burst) (xs : List ℕ) (k : ℕ) : Type 0 where
  pub accepted : IsAccepted b
  pub short : length xs ≤ 65536
  pub whole : length xs % octets_each b.bus ≡ 0
  pub within : k < length (write_beats b.bus xs)
  pub bad : field_fault b.bus (beat (write_beats b.bus xs) k) ≡ true
  pub earlier : (j : ℕ) → j < k → field_fault b.bus (beat (write_beats b.bus xs) j) ≡ false

abbrev pub FieldExactly : Type 0
FieldExactly = (b : Burst) (xs : List ℕ) (k : ℕ) → (write_answer b xs ≡ Err (Field k)) ↔ FirstBad b xs k

-- such a bit: octet 0 is neither 0 nor 1, or a strobe bit that the record has "at or above the bus" is high
pub record StrobeAbove (bus : ℕ) (r : List ℕ) : Type 0 where
  pub lane : ℕ
  pub above : bus ≤ lane
  pub within : lane < 8 * ((bus + 7) / 8)
  pub high : strobe r lane ≡ true

abbrev pub FieldBits : Type 0
FieldBits = (bus : ℕ) (r : List ℕ) → (field_fault bus r ≡ true) ↔ ((1 < flags r) ⊎ StrobeAbove bus r)
