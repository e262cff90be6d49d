-- Judging write beats as two passes over the take, against write_data_spec: what is known of a beat where it is judged, and what is
-- known between two beats. Each is said by what is left: the verdict on the beats left is the verdict on all.
use Rattle.std.specs.Prelude.{Bool, true, false, not, ◌&&◌, cond, List, [], ◌∷◌, ◌++◌, ◌≡◌, ℕ, ◌+◌, ◌*◌, ◌%◌, ◌≤◌, length, Option, None, Some, Result}
use Rattle.refusal.specs.declared.Refusal.{Refusal}
use Rattle.refusal.specs.Checks.{first}
use Rattle.stream_spec.specs.Checks.{capture_most, each}
use Rattle.stream_spec.specs.Layout.{bit}
use Rattle.burst_spec.specs.declared.Burst.{Burst}
use Rattle.burst_spec.specs.Checks.{bus_most, bus_allowed, between, some_below}
use Rattle.burst_spec.specs.Legal.{Accepted}
use Rattle.write_data_spec.specs.declared.WriteVerdict.{WriteVerdict}
use Rattle.write_data_spec.specs.Layout.{lanes_each, beat_size, write_beats, strobe, count_below, all_strobes}
use Rattle.write_data_spec.specs.Rules.{w1, w2, w3, w4, rule_checks, count_check}
use Rattle.write_data_spec.specs.Answers.{field_fault, field_checks, verdict}

-- ---- one beat

-- the octets of a record on the widest bus
abbrev pub size_most : ℕ
size_most = 17

-- a record of a beat: so long, and no bit is set that must be zero
pub record BeatRecord (bus : ℕ) (r : List ℕ) : Type 0 where
  pub allowed : bus_allowed bus ≡ true
  pub long : length r ≡ beat_size bus
  pub sound : field_fault bus r ≡ false

-- whether a strobe of an octet, whose lowest bit is that of byte lane `lane`, is high outside these lanes
abbrev pub octet_stray : ℕ → ℕ → ℕ → ℕ → Bool
octet_stray octet lane lower upper = some_below lanes_each (λ x. bit x octet && not (between lower upper (lane + x)))

-- whether a strobe of the first n lanes is
abbrev pub stray_below : ℕ → List ℕ → ℕ → ℕ → Bool
stray_below n r lower upper = some_below n (λ x. strobe r x && not (between lower upper x))

-- the high strobes of an octet
abbrev pub octet_high : ℕ → ℕ
octet_high octet = count_below lanes_each (λ x. bit x octet)

-- the lowest rule that a beat breaks, if it breaks one
abbrev pub lowest_rule : Burst → ℕ → List ℕ → Option ℕ
lowest_rule b k r = cond (w1 b k r) (Some 1) (cond (w2 b k r) (Some 2) (cond (w3 b k r) (Some 3) (cond (w4 b k) (Some 4) None)))

-- ---- the passes

-- the bus and the length have passed their tests
pub record Whole (bus : ℕ) (xs : List ℕ) : Type 0 where
  pub allowed : bus_allowed bus ≡ true
  pub short : length xs ≤ capture_most
  pub whole : length xs % beat_size bus ≡ 0

-- the first fault of the beats from beat k on
abbrev pub fault_from : ℕ → ℕ → List (List ℕ) → Option Refusal
fault_from bus k rs = first (each (field_checks bus) k rs)

-- the first pass: k beats stand in front of the octets left, and none of them has a fault
pub record Looking (bus : ℕ) (xs rest : List ℕ) (k : ℕ) : Type 0 where
  pub whole : length rest % beat_size bus ≡ 0
  pub same : fault_from bus k (write_beats bus rest) ≡ fault_from bus 0 (write_beats bus xs)

-- nothing is refused
pub record Judgeable (b : Burst) (xs : List ℕ) : Type 0 where
  pub accepted : Accepted b
  pub whole : Whole b.bus xs
  pub sound : fault_from b.bus 0 (write_beats b.bus xs) ≡ None

-- the verdict on the beats from beat k on, where n high strobes are counted so far
abbrev pub verdict_from : Burst → ℕ → List (List ℕ) → ℕ → Result WriteVerdict Refusal
verdict_from b k rs n = verdict None (first (each (rule_checks b) k rs ++ count_check b (k + length rs) ∷ [])) (n + all_strobes b.bus rs)

-- the second pass: k beats stand in front of the octets left, break no rule and have so many high strobes
pub record Turning (b : Burst) (xs rest : List ℕ) (k high : ℕ) : Type 0 where
  pub whole : length rest % beat_size b.bus ≡ 0
  pub front : length xs ≡ length rest + k * beat_size b.bus
  pub counted : high ≤ bus_most * k
  pub sound : fault_from b.bus k (write_beats b.bus rest) ≡ None
  pub same : verdict_from b k (write_beats b.bus rest) high ≡ verdict_from b 0 (write_beats b.bus xs) 0
