-- The rules W1 to W5 of the write data channel (paper 02, T-05), and the first finding of a take. Arm's words for them are in source 004:
-- A3.4.4 on WSTRB, A3.2.2 on WLAST, A3.4.1 on the number of beats. A beat is judged by its place k, counted from 0, and by its record.
use Rattle.std.specs.Prelude.{Bool, not, ◌&&◌, List, [], ◌∷◌, ◌++◌, ℕ, ◌+◌, eqb, leb, ltb, length, Option}
use Rattle.refusal.specs.Checks.{Check, check, first}
use Rattle.stream_spec.specs.Checks.{each}
use Rattle.burst_spec.specs.declared.Burst.{Burst}
use Rattle.burst_spec.specs.Address.{beats, beat_of}
use Rattle.burst_spec.specs.Checks.{between, some_below}
use Rattle.write_data_spec.specs.Layout.{wlast, strobe}

-- whether byte lane x is one of beat k, as the beat call answers its lanes
abbrev pub in_lanes : Burst → ℕ → ℕ → Bool
in_lanes b k x = between (beat_of b k).lower (beat_of b k).upper x

-- "W1 a strobe high outside the beat's lanes": of a beat that the burst has. "No strobe at all in a beat is legal."
unfoldable pub w1 : Burst → ℕ → List ℕ → Bool
w1 b k r = ltb k (beats b) && some_below b.bus (λ x. strobe r x && not (in_lanes b k x))

-- "W2 WLAST before the last beat"
abbrev pub w2 : Burst → ℕ → List ℕ → Bool
w2 b k r = ltb (k + 1) (beats b) && wlast r

-- "W3 the last beat without WLAST"
abbrev pub w3 : Burst → ℕ → List ℕ → Bool
w3 b k r = eqb (k + 1) (beats b) && not (wlast r)

-- "W4 a beat past the last, which no other rule reads"
abbrev pub w4 : Burst → ℕ → Bool
w4 b k = leb (beats b) k

-- "W5, too few beats": told of the count given
abbrev pub w5 : Burst → ℕ → Bool
w5 b count = ltb count (beats b)

-- a beat, counted from 0, and the number of a rule that it breaks
pub record Finding : Type 0 where
  pub place : ℕ
  pub rule : ℕ

abbrev pub finding : ℕ → ℕ → Finding
finding k n = record { place = k; rule = n }

-- the rules at beat k, the lowest first
abbrev pub rule_checks : Burst → ℕ → List ℕ → List (Check Finding)
rule_checks b k r =
    check (w1 b k r) (finding k 1) ∷ check (w2 b k r) (finding k 2) ∷ check (w3 b k r) (finding k 3) ∷ check (w4 b k) (finding k 4) ∷ []

-- W5 "names the count given as its place"
abbrev pub count_check : Burst → ℕ → Check Finding
count_check b count = check (w5 b count) (finding count 5)

-- "the first beat that breaks a rule, the lowest rule first", and behind all beats given W5
abbrev pub first_finding : Burst → List (List ℕ) → Option Finding
first_finding b rs = first (each (rule_checks b) 0 rs ++ count_check b (length rs) ∷ [])
