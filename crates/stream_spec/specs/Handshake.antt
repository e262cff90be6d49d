-- Handshake findings (paper 01, 'Handshake findings', with paper 02's T-01 and T-03; Arm IHI 0051A 2.2.1, 2.4.3, 2.7.2,
-- 3.1.3): rules R1 to R4 on a cycle and the cycle before it, the first finding of a take, its transfers, and fill-in of TLAST.
use Rattle.std.specs.Prelude.{Bool, true, false, not, ◌&&◌, ◌||◌, cond, List, [], ◌∷◌, ◌++◌, map, ℕ, suc, eqb, length, Option, None, Some}
use Rattle.std.specs.Bool.{beq}
use Rattle.stream_spec.specs.declared.Shape.{Shape}
use Rattle.stream_spec.specs.Layout.{last_alone, last_set, tlast, tvalid, tready, aresetn, body, lane_types, any_reserved, records, joined}
use Rattle.refusal.specs.Checks.{Check, check, first}

-- A cycle is a cycle record. The cycle before it is `none` at a take's first record, which "follows no waiting cycle".

-- "Let a cycle wait if ARESETn and TVALID are high and TREADY is low."
abbrev pub waits : List ℕ → Bool
waits c = aresetn c && tvalid c && not (tready c)

abbrev pub waited : Option (List ℕ) → Bool
waited None = false
waited (Some b) = waits b

abbrev pub same_octets : List ℕ → List ℕ → Bool
same_octets [] [] = true
same_octets [] (y ∷ ys) = false
same_octets (x ∷ xs) [] = false
same_octets (x ∷ xs) (y ∷ ys) = eqb x y && same_octets xs ys

-- "some octet from 1 on, or TLAST, differs"
abbrev pub differs : Option (List ℕ) → List ℕ → Bool
differs None c = false
differs (Some b) c = not (same_octets (body b) (body c) && beq (tlast b) (tlast c))

-- T-01: "the record before it in the take had ARESETn low". "A take's first record is judged on its own ARESETn only."
abbrev pub was_reset : Option (List ℕ) → Bool
was_reset None = false
was_reset (Some b) = not (aresetn b)

-- T-01: "R1 becomes: TVALID high while ARESETn is low, or while the record before it in the take had ARESETn low." (2.7.2,
-- figure 2-4: TVALID begins only at an edge after one where ARESETn was high)
abbrev pub r1 : Option (List ℕ) → List ℕ → Bool
r1 before c = tvalid c && (not (aresetn c) || was_reset before)

-- "R2: the cycle before waited, ARESETn is high now, TVALID is low." (2.2.1)
abbrev pub r2 : Option (List ℕ) → List ℕ → Bool
r2 before c = waited before && aresetn c && not (tvalid c)

-- "R3: the cycle before waited, ARESETn and TVALID are high now, and some octet from 1 on, or TLAST, differs." (2.2.1)
abbrev pub r3 : Option (List ℕ) → List ℕ → Bool
r3 before c = waited before && aresetn c && tvalid c && differs before c

-- "R4: ARESETn and TVALID high, and a lane is reserved." (table 2-2)
abbrev pub r4 : Shape → List ℕ → Bool
r4 s c = aresetn c && tvalid c && any_reserved (lane_types s c)

-- a cycle, counted from 0, and the number of a rule that it breaks
pub record Finding : Type 0 where
  pub cycle : ℕ
  pub rule : ℕ

abbrev pub finding : ℕ → ℕ → Finding
finding k n = record { cycle = k; rule = n }

-- the four rules at cycle k, the lowest first
abbrev pub rule_checks : Shape → ℕ → Option (List ℕ) → List ℕ → List (Check Finding)
rule_checks s k before c =
    check (r1 before c) (finding k 1) ∷ check (r2 before c) (finding k 2)
    ∷ check (r3 before c) (finding k 3) ∷ check (r4 s c) (finding k 4) ∷ []

-- the rules at each cycle, the earliest cycle first, counted from k
abbrev pub findings : Shape → ℕ → Option (List ℕ) → List (List ℕ) → List (Check Finding)
findings s k before [] = []
findings s k before (c ∷ cs) = rule_checks s k before c ++ findings s (suc k) (Some c) cs

-- "the earliest breaking cycle and its lowest rule"
abbrev pub first_finding : Shape → List ℕ → Option Finding
first_finding s xs = first (findings s 0 None (records s xs))

-- the "cycles that have ARESETn, TVALID and TREADY all high"
abbrev pub transferred : List ℕ → Bool
transferred c = aresetn c && tvalid c && tready c

abbrev pub handshakes : List (List ℕ) → List (List ℕ)
handshakes [] = []
handshakes (c ∷ cs) = cond (transferred c) (c ∷ handshakes cs) (handshakes cs)

abbrev pub transfer_count : Shape → List ℕ → ℕ
transfer_count s xs = length (handshakes (records s xs))

-- "Harvesting writes those counted cycles as transfer records, in order: octet 0 holds TLAST alone, all other octets are
-- as sampled."
abbrev pub as_transfer : List ℕ → List ℕ
as_transfer c = last_alone (tlast c) ∷ body c

abbrev pub harvested : Shape → List ℕ → List ℕ
harvested s xs = joined (map as_transfer (handshakes (records s xs)))

-- the two levels of a wire
abbrev pub low : Bool
low = false

abbrev pub high : Bool
high = true

-- Fill-in "sets bit 0 of octet 0 of every record .. in the lent take and touches nothing else" (01); it "takes the wanted
-- level as an argument" (T-03).
abbrev pub with_last : Bool → List ℕ → List ℕ
with_last level [] = []
with_last level (f ∷ r) = last_set level f ∷ r

abbrev pub filled_in : Bool → Shape → List ℕ → List ℕ
filled_in level s xs = joined (map (with_last level) (records s xs))

-- the transfer record of a cycle whose TLAST is filled in: that level alone in octet 0, all other octets as sampled
abbrev pub as_filled : Bool → List ℕ → List ℕ
as_filled level c = last_alone level ∷ body c
