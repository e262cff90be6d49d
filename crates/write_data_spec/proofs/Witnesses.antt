-- Each statement with a premise, applied to a worked take: so the premises can be met. Assumes nothing.
use Rattle.std.specs.Prelude.{None, Ok, Err}
use mathlib.Core.Bool.{true, false}
use mathlib.Core.List.{List, [], ◌∷◌}
use mathlib.Core.Logic.{◌⊎◌, inl, inr, ◌≢◌}
use mathlib.Core.Path.{◌≡◌, refl, sym}
use Prim.Native.Nat.{ℕ, zero, suc, ◌%◌, ◌≤◌, ◌<◌}
use native.Mathlib.Omega.{arith}
use lib.ListN.{length}
use Rattle.refusal.specs.declared.Refusal.TheVariants.{Length, Field, Boundary}
use Rattle.stream_spec.proofs.Bools.{no_such}
use Rattle.burst_spec.specs.declared.Burst.{Burst}
use Rattle.burst_spec.specs.Address.{round_down, incr_address, wrap_address, address_by, beats}
use Rattle.burst_spec.specs.Checks.{some_below, bus_allowed, count_allowed, misaligned, crosses_by}
use Rattle.burst_spec.specs.Answers.{burst_of}
use Rattle.write_data_spec.specs.declared.WriteVerdict.TheVariants.{Clean, Broken}
use Rattle.write_data_spec.specs.Layout.{beat_size, write_beats, strobe, count_below, all_strobes}
use Rattle.write_data_spec.specs.Rules.{w1, finding}
use Rattle.write_data_spec.specs.Answers.{field_fault, write_refusal, write_answer, WritesJudged}
use Rattle.write_data_spec.specs.Promises.{IsAccepted, beat, rule, Breaks, IsEarliest, Sound, Stray, CleanTake, WellFormed, FirstBad, StrobeAbove}
use Rattle.write_data_spec.proofs.Answers.{judged_is}
use Rattle.write_data_spec.proofs.Promises.{strobe_bits, stray_exactly, broken_exactly, clean_sound, clean_exactly, too_many_exactly, too_few_exactly}
use Rattle.write_data_spec.proofs.Promises.{nothing_refused, refused_as_judged, length_exactly, field_exactly, field_bits}

-- ---- findings: 01's B1, whose lanes are 2-3, 0-3 and 0-3

abbrev unaligned : Burst
unaligned = burst_of 0x1002 2 2 1 4

-- beat 0 breaks W1 and W2, and beat 2 breaks W3
abbrev broken : List ℕ
broken = 0x01 ∷ 0x0F ∷ 0x00 ∷ 0x0F ∷ 0x00 ∷ 0x0F ∷ []

-- what is broken at beat k by rule n is no earlier than W1 at beat 0
abbrev Later : ℕ → ℕ → Type 0
Later k n = (0 < k) ⊎ ((0 ≡ k) × (1 ≤ n))

broken-first : IsEarliest unaligned (write_beats 4 broken) (finding 0 1)
unfolding round_down incr_address address_by some_below beat_size strobe w1
broken-first = record { broken = inl (omega arith, refl); others = others }
  where
    others : (k n : ℕ) → Breaks unaligned (write_beats 4 broken) k n → Later k n
    others zero zero (inl e) = no_such refl e.1
    others zero (suc n) (inl e) = inr (refl, omega arith)
    others (suc k) n (inl e) = inl (omega arith)
    others k n (inr e) = inl (omega (arith, e.1))

-- nothing of it is refused
broken_formed : WellFormed unaligned broken
unfolding round_down incr_address address_by some_below bus_allowed count_allowed misaligned crosses_by beat_size strobe field_fault
broken_formed = (nothing_refused unaligned broken).0 refl

pub first-is : write_answer unaligned broken ≡ Ok (Broken 0 1)
first-is = (broken_exactly unaligned broken 0 1).1 ((nothing_refused unaligned broken).1 broken_formed, broken-first)

-- W2 at beat 0, and W3 at beat 2
pub others-later : Later 0 2 × Later 2 3
unfolding beat_size
others-later =
    let h = ((broken_exactly unaligned broken 0 1).0 first-is).1 in
    (h.others 0 2 (inl (omega arith, refl)), h.others 2 3 (inl (omega arith, refl)))

-- lane 9 has bit 9 of WSTRB 0x0200, which is bit 1 of the second octet
pub second-octet : strobe (0x01 ∷ 0x00 ∷ 0x02 ∷ []) 9 ≡ true
second-octet = strobe_bits 0x01 (0x00 ∷ 0x02 ∷ []) (omega arith, (omega arith, tt)) 9

-- lane 1 is not one of beat 0
pub stray_found : w1 unaligned 0 (0x00 ∷ 0x02 ∷ []) ≡ true
unfolding round_down incr_address address_by strobe
stray_found =
    (stray_exactly unaligned 0 (0x00 ∷ 0x02 ∷ [])).1
    (omega arith, record { lane = 1; within = omega arith; high = refl; outside = inl (omega arith) })

pub stray_some : Stray unaligned 0 (0x00 ∷ 0x02 ∷ [])
stray_some = ((stray_exactly unaligned 0 (0x00 ∷ 0x02 ∷ [])).0 stray_found).1

-- ---- a clean take: 01's B3, whose lanes are 4-7, 0-3, 4-7 and 0-3

abbrev wrapping : Burst
wrapping = burst_of 0x34 3 2 2 8

abbrev legal : List ℕ
legal = 0x00 ∷ 0xF0 ∷ 0x00 ∷ 0x0F ∷ 0x00 ∷ 0xF0 ∷ 0x01 ∷ 0x0F ∷ []

-- the contract of the call, met
legal_judged : WritesJudged wrapping legal (Ok (Clean 16))
unfolding round_down wrap_address address_by some_below bus_allowed count_allowed misaligned crosses_by beat_size strobe count_below w1 field_fault
legal_judged = judged_is wrapping legal (Ok (Clean 16)) refl

legal-take : (write_refusal wrapping legal ≡ None) × CleanTake wrapping (write_beats 8 legal) × (16 ≡ all_strobes 8 (write_beats 8 legal))
legal-take = (clean_exactly wrapping legal 16).0 (sym legal_judged.is)

-- the strobe of lane 5 is high in beat 2
pub legal-lane : (4 ≤ 5) × (5 ≤ 7)
unfolding round_down wrap_address address_by beat_size strobe
legal-lane = legal-take.1.lanes 2 5 (omega arith) (omega arith) refl

pub legal-clean : write_answer wrapping legal ≡ Ok (Clean 16)
legal-clean = (clean_exactly wrapping legal 16).1 legal-take

-- no beat of it breaks W2
pub legal-sound : rule wrapping 2 (0x00 ∷ 0xF0 ∷ []) 2 ≡ false
unfolding beat_size
legal-sound = ((clean_sound wrapping legal 16).0 legal-clean).2 2 (omega arith) 2

pub legal_again : write_answer wrapping legal ≡ Ok (Clean 16)
legal_again = (clean_sound wrapping legal 16).1 ((clean_sound wrapping legal 16).0 legal-clean)

-- ---- one burst of two beats, and takes of it

abbrev two : Burst
two = burst_of 0x1000 1 2 1 4

-- a beat too many, and a beat too few
abbrev many : List ℕ
many = 0x00 ∷ 0x0F ∷ 0x01 ∷ 0x0F ∷ 0x01 ∷ 0x0F ∷ []

abbrev few : List ℕ
few = 0x00 ∷ 0x0F ∷ []

too_many : (write_refusal two many ≡ None) × (2 ≡ beats two) × (2 < 3) × Sound two (write_beats 4 many) 2
unfolding round_down incr_address address_by some_below bus_allowed count_allowed misaligned crosses_by beat_size strobe w1 field_fault
too_many = (too_many_exactly two many 2).0 refl

pub many-broken : write_answer two many ≡ Ok (Broken 2 4)
unfolding beat_size
many-broken = (too_many_exactly two many 2).1 too_many

too_few : (write_refusal two few ≡ None) × (1 ≡ length (write_beats 4 few)) × (1 < 2) × Sound two (write_beats 4 few) 1
unfolding round_down incr_address address_by some_below bus_allowed count_allowed misaligned crosses_by beat_size strobe w1 field_fault
too_few = (too_few_exactly two few 1).0 refl

pub few-broken : write_answer two few ≡ Ok (Broken 1 5)
few-broken = (too_few_exactly two few 1).1 too_few

-- ---- refusals

-- a burst that leaves its block, with half a record
pub refused : write_answer (burst_of 0xFFC 1 2 1 4) (0x02 ∷ []) ≡ Err Boundary
unfolding round_down incr_address address_by some_below bus_allowed count_allowed misaligned crosses_by
refused = refused_as_judged (burst_of 0xFFC 1 2 1 4) (0x02 ∷ []) Boundary refl

two-accepted : IsAccepted two
unfolding round_down incr_address address_by some_below bus_allowed count_allowed misaligned crosses_by
two-accepted = refl

-- a record and a half
abbrev half : List ℕ
half = 0x02 ∷ 0x0F ∷ 0x01 ∷ []

pub half_refused : write_answer two half ≡ Err Length
half_refused = (length_exactly two half).1 (two-accepted, inr (λ e. omega arith))

pub half_found : IsAccepted two × ((65536 < 3) ⊎ (3 % 2 ≢ 0))
half_found = (length_exactly two half).0 half_refused

-- record 1 has the strobe bit of lane 4
abbrev above : List ℕ
above = 0x01 ∷ 0x0F ∷ 0x01 ∷ 0x1F ∷ []

pub strobe-above : field_fault 4 (0x01 ∷ 0x1F ∷ []) ≡ true
unfolding strobe
strobe-above = (field_bits 4 (0x01 ∷ 0x1F ∷ [])).1 (inr (record { lane = 4; above = omega arith; within = omega arith; high = refl }))

pub bits-found : (1 < 1) ⊎ StrobeAbove 4 (0x01 ∷ 0x1F ∷ [])
bits-found = (field_bits 4 (0x01 ∷ 0x1F ∷ [])).0 strobe-above

pub flag-set : field_fault 4 (0x02 ∷ 0x00 ∷ []) ≡ true
flag-set = (field_bits 4 (0x02 ∷ 0x00 ∷ [])).1 (inl (omega arith))

above-first : FirstBad two above 1
unfolding beat_size some_below strobe field_fault
above-first =
    record { accepted = two-accepted; short = omega arith; whole = refl; within = omega arith; bad = refl; earlier = earlier }
  where
    earlier : (j : ℕ) → j < 1 → field_fault 4 (beat (write_beats 4 above) j) ≡ false
    earlier zero l = refl
    earlier (suc j) l = absurd (omega arith)

pub above-refused : write_answer two above ≡ Err (Field 1)
above-refused = (field_exactly two above 1).1 above-first

pub above_earlier : field_fault 4 (0x01 ∷ 0x0F ∷ []) ≡ false
unfolding beat_size
above_earlier = ((field_exactly two above 1).0 above-refused).earlier 0 (omega arith)
