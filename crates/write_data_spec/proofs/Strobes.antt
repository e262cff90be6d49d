-- Strobes in plain words: as bits of one number, and the searches over them, a strobe high outside its beat's lanes (W1) and one
-- above the bus (FIELD). Assumes nothing.
use mathlib.Core.Bool.{Bool, true, false, not, ◌&&◌, and-false, or-true}
use mathlib.Core.List.{List, [], ◌∷◌}
use mathlib.Core.Logic.{◌⊎◌, inl, inr}
use mathlib.Core.Path.{◌≡◌, refl, sym, ap, ap₂, ◌∙◌}
use Prim.Native.Nat.{ℕ, suc, ◌+◌, ◌-◌, ◌*◌, ◌/◌, ◌%◌, ◌<◌}
use native.Mathlib.Decide.{dec_lt}
use native.Mathlib.Omega.{arith}
use lib.Dec.{leb, ltb}
use lib.ListN.{get_or}
use borrow.Author.Tests.{ltb-true, leb-true, leb-false, lt-ltb, lt-leb, le-leb, not-true}
use Rattle.stream_spec.specs.Layout.{bit}
use Rattle.stream_spec.specs.Legal.{Octets}
use Rattle.stream_spec.proofs.Bits.{bit_below, bit-above, no-bit}
use Rattle.stream_spec.proofs.Bools.{no_such, and_left, and_right, or_split}
use Rattle.burst_spec.specs.declared.Burst.{Burst}
use Rattle.burst_spec.specs.Address.{beats, beat_of}
use Rattle.burst_spec.specs.Checks.{between, some_below}
use Rattle.burst_spec.proofs.Below.{found_below}
use Rattle.write_data_spec.specs.Layout.{lanes_each, strobe_octets, flags, strobe}
use Rattle.write_data_spec.specs.Rules.{in_lanes, w1}
use Rattle.write_data_spec.specs.Answers.{strobe_fault, field_fault}
use Rattle.write_data_spec.specs.Promises.{low_first, StrobeBits, Stray, StrayExactly, StrobeAbove, FieldBits}
use Rattle.write_data_spec.proofs.Sums.{some_at}

-- ---- WSTRB as one number

octet-bits : (os : List ℕ) → Octets os → (x : ℕ) → bit (x % 8) (get_or os (x / 8) 0) ≡ bit x (low_first os)
octet-bits [] h x = no-bit (x % 8) ∙ sym (no-bit x)
octet-bits (o ∷ os) h x = go (octet-bits os h.1) (dec_lt x 8)
  where
    go : ((y : ℕ) → bit (y % 8) (get_or os (y / 8) 0) ≡ bit y (low_first os)) → Dec (x < 8)
        → bit (x % 8) (get_or (o ∷ os) (x / 8) 0) ≡ bit x (o + 256 * low_first os)
    go ih (yes l) =
        let low : x % 8 ≡ x = omega arith in
        let first : x / 8 ≡ 0 = omega arith in
        ap₂ (λ (y i : ℕ). bit y (get_or (o ∷ os) i 0)) low first ∙ sym (bit_below 8 o (low_first os) x l)
    go ih (no l) =
        let y : ℕ = x - 8 in
        let low : x % 8 ≡ y % 8 = omega arith in
        let next : x / 8 ≡ suc (y / 8) = omega arith in
        let up : 8 + y ≡ x = omega arith in
        ap₂ (λ (z i : ℕ). bit z (get_or (o ∷ os) i 0)) low next
        ∙ ih y
        ∙ sym (bit-above o (low_first os) y h.0)
        ∙ ap (λ (z : ℕ). bit z (o + 256 * low_first os)) up

pub strobe-bits : StrobeBits
unfolding strobe
strobe-bits octet wstrb h x =
    let next : 1 + x / 8 ≡ suc (x / 8) = omega arith in
    ap (λ (i : ℕ). bit (x % 8) (get_or (octet ∷ wstrb) i 0)) next ∙ octet-bits wstrb h x

-- ---- lanes

-- not between is below or above
not_between : (low high x : ℕ) → between low high x ≡ false → (x < low) ⊎ (high < x)
not_between low high x e = go (leb low x) refl (leb x high) refl
  where
    go : (s : Bool) → leb low x ≡ s → (t : Bool) → leb x high ≡ t → (x < low) ⊎ (high < x)
    go false f t g = inl (leb-false low x f)
    go true f false g = inr (leb-false x high g)
    go true f true g = no_such e (rw (f, g) refl)

between_not : (low high x : ℕ) → (x < low) ⊎ (high < x) → between low high x ≡ false
between_not low high x (inl h) = rw (lt-leb low x h) refl
between_not low high x (inr h) = rw (lt-leb x high h) (and-false (leb low x))

module _ (b : Burst) (k : ℕ) (r : List ℕ) where
  -- a strobe that is high outside the lanes
  abbrev is_stray : ℕ → Bool
  is_stray x = strobe r x && not (in_lanes b k x)

  stray : w1 b k r ≡ true → (k < beats b) × Stray b k r
  unfolding w1
  stray e =
      let within = and_left (ltb k (beats b)) (some_below b.bus is_stray) e in
      let f = found_below b.bus is_stray (and_right (ltb k (beats b)) (some_below b.bus is_stray) e) in
      let lane = f.0 in (
        ltb-true k (beats b) within,
        record {
          lane = lane;
          within = f.1;
          high = and_left (strobe r lane) (not (in_lanes b k lane)) f.2;
          outside = not_between (beat_of b k).lower (beat_of b k).upper lane
              (not-true (in_lanes b k lane) (and_right (strobe r lane) (not (in_lanes b k lane)) f.2));
        },
      )

  strays : k < beats b → Stray b k r → w1 b k r ≡ true
  unfolding w1
  strays h s =
      rw (lt-ltb k (beats b) h)
      (some_at b.bus is_stray s.lane s.within
      (rw (s.high, between_not (beat_of b k).lower (beat_of b k).upper s.lane s.outside) refl))

pub stray-exactly : StrayExactly
stray-exactly b k r = (stray b k r, λ h. strays b k r h.0 h.1)

module _ (bus : ℕ) (r : List ℕ) where
  -- so many strobe bits stand above the bus
  abbrev spare : ℕ
  spare = lanes_each * strobe_octets bus - bus

  abbrev is_above : ℕ → Bool
  is_above x = strobe r (bus + x)

  above : strobe_fault bus r ≡ true → StrobeAbove bus r
  above e =
      let f = found_below spare is_above e in
      record { lane = bus + f.0; above = omega arith; within = omega (arith, f.1); high = f.2 }

  aboves : StrobeAbove bus r → strobe_fault bus r ≡ true
  aboves s =
      let is : bus + (s.lane - bus) ≡ s.lane = omega (arith, s.above) in
      some_at spare is_above (s.lane - bus) (omega (arith, s.above, s.within)) (rw is s.high)

  bits : field_fault bus r ≡ true → (1 < flags r) ⊎ StrobeAbove bus r
  unfolding field_fault
  bits e = go (or_split (leb 2 (flags r)) (strobe_fault bus r) e)
    where
      go : (leb 2 (flags r) ≡ true) ⊎ (strobe_fault bus r ≡ true) → (1 < flags r) ⊎ StrobeAbove bus r
      go (inl h) = inl (leb-true 2 (flags r) h)
      go (inr h) = inr (above h)

  set : (1 < flags r) ⊎ StrobeAbove bus r → field_fault bus r ≡ true
  unfolding field_fault
  set (inl h) = rw (le-leb 2 (flags r) h) refl
  set (inr h) = rw (aboves h) (or-true (leb 2 (flags r)))

pub bits_exactly : FieldBits
bits_exactly bus r = (bits bus r, set bus r)
