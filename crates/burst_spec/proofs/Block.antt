-- The 4KB rule: what the code tests of INCR is exactly the paper's rule, no other kind can break it, and an accepted burst
-- stays in the block it starts in. Assumes nothing.
use mathlib.Core.Bool.{Bool, true, false}
use mathlib.Core.Logic.{◌↔◌}
use mathlib.Core.Path.{◌≡◌, refl, sym, ◌∙◌}
use Prim.Native.Nat.{ℕ, zero, suc, ◌+◌, ◌-◌, ◌*◌, ◌/◌, ◌%◌, ◌^◌, ◌≤◌, ◌<◌}
use native.Mathlib.Nat.{mul-le-mul_right}
use native.Mathlib.Omega.{arith}
use lib.Dec.{ltb, eqb}
use lib.Pow.{pow_pos, pow-add}
use borrow.Author.Tests.{eqb-true, eqb-false, eq-eqb, not-true, not-false, ltb-true, ltb-false}
use Rattle.burst_spec.specs.declared.Burst.{Burst}
use Rattle.burst_spec.specs.declared.Kind.{Kind}
use Rattle.burst_spec.specs.declared.Kind.TheVariants.{Fixed, Incr, Wrap, Reserved}
use Rattle.burst_spec.specs.Address.{round_down, highest_byte, incr_address, wrap_address, address_by, beats, bytes, beat_address}
use Rattle.burst_spec.specs.Checks.{Crossing, block, outside, beat_outside, crosses, crosses_by, count_allowed, misaligned}
use Rattle.burst_spec.specs.Legal.{Legal, Accepted}
use Rattle.burst_spec.proofs.Below.{none_below, each_below, found_below}
use Rattle.burst_spec.proofs.Known.{clash, wrap_power, UpTo, known, size_small}
use Rattle.burst_spec.proofs.Rounding.{round_le, round_near, round_beats, same_quotient, quotient_of, coarser, same_memory}
use Rattle.burst_spec.proofs.Wrap.{wrap_aligned, wrap_container}

-- a block has 2 ^ block_bits bytes
abbrev pub block_bits : ℕ
block_bits = 12

inside : (s a : ℕ) → a / block ≡ s / block → outside s a ≡ false
inside s a e = rw (eq-eqb (a / block) (s / block) e)

not_outside : (s a : ℕ) → outside s a ≡ false → a / block ≡ s / block
not_outside s a e = eqb-true (a / block) (s / block) (not-false (eqb (a / block) (s / block)) e)

module _ (s i : ℕ) (small : i ≤ block_bits) where
  -- rounding to a beat does not leave the block
  same_block : (a c : ℕ) → a / 2 ^ i ≡ c / 2 ^ i → a / block ≡ c / block
  same_block a c e = coarser a c small e

  -- a beat lies in one block, so its address decides
  beat-inside : (a : ℕ) → a / block ≡ s / block → beat_outside s (2 ^ i) a ≡ false
  beat-inside a e =
      none_below (highest_byte a (2 ^ i) - a + 1) (λ j. outside s (a + j))
      (λ j l. inside s (a + j) (same_block (a + j) a (byte j l) ∙ e))
    where
      byte : (j : ℕ) → j < highest_byte a (2 ^ i) - a + 1 → (a + j) / 2 ^ i ≡ a / 2 ^ i
      byte j l =
          quotient_of a (2 ^ i) (a + j) (pow_pos i) (omega (arith, round_le a (2 ^ i)))
          (omega (arith, pow_pos i, round_near a (2 ^ i) (pow_pos i)))

  -- no beat is outside if each beat's address is in the block
  pub all-inside : (m : Kind) (n : ℕ) → ((k : ℕ) → k < n → address_by m s (2 ^ i) n k / block ≡ s / block) → crosses_by m s (2 ^ i) n ≡ false
  unfolding crosses_by
  all-inside m n h = none_below n (λ k. beat_outside s (2 ^ i) (address_by m s (2 ^ i) n k)) (λ k l. beat-inside (address_by m s (2 ^ i) n k) (h k l))

-- if no beat is outside, every byte of every beat is in the block
bytes_inside : (m : Kind) (s b n : ℕ) → crosses_by m s b n ≡ false → (k a : ℕ) → k < n
    → address_by m s b n k ≤ a → a ≤ highest_byte (address_by m s b n k) b → a / block ≡ s / block
unfolding crosses_by
bytes_inside m s b n e k a l from to =
    let at : ℕ = address_by m s b n k in
    let same : at + (a - at) ≡ a = omega arith in
    rw same at
    (not_outside s (at + (a - at))
    (each_below (highest_byte at b - at + 1) (λ j. outside s (at + j))
    (each_below n (λ j. beat_outside s b (address_by m s b n j)) e k l) (a - at) (omega arith)))

pub incr_round : (s b k : ℕ) → 0 < b → round_down (incr_address s b k) b ≡ round_down s b + k * b
unfolding incr_address
incr_round s b zero h = omega arith
incr_round s b (suc k) h = round_beats s b (suc k) h

module _ (s i : ℕ) (small : i ≤ block_bits) where
  aligned-block : round_down s (2 ^ i) / block ≡ s / block
  aligned-block =
      let e : round_down s (2 ^ i) + 0 ≡ round_down s (2 ^ i) = omega arith in
      same_block s i small (round_down s (2 ^ i)) s (rw e at (same_quotient s (2 ^ i) 0 (pow_pos i)))

  incr_fits : (n : ℕ) → round_down s (2 ^ i) % block + n * 2 ^ i ≤ block → (k : ℕ) → k < n → incr_address s (2 ^ i) k / block ≡ s / block
  unfolding incr_address
  incr_fits n h zero l = refl
  incr_fits n h (suc k) l =
      let p : suc (suc k) * 2 ^ i ≤ n * 2 ^ i = mul-le-mul_right (2 ^ i) l in
      let e : (round_down s (2 ^ i) + suc k * 2 ^ i) / block ≡ round_down s (2 ^ i) / block = omega (arith, pow_pos i) in
      e ∙ aligned-block

  -- the highest byte of the last beat is in the block, so the whole burst is
  fits_incr : (n : ℕ) → 0 < n → crosses_by Incr s (2 ^ i) n ≡ false → round_down s (2 ^ i) % block + n * 2 ^ i ≤ block
  unfolding address_by
  fits_incr zero h e = absurd (omega arith)
  fits_incr (suc k) h e =
      let near : incr_address s (2 ^ i) k < round_down (incr_address s (2 ^ i) k) (2 ^ i) + 2 ^ i = round_near (incr_address s (2 ^ i) k) (2 ^ i) (pow_pos i) in
      let high : highest_byte (incr_address s (2 ^ i) k) (2 ^ i) / block ≡ s / block =
      bytes_inside Incr s (2 ^ i) (suc k) e k (highest_byte (incr_address s (2 ^ i) k) (2 ^ i)) (omega arith) (omega arith) (omega arith)
      in
      let r : round_down (incr_address s (2 ^ i) k) (2 ^ i) ≡ round_down s (2 ^ i) + k * 2 ^ i = incr_round s (2 ^ i) k (pow_pos i) in
      let h2 : (round_down s (2 ^ i) + k * 2 ^ i + (2 ^ i - 1)) / block ≡ round_down s (2 ^ i) / block = rw r at high ∙ sym aligned-block in
      omega (arith, pow_pos i)

  -- what the code tests is exactly the paper's rule
  pub incr_crosses : (n : ℕ) → 0 < n → crosses_by Incr s (2 ^ i) n ≡ ltb block (round_down s (2 ^ i) % block + n * 2 ^ i)
  unfolding address_by
  incr_crosses n some = go (ltb block (round_down s (2 ^ i) % block + n * 2 ^ i)) refl (crosses_by Incr s (2 ^ i) n) refl
    where
      go : (t : Bool) → ltb block (round_down s (2 ^ i) % block + n * 2 ^ i) ≡ t → (u : Bool) → crosses_by Incr s (2 ^ i) n ≡ u → u ≡ t
      go true over true e = refl
      go true over false e = absurd (omega (arith, ltb-true block (round_down s (2 ^ i) % block + n * 2 ^ i) over, fits_incr n some e))
      go false under u e = sym e ∙ all-inside s i small Incr n (incr_fits n (ltb-false block (round_down s (2 ^ i) % block + n * 2 ^ i) under))

-- "Only INCR can do so."
module _ (s i n : ℕ) (small : i ≤ 7) where
  fixed_inside : crosses_by Fixed s (2 ^ i) n ≡ false
  unfolding address_by
  fixed_inside = all-inside s i (omega arith) Fixed n (λ k l. refl)

  -- a wrapping burst's container lies in one block
  wrap_inside : count_allowed Wrap n ≡ true → misaligned Wrap s (2 ^ i) ≡ false → crosses_by Wrap s (2 ^ i) n ≡ false
  unfolding address_by
  wrap_inside c e = all-inside s i (omega arith) Wrap n (λ k l. go (wrap_power n c) k)
    where
      go : UpTo 4 n → (k : ℕ) → wrap_address s (2 ^ i) n k / block ≡ s / block
      go p k =
          let t : 2 ^ i * n ≡ 2 ^ (i + p.log) = rw p.is (sym (pow-add 2 i p.log)) in
          let some : 0 < n = rw p.is (pow_pos p.log) in
          let small : i + p.log ≤ block_bits = omega (arith, p.small) in
          coarser (wrap_address s (2 ^ i) n k) s small (rw t at (wrap_container s (2 ^ i) n (pow_pos i) some (wrap_aligned s (2 ^ i) e) k))

  others-inside : (m : Kind) → (m ≡ Incr → ⊥) → count_allowed m n ≡ true → misaligned m s (2 ^ i) ≡ false → crosses_by m s (2 ^ i) n ≡ false
  unfolding count_allowed
  others-inside Fixed h c e = fixed_inside
  others-inside Incr h c e = absurd (h refl)
  others-inside Wrap h c e = wrap_inside c e
  others-inside Reserved h c e = absurd (clash cc)

pub only_incr : (x : Burst) → Legal x → (x.kind ≡ Incr → ⊥) → crosses x ≡ false
only_incr x l h = others-inside x.start x.size (beats x) (size_small x l) x.kind h (known x l).count l.start

-- the computed test says what the paper's words say
pub crosses_exactly : (x : Burst) → (crosses x ≡ true) ↔ Crossing x
unfolding crosses_by
crosses_exactly x = (there, back)
  where
    within : (k : ℕ) → k < beats x → beat_outside x.start (bytes x) (beat_address x k) ≡ true → Crossing x
    within k l e =
        let at : ℕ = beat_address x k in
        let near : at ≤ highest_byte at (bytes x) = omega (arith, round_near at (bytes x) (pow_pos x.size), pow_pos x.size) in
        let found : (j : ℕ) × (j < highest_byte at (bytes x) - at + 1) × (outside x.start (at + j) ≡ true) =
        found_below (highest_byte at (bytes x) - at + 1) (λ j. outside x.start (at + j)) e
        in
        record {
          beat = k;
          byte = at + found.0;
          counted = l;
          from = omega arith;
          to = omega (arith, found.1);
          elsewhere = eqb-false ((at + found.0) / block) (x.start / block) (not-true (eqb ((at + found.0) / block) (x.start / block)) found.2);
        }

    there : crosses x ≡ true → Crossing x
    there e =
        let found : (k : ℕ) × (k < beats x) × (beat_outside x.start (bytes x) (beat_address x k) ≡ true) =
        found_below (beats x) (λ k. beat_outside x.start (bytes x) (beat_address x k)) e
        in
        within found.0 found.1 found.2

    back : Crossing x → crosses x ≡ true
    back y = go (crosses x) refl
      where
        go : (t : Bool) → crosses x ≡ t → t ≡ true
        go true e = refl
        go false e =
            absurd (y.elsewhere (bytes_inside x.kind x.start (bytes x) (beats x) e y.beat y.byte y.counted y.from y.to))

-- an accepted burst touches one block only
pub one_block : (x : Burst) → Accepted x → (k a : ℕ) → k < beats x
    → beat_address x k ≤ a → a ≤ highest_byte (beat_address x k) (bytes x) → a / block ≡ x.start / block
one_block x y k a l from to = bytes_inside x.kind x.start (bytes x) (beats x) y.inside k a l from to

pub address-block : (x : Burst) → Accepted x → (k : ℕ) → k < beats x → beat_address x k / block ≡ x.start / block
address-block x y k l =
    one_block x y k (beat_address x k) l (omega arith) (omega (arith, round_near (beat_address x k) (bytes x) (pow_pos x.size), pow_pos x.size))

-- so nothing of it lies beyond the memory that its start lies in, of 2 ^ w bytes
pub accepted_in_memory : (w : ℕ) (x : Burst) → block_bits ≤ w → x.start < 2 ^ w → Accepted x → (k a : ℕ) → k < beats x
    → beat_address x k ≤ a → a ≤ highest_byte (beat_address x k) (bytes x) → a < 2 ^ w
accepted_in_memory w x h s y k a l from to = same_memory {i = block_bits} w a x.start h s (one_block x y k a l from to)
