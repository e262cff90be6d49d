-- A header's faults as the code tests them: limits by shifts, and reserved lanes by one mask. Assumes nothing.
use mathlib.Core.Path.{◌≡◌, refl, sym, ap, ◌∙◌}
use mathlib.Core.Bool.{Bool, true, false, not, ◌||◌, or-true}
use Prim.Native.Nat.{ℕ, zero, suc, ◌+◌, ◌*◌, ◌/◌, ◌%◌, ◌^◌, ◌≤◌, ◌<◌, min}
use native.Mathlib.Nat.{one-mul, mod-eq_of_lt, pow-suc}
use native.Mathlib.Omega.{arith}
use borrow.Author.Tests.{le-leb, lt-leb, lt-ltb, le-ltb, eq-eqb, ne_eqb, eqb-true, eqb-false}
use lib.Bits.{bit_and, and_step}
use lib.Dec.{leb, ltb, eqb}
use lib.Pow.{pow_mono}
use Rattle.stream_spec.specs.declared.Shape.{Shape}
use Rattle.stream_spec.specs.Layout.{odd, lane_type, types_of, is_reserved, any_reserved}
use Rattle.stream_record.specs.declared.Header.{Header}
use Rattle.stream_record.specs.Header.{header_fault}

-- a one shifted by at most 16 places, in 32 bits
pub shifted : (k : ℕ) → k ≤ 16 → 1 * 2 ^ k % 4294967296 ≡ 2 ^ k
shifted k h = rw (one-mul (2 ^ k)) (mod-eq_of_lt (omega (arith, pow_mono h)))

module _ (used : ℕ) (s : Shape) (h : Header) (wide : s.width ≤ 16) (few : used ≤ 8) where
  pub flags_fault : 1 * 2 ^ used % 4294967296 ≤ h.flags → true ≡ header_fault used s h
  flags_fault l = rw (le-leb (2 ^ used) h.flags (rw (shifted used (omega arith)) at l)) refl

  pub tdest_fault : 15 < h.tdest → true ≡ header_fault used s h
  tdest_fault l = rw (lt-ltb 15 h.tdest l) (rw (or-true (leb (2 ^ used) h.flags)) refl)

  pub keep_fault : 1 * 2 ^ s.width % 4294967296 ≤ h.keep → true ≡ header_fault used s h
  keep_fault l =
      rw (le-leb (2 ^ s.width) h.keep (rw (shifted s.width wide) at l)) (rw (or-true (leb (2 ^ used) h.flags || ltb 15 h.tdest)) refl)

  pub strb_fault : h.flags < 1 * 2 ^ used % 4294967296 → h.tdest ≤ 15 → h.keep < 1 * 2 ^ s.width % 4294967296
      → leb (1 * 2 ^ s.width % 4294967296) h.strb ≡ header_fault used s h
  strb_fault a b c =
      rw (shifted s.width wide)
      (rw (
        lt-leb (2 ^ used) h.flags (rw (shifted used (omega arith)) at a),
        le-ltb 15 h.tdest b,
        lt-leb (2 ^ s.width) h.keep (rw (shifted s.width wide) at c),
      ) refl)

-- ---- reserved lanes

same_test : (a b c d : ℕ) → (a ≡ b → c ≡ d) → (c ≡ d → a ≡ b) → eqb a b ≡ eqb c d
same_test a b c d f g = go (eqb c d) refl
  where
    go : (t : Bool) → eqb c d ≡ t → eqb a b ≡ eqb c d
    go true e = eq-eqb a b (g (eqb-true c d e)) ∙ sym e
    go false e = ne_eqb a b (λ h. eqb-false c d e (f h)) ∙ sym e

-- an even number's lowest bit is in every mask
even_low : (t k : ℕ) → (t % 2 ≡ 1 → ⊥) → min (t % 2) (k % 2) ≡ t % 2
even_low t k h = omega arith

-- no lane is reserved just where every bit of TSTRB is one of TKEEP
pub reserved_mask : (w k t : ℕ) → t < 2 ^ w → not (eqb (bit_and t k) t) ≡ any_reserved (types_of w k t)
reserved_mask zero k t h = let none : t ≡ 0 = omega arith in rw none refl
reserved_mask (suc w) k t h = go (reserved_mask w (k / 2) (t / 2) (omega (arith, pow-suc 2 w))) (odd k) refl (odd t) refl
  where
    step : bit_and t k ≡ bit_and (t / 2) (k / 2) * 2 + min (t % 2) (k % 2)
    step = and_step t k

    -- where the lowest lane is not reserved, the masks agree there
    on : not (eqb (bit_and (t / 2) (k / 2)) (t / 2)) ≡ any_reserved (types_of w (k / 2) (t / 2)) → min (t % 2) (k % 2) ≡ t % 2
        → not (eqb (bit_and t k) t) ≡ any_reserved (types_of w (k / 2) (t / 2))
    on ih low = ap not (same_test (bit_and t k) t (bit_and (t / 2) (k / 2)) (t / 2) (λ e. omega (arith, step)) (λ e. omega (arith, step))) ∙ ih

    go : not (eqb (bit_and (t / 2) (k / 2)) (t / 2)) ≡ any_reserved (types_of w (k / 2) (t / 2))
        → (a : Bool) → odd k ≡ a → (b : Bool) → odd t ≡ b
        → not (eqb (bit_and t k) t) ≡ (is_reserved (lane_type (odd k) (odd t)) || any_reserved (types_of w (k / 2) (t / 2)))
    go ih true e true f = rw (e, f) (on ih (omega (arith, eqb-true (k % 2) 1 e, eqb-true (t % 2) 1 f)))
    go ih true e false f = rw (e, f) (on ih (even_low t k (eqb-false (t % 2) 1 f)))
    go ih false e false f = rw (e, f) (on ih (even_low t k (eqb-false (t % 2) 1 f)))
    go ih false e true f =
        rw (e, f) (ap not (ne_eqb (bit_and t k) t (λ q. omega (arith, step, eqb-true (t % 2) 1 f, eqb-false (k % 2) 1 e))))
