-- The address of a WRAP beat in one formula: its offset in the burst's container goes round. Assumes nothing.
use mathlib.Core.Bool.{Bool, true, false, cond}
use mathlib.Core.Path.{◌≡◌, refl, sym, ◌∙◌}
use Prim.Native.Nat.{ℕ, zero, suc, ◌+◌, ◌*◌, ◌/◌, ◌%◌, ◌≤◌, ◌<◌}
use native.Mathlib.Nat.{mod-lt, mod_self, mod-eq_of_lt, mod-add-mod, add-mul-mod_self_right, mul-le-mul_right, add-zero, mul_comm, zero-mul, add-mod_right, mul-mod_left}
use native.Mathlib.Omega.{arith}
use lib.Arith.{mod-mul}
use lib.Dec.{eqb}
use borrow.Author.Tests.{eqb-true, eqb-false, not-false}
use Rattle.burst_spec.specs.declared.Kind.TheVariants.{Wrap}
use Rattle.burst_spec.specs.Address.{round_down, wrap_boundary, wrap_address, wraps}
use Rattle.burst_spec.specs.Checks.{misaligned}
use Rattle.burst_spec.proofs.Rounding.{round_low, same_quotient}

pub wrap_aligned : (s b : ℕ) → misaligned Wrap s b ≡ false → s % b ≡ 0
unfolding misaligned
wrap_aligned s b e = eqb-true (s % b) 0 (not-false (eqb (s % b) 0) e)

-- a multiple of b leaves room for b bytes more in its container of n times b
pub room_for_one : (x b n : ℕ) → 0 < b → 0 < n → x % b ≡ 0 → x % (b * n) + b ≤ b * n
room_for_one x b n hb hn e =
    let q : x % (b * n) ≡ x / b % n * b + x % b = rw (mul_comm b n) (mod-mul x hn hb) in
    let l : suc (x / b % n) * b ≤ n * b = mul-le-mul_right b (mod-lt (x / b) hn) in
    omega arith

-- one beat further in a container of t bytes at low
further : (low t o b : ℕ) → 0 < t → o + b ≤ t → cond (eqb (low + o + b) (low + t)) low (low + o + b) ≡ low + (o + b) % t
further low t o b pos h = go (eqb (low + o + b) (low + t)) refl
  where
    go : (w : Bool) → eqb (low + o + b) (low + t) ≡ w → cond w low (low + o + b) ≡ low + (o + b) % t
    go true e =
        let f : o + b ≡ t = omega (arith, eqb-true (low + o + b) (low + t) e) in
        rw (f, mod_self t) (sym (add-zero low))
    go false e =
        let ne : o + b ≡ t → ⊥ = λ f. eqb-false (low + o + b) (low + t) e (omega arith) in
        let l : o + b < t = omega (arith, ne) in
        rw (mod-eq_of_lt l) (omega arith)

boundary_multiple : (s b n : ℕ) → wrap_boundary s b n % b ≡ 0
unfolding round_down
boundary_multiple s b n =
    let e : s / (b * n) * (b * n) ≡ s / (b * n) * n * b = omega arith in
    rw e (mul-mod_left (s / (b * n) * n) b)

module _ (s b n : ℕ) (hb : 0 < b) (hn : 0 < n) (start : s % b ≡ 0) where
  positive : 0 < b * n
  positive = omega (arith, mul-le-mul_right n hb)

  beat-aligned : (k : ℕ) → (s + k * b) % b ≡ 0
  beat-aligned k = add-mul-mod_self_right s k b ∙ start

  pub wrap_closed : (k : ℕ) → wrap_address s b n k ≡ wrap_boundary s b n + (s + k * b) % (b * n)
  unfolding wrap_address
  wrap_closed zero = rw (zero-mul b, add-zero s) (sym (round_low s (b * n)))
  wrap_closed (suc k) =
      let e : s + suc k * b ≡ s + k * b + b = omega arith in
      rw (wrap_closed k, e, ← mod-add-mod (s + k * b) (b * n) b)
      (further (wrap_boundary s b n) (b * n) ((s + k * b) % (b * n)) b positive (room_for_one (s + k * b) b n hb hn (beat-aligned k)))

  -- every beat is in the container that the start is in
  pub wrap_container : (k : ℕ) → wrap_address s b n k / (b * n) ≡ s / (b * n)
  wrap_container k = rw (wrap_closed k) (same_quotient s (b * n) ((s + k * b) % (b * n)) (mod-lt (s + k * b) positive))

  -- and the container has room for it
  pub wrap_room : (k : ℕ) → wrap_address s b n k + b ≤ wrap_boundary s b n + b * n
  wrap_room k = rw (wrap_closed k) (omega (arith, room_for_one (s + k * b) b n hb hn (beat-aligned k)))

  -- every beat is aligned
  pub wrap_multiple : (k : ℕ) → wrap_address s b n k % b ≡ 0
  unfolding wrap_address
  wrap_multiple zero = start
  wrap_multiple (suc k) = go (wraps s b n (wrap_address s b n k + b)) (wrap_multiple k)
    where
      go : (w : Bool) → wrap_address s b n k % b ≡ 0 → cond w (wrap_boundary s b n) (wrap_address s b n k + b) % b ≡ 0
      go true e = boundary_multiple s b n
      go false e = add-mod_right (wrap_address s b n k) b ∙ e
