-- The step is the difference of the two addresses, and lies in -1,920 to 128. Assumes nothing.
use mathlib.Core.Bool.{Bool, true, false, cond}
use mathlib.Core.Path.{◌≡◌, refl, sym, ap, ◌∙◌}
use Prim.Native.Nat.{ℕ, zero, suc, ◌+◌, ◌-◌, ◌*◌, ◌^◌, ◌≤◌, ◌<◌}
use native.Mathlib.Nat.{mul-le-mul_right}
use native.Mathlib.Numerals.{add-one}
use native.Mathlib.Omega.{arith}
use lib.Dec.{ltb, le→leb}
use lib.IntN.{ℤ, pos, negsuc, sub_ℕ}
use lib.Pow.{pow_pos, pow_mono}
use lib.Signed.{◌≤ℤ◌, le_z_yes}
use borrow.Author.Tests.{eqb-true, lt-ltb, le-ltb, ltb-true, ltb-false}
use Rattle.burst_spec.specs.declared.Burst.{Burst}
use Rattle.burst_spec.specs.declared.Kind.{Kind}
use Rattle.burst_spec.specs.declared.Kind.TheVariants.{Fixed, Incr, Wrap, Reserved}
use Rattle.burst_spec.specs.Address.{aligned, wrap_boundary, wraps, incr_address, wrap_address, address_by, incr_step, wrap_step, step_by, beats, bytes, beat_address, beat_step}
use Rattle.burst_spec.specs.Checks.{count_allowed}
use Rattle.burst_spec.specs.Legal.{Legal}
use Rattle.burst_spec.proofs.Known.{UpTo, wrap_power, known}
use Rattle.burst_spec.proofs.Rounding.{round_le, round_near}

-- a difference of two numbers, where the second is at most the first, and where it is above
pub sub_up : (a b : ℕ) → b ≤ a → sub_ℕ a b ≡ pos (a - b)
sub_up a b h = rw (le-ltb a b h)

pub sub_down : (a b : ℕ) → a < b → sub_ℕ a b ≡ negsuc (b - suc a)
sub_down a b h = rw (lt-ltb a b h)

-- it depends on their distance only
pub sub-shift : (a b c d : ℕ) → a + d ≡ c + b → sub_ℕ a b ≡ sub_ℕ c d
sub-shift a b c d e = go (ltb a b) refl
  where
    go : (t : Bool) → ltb a b ≡ t → sub_ℕ a b ≡ sub_ℕ c d
    go true h =
        let l : a < b = ltb-true a b h in
        let m : c < d = omega arith in
        sub_down a b l ∙ ap negsuc (omega arith) ∙ sym (sub_down c d m)
    go false h =
        let l : b ≤ a = ltb-false a b h in
        let m : d ≤ c = omega arith in
        sub_up a b l ∙ ap pos (omega arith) ∙ sym (sub_up c d m)

sub-beat : (a b : ℕ) → pos b ≡ sub_ℕ (a + b) a
sub-beat a b = sym (sub_up (a + b) a (omega arith) ∙ ap pos (omega arith))

incr_difference : (s b k : ℕ) → incr_step s b k ≡ sub_ℕ (incr_address s b (suc k)) (incr_address s b k)
unfolding incr_step incr_address
incr_difference s b zero = sub-shift b (s - aligned s b) (aligned s b + 1 * b) s (omega (arith, round_le s b))
incr_difference s b (suc k) =
    let e : aligned s b + suc k * b + b ≡ aligned s b + suc (suc k) * b = omega arith in
    rw e at (sub-beat (aligned s b + suc k * b) b)

wrap_difference : (s b n k : ℕ) → wrap_step s b n k ≡ sub_ℕ (wrap_address s b n (suc k)) (wrap_address s b n k)
unfolding wrap_step wrap_address
wrap_difference s b n k = go (wraps s b n (wrap_address s b n k + b)) refl
  where
    go : (t : Bool) → wraps s b n (wrap_address s b n k + b) ≡ t
        → cond t (sub_ℕ b (b * n)) (pos b) ≡ sub_ℕ (cond t (wrap_boundary s b n) (wrap_address s b n k + b)) (wrap_address s b n k)
    go true e =
        let at : wrap_address s b n k + b ≡ wrap_boundary s b n + b * n = eqb-true (wrap_address s b n k + b) (wrap_boundary s b n + b * n) e in
        sub-shift b (b * n) (wrap_boundary s b n) (wrap_address s b n k) (omega arith)
    go false e = sub-beat (wrap_address s b n k) b

difference_by : (m : Kind) (s b n k : ℕ) → step_by m s b n k ≡ sub_ℕ (address_by m s b n (suc k)) (address_by m s b n k)
unfolding step_by address_by
difference_by Fixed s b n k = sym (sub_up s s (omega arith) ∙ ap pos (omega arith))
difference_by Incr s b n k = incr_difference s b k
difference_by Wrap s b n k = wrap_difference s b n k
difference_by Reserved s b n k = sym (sub_up s s (omega arith) ∙ ap pos (omega arith))

-- the step of paper 01's words is the difference of the two addresses, in the integers
pub step_difference : (x : Burst) (k : ℕ) → beat_step x k ≡ sub_ℕ (beat_address x (k + 1)) (beat_address x k)
step_difference x k = rw (add-one k) (difference_by x.kind x.start (bytes x) (beats x) k)

-- from -1,920 to 128
abbrev InRange : ℤ → Type 0
InRange d = (negsuc 1919 ≤ℤ d) × (d ≤ℤ pos 128)

up_in_range : (b : ℕ) → b ≤ 128 → InRange (pos b)
up_in_range b h = (le_z_yes tt, le_z_yes (le→leb b 128 h))

down_in_range : (c : ℕ) → c ≤ 1919 → InRange (negsuc c)
down_in_range c h = (le_z_yes (le→leb c 1919 h), le_z_yes tt)

-- a difference of at most 128 up and at most 1,920 down
sub_in_range : (a b : ℕ) → a ≤ 128 → b ≤ a + 1920 → InRange (sub_ℕ a b)
sub_in_range a b h l = go (ltb a b) refl
  where
    go : (t : Bool) → ltb a b ≡ t → InRange (sub_ℕ a b)
    go true e = rw (sub_down a b (ltb-true a b e)) (down_in_range (b - suc a) (omega arith))
    go false e = rw (sub_up a b (ltb-false a b e)) (up_in_range (a - b) (omega arith))

container_in_range : (b p : ℕ) → b ≤ 128 → p ≤ 15 → b * suc p ≤ b + 1920
container_in_range b p h l = omega (arith, mul-le-mul_right b l)

module _ (s b n : ℕ) (narrow : b ≤ 128) where
  incr_in_range : 0 < b → (k : ℕ) → InRange (incr_step s b k)
  unfolding incr_step
  incr_in_range h zero = sub_in_range b (s - aligned s b) narrow (omega (arith, round_near s b h))
  incr_in_range h (suc k) = up_in_range b narrow

  wrap_in_range : n ≤ 16 → 0 < n → (k : ℕ) → InRange (wrap_step s b n k)
  unfolding wrap_step
  wrap_in_range few some k = go (wraps s b n (wrap_address s b n k + b))
    where
      go : (t : Bool) → InRange (cond t (sub_ℕ b (b * n)) (pos b))
      go true =
          let e : suc (n - 1) ≡ n = omega arith in
          sub_in_range b (b * n) narrow (rw e at (container_in_range b (n - 1) narrow (omega arith)))
      go false = up_in_range b narrow

range_by : (m : Kind) (s i n : ℕ) → i ≤ 7 → count_allowed m n ≡ true → (k : ℕ) → InRange (step_by m s (2 ^ i) n k)
unfolding step_by
range_by Fixed s i n h c k = up_in_range 0 (omega arith)
range_by Incr s i n h c k = incr_in_range s (2 ^ i) n (pow_mono h) (pow_pos i) k
range_by Wrap s i n h c k = go (wrap_power n c)
  where
    go : UpTo 4 n → InRange (wrap_step s (2 ^ i) n k)
    go p = wrap_in_range s (2 ^ i) n (pow_mono h) (rw p.is (pow_mono p.small)) (rw p.is (pow_pos p.log)) k
range_by Reserved s i n h c k = up_in_range 0 (omega arith)

-- "It lies in -1,920 to 128." Both ends are reached (specs/Cases, ends).
pub step_in_range : (x : Burst) → Legal x → (k : ℕ) → (negsuc 1919 ≤ℤ beat_step x k) × (beat_step x k ≤ℤ pos 128)
step_in_range x l k =
    range_by x.kind x.start x.size (beats x) (omega (arith, (known x l).narrow, (known x l).bus.small)) (known x l).count k
