-- Rounding down, and which addresses fall into one block of b bytes. Everything else rests on these. Assumes nothing.
use mathlib.Core.Path.{◌≡◌, ap, ◌∙◌}
use Prim.Native.Nat.{ℕ, ◌+◌, ◌-◌, ◌*◌, ◌/◌, ◌%◌, ◌^◌, ◌≤◌, ◌<◌}
use native.Mathlib.Nat.{div-lt_iff_lt-mul, div-add-mod', div-mul-le_self, lt-div-mul-add, mul-div_cancel, mul-add-div_right, div-eq_of_lt, div-div-eq-div-mul, add-zero}
use native.Mathlib.Omega.{arith}
use lib.Pow.{pow_pos, pow-add}
use Rattle.burst_spec.specs.Address.{round_down, highest_byte}
use Rattle.burst_spec.specs.Legal.{Power}

pub power_positive : {x : ℕ} → Power x → 0 < x
power_positive p = rw p.is (pow_pos p.log)

finer : (a c b q : ℕ) → a / b ≡ c / b → a / (b * q) ≡ c / (b * q)
finer a c b q e = rw (← div-div-eq-div-mul a b q, ← div-div-eq-div-mul c b q, e)

module _ (a b : ℕ) where
  pub round_le : round_down a b ≤ a
  unfolding round_down
  round_le = div-mul-le_self a b

  pub round_near : 0 < b → a < round_down a b + b
  unfolding round_down
  round_near = lt-div-mul-add

  pub round_low : round_down a b + a % b ≡ a
  unfolding round_down
  round_low = div-add-mod' a b

  pub round_multiple : a % b ≡ 0 → round_down a b ≡ a
  round_multiple e = omega (arith, round_low)

  -- every byte of the block of b bytes that starts at the rounded address has that block's number
  pub same_quotient : (j : ℕ) → j < b → (round_down a b + j) / b ≡ a / b
  unfolding round_down
  same_quotient j h = mul-add-div_right (omega arith) (a / b) j ∙ rw (div-eq_of_lt h) (add-zero (a / b))

-- the number of a block, from its bounds
pub quotient_of : (a b c : ℕ) → 0 < b → round_down a b ≤ c → c < round_down a b + b → c / b ≡ a / b
quotient_of a b c h l u =
    let e : round_down a b + (c - round_down a b) ≡ c = omega arith in
    rw e at (same_quotient a b (c - round_down a b) (omega arith))

pub highest_quotient : (a b : ℕ) → 0 < b → highest_byte a b / b ≡ a / b
highest_quotient a b h = same_quotient a b (b - 1) (omega arith)

-- addresses in one block of 2 ^ i bytes are in one of 2 ^ j
pub coarser : {i j : ℕ} (a c : ℕ) → i ≤ j → a / 2 ^ i ≡ c / 2 ^ i → a / 2 ^ j ≡ c / 2 ^ j
coarser {i} {j} a c h e =
    let s : i + (j - i) ≡ j = omega arith in
    rw s at (rw (← pow-add 2 i (j - i)) at (finer a c (2 ^ i) (2 ^ (j - i)) e))

-- rounding what is rounded, some beats on
pub round_beats : (s b k : ℕ) → 0 < b → round_down (round_down s b + k * b) b ≡ round_down s b + k * b
unfolding round_down
round_beats s b k h =
    let e : (s / b * b + k * b) / b ≡ s / b + k = mul-add-div_right h (s / b) (k * b) ∙ ap (λ q. s / b + q) (mul-div_cancel k h) in
    rw e (omega arith)

-- what lies in one block of 2 ^ i bytes with s lies in the memory of 2 ^ w bytes that s lies in
pub same_memory : {i : ℕ} (w a s : ℕ) → i ≤ w → s < 2 ^ w → a / 2 ^ i ≡ s / 2 ^ i → a < 2 ^ w
same_memory w a s h l e =
    let z : a / 2 ^ w ≡ 0 = coarser a s h e ∙ div-eq_of_lt l in
    let q : a / 2 ^ w < 1 = omega arith in
    omega (arith, (div-lt_iff_lt-mul (pow_pos w)).0 q)
