-- Rounding to a power of two by masks, of addresses of any number of bits. Assumes nothing.
use mathlib.Core.Path.{◌≡◌, refl, sym, ap, ◌∙◌}
use Prim.Native.Nat.{ℕ, ◌+◌, ◌-◌, ◌*◌, ◌%◌, ◌^◌, ◌<◌}
use native.Mathlib.Omega.{arith}
use lib.Bits.{bit_and, and_mask, and_high}
use lib.Pow.{pow_pos, pow-lt, shr_mod}
use Rattle.burst_spec.specs.Address.{round_down}
use Rattle.burst_spec.specs.Legal.{Power}
use Rattle.burst.proofs.Formulas.{address_bits, power}

-- what is left of an address: its bits in the mask
pub low_masked : (a b : ℕ) → Power b → bit_and a (b - 1) ≡ a % b
low_masked a b p = rw p.is (and_mask a p.log)

-- the complement of a mask of i bits, in j + i bits
above : (j i : ℕ) → 2 ^ (j + i) - 1 - (2 ^ i - 1) ≡ 2 ^ (j + i) - 2 ^ i
above j i = omega (arith, pow_pos i)

round_masked_by : (j i a : ℕ) → a < 2 ^ (j + i) → bit_and a (2 ^ (j + i) - 1 - (2 ^ i - 1)) ≡ round_down a (2 ^ i)
unfolding round_down
round_masked_by j i a h =
    ap (bit_and a) (above j i) ∙ and_high a j i ∙ ap (λ q. q * 2 ^ i) (shr_mod j i h)

-- an address of w bits, rounded down: its bits outside the mask. The one law of masks that knows how wide an address is.
pub round_masked : (w a b : ℕ) → Power b → b < 2 ^ w → a < 2 ^ w → bit_and a (2 ^ w - 1 - (b - 1)) ≡ round_down a b
round_masked w a b p s h =
    let i = p.log in
    let not_above : w < i → ⊥ = λ l. omega (arith, pow-lt l, p.is) in
    let e : (w - i) + i ≡ w = omega (arith, not_above) in
    rw p.is (rw e at (round_masked_by (w - i) i a (rw e h)))

-- B1's start and its beat of 4 bytes, worked by hand: 0x1002 is 0x1000 and 2
pub low_worked : 0x1002 % 4 ≡ 0x2
low_worked = sym (low_masked 0x1002 4 (power 2)) ∙ refl

pub round_worked : round_down 0x1002 4 ≡ 0x1000
round_worked = sym (round_masked address_bits 0x1002 4 (power 2) (omega arith) (omega arith)) ∙ refl
