-- Bits of numbers, as Layout names them: the lowest one, the others, and masks made of bits. Assumes nothing.
use mathlib.Core.Path.{◌≡◌, refl, sym, ap, ◌∙◌}
use mathlib.Core.Bool.{Bool, true, false}
use mathlib.Core.List.{List, [], ◌∷◌}
use Prim.Native.Nat.{ℕ, zero, suc, ◌+◌, ◌*◌, ◌/◌, ◌%◌, ◌^◌, ◌≤◌, ◌<◌}
use native.Mathlib.Nat.{div-one, div-div-eq-div-mul, mul_comm, mul_assoc, pow-suc, zero-div}
use native.Mathlib.Omega.{arith}
use borrow.Author.Tests.{eq-eqb, ne_eqb, eqb-true, eqb-false}
use lib.Dec.{eqb}
use lib.ListN.{length}
use lib.Pow.{shr-shr}
use Rattle.stream_spec.specs.Layout.{bit, odd, bit_of, mask_of, octet_values}

-- ---- one bit

-- bit 0 is whether a number is odd, and the other bits are those of its half
pub bit-zero : (n : ℕ) → bit 0 n ≡ odd n
bit-zero n = rw (div-one n) refl

pub bit-suc : (x n : ℕ) → bit (suc x) n ≡ bit x (n / 2)
bit-suc x n = rw (pow-suc 2 x, mul_comm (2 ^ x) 2, ← div-div-eq-div-mul n 2 (2 ^ x)) refl

-- the lowest bit as a number
pub odd_number : (n : ℕ) → bit_of (odd n) ≡ n % 2
odd_number n = go (odd n) refl
  where
    go : (b : Bool) → odd n ≡ b → bit_of (odd n) ≡ n % 2
    go true e = rw e (sym (eqb-true (n % 2) 1 e))
    go false e = let even = eqb-false (n % 2) 1 e in rw e (omega arith)

pub low-number : (n : ℕ) → bit_of (bit 0 n) ≡ n % 2
low-number n = ap bit_of (bit-zero n) ∙ odd_number n

-- it is all that the remainder by 2 keeps
pub odd_low : (n : ℕ) → odd (n % 2) ≡ odd n
odd_low n = let same : n % 2 % 2 ≡ n % 2 = omega arith in rw same refl

-- a bit comes back from its number, and 0 and 1 come back from their bits
pub bit_back : (b : Bool) → bit 0 (bit_of b) ≡ b
bit_back true = refl
bit_back false = refl

pub number_back : (n : ℕ) → n ≤ 1 → bit_of (odd n) ≡ n
number_back n h = odd_number n ∙ omega arith

pub bit-one : (b : Bool) → bit_of b ≤ 1
bit-one true = omega arith
bit-one false = omega arith

-- ---- numbers in parts

twice : (k n : ℕ) → 2 ^ suc k * n ≡ 2 * (2 ^ k * n)
twice k n = rw (pow-suc 2 k, mul_comm (2 ^ k) 2) (mul_assoc 2 (2 ^ k) n)

-- what is added from bit k on changes no bit below it
pub bit_below : (k o n x : ℕ) → x < k → bit x (o + 2 ^ k * n) ≡ bit x o
bit_below zero o n x l = absurd (omega arith)
bit_below (suc k) o n zero l =
    let same : (o + 2 ^ suc k * n) % 2 ≡ o % 2 = omega (arith, twice k n) in
    bit-zero (o + 2 ^ suc k * n) ∙ ap (λ (m : ℕ). eqb m 1) same ∙ sym (bit-zero o)
bit_below (suc k) o n (suc x) l =
    let half : (o + 2 ^ suc k * n) / 2 ≡ o / 2 + 2 ^ k * n = omega (arith, twice k n) in
    bit-suc x (o + 2 ^ suc k * n) ∙ ap (bit x) half ∙ bit_below k (o / 2) n x (omega arith) ∙ sym (bit-suc x o)

-- the bits from 8 on are those of the octets behind
pub bit-above : (o n y : ℕ) → o < 256 → bit (8 + y) (o + 256 * n) ≡ bit y n
bit-above o n y small =
    let whole : (o + 256 * n) / 256 ≡ n = omega arith in
    ap (λ (m : ℕ). eqb (m % 2) 1) (sym (shr-shr (o + 256 * n) 8 y) ∙ ap (λ (m : ℕ). m / 2 ^ y) whole)

pub no-bit : (x : ℕ) → bit x 0 ≡ false
no-bit x = ap (λ (m : ℕ). eqb (m % 2) 1) (zero-div (2 ^ x))

-- ---- masks

-- the first bit of a mask, and the others
pub odd_mask : (b : Bool) (m : ℕ) → odd (bit_of b + 2 * m) ≡ b
odd_mask true m = eq-eqb ((1 + 2 * m) % 2) 1 (omega arith)
odd_mask false m = ne_eqb ((0 + 2 * m) % 2) 1 (omega arith)

pub half_mask : (b : Bool) (m : ℕ) → (bit_of b + 2 * m) / 2 ≡ m
half_mask b m = omega (arith, bit-one b)

-- a mask of n bits is below 2 ^ n
pub mask_fits : (bs : List Bool) → mask_of bs < 2 ^ length bs
mask_fits [] = omega arith
mask_fits (b ∷ bs) = rw (pow-suc 2 (length bs)) (omega (arith, mask_fits bs, bit-one b))

-- a number comes back from its low octet and the rest
pub two-octets : (m : ℕ) → m % octet_values + octet_values * (m / octet_values) ≡ m
two-octets m = omega arith
