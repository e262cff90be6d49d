-- Octets that a mask names, kept and moved down: in four octets for each row of the sieve, in eight as two times four.
-- Assumes nothing.
use mathlib.Core.Path.{◌≡◌, refl, ap, ◌∙◌}
use mathlib.Core.Bool.{Bool, true, false}
use mathlib.Core.List.{[], ◌∷◌}
use Prim.Native.Nat.{ℕ, zero, suc, ◌+◌, ◌*◌, ◌/◌, ◌%◌, ◌^◌, ◌≤◌, ◌<◌}
use native.Mathlib.Nat.{add-zero, zero-add, mod-eq_of_lt, div-le_self, div-add-mod', add-mul-div_right}
use native.Mathlib.Omega.{arith}
use borrow.Author.Tests.{eqb-true, eqb-false}
use lib.Dec.{eqb}
use lib.Pow.{pow_pos}
use lib.Bits.{bit_and, and_block, and_mask, and_zero_r, and_le_l, and_mod}
use lib.ListN.{get_or, take}
use Rattle.words.specs.Words.{octets_of_word}
use Rattle.repack_sieve.specs.Kept.{kept_octets}
use Rattle.repack_sieve.specs.declared.Row.{Row}
use Rattle.repack_sieve.specs.Sieve.{moved, closing, row_of, sieve_rows}

-- the low bits and the others apart
and_low : (e x y m n : ℕ) → x < 2 ^ e → m < 2 ^ e → bit_and (x + 2 ^ e * y) (m + 2 ^ e * n) ≡ bit_and x m + 2 ^ e * bit_and y n
and_low e x y m n h k =
    let l : x + 2 ^ e * y ≡ y * 2 ^ e + x = omega arith in
    let r : m + 2 ^ e * n ≡ n * 2 ^ e + m = omega arith in
    rw (l, r) (and_block e y n x m h k ∙ omega arith)

-- ---- one octet: a mask's octet is 0 or 255

abbrev full : ℕ → ℕ
full zero = 0
full (suc b) = 255

-- what the mask names of an octet, and what it leaves
abbrev named : ℕ → ℕ → ℕ
named zero x = 0
named (suc b) x = x

abbrev left : ℕ → ℕ → ℕ
left zero x = x
left (suc b) x = 0

and_octet : (b x : ℕ) → x < 256 → bit_and x (full b) ≡ named b x
and_octet zero x h = and_zero_r x
and_octet (suc b) x h = and_mask x 8 ∙ mod-eq_of_lt h

named_left : (b x : ℕ) → named b x + left b x ≡ x
named_left zero x = omega arith
named_left (suc b) x = omega arith

named_less : (b x : ℕ) → x < 256 → named b x < 256
named_less b x h = omega (arith, named_left b x)

full-small : (b : ℕ) → full b < 256
full-small zero = omega arith
full-small (suc b) = omega arith

-- ---- four octets

abbrev four : ℕ → ℕ → ℕ → ℕ → ℕ
four a b c d = a + 256 * (b + 256 * (c + 256 * d))

record Octets (a b c d : ℕ) : Type 0 where
  first : a < 256
  second : b < 256
  third : c < 256
  fourth : d < 256

and_four : (i j k l a b c d : ℕ) → Octets a b c d
    → bit_and (four a b c d) (four (full i) (full j) (full k) (full l)) ≡ four (named i a) (named j b) (named k c) (named l d)
and_four i j k l a b c d o =
    and_low 8 a (b + 256 * (c + 256 * d)) (full i) (full j + 256 * (full k + 256 * full l)) o.first (full-small i)
    ∙ rw (
      and_low 8 b (c + 256 * d) (full j) (full k + 256 * full l) o.second (full-small j),
      and_low 8 c d (full k) (full l) o.third (full-small k),
      and_octet i a o.first,
      and_octet j b o.second,
      and_octet k c o.third,
      and_octet l d o.fourth,
    )
    refl

-- down one place, down two
moved-one : (j k l a b c d : ℕ) → Octets a b c d
    → moved (four a b c d) (four 0 (full j) (full k) (full l)) 256 ≡ four (a + named j b) (left j b + named k c) (left k c + named l d) (left l d)
moved-one j k l a b c d o =
    rw (and_four 0 j k l a b c d o) (omega (arith, named_left j b, named_left k c, named_left l d))

moved-two : (k l a b c d : ℕ) → Octets a b c d
    → moved (four a b c d) (four 0 0 (full k) (full l)) 0x10000 ≡ four (a + named k c) (b + named l d) (left k c) (left l d)
moved-two k l a b c d o =
    rw (and_four 0 0 k l a b c d o) (omega (arith, named_left k c, named_left l d))

octets_four : (a b c d : ℕ) → Octets a b c d → octets_of_word 4 (four a b c d) ≡ a ∷ b ∷ c ∷ d ∷ []
octets_four a b c d o =
    let low : (n m : ℕ) → n < 256 → (n + 256 * m) % 256 ≡ n = λ n m h. omega arith in
    let high : (n m : ℕ) → n < 256 → (n + 256 * m) / 256 ≡ m = λ n m h. omega arith in
    rw (
      low a (b + 256 * (c + 256 * d)) o.first,
      high a (b + 256 * (c + 256 * d)) o.first,
      low b (c + 256 * d) o.second,
      high b (c + 256 * d) o.second,
      low c d o.third,
      high c d o.third,
      mod-eq_of_lt o.fourth,
    )
    refl

-- a word is its octets
word_four : (x : ℕ) → x < 0x1_0000_0000 → x ≡ four (x % 256) (x / 256 % 256) (x / 256 / 256 % 256) (x / 256 / 256 / 256 % 256)
word_four x h = omega arith

-- ---- the rows

-- a row of the sieve is right for the four TKEEP bits of k
pub record Closes (k kept odd far n : ℕ) : Type 0 where
  pub kept_small : kept < 0x1_0000_0000
  pub odd_small : odd < 0x1_0000_0000
  pub far_small : far < 0x1_0000_0000
  pub odd_high : odd % 256 ≡ 0
  pub far_high : far % 0x10000 ≡ 0
  pub count : n ≤ 4
  closes : (a b c d : ℕ) → Octets a b c d → take n (octets_of_word 4 (closing (four a b c d) kept odd far)) ≡ kept_octets 4 k (a ∷ b ∷ c ∷ d ∷ [])

-- i to l say which octets are kept, p to r which of the upper three move down one place, s and t which of the upper two then two
module _ (i j k l p q r s t : ℕ) where
  module _ (a b c d : ℕ) where
    abbrev once : (P : ℕ → ℕ → ℕ → ℕ → Type 0) → Type 0
    once P = P (named i a + named p (named j b)) (left p (named j b) + named q (named k c)) (left q (named k c) + named r (named l d)) (left r (named l d))

    abbrev twice : (P : ℕ → ℕ → ℕ → ℕ → Type 0) → Type 0
    twice P = once (λ w x y z. P (w + named s y) (x + named t z) (left s y) (left t z))

    -- no two octets meet, and those kept are the first
    record Apart : Type 0 where
      middle : once Octets
      end : twice Octets
      is : twice (λ w x y z. take (i + j + k + l) (w ∷ x ∷ y ∷ z ∷ []) ≡ kept_octets 4 (i + 2 * j + 4 * k + 8 * l) (a ∷ b ∷ c ∷ d ∷ []))

  row : i + j + k + l ≤ 4 → ((a b c d : ℕ) → Octets a b c d → Apart a b c d)
      → Closes (i + 2 * j + 4 * k + 8 * l) (four (full i) (full j) (full k) (full l)) (four 0 (full p) (full q) (full r)) (four 0 0 (full s) (full t)) (i + j + k + l)
  row n f =
      record {
        kept_small = omega (arith, full-small i, full-small j, full-small k, full-small l);
        odd_small = omega (arith, full-small p, full-small q, full-small r);
        far_small = omega (arith, full-small s, full-small t);
        odd_high = omega arith;
        far_high = omega arith;
        count = n;
        closes = λ a b c d o.
            let u : Octets (named i a) (named j b) (named k c) (named l d) =
            record { first = named_less i a o.first; second = named_less j b o.second; third = named_less k c o.third; fourth = named_less l d o.fourth } in
            let v = f a b c d o in
            rw (
              and_four i j k l a b c d o,
              moved-one p q r (named i a) (named j b) (named k c) (named l d) u,
              moved-two s t (named i a + named p (named j b)) (left p (named j b) + named q (named k c)) (left q (named k c) + named r (named l d)) (left r (named l d)) v.middle,
            )
            (ap (take (i + j + k + l)) (octets_four _ _ _ _ v.end) ∙ v.is);
      }

-- a row closes up by its masks
abbrev pub Right : ℕ → Row → Type 0
Right k r = Closes k r.kept r.odd r.far r.count

abbrev RowAt : ℕ → Type 0
RowAt k = Right k (get_or sieve_rows k (row_of 0 0 0 0))

ruleset zeros = (zero-add, add-zero)

-- all numbers below n, and n
below : (P : ℕ → Type 0) (n : ℕ) → ((k : ℕ) → k < n → P k) → P n → (k : ℕ) → k < suc n → P k
below P n f p k h = go (eqb k n) refl
  where
    go : (b : Bool) → eqb k n ≡ b → P k
    go true e = rw (eqb-true k n e) p
    go false e = let other : k ≡ n → ⊥ = eqb-false k n e in f k (omega arith)

row0 : RowAt 0
row0 = row 0 0 0 0 0 0 0 0 0 (omega arith) (λ a b c d o. record { middle = omega arith; end = omega arith; is = refl })

row1 : RowAt 1
row1 = row 1 0 0 0 0 0 0 0 0 (omega arith) (λ a b c d o. record { middle = omega arith; end = omega arith; is = simp zeros })

row2 : RowAt 2
row2 = row 0 1 0 0 1 0 0 0 0 (omega arith) (λ a b c d o. record { middle = omega arith; end = omega arith; is = simp zeros })

row3 : RowAt 3
row3 = row 1 1 0 0 0 0 0 0 0 (omega arith) (λ a b c d o. record { middle = omega arith; end = omega arith; is = simp zeros })

row4 : RowAt 4
row4 = row 0 0 1 0 0 0 0 1 0 (omega arith) (λ a b c d o. record { middle = omega arith; end = omega arith; is = simp zeros })

row5 : RowAt 5
row5 = row 1 0 1 0 0 1 0 0 0 (omega arith) (λ a b c d o. record { middle = omega arith; end = omega arith; is = simp zeros })

row6 : RowAt 6
row6 = row 0 1 1 0 1 1 0 0 0 (omega arith) (λ a b c d o. record { middle = omega arith; end = omega arith; is = simp zeros })

row7 : RowAt 7
row7 = row 1 1 1 0 0 0 0 0 0 (omega arith) (λ a b c d o. record { middle = omega arith; end = omega arith; is = simp zeros })

row8 : RowAt 8
row8 = row 0 0 0 1 0 0 1 1 0 (omega arith) (λ a b c d o. record { middle = omega arith; end = omega arith; is = simp zeros })

row9 : RowAt 9
row9 = row 1 0 0 1 0 0 0 0 1 (omega arith) (λ a b c d o. record { middle = omega arith; end = omega arith; is = simp zeros })

row10 : RowAt 10
row10 = row 0 1 0 1 1 0 0 0 1 (omega arith) (λ a b c d o. record { middle = omega arith; end = omega arith; is = simp zeros })

row11 : RowAt 11
row11 = row 1 1 0 1 0 0 1 0 0 (omega arith) (λ a b c d o. record { middle = omega arith; end = omega arith; is = simp zeros })

row12 : RowAt 12
row12 = row 0 0 1 1 0 0 0 1 1 (omega arith) (λ a b c d o. record { middle = omega arith; end = omega arith; is = simp zeros })

row13 : RowAt 13
row13 = row 1 0 1 1 0 1 1 0 0 (omega arith) (λ a b c d o. record { middle = omega arith; end = omega arith; is = simp zeros })

row14 : RowAt 14
row14 = row 0 1 1 1 1 1 1 0 0 (omega arith) (λ a b c d o. record { middle = omega arith; end = omega arith; is = simp zeros })

row15 : RowAt 15
row15 = row 1 1 1 1 0 0 0 0 0 (omega arith) (λ a b c d o. record { middle = omega arith; end = omega arith; is = simp zeros })

pub rows : (k : ℕ) → k < 16 → RowAt k
rows =
    below RowAt 15 (below RowAt 14 (below RowAt 13 (below RowAt 12 (below RowAt 11 (below RowAt 10 (below RowAt 9 (below RowAt 8 (below RowAt 7 (below RowAt 6 (below RowAt 5 (below RowAt 4 (below RowAt 3 (below RowAt 2 (below RowAt 1 (below RowAt 0 (λ k h. absurd (omega arith)) row0) row1) row2) row3) row4) row5) row6) row7) row8) row9) row10) row11) row12) row13) row14) row15

-- ---- eight octets as two times four

module _ (e x y m n : ℕ) (h : x < 0x1_0000_0000) (k : m < 0x1_0000_0000) (z : n % 2 ^ e ≡ 0) where
  high-clear : bit_and y n % 2 ^ e ≡ 0
  high-clear = and_mod y n e ∙ rw z (and_zero_r (y % 2 ^ e))

  halves_shifted : (bit_and x m + 0x1_0000_0000 * bit_and y n) / 2 ^ e ≡ bit_and x m / 2 ^ e + 0x1_0000_0000 * (bit_and y n / 2 ^ e)
  halves_shifted =
      let whole : 0x1_0000_0000 * bit_and y n ≡ 0x1_0000_0000 * (bit_and y n / 2 ^ e) * 2 ^ e = omega (arith, div-add-mod' (bit_and y n) (2 ^ e), high-clear) in
      rw whole (add-mul-div_right (bit_and x m) (0x1_0000_0000 * (bit_and y n / 2 ^ e)) (pow_pos e))

  moved_halves : moved (x + 0x1_0000_0000 * y) (m + 0x1_0000_0000 * n) (2 ^ e) ≡ moved x m (2 ^ e) + 0x1_0000_0000 * moved y n (2 ^ e)
  moved_halves = rw (and_low 32 x y m n h k, halves_shifted) (omega (arith, and_le_l x m, and_le_l y n))

moved_less : (x m by : ℕ) → moved x m by ≤ x
moved_less x m by = omega (arith, and_le_l x m, div-le_self (bit_and x m) by)

pub once_less : (x kept odd : ℕ) → moved (bit_and x kept) odd 256 ≤ x
once_less x kept odd = omega (arith, and_le_l x kept, moved_less (bit_and x kept) odd 256)

pub closing_less : (x kept odd far : ℕ) → closing x kept odd far ≤ x
closing_less x kept odd far =
    omega (arith, once_less x kept odd, moved_less (moved (bit_and x kept) odd 256) far 0x10000)

-- the masks of two rows
pub closing_halves : (x y k kept odd far n k' kept' odd' far' n' : ℕ) → x < 0x1_0000_0000 → Closes k kept odd far n → Closes k' kept' odd' far' n'
    → closing (x + 0x1_0000_0000 * y) (kept + 0x1_0000_0000 * kept') (odd + 0x1_0000_0000 * odd') (far + 0x1_0000_0000 * far')
    ≡ closing x kept odd far + 0x1_0000_0000 * closing y kept' odd' far'
closing_halves x y k kept odd far n k' kept' odd' far' n' h r s =
    rw (
      and_low 32 x y kept kept' h r.kept_small,
      moved_halves 8 (bit_and x kept) (bit_and y kept') odd odd' (omega (arith, and_le_l x kept)) r.odd_small s.odd_high,
    )
    (moved_halves 16 (moved (bit_and x kept) odd 256) (moved (bit_and y kept') odd' 256) far far'
    (omega (arith, once_less x kept odd)) r.far_small s.far_high)

-- the octets of a word, by a row
pub four_closed : (x k kept odd far n : ℕ) → x < 0x1_0000_0000 → Closes k kept odd far n
    → take n (octets_of_word 4 (closing x kept odd far)) ≡ kept_octets 4 k (octets_of_word 4 x)
four_closed x k kept odd far n h r =
    ap (λ (w : ℕ). take n (octets_of_word 4 (closing w kept odd far))) (word_four x h)
    ∙ r.closes (x % 256) (x / 256 % 256) (x / 256 / 256 % 256) (x / 256 / 256 / 256 % 256) (omega arith)
