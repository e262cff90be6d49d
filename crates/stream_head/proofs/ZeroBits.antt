-- The bits of a header that must be zero, tested in two words at once: a mask's test of a word is the tests of its parts.
-- Assumes nothing.
use mathlib.Core.Path.{◌≡◌, refl, sym, ap, ap₂, ◌∙◌, subst}
use mathlib.Core.Bool.{Bool, true, false, not, ◌||◌}
use mathlib.Core.List.{List}
use Prim.Native.Nat.{ℕ, zero, suc, ◌+◌, ◌-◌, ◌*◌, ◌/◌, ◌%◌, ◌^◌, ◌≤◌, ◌<◌}
use native.Mathlib.Nat.{suc-mul, mod-lt, zero-add}
use native.Mathlib.Omega.{arith}
use borrow.Author.Tests.{le-leb, lt-leb, eq-eqb, ne_eqb, eqb-true, eqb-false}
use lib.Bits.{bit_and, and_block, and_high, and_zero_r}
use lib.Dec.{leb, ltb, eqb}
use lib.ListN.{get_or}
use lib.Pow.{pow_pos, pow_mono, split, shr_mod}
use Rattle.stream_spec.specs.declared.Shape.{Shape}
use Rattle.stream_spec.specs.Layout.{width_most}
use Rattle.words.specs.Words.{word_at}
use Rattle.stream_head.specs.declared.Zeros.{Zeros}
use Rattle.stream_record.specs.Header.{header_of, header_fault}
use Rattle.stream_head.specs.Zeros.{zeros_of}

-- some bit is set
abbrev set : ℕ → Bool
set n = not (eqb n 0)

set-none : (n : ℕ) → n ≡ 0 → set n ≡ false
set-none n e = ap not (eq-eqb n 0 e)

set-some : (n : ℕ) → 0 < n → set n ≡ true
set-some n h = ap not (ne_eqb n 0 (λ e. omega arith))

-- two parts, the higher one moved up
set-parts : (a b m : ℕ) → 0 < m → set (a * m + b) ≡ (set b || set a)
set-parts a zero m h = go a
  where
    go : (a : ℕ) → set (a * m + 0) ≡ set a
    go zero = set-none (0 * m + 0) (omega arith)
    go (suc a) = set-some (suc a * m + 0) (omega (arith, suc-mul a m)) ∙ sym (set-some (suc a) (omega arith))
set-parts a (suc b) m h = set-some (a * m + suc b) (omega arith) ∙ rw (set-some (suc b) (omega arith)) refl

-- a bit from k on is set in a number of j + k bits just where it is 2 ^ k or more
set-above : (n j k : ℕ) → n < 2 ^ (j + k) → set (bit_and n (2 ^ (j + k) - 2 ^ k)) ≡ leb (2 ^ k) n
set-above n j k h =
    ap set (and_high n j k ∙ ap (λ (x : ℕ). x * 2 ^ k) (shr_mod j k h)) ∙ go (n / 2 ^ k) (split n k) (mod-lt n (pow_pos k))
  where
    go : (q : ℕ) → q * 2 ^ k + n % 2 ^ k ≡ n → n % 2 ^ k < 2 ^ k → set (q * 2 ^ k) ≡ leb (2 ^ k) n
    go zero e l = set-none (0 * 2 ^ k) (omega arith) ∙ sym (lt-leb (2 ^ k) n (omega arith))
    go (suc q) e l =
        set-some (suc q * 2 ^ k) (omega (arith, suc-mul q (2 ^ k), pow_pos k)) ∙ sym (le-leb (2 ^ k) n (omega (arith, suc-mul q (2 ^ k))))

set-from : (n top k : ℕ) → k ≤ top → n < 2 ^ top → set (bit_and n (2 ^ top - 2 ^ k)) ≡ leb (2 ^ k) n
set-from n top k l h =
    let e : top - k + k ≡ top = omega arith in
    subst (λ (t : ℕ). n < 2 ^ t → set (bit_and n (2 ^ t - 2 ^ k)) ≡ leb (2 ^ k) n) e (set-above n (top - k) k) h

-- octets 0 to 3: octet 0 has a bit from `used` on, or octet 2 is above 15
low-set : (used a b c d : ℕ) → used ≤ 8 → a < 256 → b < 256 → c < 256
    → set (bit_and (a + 256 * (b + 256 * (c + 256 * (d + 256 * 0)))) (0xF00100 - 2 ^ used)) ≡ (leb (2 ^ used) a || ltb 15 c)
low-set used a b c d u ha hb hc =
    let p = pow_pos used in
    let q : 2 ^ used ≤ 256 = pow_mono u in
    let word : a + 256 * (b + 256 * (c + 256 * (d + 256 * 0))) ≡ ((d * 256 + c) * 256 + b) * 256 + a = omega arith in
    let mask : 0xF00100 - 2 ^ used ≡ 0xF000 * 256 + (256 - 2 ^ used) = omega arith in
    let top : bit_and (d * 256 + c) 0xF0 ≡ bit_and c 0xF0 =
    and_block 8 d 0 c 0xF0 hc (omega arith) ∙ ap (λ (x : ℕ). x * 256 + bit_and c 0xF0) (and_zero_r d) ∙ zero-add (bit_and c 0xF0) in
    let mid : bit_and ((d * 256 + c) * 256 + b) 0xF000 ≡ bit_and c 0xF0 * 256 + 0 =
    and_block 8 (d * 256 + c) 0xF0 b 0 hb (omega arith) ∙ ap₂ (λ (x y : ℕ). x * 256 + y) top (and_zero_r b) in
    let all : bit_and (a + 256 * (b + 256 * (c + 256 * (d + 256 * 0)))) (0xF00100 - 2 ^ used) ≡ (bit_and c 0xF0 * 256 + 0) * 256 + bit_and a (256 - 2 ^ used) =
    ap₂ bit_and word mask
    ∙ and_block 8 ((d * 256 + c) * 256 + b) 0xF000 a (256 - 2 ^ used) ha (omega arith)
    ∙ ap (λ (x : ℕ). x * 256 + bit_and a (256 - 2 ^ used)) mid in
    ap set all
    ∙ set-parts (bit_and c 0xF0 * 256 + 0) (bit_and a (256 - 2 ^ used)) 256 (omega arith)
    ∙ ap₂ (λ (x y : Bool). x || y) (set-from a 8 used u ha) (set-parts (bit_and c 0xF0) 0 256 (omega arith) ∙ set-from c 8 4 (omega arith) hc)

-- octets 3 to 6: TKEEP or TSTRB has a bit from w on
high-set : (w keep strb x : ℕ) → w ≤ 16 → keep < 0x10000 → strb < 0x10000 → x ≡ strb * 0x10000 + keep
    → set (bit_and x (0x10001 * (0x10000 - 2 ^ w))) ≡ (leb (2 ^ w) keep || leb (2 ^ w) strb)
high-set w keep strb x u hk hs e =
    let p = pow_pos w in
    let q : 2 ^ w ≤ 0x10000 = pow_mono u in
    let mask : 0x10001 * (0x10000 - 2 ^ w) ≡ (0x10000 - 2 ^ w) * 0x10000 + (0x10000 - 2 ^ w) = omega arith in
    ap set (ap₂ bit_and e mask ∙ and_block 16 strb (0x10000 - 2 ^ w) keep (0x10000 - 2 ^ w) hk (omega arith))
    ∙ set-parts (bit_and strb (0x10000 - 2 ^ w)) (bit_and keep (0x10000 - 2 ^ w)) 0x10000 (omega arith)
    ∙ ap₂ (λ (x y : Bool). x || y) (set-from keep 16 w u hk) (set-from strb 16 w u hs)

-- a header's fault, by its two words
module _ (used : ℕ) (s : Shape) (rec : List ℕ) (z : Zeros) (few : used ≤ 8) (wide : s.width ≤ width_most) (is : z ≡ zeros_of used s)
    (oct : (i : ℕ) → get_or rec i 0 < 256) (lo hi : ℕ) (l : lo ≡ word_at 4 rec 0) where
  low-is : set (bit_and lo z.low) ≡ (leb (2 ^ used) (header_of rec).flags || ltb 15 (header_of rec).tdest)
  low-is =
      ap₂ (λ (x : ℕ) (y : Zeros). set (bit_and x y.low)) l is
      ∙ low-set used (get_or rec 0 0) (get_or rec 1 0) (get_or rec 2 0) (get_or rec 3 0) few (oct 0) (oct 1) (oct 2)

  pub breaks-low : (bit_and lo z.low ≡ 0 → ⊥) → set (bit_and lo z.low) ≡ header_fault used s (header_of rec)
  breaks-low h =
      let some-set : set (bit_and lo z.low) ≡ true = ap not (ne_eqb (bit_and lo z.low) 0 h) in
      let yes' : (leb (2 ^ used) (header_of rec).flags || ltb 15 (header_of rec).tdest) ≡ true = sym low-is ∙ some-set in
      some-set ∙ rw yes' refl

  pub breaks-high : hi ≡ word_at 4 rec 3 → bit_and lo z.low ≡ 0 → set (bit_and hi z.high) ≡ header_fault used s (header_of rec)
  breaks-high e h =
      let no : (leb (2 ^ used) (header_of rec).flags || ltb 15 (header_of rec).tdest) ≡ false = sym low-is ∙ set-none (bit_and lo z.low) h in
      let b3 = oct 3 in
      let b4 = oct 4 in
      let b5 = oct 5 in
      let b6 = oct 6 in
      rw no
      (ap (λ (y : Zeros). set (bit_and hi y.high)) is
      ∙ high-set s.width (header_of rec).keep (header_of rec).strb hi wide (omega arith) (omega arith) (omega arith))

  -- the one test of both words
  pub breaks-both : hi ≡ word_at 4 rec 3 → (set (bit_and lo z.low) || set (bit_and hi z.high)) ≡ header_fault used s (header_of rec)
  breaks-both e = go (eqb (bit_and lo z.low) 0) refl
    where
      go : (b : Bool) → eqb (bit_and lo z.low) 0 ≡ b → (set (bit_and lo z.low) || set (bit_and hi z.high)) ≡ header_fault used s (header_of rec)
      go true q = rw q (breaks-high e (eqb-true (bit_and lo z.low) 0 q))
      go false q =
          let some = eqb-false (bit_and lo z.low) 0 q in
          rw q (sym (ap not (ne_eqb (bit_and lo z.low) 0 some)) ∙ breaks-low some)
