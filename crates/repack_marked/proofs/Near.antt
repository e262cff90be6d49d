-- Marks that are read as bits: one item's, and whether none stands near, so that the items there are data. Assumes nothing.
use mathlib.Core.Path.{◌≡◌, refl, sym, ap, ◌∙◌}
use mathlib.Core.Bool.{Bool, true, false, not}
use mathlib.Core.List.{List, [], ◌∷◌, map}
use Prim.Native.Nat.{ℕ, zero, suc, ◌+◌, ◌-◌, ◌*◌, ◌/◌, ◌%◌, ◌≤◌, ◌<◌}
use native.Mathlib.Nat.{add-zero, div-eq_of_lt}
use native.Mathlib.Omega.{arith}
use borrow.Author.Tests.{eqb-true, eqb-false}
use mir.Val.{bool_byte}
use lib.Dec.{eqb}
use lib.Pow.{pow_pos}
use lib.ListN.{length, get_or, take, drop, length-drop}
use lib.Seq.{get_or-drop}
use Rattle.words.specs.Words.{word_at}
use Rattle.stream_spec.specs.Layout.{bit_of}
use Rattle.repack_scratch.specs.Codes.{data_code, held_codes, mark_bits}
use Rattle.repack_scratch.proofs.Held.{length-held, drop-held}
use Rattle.repack_scratch.proofs.Marks.{length-marks, mark_at}

-- ---- how many there are

pub marks-same : (ds ms : List ℕ) → length ds ≡ 8 * length ms → length ds ≡ length (mark_bits ms)
marks-same ds ms e = e ∙ sym (length-marks ms)

-- the items from one on
pub length_from : (ds ms : List ℕ) (from : ℕ) → length ds ≡ 8 * length ms → length (drop from (held_codes ds (mark_bits ms))) ≡ length ds - from
length_from ds ms from e =
    length-drop from (held_codes ds (mark_bits ms)) ∙ ap (λ (n : ℕ). n - from) (length-held ds (mark_bits ms) (marks-same ds ms e))

-- ---- marks

-- a bit that is tested is the bit
pub bit-back : (x : ℕ) → bit_of (not (eqb (x % 2) 0)) ≡ x % 2
bit-back x = go (eqb (x % 2) 0) refl
  where
    go : (b : Bool) → eqb (x % 2) 0 ≡ b → bit_of (not b) ≡ x % 2
    go true e = sym (eqb-true (x % 2) 0 e)
    go false e = let odd : x % 2 ≡ 0 → ⊥ = eqb-false (x % 2) 0 e in omega arith

-- the strobe of an item with a mark
pub strobe_back : (b : Bool) (d m : ℕ) → d ≡ bool_byte (not b) → bit_of b ≡ m → d ≡ 1 - m
strobe_back true d m e f = omega arith
strobe_back false d m e f = omega arith

-- a word of zero has octets of zero
octets-zero : (k : ℕ) (s : List ℕ) (i j : ℕ) → word_at k s i ≡ 0 → j < k → get_or s (i + j) 0 ≡ 0
octets-zero zero s i j e h = absurd (omega arith)
octets-zero (suc k) s i zero e h = rw (add-zero i) (omega arith)
octets-zero (suc k) s i (suc j) e h =
    let next : i + suc j ≡ i + 1 + j = omega arith in
    rw next (octets-zero k s (i + 1) j (omega arith) (omega arith))

-- an octet of zero has no mark
pub unmarked-word : (ms : List ℕ) (from : ℕ) → from + 32 ≤ 8 * length ms → word_at 4 ms (from / 8) ≡ 0
    → (i : ℕ) → i < 16 → get_or (mark_bits ms) (from + i) 0 ≡ 0
unmarked-word ms from l e i h =
    let place : from / 8 + ((from + i) / 8 - from / 8) ≡ (from + i) / 8 = omega arith in
    let clear : get_or ms ((from + i) / 8) 0 ≡ 0 =
    ap (λ (k : ℕ). get_or ms k 0) (sym place) ∙ octets-zero 4 ms (from / 8) ((from + i) / 8 - from / 8) e (omega arith) in
    mark_at ms (from + i) (omega arith) ∙ rw (clear, div-eq_of_lt (pow_pos ((from + i) % 8))) refl

-- ---- items without a mark are data

front_data : (n : ℕ) (ds ms : List ℕ) → n ≤ length ds → n ≤ length ms → ((i : ℕ) → i < n → get_or ms i 0 ≡ 0)
    → take n (held_codes ds ms) ≡ take n (map data_code ds)
front_data zero ds ms d m c = refl
front_data (suc n) [] ms d m c = refl
front_data (suc n) (x ∷ ds) [] d m c = absurd (omega arith)
front_data (suc n) (x ∷ ds) (y ∷ ms) d m c =
    rw (c 0 (omega arith))
    (ap {B = List ℕ} (λ l. (x + 256) ∷ l) (front_data n ds ms (omega arith) (omega arith) (λ i h. c (suc i) (omega arith))))

pub near_data : (n from : ℕ) (ds ms : List ℕ) → length ds ≡ length ms → from + n ≤ length ds
    → ((i : ℕ) → i < n → get_or ms (from + i) 0 ≡ 0)
    → take n (drop from (held_codes ds ms)) ≡ take n (map data_code (drop from ds))
near_data n from ds ms e l c =
    ap (take n) (drop-held from ds ms e)
    ∙ front_data n (drop from ds) (drop from ms) (omega (arith, length-drop from ds)) (omega (arith, length-drop from ms))
    (λ i h. get_or-drop from ms i 0 ∙ c i h)
