-- Laws of marks held as bits, eight an octet: a mark is read by a division, and set by an addition where none stands.
-- Assumes nothing.
use mathlib.Core.Path.{◌≡◌, refl, sym, ap, ◌∙◌}
use mathlib.Core.List.{List, [], ◌∷◌, ◌++◌}
use Prim.Native.Nat.{ℕ, zero, suc, ◌+◌, ◌-◌, ◌*◌, ◌/◌, ◌%◌, ◌^◌, ◌≤◌, ◌<◌}
use native.Mathlib.Nat.{pow-suc, mul_assoc, mul_comm}
use native.Mathlib.Omega.{arith}
use lib.Pow.{shr-shr}
use lib.ListN.{length, get_or, set, replicate, length-append, length-replicate, get_or-append}
use lib.Seq.{get_or-append-add}
use Rattle.repack_scratch.specs.Codes.{bits_of, mark_bits, Unmarked}

-- ---- how many there are

length-bits : (k x : ℕ) → length (bits_of k x) ≡ k
length-bits zero x = refl
length-bits (suc k) x = ap suc (length-bits k (x / 2))

pub length-marks : (ms : List ℕ) → length (mark_bits ms) ≡ 8 * length ms
length-marks [] = refl
length-marks (m ∷ ms) = length-append (bits_of 8 m) (mark_bits ms) ∙ omega (arith, length-bits 8 m, length-marks ms)

-- ---- the bits of one number

bit_at : (k i x : ℕ) → i < k → get_or (bits_of k x) i 0 ≡ x / 2 ^ i % 2
bit_at zero i x h = absurd (omega arith)
bit_at (suc k) zero x h = omega arith
bit_at (suc k) (suc i) x h =
    bit_at k i (x / 2) (omega arith) ∙ ap (λ (y : ℕ). y % 2) (shr-shr x 1 i) ∙ ap (λ (j : ℕ). x / 2 ^ j % 2) (omega arith)

doubled : (m j : ℕ) → m * 2 ^ suc j ≡ 2 * (m * 2 ^ j)
doubled m j = rw (pow-suc 2 j) (sym (mul_assoc m (2 ^ j) 2) ∙ mul_comm (m * 2 ^ j) 2)

-- a bit that is 0 is set to m
bit-set : (k j x m : ℕ) → j < k → m ≤ 1 → x / 2 ^ j % 2 ≡ 0 → bits_of k (x + m * 2 ^ j) ≡ set (bits_of k x) j m
bit-set zero j x m h l e = absurd (omega arith)
bit-set (suc k) zero x m h l e =
    let low : (x + m * 1) % 2 ≡ m = omega arith in
    let high : (x + m * 1) / 2 ≡ x / 2 = omega arith in
    rw (low, high) refl
bit-set (suc k) (suc j) x m h l e =
    let low : (x + m * 2 ^ suc j) % 2 ≡ x % 2 = omega (arith, doubled m j) in
    let high : (x + m * 2 ^ suc j) / 2 ≡ x / 2 + m * 2 ^ j = omega (arith, doubled m j) in
    let clear : x / 2 / 2 ^ j % 2 ≡ 0 = ap (λ (y : ℕ). y % 2) (shr-shr x 1 j) ∙ ap (λ (i : ℕ). x / 2 ^ i % 2) (omega arith) ∙ e in
    rw (low, high, bit-set k j (x / 2) m (omega arith) l clear) refl

-- and the number keeps within its bits
pub bit-fits : (k j x m : ℕ) → j < k → m ≤ 1 → x < 2 ^ k → x / 2 ^ j % 2 ≡ 0 → x + m * 2 ^ j < 2 ^ k
bit-fits zero j x m h l b e = absurd (omega arith)
bit-fits (suc k) zero x m h l b e = omega (arith, pow-suc 2 k)
bit-fits (suc k) (suc j) x m h l b e =
    let clear : x / 2 / 2 ^ j % 2 ≡ 0 = ap (λ (y : ℕ). y % 2) (shr-shr x 1 j) ∙ ap (λ (i : ℕ). x / 2 ^ i % 2) (omega arith) ∙ e in
    omega (arith, pow-suc 2 k, doubled m j, bit-fits k j (x / 2) m (omega arith) l (omega (arith, pow-suc 2 k)) clear)

-- ---- two lists joined

set_first : (xs ys : List ℕ) (i a : ℕ) → i < length xs → set (xs ++ ys) i a ≡ set xs i a ++ ys
set_first [] ys i a h = absurd (omega arith)
set_first (x ∷ xs) ys zero a h = refl
set_first (x ∷ xs) ys (suc i) a h = ap {B = List ℕ} (λ l. x ∷ l) (set_first xs ys i a (omega arith))

set-second : (xs ys : List ℕ) (i j a : ℕ) → i ≡ length xs + j → set (xs ++ ys) i a ≡ xs ++ set ys j a
set-second [] ys i j a e = let same : i ≡ j = omega arith in rw same refl
set-second (x ∷ xs) ys zero j a e = absurd (omega arith)
set-second (x ∷ xs) ys (suc i) j a e = ap {B = List ℕ} (λ l. x ∷ l) (set-second xs ys i j a (omega arith))

-- ---- the bits of all octets

-- Bit i is bit i % 8 of octet i / 8.
pub mark_at : (ms : List ℕ) (i : ℕ) → i < 8 * length ms → get_or (mark_bits ms) i 0 ≡ get_or ms (i / 8) 0 / 2 ^ (i % 8) % 2
mark_at [] i h = absurd (omega arith)
mark_at (m ∷ ms) i h = go (mark_at ms (i - 8)) (i / 8) refl
  where
    go : (i - 8 < 8 * length ms → get_or (mark_bits ms) (i - 8) 0 ≡ get_or ms ((i - 8) / 8) 0 / 2 ^ ((i - 8) % 8) % 2)
        → (q : ℕ) → i / 8 ≡ q → get_or (bits_of 8 m ++ mark_bits ms) i 0 ≡ get_or (m ∷ ms) (i / 8) 0 / 2 ^ (i % 8) % 2
    go ih zero e =
        let place : i % 8 ≡ i = omega arith in
        get_or-append (bits_of 8 m) (mark_bits ms) 0 i (omega (arith, length-bits 8 m)) ∙ rw (e, place) (bit_at 8 i m (omega arith))
    go ih (suc q) e =
        let octet : (i - 8) / 8 ≡ q = omega arith in
        let place : (i - 8) % 8 ≡ i % 8 = omega arith in
        let behind : i ≡ length (bits_of 8 m) + (i - 8) = omega (arith, length-bits 8 m) in
        ap (λ (n : ℕ). get_or (bits_of 8 m ++ mark_bits ms) n 0) behind ∙ get_or-append-add (bits_of 8 m) (mark_bits ms) (i - 8) 0
        ∙ ih (omega arith) ∙ rw (e, octet, place) refl

-- A mark is set where none stands.
pub mark_set : (ms : List ℕ) (i m : ℕ) → i < 8 * length ms → m ≤ 1 → get_or (mark_bits ms) i 0 ≡ 0
    → mark_bits (set ms (i / 8) (get_or ms (i / 8) 0 + m * 2 ^ (i % 8))) ≡ set (mark_bits ms) i m
mark_set [] i m h l c = absurd (omega arith)
mark_set (x ∷ ms) i m h l c = go (mark_set ms (i - 8) m) (i / 8) refl
  where
    clear : get_or (x ∷ ms) (i / 8) 0 / 2 ^ (i % 8) % 2 ≡ 0
    clear = sym (mark_at (x ∷ ms) i h) ∙ c

    go : (i - 8 < 8 * length ms → m ≤ 1 → get_or (mark_bits ms) (i - 8) 0 ≡ 0
        → mark_bits (set ms ((i - 8) / 8) (get_or ms ((i - 8) / 8) 0 + m * 2 ^ ((i - 8) % 8))) ≡ set (mark_bits ms) (i - 8) m)
        → (q : ℕ) → i / 8 ≡ q → mark_bits (set (x ∷ ms) (i / 8) (get_or (x ∷ ms) (i / 8) 0 + m * 2 ^ (i % 8))) ≡ set (bits_of 8 x ++ mark_bits ms) i m
    go ih zero e =
        let place : i % 8 ≡ i = omega arith in
        let here : x / 2 ^ i % 2 ≡ 0 = (rw (e, place) at clear) in
        rw (e, place)
        (ap (λ (l : List ℕ). l ++ mark_bits ms) (bit-set 8 i x m (omega arith) l here)
        ∙ sym (set_first (bits_of 8 x) (mark_bits ms) i m (omega (arith, length-bits 8 x))))
    go ih (suc q) e =
        let octet : (i - 8) / 8 ≡ q = omega arith in
        let place : (i - 8) % 8 ≡ i % 8 = omega arith in
        let inner : get_or (mark_bits ms) (i - 8) 0 ≡ 0 = mark_at ms (i - 8) (omega arith) ∙ rw (octet, place) (rw e at clear) in
        rw e
        (rw (octet, place) at (ap (λ (l : List ℕ). bits_of 8 x ++ l) (ih (omega arith) l inner))
        ∙ sym (set-second (bits_of 8 x) (mark_bits ms) i (i - 8) m (omega (arith, length-bits 8 x))))

-- ---- no mark

zeros_more : (k n : ℕ) → bits_of k 0 ++ replicate {A = ℕ} n 0 ≡ replicate {A = ℕ} (k + n) 0
zeros_more zero n = let same : 0 + n ≡ n = omega arith in rw same refl
zeros_more (suc k) n =
    let same : suc (k + n) ≡ suc k + n = omega arith in
    ap {B = List ℕ} (λ l. 0 ∷ l) (zeros_more k n) ∙ rw (← same) refl

no-marks : (n : ℕ) → mark_bits (replicate {A = ℕ} n 0) ≡ replicate {A = ℕ} (8 * n) 0
no-marks zero = refl
no-marks (suc n) =
    let same : 8 + 8 * n ≡ 8 * suc n = omega arith in
    ap (λ (l : List ℕ). bits_of 8 0 ++ l) (no-marks n) ∙ zeros_more 8 (8 * n) ∙ rw same refl

pub zeros-unmarked : (n : ℕ) → Unmarked (mark_bits (replicate {A = ℕ} n 0))
zeros-unmarked n = rw (no-marks n, length-replicate {A = ℕ} (8 * n) 0) refl
