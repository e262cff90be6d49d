-- Lanes in a word, closed up by a row of the sieve and stored, are the kept lanes. Assumes nothing.
use mathlib.Core.Path.{◌≡◌, sym, ap, ◌∙◌}
use mathlib.Core.List.{List, ◌++◌}
use Prim.Native.Nat.{ℕ, ◌+◌, ◌-◌, ◌*◌, ◌/◌, ◌%◌, ◌^◌, ◌≤◌, ◌<◌}
use native.Mathlib.Omega.{arith}
use lib.Pow.{pow-add}
use lib.ListN.{length, get_or, drop}
use lib.Seq.{drop-drop}
use Rattle.words.specs.Splice.{splice}
use Rattle.words.specs.Words.{word_at, octets_of_word, padded}
use Rattle.words.proofs.Words.{low-octets, word-octets}
use Rattle.repack_sieve.specs.declared.Row.{Row}
use Rattle.repack_sieve.specs.Kept.{kept_octets, Collected}
use Rattle.repack_sieve.specs.Sieve.{closing, row_of, sieve_rows}
use Rattle.repack_sieve.proofs.Kept.{kept_split, kept-bits, kept-padded, collected_as, collected_on, stored_kept}
use Rattle.repack_sieve.proofs.Masks.{Closes, Right, rows, closing_less, closing_halves, four_closed}

-- ---- by a row of the sieve

pub row_read : (s : List Row) (keep : ℕ) → s ≡ sieve_rows → Right (keep % 16) (get_or s (keep % 16) (row_of 0 0 0 0))
row_read s keep e = rw e (rows (keep % 16) (omega arith))

-- four lanes
half : (at x y keep kept odd far n : ℕ) (o after : List ℕ) → Closes (keep % 16) kept odd far n → at + 4 ≤ length o → x < 0x1_0000_0000
    → y ≡ closing x kept odd far → after ≡ splice at (octets_of_word 4 y) o → Collected 4 keep (octets_of_word 4 x) o at after (at + n)
half at x y keep kept odd far n o after r h l e f =
    stored_kept 4 keep at n (octets_of_word 4 x) (octets_of_word 4 y) o after h r.count
    (rw e (four_closed x (keep % 16) kept odd far n l r) ∙ kept-bits 4 keep (octets_of_word 4 x)) f

pub sifted4 : (at x y keep kept odd far n : ℕ) (o after : List ℕ) → Closes (keep % 16) kept odd far n → at + 4 ≤ length o → x < 0x1_0000_0000
    → y ≡ closing x kept odd far → after ≡ splice at (octets_of_word 4 (y % 0x1_0000_0000)) o
    → Collected 4 keep (octets_of_word 4 x) o at after (at + n)
sifted4 at x y keep kept odd far n o after r h l e f =
    half at x (y % 0x1_0000_0000) keep kept odd far n o after r h l (omega (arith, e, closing_less x kept odd far)) f

-- a word's lanes are those of its halves
kept_halves : (x keep : ℕ) → kept_octets 8 keep (octets_of_word 8 x)
    ≡ kept_octets 4 keep (octets_of_word 4 (x % 0x1_0000_0000)) ++ kept_octets 4 (keep / 16) (octets_of_word 4 (x / 0x1_0000_0000))
kept_halves x keep =
    let high : x / 0x1_0000_0000 ≡ x / 256 / 256 / 256 / 256 = omega arith in
    kept_split 4 4 keep (octets_of_word 8 x)
    ∙ ap (λ (l : List ℕ). kept_octets 4 keep l ++ kept_octets 4 (keep / 16) (octets_of_word 4 (x / 256 / 256 / 256 / 256))) (sym (low-octets 4 4 x))
    ∙ ap (λ (h : ℕ). kept_octets 4 keep (octets_of_word 4 (x % 0x1_0000_0000)) ++ kept_octets 4 (keep / 16) (octets_of_word 4 h)) (sym high)

-- eight lanes
pub sifted8 : (at to x y keep kept odd far n kept' odd' far' n' a b c : ℕ) (o o1 o2 : List ℕ) → Closes (keep % 16) kept odd far n
    → Closes (keep / 16 % 16) kept' odd' far' n' → at + 8 ≤ length o → x < 2 ^ 64 → a ≡ kept + 0x1_0000_0000 * kept' → b ≡ odd + 0x1_0000_0000 * odd'
    → c ≡ far + 0x1_0000_0000 * far' → y ≡ closing x a b c → o1 ≡ splice at (octets_of_word 4 (y % 0x1_0000_0000)) o
    → to ≡ at + n → o2 ≡ splice to (octets_of_word 4 (y / 0x1_0000_0000)) o1 → Collected 8 keep (octets_of_word 8 x) o at o2 (to + n')
sifted8 at to x y keep kept odd far n kept' odd' far' n' a b c o o1 o2 r s h l ea eb ec ey f t g =
    let whole : x ≡ x % 0x1_0000_0000 + 0x1_0000_0000 * (x / 0x1_0000_0000) = omega arith in
    let two : y ≡ closing (x % 0x1_0000_0000) kept odd far + 0x1_0000_0000 * closing (x / 0x1_0000_0000) kept' odd' far' =
    ey ∙ rw (ea, eb, ec)
    (ap (λ (w : ℕ). closing w (kept + 0x1_0000_0000 * kept') (odd + 0x1_0000_0000 * odd') (far + 0x1_0000_0000 * far')) whole
    ∙ closing_halves (x % 0x1_0000_0000) (x / 0x1_0000_0000) (keep % 16) kept odd far n (keep / 16 % 16) kept' odd' far' n' (omega arith) r s) in
    let small = closing_less (x % 0x1_0000_0000) kept odd far in
    let low : Collected 4 keep (octets_of_word 4 (x % 0x1_0000_0000)) o at o1 to =
    rw t
    (half at (x % 0x1_0000_0000) (y % 0x1_0000_0000) keep kept odd far n o o1 r (omega arith) (omega arith) (omega (arith, two, small)) f) in
    collected_on 4 4 8 keep (keep / 16) keep at to (to + n') (octets_of_word 4 (x % 0x1_0000_0000)) (octets_of_word 4 (x / 0x1_0000_0000)) (octets_of_word 8 x) o o1 o2
    (omega arith) (kept_halves x keep) low
    (half to (x / 0x1_0000_0000) (y / 0x1_0000_0000) (keep / 16) kept' odd' far' n' o1 o2 s (omega (arith, t, low.same, r.count)) (omega arith) (omega (arith, two, small)) g)

-- ---- the lanes of a take

-- up to k lanes, which end where the word's octets end
pub few-lanes : (k w from keep at r x : ℕ) (input o after : List ℕ) → w ≤ k → at + k ≤ length o → keep < 2 ^ w
    → octets_of_word k x ≡ padded k w (drop (from + w - w) input) → Collected k keep (octets_of_word k x) o at after r
    → Collected w keep (drop from input) o at after r
few-lanes k w from keep at r x input o after h l m e f =
    let there : from + w - w ≡ from = omega arith in
    collected_as k w keep keep at r (octets_of_word k x) (drop from input) o after l (sym (rw (e, there) (kept-padded k w keep (drop from input) h m))) f

-- eight lanes and up to eight more
pub many-lanes : (w from keep at n r x y : ℕ) (input o o1 o2 : List ℕ) → ((j : ℕ) → get_or input j 0 < 256) → 8 ≤ w → w ≤ 16
    → at + 16 ≤ length o → keep < 2 ^ w → x ≡ word_at 8 input from → octets_of_word 8 y ≡ padded 8 (w - 8) (drop (from + w - (w - 8)) input)
    → Collected 8 (keep % 256) (octets_of_word 8 x) o at o1 n → Collected 8 (keep / 256) (octets_of_word 8 y) o1 n o2 r
    → Collected w keep (drop from input) o at o2 r
many-lanes w from keep at n r x y input o o1 o2 octets h h' l m ex ey f g =
    let all : 8 + (w - 8) ≡ w = omega arith in
    let there : from + w - (w - 8) ≡ from + 8 = omega arith in
    let power : 2 ^ (8 + (w - 8)) ≡ 256 * 2 ^ (w - 8) = pow-add 2 8 (w - 8) in
    let less : keep / 256 < 2 ^ (w - 8) = omega (arith, rw all at power, m) in
    let low : kept_octets 8 (keep % 256) (octets_of_word 8 x) ≡ kept_octets 8 keep (drop from input) =
    ap (kept_octets 8 (keep % 256)) (ap (octets_of_word 8) ex ∙ word-octets 8 input from octets)
    ∙ kept-padded 8 8 (keep % 256) (drop from input) (omega arith) (omega arith)
    ∙ kept-bits 8 keep (drop from input) in
    let high : kept_octets 8 (keep / 256) (octets_of_word 8 y) ≡ kept_octets (w - 8) (keep / 256) (drop (from + 8) input) =
    ap (kept_octets 8 (keep / 256)) (rw there at ey) ∙ kept-padded 8 (w - 8) (keep / 256) (drop (from + 8) input) (omega arith) less in
    let split : kept_octets w keep (drop from input) ≡ kept_octets 8 keep (drop from input) ++ kept_octets (w - 8) (keep / 256) (drop (from + 8) input) =
    rw all at (rw (drop-drop 8 from input) at (kept_split 8 (w - 8) keep (drop from input))) in
    collected_on 8 8 w (keep % 256) (keep / 256) keep at n r (octets_of_word 8 x) (octets_of_word 8 y) (drop from input) o o1 o2 (omega arith)
    (split
    ∙ ap (λ (l : List ℕ). l ++ kept_octets (w - 8) (keep / 256) (drop (from + 8) input)) (sym low)
    ∙ ap (λ (l : List ℕ). kept_octets 8 (keep % 256) (octets_of_word 8 x) ++ l) (sym high))
    f g
