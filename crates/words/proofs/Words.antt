-- A word's octets are those it was read from; of a word that is cut off they are the first ones, then zeros; two
-- overlapping groups make one row. Assumes nothing.
use mathlib.Core.Path.{◌≡◌, refl, ap, ◌∙◌}
use mathlib.Core.List.{List, [], ◌∷◌, ◌++◌}
use Prim.Native.Nat.{ℕ, zero, suc, ◌+◌, ◌-◌, ◌*◌, ◌/◌, ◌%◌, ◌^◌, ◌≤◌, ◌<◌}
use native.Mathlib.Nat.{add-mul-div_left, div-eq_of_lt, add-zero, one-mul, mul_assoc, mod-eq_of_lt}
use native.Mathlib.Omega.{arith}
use lib.Pow.{mod-pow-add, pow-add, pow_pos, pow-lt}
use lib.ListN.{length, get_or, take, drop, length-drop}
use lib.Seq.{drop-drop, get_or-drop}
use Rattle.std.proofs.lemmas.List.{take_all}
use Rattle.words.specs.Splice.{splice}
use Rattle.words.specs.Words.{word_at, octets_of_word, padded}
use Rattle.words.proofs.Splice.{splice_over}

-- ---- words and octets

pub word-octets : (k : ℕ) (s : List ℕ) (i : ℕ) → ((j : ℕ) → get_or s j 0 < 256) → octets_of_word k (word_at k s i) ≡ padded k k (drop i s)
word-octets zero s i h = refl
word-octets (suc k) s i h =
    let low : (get_or s i 0 + 256 * word_at k s (i + 1)) % 256 ≡ get_or s i 0 = omega (arith, h i) in
    let high : (get_or s i 0 + 256 * word_at k s (i + 1)) / 256 ≡ word_at k s (i + 1) = omega (arith, h i) in
    rw (low, high, word-octets k s (i + 1) h, get_or-drop i s 0 0, add-zero i, drop-drop 1 i s) refl

-- a row that is long enough is not filled up
pub padded-take : (k : ℕ) (xs : List ℕ) → k ≤ length xs → padded k k xs ≡ take k xs
padded-take zero xs h = refl
padded-take (suc k) [] h = absurd (omega arith)
padded-take (suc k) (x ∷ xs) h = ap {B = List ℕ} (λ l. x ∷ l) (padded-take k xs (omega arith))

-- so a word's octets are those that stand there
pub word-take : (k : ℕ) (s : List ℕ) (i : ℕ) → ((j : ℕ) → get_or s j 0 < 256) → i + k ≤ length s → octets_of_word k (word_at k s i) ≡ take k (drop i s)
word-take k s i octets h = word-octets k s i octets ∙ padded-take k (drop i s) (omega (arith, length-drop i s))

-- the word at a place is the word at the front of what stands there
pub word-drop : (k a : ℕ) (xs : List ℕ) (i : ℕ) → word_at k xs (a + i) ≡ word_at k (drop a xs) i
word-drop zero a xs i = refl
word-drop (suc k) a xs i =
    let next : a + i + 1 ≡ a + (i + 1) = omega arith in
    rw (get_or-drop a xs i 0, next, word-drop k a xs (i + 1)) refl

-- so it is the word at the front of the rest
pub word_rest : (k i : ℕ) (s : List ℕ) → word_at k (take (length s - i) (drop i s)) 0 ≡ word_at k s i
word_rest k i s =
    let rest : take (length s - i) (drop i s) ≡ drop i s = take_all (length s - i) (drop i s) (omega (arith, length-drop i s)) in
    rw (rest, ← word-drop k i s 0, add-zero i) refl

-- a number that k octets hold comes back from them
pub word_back : (k n : ℕ) → n < 2 ^ (8 * k) → word_at k (octets_of_word k n) 0 ≡ n
word_back zero n h = omega arith
word_back (suc k) n h =
    let eight : 8 * suc k ≡ 8 * k + 8 = omega arith in
    let high : 2 ^ (8 * suc k) ≡ 2 ^ (8 * k) * 256 = rw eight (pow-add 2 (8 * k) 8) in
    let rest : word_at k (octets_of_word k (n / 256)) 0 ≡ n / 256 = word_back k (n / 256) (omega (arith, high)) in
    rw (word-drop k 1 (octets_of_word (suc k) n) 0, rest) (omega arith)

-- octets make a number that they hold
pub word_fits : (k : ℕ) (s : List ℕ) (i : ℕ) → ((j : ℕ) → get_or s j 0 < 256) → word_at k s i < 2 ^ (8 * k)
word_fits zero s i h = omega arith
word_fits (suc k) s i h =
    let eight : 8 * suc k ≡ 8 * k + 8 = omega arith in
    let high : 2 ^ (8 * suc k) ≡ 2 ^ (8 * k) * 256 = rw eight (pow-add 2 (8 * k) 8) in
    omega (arith, high, h i, word_fits k s (i + 1) h)

pub length-padded : (k n : ℕ) (xs : List ℕ) → length (padded k n xs) ≡ k
length-padded zero n xs = refl
length-padded (suc k) zero xs = ap suc (length-padded k zero (drop 1 xs))
length-padded (suc k) (suc n) xs = ap suc (length-padded k n (drop 1 xs))

pub length-octets : (k x : ℕ) → length (octets_of_word k x) ≡ k
length-octets zero x = refl
length-octets (suc k) x = ap suc (length-octets k (x / 256))

-- what is left away was not looked at
pub padded-padded : (k n : ℕ) (xs : List ℕ) → padded k n (padded k k xs) ≡ padded k n xs
padded-padded zero n xs = refl
padded-padded (suc k) zero xs = ap {B = List ℕ} (λ l. 0 ∷ l) (padded-padded k zero (drop 1 xs))
padded-padded (suc k) (suc n) xs = ap {B = List ℕ} (λ l. get_or xs 0 0 ∷ l) (padded-padded k n (drop 1 xs))

pub zero-octets : (k : ℕ) (xs : List ℕ) → octets_of_word k 0 ≡ padded k zero xs
zero-octets zero xs = refl
zero-octets (suc k) xs = ap {B = List ℕ} (λ l. 0 ∷ l) (zero-octets k (drop 1 xs))

-- all of them are wanted
pub padded-all : (k n : ℕ) (x : ℕ) → k ≤ n → octets_of_word k x ≡ padded k n (octets_of_word k x)
padded-all zero n x h = refl
padded-all (suc k) zero x h = absurd (omega arith)
padded-all (suc k) (suc n) x h = ap {B = List ℕ} (λ l. x % 256 ∷ l) (padded-all k n (x / 256) (omega arith))

-- a word that is cut off after n octets
pub low-octets : (k n x : ℕ) → octets_of_word k (x % 2 ^ (8 * n)) ≡ padded k n (octets_of_word k x)
low-octets zero n x = refl
low-octets (suc k) zero x =
    let none : x % 2 ^ (8 * 0) ≡ 0 = omega arith in
    rw none (zero-octets (suc k) (octets_of_word (suc k) x))
low-octets (suc k) (suc n) x =
    let more : 8 * suc n ≡ 8 * n + 8 = omega arith in
    let split : x % 2 ^ (8 * n + 8) ≡ (x / 256 % 2 ^ (8 * n)) * 256 + x % 256 = mod-pow-add x (8 * n) 8 in
    let low : ((x / 256 % 2 ^ (8 * n)) * 256 + x % 256) % 256 ≡ x % 256 = omega arith in
    let high : ((x / 256 % 2 ^ (8 * n)) * 256 + x % 256) / 256 ≡ x / 256 % 2 ^ (8 * n) = omega arith in
    rw (more, split, low, high) (ap {B = List ℕ} (λ l. x % 256 ∷ l) (low-octets k n (x / 256)))

-- ---- halves

-- a word is its first octets and the others, moved up by as many
pub word_split : (a b : ℕ) (s : List ℕ) (i : ℕ) → word_at (a + b) s i ≡ word_at a s i + 2 ^ (8 * a) * word_at b s (i + a)
word_split zero b s i =
    let none : 0 + b ≡ b = omega arith in
    rw (none, add-zero i) (omega arith)
word_split (suc a) b s i =
    let one : suc a + b ≡ suc (a + b) = omega arith in
    let past : i + suc a ≡ i + 1 + a = omega arith in
    let eight : 8 * suc a ≡ 8 + 8 * a = omega arith in
    let high : 2 ^ (8 * suc a) ≡ 256 * 2 ^ (8 * a) = rw eight (pow-add 2 8 (8 * a)) in
    rw (one, past, high) (omega (arith, word_split a b s (i + 1), mul_assoc 256 (2 ^ (8 * a)) (word_at b s (i + 1 + a))))

-- a word whose first octets are shifted out
pub word_shifted : (a b : ℕ) (s : List ℕ) (i : ℕ) → ((j : ℕ) → get_or s j 0 < 256) → word_at (a + b) s i / 2 ^ (8 * a) ≡ word_at b s (i + a)
word_shifted a b s i h =
    let split = add-mul-div_left (word_at a s i) (word_at b s (i + a)) (pow_pos (8 * a)) in
    rw (word_split a b s i, split, div-eq_of_lt (word_fits a s i h)) (omega arith)

-- so the last n of k octets before place e are a word
pub word_before : (k n e size x y : ℕ) (s : List ℕ) → ((j : ℕ) → get_or s j 0 < 256) → n ≤ k → k ≤ e → size ≡ k → x ≡ word_at k s (e - size)
    → y ≡ x / 2 ^ (8 * (k - n)) → y ≡ word_at n s (e - n)
word_before k n e size x y s h r t d f g =
    let all : k - n + n ≡ k = omega arith in
    let there : e - k + (k - n) ≡ e - n = omega arith in
    g ∙ rw (f, d) (rw (all, there) at (word_shifted (k - n) n s (e - k) h))

-- ---- rows

-- a row is its first octets and the others
pub padded_split : (a b n : ℕ) (xs : List ℕ) → padded (a + b) n xs ≡ padded a n xs ++ padded b (n - a) (drop a xs)
padded_split zero b n xs =
    let none : 0 + b ≡ b = omega arith in
    let all : n - 0 ≡ n = omega arith in
    rw (none, all) refl
padded_split (suc a) b zero xs =
    let one : suc a + b ≡ suc (a + b) = omega arith in
    let none : 0 - suc a ≡ 0 - a = omega arith in
    let past : suc a ≡ 1 + a = omega arith in
    rw (one, none) (ap {B = List ℕ} (λ l. 0 ∷ l) (padded_split a b zero (drop 1 xs) ∙ rw (drop-drop a 1 xs, ← past) refl))
padded_split (suc a) b (suc n) xs =
    let one : suc a + b ≡ suc (a + b) = omega arith in
    let less : suc n - suc a ≡ n - a = omega arith in
    let past : suc a ≡ 1 + a = omega arith in
    rw (one, less) (ap {B = List ℕ} (λ l. get_or xs 0 0 ∷ l) (padded_split a b n (drop 1 xs) ∙ rw (drop-drop a 1 xs, ← past) refl))

pub take-padded : (a k n : ℕ) (xs : List ℕ) → a ≤ k → take a (padded k n xs) ≡ padded a n xs
take-padded zero k n xs h = refl
take-padded (suc a) zero n xs h = absurd (omega arith)
take-padded (suc a) (suc k) zero xs h = ap {B = List ℕ} (λ l. 0 ∷ l) (take-padded a k zero (drop 1 xs) (omega arith))
take-padded (suc a) (suc k) (suc n) xs h = ap {B = List ℕ} (λ l. get_or xs 0 0 ∷ l) (take-padded a k n (drop 1 xs) (omega arith))

-- ---- rows in memory

module _ (s : List ℕ) (at : ℕ) where
  -- a part of a row over the end of another part
  pub row_on : (xs : List ℕ) (n k j a : ℕ) → a ≤ k → k ≤ a + j → at + (a + j) ≤ length s
      → splice (at + a) (padded j (n - a) (drop a xs)) (splice at (padded k n xs) s) ≡ splice at (padded (a + j) n xs) s
  row_on xs n k j a h l r =
      let k-long = length-padded k n xs in
      let j-long = length-padded j (n - a) (drop a xs) in
      splice_over at a (padded k n xs) (padded j (n - a) (drop a xs)) s (omega (arith, k-long)) (omega (arith, k-long, j-long)) (omega (arith, j-long))
      ∙ rw (take-padded a k n xs h, ← padded_split a j n xs) refl

-- ---- what the code computes

-- a one shifted left, where it stays below the top
pub shifted : (top n : ℕ) → 8 * n < top → 1 * 2 ^ (8 * n) % 2 ^ top ≡ 2 ^ (8 * n)
shifted top n h = rw (one-mul (2 ^ (8 * n))) (mod-eq_of_lt (pow-lt h))

pub shifted_some : (top n : ℕ) → 8 * n < top → 0 < 1 * 2 ^ (8 * n) % 2 ^ top
shifted_some top n h = rw (shifted top n h) (pow_pos (8 * n))

-- the first n octets of a word that was loaded, stored
pub first_stored : (k n x y i at : ℕ) (s to out : List ℕ) → ((j : ℕ) → get_or s j 0 < 256) → x ≡ word_at k s i
    → octets_of_word k y ≡ padded k n (octets_of_word k x) → out ≡ splice at (octets_of_word k y) to → out ≡ splice at (padded k n (drop i s)) to
first_stored k n x y i at s to out h e f g = g ∙ rw (f, e, word-octets k s i h, padded-padded k n (drop i s)) refl

-- k octets, then the last k of v, which may overlap them
pub rows : (s xs out1 out2 : List ℕ) (at n k v last m : ℕ) → k ≤ v → v ≤ 2 * k → at + v ≤ length s → last ≡ v - k → m ≡ n - last
    → out1 ≡ splice at (padded k n xs) s → out2 ≡ splice (at + last) (padded k m (drop last xs)) out1 → out2 ≡ splice at (padded v n xs) s
rows s xs out1 out2 at n k v last m h l r d e f g =
    let all : last + k ≡ v = omega (arith, d) in
    g ∙ rw (f, e) (row_on s at xs n k k last (omega arith) (omega (arith, d)) (omega (arith, d)) ∙ rw all refl)
