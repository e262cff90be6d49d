-- The octets of a number that was loaded, with zeros above them. Assumes nothing.
use mathlib.Core.Path.{◌≡◌, refl}
use mathlib.Core.List.{List}
use Prim.Native.Nat.{ℕ, zero, suc, ◌+◌, ◌*◌, ◌/◌, ◌%◌, ◌≤◌, ◌<◌}
use native.Mathlib.Nat.{add-zero}
use native.Mathlib.Omega.{arith}
use lib.ListN.{get_or, drop}
use lib.Seq.{get_or-drop, drop-drop}
use Rattle.words.specs.Words.{word_at, octets_of_word, padded}
use Rattle.words.proofs.Words.{zero-octets}

module _ (s : List ℕ) (octets : (j : ℕ) → get_or s j 0 < 256) where
  -- a word of n octets as one of more
  wider : (k n i : ℕ) → n ≤ k → octets_of_word k (word_at n s i) ≡ padded k n (drop i s)
  wider k zero i h = zero-octets k (drop i s)
  wider zero (suc n) i h = absurd (omega arith)
  wider (suc k) (suc n) i h =
      let low : (get_or s i 0 + 256 * word_at n s (i + 1)) % 256 ≡ get_or s i 0 = omega (arith, octets i) in
      let high : (get_or s i 0 + 256 * word_at n s (i + 1)) / 256 ≡ word_at n s (i + 1) = omega (arith, octets i) in
      rw (low, high, wider k n (i + 1) (omega arith), get_or-drop i s 0 0, add-zero i, drop-drop 1 i s) refl

  -- so are the octets of a number that was loaded
  pub loaded-octets : (k n i x : ℕ) → n ≤ k → x ≡ word_at n s i → octets_of_word k x ≡ padded k n (drop i s)
  loaded-octets k n i x h e = rw e (wider k n i h)
