-- Octets in a row as one number, low octet first, and back; a row of octets that is cut off and filled up with zeros.
use Rattle.std.specs.Prelude.{List, [], ◌∷◌, ℕ, zero, suc, ◌+◌, ◌*◌, ◌/◌, ◌%◌, get_or, drop}

-- k octets of s from place i on
abbrev pub word_at : ℕ → List ℕ → ℕ → ℕ
word_at zero s i = 0
word_at (suc k) s i = get_or s i 0 + 256 * word_at k s (i + 1)

-- the k low octets of x
abbrev pub octets_of_word : ℕ → ℕ → List ℕ
octets_of_word zero x = []
octets_of_word (suc k) x = x % 256 ∷ octets_of_word k (x / 256)

-- k octets: the first n of xs, then zeros
abbrev pub padded : ℕ → ℕ → List ℕ → List ℕ
padded zero n xs = []
padded (suc k) zero xs = 0 ∷ padded k zero (drop 1 xs)
padded (suc k) (suc n) xs = get_or xs 0 0 ∷ padded k n (drop 1 xs)
