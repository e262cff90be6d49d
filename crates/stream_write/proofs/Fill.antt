-- A part of a list that is written from its end to its front. Assumes nothing.
use mathlib.Core.Path.{◌≡◌, ap, ◌∙◌}
use mathlib.Core.List.{List, [], ◌∷◌, ◌++◌, append_assoc}
use Prim.Native.Nat.{ℕ, ◌+◌, ◌≤◌}
use native.Mathlib.Numerals.{add-one}
use native.Mathlib.Omega.{arith}
use lib.ListN.{length, get_or, take, set}
use lib.Seq.{take-suc, length-take-le, set_at}

-- one element more in front of what is written
pub fill_down : (o xs out : List ℕ) (a b y : ℕ) → b ≡ a + 1 → b ≤ length o → out ≡ take b o ++ xs
    → set out a y ≡ take a o ++ y ∷ xs
fill_down o xs out a b y e h f =
    rw (f, e, add-one a, take-suc o a 0 (omega arith))
    (ap (λ (l : List ℕ). set l a y) (append_assoc (take a o) (get_or o a 0 ∷ []) xs)
    ∙ set_at (take a o) (get_or o a 0) xs y a (length-take-le a o (omega arith)))
