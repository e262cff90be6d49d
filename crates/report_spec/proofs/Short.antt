-- How long lines and texts are, at most: a number of 64 bits has 20 digits. Assumes nothing.
use mathlib.Core.List.{List, [], ◌∷◌, ◌++◌}
use Prim.Native.Nat.{ℕ, ◌+◌, ◌^◌, ◌≤◌, ◌<◌}
use native.Mathlib.Omega.{arith}
use lib.ListN.{length, length-append}
use Rattle.text.specs.Text.{decimal, line, lf}
use Rattle.text.proofs.Laws.{decimal_20}

pub line-short : (key : List ℕ) (n : ℕ) → n < 2 ^ 64 → length (line key n) ≤ length key + 21
line-short key n h =
    omega (arith, decimal_20 n h, length-append key (decimal n ++ (lf ∷ [])), length-append (decimal n) (lf ∷ []))

pub two-short : (head k₁ k₂ : List ℕ) (n₁ n₂ : ℕ) → n₁ < 2 ^ 64 → n₂ < 2 ^ 64
    → length (head ++ line k₁ n₁ ++ line k₂ n₂) ≤ length head + length k₁ + length k₂ + 42
two-short head k₁ k₂ n₁ n₂ f g =
    omega (
      arith,
      length-append (head ++ line k₁ n₁) (line k₂ n₂),
      length-append head (line k₁ n₁),
      line-short k₁ n₁ f,
      line-short k₂ n₂ g,
    )

pub three_short : (head k₁ k₂ k₃ : List ℕ) (n₁ n₂ n₃ : ℕ) → n₁ < 2 ^ 64 → n₂ < 2 ^ 64 → n₃ < 2 ^ 64
    → length (head ++ line k₁ n₁ ++ line k₂ n₂ ++ line k₃ n₃) ≤ length head + length k₁ + length k₂ + length k₃ + 63
three_short head k₁ k₂ k₃ n₁ n₂ n₃ f g h =
    omega (
      arith,
      length-append (head ++ line k₁ n₁ ++ line k₂ n₂) (line k₃ n₃),
      two-short head k₁ k₂ n₁ n₂ f g,
      line-short k₃ n₃ h,
    )
