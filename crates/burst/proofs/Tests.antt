-- A `match` on numbers, and the list or the range of them that a definition has, say the same. Assumes nothing.
use mathlib.Core.Bool.{Bool, true, false, ◌||◌}
use mathlib.Core.List.{List, [], ◌∷◌}
use mathlib.Core.Logic.{◌⊎◌, inl, inr}
use mathlib.Core.Path.{◌≡◌, refl}
use Prim.Native.Nat.{ℕ, ◌≤◌, ◌<◌}
use native.Mathlib.Omega.{arith}
use lib.Dec.{T, eqb}
use borrow.Author.Tests.{le-leb, lt-leb, eqb-true, eqb-false}
use mir.Facts.{or_yes}
use mir.Val.{has_key}
use types.Run.{OneOf, hit}
use Rattle.burst_spec.specs.Checks.{among, between}
use Rattle.burst_spec.proofs.Known.{Each, among-each}

-- what each key of an arm has, a number in that arm has
one_each : (P : ℕ → Type 0) (ks : List ℕ) (x : ℕ) → Each P ks → OneOf ks x → P x
one_each P [] x ps e = absurd e
one_each P (k ∷ []) x ps e = rw e ps.0
one_each P (k ∷ (j ∷ ks)) x ps (inl e) = rw e ps.0
one_each P (k ∷ (j ∷ ks)) x ps (inr r) = one_each P (j ∷ ks) x ps.1 r

pub among-yes : (ks ys : List ℕ) (x : ℕ) → Each (λ k. among k ys ≡ true) ks → OneOf ks x → among x ys ≡ true
among-yes ks ys x ps e = one_each (λ k. among k ys ≡ true) ks x ps e

-- a number that is no key of the arm and fails the arm's other test is not in a list whose numbers each are or do one
pub none-among : (ks ys : List ℕ) (q : ℕ → Bool) (x : ℕ) → Each (λ y. T (has_key ks y || q y)) ys
    → (OneOf ks x → ⊥) → q x ≡ false → among x ys ≡ false
none-among ks ys q x ps none other = go (among x ys) refl
  where
    neither : T (has_key ks x) ⊎ T (q x) → ⊥
    neither (inl h) = none (hit ks x h)
    neither (inr h) = rw other at h

    go : (t : Bool) → among x ys ≡ t → t ≡ false
    go true e = absurd (neither (or_yes (has_key ks x) (q x) (among-each (λ y. T (has_key ks y || q y)) x ys ps e)))
    go false e = refl

-- 1 | 2 is tested as a range
pub one_or_two : (ys : List ℕ) (x : ℕ) → Each (λ k. among k ys ≡ true) (1 ∷ 2 ∷ []) → 1 ≤ x → x < 3 → among x ys ≡ true
one_or_two ys x ps l h = go (eqb x 1) refl
  where
    go : (t : Bool) → eqb x 1 ≡ t → among x ys ≡ true
    go true e = rw (eqb-true x 1 e) ps.0
    go false e =
        let ne : x ≡ 1 → ⊥ = eqb-false x 1 e in
        let two : x ≡ 2 = omega (arith, ne) in
        rw two ps.1.0

module _ (low high x : ℕ) where
  pub between-yes : low ≤ x → x ≤ high → between low high x ≡ true
  between-yes l h = rw (le-leb low x l) (le-leb x high h)

  pub between_below : x < low → between low high x ≡ false
  between_below l = rw (lt-leb low x l)

  pub between-above : low ≤ x → high < x → between low high x ≡ false
  between-above l h = rw (le-leb low x l) (lt-leb x high h)
