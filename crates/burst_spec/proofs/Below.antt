-- What `some_below` says: whether some number below n has the property. Assumes nothing.
use mathlib.Core.Bool.{Bool, true, false, ◌||◌}
use mathlib.Core.Path.{◌≡◌, refl, sym, ap, ◌∙◌}
use Prim.Native.Nat.{ℕ, zero, suc, ◌<◌}
use native.Mathlib.Decide.{dec_lt}
use native.Mathlib.Omega.{arith}
use Rattle.burst_spec.specs.Checks.{some_below}
use Rattle.burst_spec.proofs.Known.{clash, or-false}

pub none_below : (n : ℕ) (p : ℕ → Bool) → ((k : ℕ) → k < n → p k ≡ false) → some_below n p ≡ false
unfolding some_below
none_below zero p h = refl
none_below (suc n) p h = rw (h n (omega arith)) (none_below n p (λ k l. h k (omega arith)))

pub each_below : (n : ℕ) (p : ℕ → Bool) → some_below n p ≡ false → (k : ℕ) → k < n → p k ≡ false
unfolding some_below
each_below zero p e k l = absurd (omega arith)
each_below (suc n) p e k l = go (or-false _ _ e) (each_below n p) (dec_lt k n)
  where
    go : (p n ≡ false) × (some_below n p ≡ false) → (some_below n p ≡ false → (j : ℕ) → j < n → p j ≡ false) → Dec (k < n) → p k ≡ false
    go h rest (yes below) = rest h.1 k below
    go h rest (no above) = let same : k ≡ n = omega arith in rw same h.0

pub found_below : (n : ℕ) (p : ℕ → Bool) → some_below n p ≡ true → (k : ℕ) × (k < n) × (p k ≡ true)
unfolding some_below
found_below zero p e = absurd (clash cc)
found_below (suc n) p e = go (p n) refl (found_below n p)
  where
    go : (t : Bool) → p n ≡ t → (some_below n p ≡ true → (k : ℕ) × (k < n) × (p k ≡ true)) → (k : ℕ) × (k < suc n) × (p k ≡ true)
    go true f rest = (n, omega arith, f)
    go false f rest =
        let found : (k : ℕ) × (k < n) × (p k ≡ true) = rest (sym (ap (λ t. t || some_below n p) f) ∙ e) in
        (found.0, omega (arith, found.1), found.2)
