-- Truth values: what follows from a conjunction or a disjunction. Assumes nothing.
use mathlib.Core.Path.{◌≡◌, refl}
use mathlib.Core.Logic.{◌⊎◌, inl, inr}
use mathlib.Core.Bool.{Bool, true, false, ◌&&◌, ◌||◌, beq}
use Prim.Native.Nat.{ℕ}
use native.Mathlib.Omega.{arith}

-- nothing is both
pub no_such : {A : Type 0} {b : Bool} → b ≡ false → b ≡ true → A
no_such e h = let z : ◌≡◌ {A = ℕ} 0 1 = cc in absurd (omega arith)

pub beq_refl : (b : Bool) → beq b b ≡ true
beq_refl true = refl
beq_refl false = refl

pub and_left : (a b : Bool) → (a && b) ≡ true → a ≡ true
and_left true b e = refl
and_left false b e = e

pub and_right : (a b : Bool) → (a && b) ≡ true → b ≡ true
and_right true b e = e
and_right false b e = no_such refl e

-- a conjunction that is false, where the right side is true
pub not_left : (a b : Bool) → (a && b) ≡ false → b ≡ true → a ≡ false
not_left true b e h = no_such e h
not_left false b e h = refl

-- a disjunction that is false has two false sides
pub neither : (a b : Bool) → (a || b) ≡ false → (a ≡ false) × (b ≡ false)
neither true b e = no_such e refl
neither false b e = (refl, e)

pub or_split : (a b : Bool) → (a || b) ≡ true → (a ≡ true) ⊎ (b ≡ true)
or_split true b e = inl refl
or_split false b e = inr e

pub or_more : (a b c : Bool) → (b || c) ≡ true → (a || b || c) ≡ true
or_more true b c h = refl
or_more false b c h = h
