-- Digits: the octets 48 to 57, and no other. Assumes nothing.
use mathlib.Core.Bool.{Bool, true, false, ◌&&◌}
use mathlib.Core.Path.{◌≡◌, refl}
use Prim.Native.Nat.{ℕ, ◌≤◌, ◌<◌}
use native.Mathlib.Omega.{arith}
use lib.Dec.{leb}
use borrow.Author.Tests.{le-leb, lt-leb, leb-true}
use Rattle.report_setup_spec.specs.Grammar.{is_digit}

pub digit-yes : (x : ℕ) → 48 ≤ x → x ≤ 57 → is_digit x ≡ true
digit-yes x l h = rw (le-leb 48 x l) (le-leb x 57 h)

pub digit_below : (x : ℕ) → x < 48 → is_digit x ≡ false
digit_below x l = rw (lt-leb 48 x l)

pub digit-above : (x : ℕ) → 48 ≤ x → 57 < x → is_digit x ≡ false
digit-above x l h = rw (le-leb 48 x l) (lt-leb x 57 h)

pub both : (a b : Bool) → (a && b) ≡ true → (a ≡ true) × (b ≡ true)
both true b e = (refl, e)
both false b e = let z : ◌≡◌ {A = ℕ} 0 1 = cc in absurd (omega arith)

pub digit_range : (x : ℕ) → is_digit x ≡ true → (48 ≤ x) × (x ≤ 57)
digit_range x e =
    let p : (leb 48 x ≡ true) × (leb x 57 ≡ true) = both (leb 48 x) (leb x 57) e in
    (leb-true 48 x p.0, leb-true x 57 p.1)
