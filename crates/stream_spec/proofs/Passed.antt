-- What the tests in front of a call let through, both ways: a width, a shape with the width of an output, a length, and a
-- take. A new test of a shape is one field and one line here. Assumes nothing.
use Rattle.std.specs.Prelude.{None}
use mathlib.Core.Path.{◌≡◌, refl}
use mathlib.Core.Bool.{false, not}
use mathlib.Core.List.{List, [], ◌∷◌, ◌++◌}
use Prim.Native.Nat.{ℕ, ◌%◌, ◌≤◌}
use native.Mathlib.Omega.{arith}
use borrow.Author.Tests.{eqb-false, eqb-true, ltb-false, le-ltb, eq-eqb, ne_eqb, not-false}
use lib.Dec.{eqb, ltb}
use lib.ListN.{length}
use Rattle.refusal.specs.Checks.{Check, first}
use Rattle.refusal.specs.declared.Refusal.{Refusal}
use Rattle.refusal.proofs.First.{first-none, none_first, append-none, none-append}
use Rattle.stream_spec.specs.declared.Shape.{Shape}
use Rattle.stream_spec.specs.Layout.{width_most, user_most, size}
use Rattle.stream_spec.specs.Checks.{width_check, user_check, shape_checks, capture_most, length_check, take_checks}
use Rattle.stream_spec.specs.Walk.{Narrow, Passed}
use Rattle.stream_spec.proofs.Bools.{neither}

-- ---- a width

pub record WidthFits (w : ℕ) : Type 0 where
  pub low : 1 ≤ w
  pub high : w ≤ width_most

pub width_fits : (w : ℕ) → (width_check w).found ≡ false → WidthFits w
width_fits w e =
    let h = neither (eqb w 0) (ltb width_most w) e in
    let positive : w ≡ 0 → ⊥ = eqb-false w 0 h.0 in
    record { low = omega arith; high = ltb-false width_most w h.1 }

pub fits_width : (w : ℕ) → WidthFits w → (width_check w).found ≡ false
fits_width w h = rw (ne_eqb w 0 (omega (arith, h.low)), le-ltb width_most w h.high) refl

-- ---- a shape, and perhaps the width of an output

pub record ShapeFits (s : Shape) : Type 0 where
  pub low : 1 ≤ s.width
  pub high : s.width ≤ width_most
  pub user : s.user ≤ user_most

-- its two checks
shape_of : (s : Shape) → (width_check s.width).found ≡ false → first (user_check s ∷ []) ≡ None → ShapeFits s
shape_of s e u =
    let w = width_fits s.width e in
    record { low = w.low; high = w.high; user = ltb-false user_most s.user (first-none (user_check s) [] u).0 }

of_width : (s : Shape) → ShapeFits s → (width_check s.width).found ≡ false
of_width s h = fits_width s.width (record { low = h.low; high = h.high })

of_user : (s : Shape) → ShapeFits s → first (user_check s ∷ []) ≡ None
of_user s h = none_first (user_check s) [] (le-ltb user_most s.user h.user) refl

pub shape-fits : (s : Shape) → first (shape_checks s []) ≡ None → ShapeFits s
shape-fits s e = let w = first-none (width_check s.width) (user_check s ∷ []) e in shape_of s w.0 w.1

pub fits-shape : (s : Shape) → ShapeFits s → first (shape_checks s []) ≡ None
fits-shape s h = none_first (width_check s.width) (user_check s ∷ []) (of_width s h) (of_user s h)

pub shapes_fit : (s : Shape) (v : ℕ) → first (shape_checks s (v ∷ [])) ≡ None → ShapeFits s × WidthFits v
shapes_fit s v e =
    let w = first-none (width_check s.width) (width_check v ∷ user_check s ∷ []) e in
    let o = first-none (width_check v) (user_check s ∷ []) w.1 in
    (shape_of s w.0 o.1, width_fits v o.0)

pub fits-shapes : (s : Shape) (v : ℕ) → ShapeFits s → WidthFits v → first (shape_checks s (v ∷ [])) ≡ None
fits-shapes s v h o =
    none_first (width_check s.width) (width_check v ∷ user_check s ∷ []) (of_width s h)
    (none_first (width_check v) (user_check s ∷ []) (fits_width v o) (of_user s h))

-- of a shape that fits, only the output's width is left to be tested
pub shapes_left : (s : Shape) (v : ℕ) (cs : List (Check Refusal)) → ShapeFits s → first (shape_checks s (v ∷ []) ++ cs) ≡ first (width_check v ∷ cs)
shapes_left s v cs h = rw (of_width s h, le-ltb user_most s.user h.user) refl

-- what code asks of a shape whose size it counts
pub shape_narrow : (s : Shape) → ShapeFits s → Narrow s
shape_narrow s h = record { width = h.high; user = h.user }

-- ---- a length: a whole number of records, no longer than a take

pub length-fits : (s : Shape) (xs : List ℕ) → (length_check s xs).found ≡ false → (length xs ≤ capture_most) × (length xs % size s ≡ 0)
length-fits s xs e =
    let h = neither (ltb capture_most (length xs)) (not (eqb (length xs % size s) 0)) e in
    (ltb-false capture_most (length xs) h.0, eqb-true (length xs % size s) 0 (not-false (eqb (length xs % size s) 0) h.1))

pub fits-length : (s : Shape) (xs : List ℕ) → length xs ≤ capture_most → length xs % size s ≡ 0 → (length_check s xs).found ≡ false
fits-length s xs h w = rw (le-ltb capture_most (length xs) h, eq-eqb (length xs % size s) 0 w) refl

-- ---- a take

pub take-passed : (s : Shape) (xs : List ℕ) → ShapeFits s → (length_check s xs).found ≡ false → Passed s xs
take-passed s xs h l = let n = length-fits s xs l in record { low = h.low; high = h.high; user = h.user; whole = n.1; short = n.0 }

pub checks-passed : (s : Shape) (xs : List ℕ) → first (take_checks s xs) ≡ None → Passed s xs
checks-passed s xs e =
    let t = append-none (shape_checks s []) (length_check s xs ∷ []) e in
    take-passed s xs (shape-fits s t.0) (first-none (length_check s xs) [] t.1).0

-- what has passed once is a shape that fits
pub passed-shape : (s : Shape) (xs : List ℕ) → Passed s xs → ShapeFits s
passed-shape s xs p = record { low = p.low; high = p.high; user = p.user }

pub passed_narrow : (s : Shape) (xs : List ℕ) → Passed s xs → Narrow s
passed_narrow s xs p = record { width = p.high; user = p.user }

-- and it passes once more
pub passed-checks : (s : Shape) (xs : List ℕ) → Passed s xs → first (take_checks s xs) ≡ None
passed-checks s xs p =
    none-append (shape_checks s []) (length_check s xs ∷ []) (fits-shape s (passed-shape s xs p))
    (none_first (length_check s xs) [] (fits-length s xs p.short p.whole) refl)
