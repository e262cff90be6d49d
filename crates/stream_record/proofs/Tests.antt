-- What an answer of the tests says of the list of checks that it stands for, and of every list that begins with it. For the
-- calls: `refused_front` gives their refusal, `passed_front` takes the tests away. Assumes nothing.
use Rattle.std.specs.Prelude.{Option, None, Some, Result, Ok, Err}
use mathlib.Core.Path.{◌≡◌, refl, sym, ap, ◌∙◌}
use mathlib.Core.Bool.{Bool, true, false, cond}
use mathlib.Core.List.{List, [], ◌∷◌, ◌++◌}
use Prim.Native.Nat.{ℕ}
use Rattle.refusal.specs.declared.Refusal.{Refusal}
use Rattle.refusal.specs.declared.Refusal.TheVariants.{Width}
use Rattle.refusal.specs.Checks.{Check, first}
use Rattle.refusal.proofs.First.{first-none, append-found, append-passed, append-none}
use Rattle.stream_spec.specs.declared.Shape.{Shape}
use Rattle.stream_spec.specs.Checks.{width_check, user_check, shape_checks, length_check, take_checks}
use Rattle.stream_spec.specs.Walk.{Passed as PassedTests}
use Rattle.stream_spec.proofs.Passed.{WidthFits, ShapeFits, shape-fits as of-shape, shapes_fit as of-shapes, take-passed as passed_both, checks-passed}
use Rattle.std.specs.Result.{result_err}

module _ {X : Type 0} (r : Result X Refusal) (cs : List (Check Refusal)) (e : result_err r ≡ first cs) where
  pub refused-is : (f : Refusal) → r ≡ Err f → first cs ≡ Some f
  refused-is f h = sym e ∙ ap result_err h

  pub passed_is : (x : X) → r ≡ Ok x → first cs ≡ None
  passed_is x h = sym e ∙ ap result_err h

  pub refused_front : (ds : List (Check Refusal)) (f : Refusal) → r ≡ Err f → first (cs ++ ds) ≡ Some f
  refused_front ds f h = append-found cs ds f (refused-is f h)

  pub passed_front : (ds : List (Check Refusal)) (x : X) → r ≡ Ok x → first (cs ++ ds) ≡ first ds
  passed_front ds x h = append-passed cs ds (passed_is x h)

-- ---- what a passed test says

-- an input shape, and with it the width of an output
pub record ShapesFit (s : Shape) (v : ℕ) : Type 0 where
  pub input : ShapeFits s
  pub output : WidthFits v

module _ {X : Type 0} (r : Result X Refusal) (x : X) (h : r ≡ Ok x) (s : Shape) where
  pub shape-fits : result_err r ≡ first (shape_checks s []) → ShapeFits s
  shape-fits e = of-shape s (passed_is r (shape_checks s []) e x h)

  pub shapes_fit : (v : ℕ) → result_err r ≡ first (shape_checks s (v ∷ [])) → ShapesFit s v
  shapes_fit v e = let w = of-shapes s v (passed_is r (shape_checks s (v ∷ [])) e x h) in record { input = w.0; output = w.1 }

  pub take-passed : (xs : List ℕ) → result_err r ≡ first (take_checks s xs) → PassedTests s xs
  take-passed xs e = checks-passed s xs (passed_is r (take_checks s xs) e x h)

  -- a length that is tested after the shape
  pub length-passed : (xs : List ℕ) → ShapeFits s → result_err r ≡ first (length_check s xs ∷ []) → PassedTests s xs
  length-passed xs w e = passed_both s xs w (first-none (length_check s xs) [] (passed_is r (length_check s xs ∷ []) e x h)).0

  pub input_passed : (v : ℕ) (xs : List ℕ) → result_err r ≡ first (shape_checks s (v ∷ []) ++ length_check s xs ∷ []) → PassedTests s xs × WidthFits v
  input_passed v xs e =
      let t = append-none (shape_checks s (v ∷ [])) (length_check s xs ∷ []) (passed_is r (shape_checks s (v ∷ []) ++ length_check s xs ∷ []) e x h) in
      let w = of-shapes s v t.0 in
      (passed_both s xs w.0 (first-none (length_check s xs) [] t.1).0, w.1)

-- ---- the tests in code

-- the output's width may be tested before the input's: both give 1
module _ (s : Shape) (v : ℕ) where
  pub output_refused : (width_check v).found ≡ true → Some Width ≡ first (shape_checks s (v ∷ []))
  output_refused e = go (width_check s.width).found refl
    where
      go : (b : Bool) → (width_check s.width).found ≡ b → Some Width ≡ cond b (Some Width) (first (width_check v ∷ user_check s ∷ []))
      go true h = refl
      go false h = rw e refl

  pub output_passed : (width_check v).found ≡ false → {o : Option Refusal} → o ≡ first (shape_checks s []) → o ≡ first (shape_checks s (v ∷ []))
  output_passed e h = h ∙ rw e refl
