-- What the program asks before it prints leaves one text, that of the verdict; and what it asks before it saves is a clean
-- report's result. A field that says nothing breaks one of these proofs. Assumes nothing.
use Rattle.std.specs.Prelude.{Option}
use mathlib.Core.Bool.{true}
use mathlib.Core.List.{List}
use mathlib.Core.Path.{◌≡◌, refl, sym, ap, ◌∙◌}
use Prim.Native.Nat.{ℕ}
use Rattle.report_spec.specs.declared.Summary.{Summary}
use Rattle.report_spec.specs.Report.{text_of, Whole, report_of}
use Rattle.report_spec.specs.Promises.{is_clean}
use Rattle.report.specs.Delivery.{room, Saves, Prints}

text-is : (sheet capture : Option (List ℕ)) → (report_of sheet capture room).text ≡ text_of (report_of sheet capture room).verdict
unfolding report_of
text-is sheet capture = refl

printed : (told : Summary) (letters : List ℕ) → Prints told letters → letters ≡ text_of told.verdict
printed told letters p = p.text ∙ text-is p.sheet p.capture ∙ sym (ap text_of p.verdict)

pub prints_once : (told : Summary) (a b : List ℕ) → Prints told a → Prints told b → a ≡ b
prints_once told a b p q = printed told a p ∙ sym (printed told b q)

pub saves_clean : (told : Summary) (octets : List ℕ) → Saves told octets
    → (w : Whole) × (is_clean w.verdict ≡ true) × (told.verdict ≡ w.verdict) × (octets ≡ w.result)
saves_clean told octets p =
    let w : Whole = report_of p.sheet p.capture room in
    (w, sym (ap is_clean p.verdict) ∙ p.clean, p.verdict, p.result)
