-- The contract of `parse` leaves no choice: two answers that meet it on the same sheet are equal, and so is what they show.
-- A field of it that says nothing breaks this proof. Assumes nothing.
use Rattle.std.specs.Prelude.{Option}
use mathlib.Core.List.{List}
use mathlib.Core.Path.{◌≡◌, sym, ◌∙◌}
use Prim.Native.Nat.{ℕ}
use Rattle.report_setup_spec.specs.declared.Setup.{Setup}
use Rattle.report_setup_spec.specs.Answers.{sheet_values, Parsed}

pub parsed_once : {sheet : List ℕ} {a b : Option Setup} → Parsed sheet a → Parsed sheet b → (a ≡ b) × (sheet_values a ≡ sheet_values b)
parsed_once p q = (p.is ∙ sym q.is, p.shows ∙ sym q.shows)
