-- The tests in front of repacking.
use Rattle.std.specs.Prelude.{List, [], ◌∷◌, ◌++◌, ℕ}
use Rattle.refusal.specs.declared.Refusal.{Refusal}
use Rattle.refusal.specs.Checks.{Check}
use Rattle.stream_spec.specs.declared.Shape.{Shape}
use Rattle.stream_spec.specs.Checks.{shape_checks, length_check}

-- both widths, then the length
abbrev pub input_checks : Shape → ℕ → List ℕ → List (Check Refusal)
input_checks s v transfers = shape_checks s (v ∷ []) ++ length_check s transfers ∷ []
