-- The contract leaves one answer: two answers, and two lent memories afterwards, that meet it on the same arguments are equal and show
-- the same numbers. So no field of it can be emptied unseen. Assumes nothing.
use Rattle.std.specs.Prelude.{Result}
use mathlib.Core.List.{List}
use mathlib.Core.Path.{◌≡◌, sym, ◌∙◌}
use Prim.Native.Nat.{ℕ}
use Rattle.stream_spec.specs.declared.Shape.{Shape}
use Rattle.merge_spec.specs.declared.PortRefusal.{PortRefusal}
use Rattle.merge_spec.specs.Answers.{merged_values, PortsMerged}

pub ports_merged_once : (s : Shape) (xs ys lent left left' : List ℕ) (r q : Result ℕ PortRefusal) → PortsMerged s xs ys lent left r → PortsMerged s xs ys lent left' q
    → (r ≡ q) × (merged_values r ≡ merged_values q) × (left ≡ left')
ports_merged_once s xs ys lent left left' r q a b = (a.is ∙ sym b.is, a.shows ∙ sym b.shows, a.leaves ∙ sym b.leaves)
