-- The contract leaves one answer: two answers that meet it on the same arguments are equal and show the same numbers. So no field of
-- it can be emptied unseen. Assumes nothing.
use Rattle.std.specs.Prelude.{Result}
use mathlib.Core.List.{List}
use mathlib.Core.Path.{◌≡◌, sym, ◌∙◌}
use Prim.Native.Nat.{ℕ}
use Rattle.refusal.specs.declared.Refusal.{Refusal}
use Rattle.burst_spec.specs.declared.Burst.{Burst}
use Rattle.write_data_spec.specs.declared.WriteVerdict.{WriteVerdict}
use Rattle.write_data_spec.specs.Answers.{write_values, WritesJudged}

pub writes_judged_once : (b : Burst) (xs : List ℕ) (r q : Result WriteVerdict Refusal) → WritesJudged b xs r → WritesJudged b xs q
    → (r ≡ q) × (write_values r ≡ write_values q)
writes_judged_once b xs r q j k = (j.is ∙ sym k.is, j.shows ∙ sym k.shows)
