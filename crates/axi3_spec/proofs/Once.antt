-- A contract leaves one answer: two answers that meet it on the same arguments are equal, show the same numbers and leave
-- lent memory the same. So no field of a contract can be emptied unseen. Assumes nothing.
use Rattle.std.specs.Prelude.{Result}
use mathlib.Core.List.{List}
use mathlib.Core.Path.{◌≡◌, sym, ◌∙◌}
use Prim.Native.Nat.{ℕ}
use Rattle.refusal.specs.declared.Refusal.{Refusal}
use Rattle.burst_spec.specs.declared.Burst.{Burst}
use Rattle.axi3_spec.specs.declared.CutRow.{CutRow}
use Rattle.axi3_spec.specs.Answers.{cut_values, Answered, Cut, CutAlone, CutNumbers}

abbrev Same : Result ℕ Refusal → Result ℕ Refusal → Type 0
Same r q = (r ≡ q) × (cut_values r ≡ cut_values q)

answered_once : (x : Burst) (room : ℕ) (r q : Result ℕ Refusal) → Answered x room r → Answered x room q → Same r q
answered_once x room r q a b = (a.is ∙ sym b.is, a.shows ∙ sym b.shows)

pub cut_once : (x : Burst) (row : List Burst) (r q : Result ℕ Refusal) (after after' : List Burst) → Cut x row r after → Cut x row q after'
    → Same r q × (after ≡ after')
cut_once x row r q after after' a b = (answered_once x _ r q a.answers b.answers, a.leaves ∙ sym b.leaves)

pub alone_once : (x : Burst) (room : ℕ) (r q : CutRow) → CutAlone x room r → CutAlone x room q → Same r.answer q.answer × (r.bursts ≡ q.bursts)
alone_once x room r q a b = (answered_once x room r.answer q.answer a.answers b.answers, a.leaves ∙ sym b.leaves)

pub numbers_once : (x : Burst) (row : List ℕ) (r q : Result ℕ Refusal) (after after' : List ℕ) → CutNumbers x row r after → CutNumbers x row q after'
    → Same r q × (after ≡ after')
numbers_once x row r q after after' a b = (answered_once x _ r q a.answers b.answers, a.leaves ∙ sym b.leaves)
