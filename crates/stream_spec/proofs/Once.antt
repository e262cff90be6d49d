-- A contract leaves one answer: two answers, and two lent memories afterwards, that meet it on the same arguments are equal,
-- and show the same numbers. So no field of a contract can be emptied unseen. Assumes nothing.
use Rattle.std.specs.Prelude.{Result}
use mathlib.Core.Path.{◌≡◌, sym, ◌∙◌}
use mathlib.Core.Bool.{Bool}
use mathlib.Core.List.{List}
use Prim.Native.Nat.{ℕ}
use Rattle.refusal.specs.declared.Refusal.{Refusal}
use Rattle.stream_spec.specs.declared.Shape.{Shape}
use Rattle.stream_spec.specs.declared.Verdict.{Verdict}
use Rattle.stream_spec.specs.Answers.{verdict_values, written_values, lookup_values, Judged, LookedUp, Harvested, FilledIn, Repacked, Downsized}

pub judged_once : (s : Shape) (xs : List ℕ) (r q : Result Verdict Refusal) → Judged s xs r → Judged s xs q → (r ≡ q) × (verdict_values r ≡ verdict_values q)
judged_once s xs r q a b = (a.is ∙ sym b.is, a.shows ∙ sym b.shows)

pub looked_up_once : (s : Shape) (xs : List ℕ) (k : ℕ) (r q : Result (Unit {0}) Refusal) → LookedUp s xs k r → LookedUp s xs k q
    → (r ≡ q) × (lookup_values r ≡ lookup_values q)
looked_up_once s xs k r q a b = (a.is ∙ sym b.is, a.shows ∙ sym b.shows)

-- two answers of a call that writes, and what each left of the memory lent
abbrev Same : Result ℕ Refusal → Result ℕ Refusal → List ℕ → List ℕ → Type 0
Same r q left left' = (r ≡ q) × (written_values r ≡ written_values q) × (left ≡ left')

pub harvested_once : (s : Shape) (xs lent left left' : List ℕ) (r q : Result ℕ Refusal) → Harvested s xs lent left r → Harvested s xs lent left' q
    → Same r q left left'
harvested_once s xs lent left left' r q a b = (a.is ∙ sym b.is, a.shows ∙ sym b.shows, a.leaves ∙ sym b.leaves)

pub filled_in_once : (level : Bool) (s : Shape) (lent left left' : List ℕ) (r q : Result ℕ Refusal) → FilledIn level s lent left r → FilledIn level s lent left' q
    → Same r q left left'
filled_in_once level s lent left left' r q a b = (a.is ∙ sym b.is, a.shows ∙ sym b.shows, a.leaves ∙ sym b.leaves)

pub repacked_once : (s : Shape) (v : ℕ) (xs lent left left' : List ℕ) (r q : Result ℕ Refusal) → Repacked s v xs lent left r → Repacked s v xs lent left' q
    → Same r q left left'
repacked_once s v xs lent left left' r q a b = (a.is ∙ sym b.is, a.shows ∙ sym b.shows, a.leaves ∙ sym b.leaves)

pub downsized_once : (s : Shape) (v : ℕ) (xs lent left left' : List ℕ) (r q : Result ℕ Refusal) → Downsized s v xs lent left r → Downsized s v xs lent left' q
    → Same r q left left'
downsized_once s v xs lent left left' r q a b = (a.is ∙ sym b.is, a.shows ∙ sym b.shows, a.leaves ∙ sym b.leaves)
