-- A contract leaves one answer: two answers that meet it on the same arguments are equal, and show the same numbers. So no
-- field of a contract can be emptied unseen. Assumes nothing.
use Rattle.std.specs.Prelude.{ℤ, Result}
use mathlib.Core.Path.{◌≡◌, sym, ◌∙◌}
use Prim.Native.Nat.{ℕ}
use Rattle.refusal.specs.declared.Refusal.{Refusal}
use Rattle.burst_spec.specs.declared.Beat.{Beat}
use Rattle.burst_spec.specs.declared.Burst.{Burst}
use Rattle.burst_spec.specs.Answers.{judgement_values, beat_values, step_values, Judged, BeatGiven, StepGiven}

pub judged_once : (x : Burst) (r q : Result (Unit {0}) Refusal) → Judged x r → Judged x q → (r ≡ q) × (judgement_values r ≡ judgement_values q)
judged_once x r q a b = (a.is ∙ sym b.is, a.shows ∙ sym b.shows)

pub beat_once : (x : Burst) (k : ℕ) (r q : Result Beat Refusal) → BeatGiven x k r → BeatGiven x k q → (r ≡ q) × (beat_values r ≡ beat_values q)
beat_once x k r q a b = (a.is ∙ sym b.is, a.shows ∙ sym b.shows)

pub step_once : (x : Burst) (k : ℕ) (r q : Result ℤ Refusal) → StepGiven x k r → StepGiven x k q → (r ≡ q) × (step_values r ≡ step_values q)
step_once x k r q a b = (a.is ∙ sym b.is, a.shows ∙ sym b.shows)
