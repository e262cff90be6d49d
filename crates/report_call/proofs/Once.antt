-- The contracts of the report's steps leave no choice: two answers that meet one of them on the same arguments are equal, and so is
-- lent memory afterwards. A field that says nothing breaks one of these proofs. Assumes nothing.
use Rattle.std.specs.Prelude.{Result, Ok, Err}
use mathlib.Core.Path.{◌≡◌}
use mathlib.Core.List.{List}
use Prim.Native.Nat.{ℕ}
use Rattle.refusal.specs.declared.Refusal.{Refusal}
use Rattle.report_setup_spec.specs.declared.Setup.{Setup}
use Rattle.report_spec.specs.Report.{Outcome}
use Rattle.report_spec.proofs.Once.{both}
use Rattle.report_call.specs.declared.outcome.Ending.{Ending}
use Rattle.report_call.specs.Steps.{Came, Converts, verdict_of, octets_of}

same-ending : (f g : Result Ending Refusal) → verdict_of f ≡ verdict_of g → octets_of f ≡ octets_of g → f ≡ g
same-ending (Ok f) (Ok g) v o = let w : f.verdict ≡ g.verdict = cc in λ i. Ok (record { verdict = w i; octets = o i })
same-ending (Ok f) (Err g) v o = cc
same-ending (Err f) (Ok g) v o = cc
same-ending (Err f) (Err g) v o = cc

-- o is the output as one call leaves it, o' as the other does
pub came_once : {out : Outcome} {lent o o' : List ℕ} {f g : Result Ending Refusal} → Came out lent o f → Came out lent o' g → (f ≡ g) × (o ≡ o')
came_once {f = f} {g = g} p q = (same-ending f g (both p.is q.is) (both p.result_length q.result_length), both p.leaves q.leaves)

pub converts_once : {u : Setup} {xs lent o o' : List ℕ} {a b : Result ℕ Refusal} → Converts u xs lent o a → Converts u xs lent o' b → (a ≡ b) × (o ≡ o')
converts_once p q = (both p.is q.is, both p.leaves q.leaves)
