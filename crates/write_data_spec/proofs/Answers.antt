-- Which answer is given for which refusal and finding, and that it shows the paper's numbers. Assumes nothing.
use Rattle.std.specs.Prelude.{Option, None, Some, Ok, Err, Result}
use mathlib.Core.List.{List}
use mathlib.Core.Logic.{◌↔◌}
use mathlib.Core.Path.{◌≡◌, refl, ap, ◌∙◌}
use Prim.Native.Nat.{ℕ}
use Rattle.refusal.specs.Checks.{first}
use Rattle.refusal.specs.declared.Refusal.{Refusal}
use Rattle.refusal.proofs.First.{append-found, append-passed}
use Rattle.burst_spec.specs.declared.Burst.{Burst}
use Rattle.burst_spec.specs.Answers.{judgement}
use Rattle.burst_spec.specs.Checks.{checks}
use Rattle.burst_spec.proofs.Answers.{accepted-none, refused-some}
use Rattle.burst_spec.proofs.Known.{clash}
use Rattle.write_data_spec.specs.declared.WriteVerdict.{WriteVerdict}
use Rattle.write_data_spec.specs.declared.WriteVerdict.TheVariants.{Clean, Broken}
use Rattle.write_data_spec.specs.Layout.{write_beats, all_strobes}
use Rattle.write_data_spec.specs.Rules.{Finding, finding, first_finding}
use Rattle.write_data_spec.specs.Answers.{take_checks, write_refusal, verdict, write_answer, write_values, values_for, WritesJudged}
use Rattle.write_data_spec.specs.Promises.{IsAccepted}

verdict-shows : (o : Option Refusal) (f : Option Finding) (n : ℕ) → write_values (verdict o f n) ≡ values_for o f n
verdict-shows (Some r) f n = refl
verdict-shows None (Some f) n = refl
verdict-shows None None n = refl

-- ---- each verdict comes of one refusal and finding

module _ (o : Option Refusal) (f : Option Finding) (m : ℕ) where
  verdict-clean : (n : ℕ) → (verdict o f m ≡ Ok (Clean n)) ↔ ((o ≡ None) × (f ≡ None) × (n ≡ m))
  verdict-clean n = (there o f, λ h. rw (h.0, h.1, h.2) refl)
    where
      there : (o : Option Refusal) (f : Option Finding) → verdict o f m ≡ Ok (Clean n) → (o ≡ None) × (f ≡ None) × (n ≡ m)
      there (Some r) f e = absurd (clash cc)
      there None (Some g) e = absurd (clash cc)
      there None None e = (refl, refl, cc)

  verdict-broken : (p n : ℕ) → (verdict o f m ≡ Ok (Broken p n)) ↔ ((o ≡ None) × (f ≡ Some (finding p n)))
  verdict-broken p n = (there o f, λ h. rw (h.0, h.1) refl)
    where
      there : (o : Option Refusal) (f : Option Finding) → verdict o f m ≡ Ok (Broken p n) → (o ≡ None) × (f ≡ Some (finding p n))
      there (Some r) f e = absurd (clash cc)
      there None (Some g) e =
          let place : g.place ≡ p = cc in
          let rule : g.rule ≡ n = cc in
          (refl, λ i. Some (record { place = place i; rule = rule i }))
      there None None e = absurd (clash cc)

  verdict-refused : (r : Refusal) → (verdict o f m ≡ Err r) ↔ (o ≡ Some r)
  verdict-refused r = (there o f, λ h. rw h refl)
    where
      there : (o : Option Refusal) (f : Option Finding) → verdict o f m ≡ Err r → o ≡ Some r
      there (Some q) f e = cc
      there None (Some g) e = absurd (clash cc)
      there None None e = absurd (clash cc)

-- ---- the answer

module _ (b : Burst) (xs : List ℕ) where
  abbrev found : Option Finding
  found = first_finding b (write_beats b.bus xs)

  abbrev strobes : ℕ
  strobes = all_strobes b.bus (write_beats b.bus xs)

  -- an answer that is the defined one shows the paper's numbers
  pub judged_is : (r : Result WriteVerdict Refusal) → r ≡ write_answer b xs → WritesJudged b xs r
  judged_is r e = record { is = e; shows = ap write_values e ∙ verdict-shows (write_refusal b xs) found strobes }

  pub clean-answer : (n : ℕ) → (write_answer b xs ≡ Ok (Clean n)) ↔ ((write_refusal b xs ≡ None) × (found ≡ None) × (n ≡ strobes))
  clean-answer = verdict-clean (write_refusal b xs) found strobes

  pub broken-answer : (p n : ℕ) → (write_answer b xs ≡ Ok (Broken p n)) ↔ ((write_refusal b xs ≡ None) × (found ≡ Some (finding p n)))
  broken-answer = verdict-broken (write_refusal b xs) found strobes

  pub refused-answer : (r : Refusal) → (write_answer b xs ≡ Err r) ↔ (write_refusal b xs ≡ Some r)
  refused-answer = verdict-refused (write_refusal b xs) found strobes

  -- the refusal, from how the burst was judged
  pub refusal_judged : (r : Refusal) → judgement b ≡ Err r → write_refusal b xs ≡ Some r
  refusal_judged r e = append-found (checks b) (take_checks b.bus xs) r (refused-some (first (checks b)) r e)

  pub refusal-accepted : IsAccepted b → write_refusal b xs ≡ first (take_checks b.bus xs)
  refusal-accepted e = append-passed (checks b) (take_checks b.bus xs) (accepted-none (first (checks b)) e)
