-- When a burst is accepted, and that an answer shows the paper's numbers. Assumes nothing.
use Rattle.std.specs.Prelude.{Option, None, Some, Result, Ok, Err}
use mathlib.Core.Bool.{Bool, true, false, cond}
use mathlib.Core.List.{List, [], ◌∷◌}
use mathlib.Core.Logic.{◌↔◌}
use mathlib.Core.Path.{◌≡◌, refl, sym, ap, ◌∙◌, subst}
use Prim.Native.Nat.{ℕ, zero, suc, ◌+◌, ◌≤◌, ◌<◌}
use native.Mathlib.Numerals.{add-one}
use native.Mathlib.Omega.{arith}
use lib.Dec.{leb, ltb}
use lib.IntN.{ℤ}
use borrow.Author.Tests.{not-false, le-leb, lt-leb, leb-true, leb-false}
use Rattle.refusal.specs.declared.Refusal.{Refusal}
use Rattle.refusal.specs.declared.Refusal.TheVariants.{Bus, Size, Kind, Count, Align, Boundary, Index}
use Rattle.refusal.specs.Checks.{Check, check, first}
use Rattle.refusal.specs.Code.{code_of}
use Rattle.refusal.proofs.First.{cond-none, append-none, none-append, append-found, append-passed}
use Rattle.burst_spec.specs.declared.Beat.{Beat}
use Rattle.burst_spec.specs.declared.Burst.{Burst}
use Rattle.burst_spec.specs.declared.Kind.TheVariants.{Reserved}
use Rattle.burst_spec.specs.Address.{beats, beat_of, beat_step}
use Rattle.burst_spec.specs.Checks.{crosses, checks, indexed_checks, checks_of_beat, checks_of_step}
use Rattle.burst_spec.specs.Legal.{Legal, Accepted}
use Rattle.burst_spec.specs.Answers.{kind_of, judgement_for, beat_for, step_for, judgement, beat_answer, step_answer}
use Rattle.burst_spec.specs.Answers.{Judged, BeatGiven, StepGiven, values_for, judgement_values, beat_values, step_values}
use Rattle.burst_spec.proofs.Known.{clash}

-- ---- an answer, and the first refusal that it is made of

pub accepted-none : (o : Option Refusal) → judgement_for o ≡ Ok tt → o ≡ None
accepted-none (Some r) e = absurd (clash cc)
accepted-none None e = refl

pub refused-some : (o : Option Refusal) (r : Refusal) → judgement_for o ≡ Err r → o ≡ Some r
refused-some (Some q) r e = cc
refused-some None r e = absurd (clash cc)

judgement-shows : (o : Option Refusal) → judgement_values (judgement_for o) ≡ values_for o (judgement_values (Ok tt))
judgement-shows (Some r) = refl
judgement-shows None = refl

beat-shows : (o : Option Refusal) (y : Beat) → beat_values (beat_for o y) ≡ values_for o (beat_values (Ok y))
beat-shows (Some r) y = refl
beat-shows None y = refl

step-shows : (o : Option Refusal) (d : ℤ) → step_values (step_for o d) ≡ values_for o (step_values (Ok d))
step-shows (Some r) d = refl
step-shows None d = refl

-- an answer that is the defined one shows the paper's numbers
pub judged_is : (x : Burst) (r : Result (Unit {0}) Refusal) → r ≡ judgement x → Judged x r
judged_is x r e = record { is = e; shows = ap judgement_values e ∙ judgement-shows (first (checks x)) }

beat-is : (x : Burst) (k : ℕ) (r : Result Beat Refusal) → r ≡ beat_answer x k → BeatGiven x k r
beat-is x k r e = record { is = e; shows = ap beat_values e ∙ beat-shows (first (checks_of_beat x k)) (beat_of x k) }

step_is : (x : Burst) (k : ℕ) (r : Result ℤ Refusal) → r ≡ step_answer x k → StepGiven x k r
step_is x k r e = record { is = e; shows = ap step_values e ∙ step-shows (first (checks_of_step x k)) (beat_step x k) }

-- ---- which bursts are accepted

-- 7 to 12 find nothing exactly where none of them holds
none_exactly : (x : Burst) → (first (checks x) ≡ None) ↔ Accepted x
none_exactly x = (there, back)
  where
    there : first (checks x) ≡ None → Accepted x
    there e =
        let p1 = cond-none _ _ _ e in
        let p2 = cond-none _ _ _ p1.1 in
        let p3 = cond-none _ _ _ p2.1 in
        let p4 = cond-none _ _ _ p3.1 in
        let p5 = cond-none _ _ _ p4.1 in
        let p6 = cond-none _ _ _ p5.1 in
        record {
          legal = record { bus = not-false _ p1.0; size = p2.0; kind = p3.0; count = p4.0; start = p5.0 };
          inside = p6.0;
        }

    back : Accepted x → first (checks x) ≡ None
    back y =
        rw (y.legal.bus, y.legal.size, y.legal.kind, y.legal.count, y.legal.start, y.inside)

-- accepted exactly if none of 7 to 12 holds
pub accepted_exactly : (x : Burst) → (judgement x ≡ Ok tt) ↔ Accepted x
accepted_exactly x = (
  λ e. (none_exactly x).0 (accepted-none (first (checks x)) e),
  λ y. ap judgement_for ((none_exactly x).1 y),
)

-- FENCE is given exactly if none of 7 to 11 holds and the burst leaves its start's block
pub boundary_exactly : (x : Burst) → (judgement x ≡ Err Boundary) ↔ (Legal x × (crosses x ≡ true))
boundary_exactly x = (there, back)
  where
    earlier : (t : Bool) (r : Refusal) (y : Option Refusal) → (r ≡ Boundary → ⊥)
        → cond t (Some r) y ≡ Some Boundary → (t ≡ false) × (y ≡ Some Boundary)
    earlier true r y h e = absurd (h cc)
    earlier false r y h e = (refl, e)

    last : (t : Bool) → cond t (Some Boundary) None ≡ Some Boundary → t ≡ true
    last true e = refl
    last false e = absurd (clash cc)

    there : judgement x ≡ Err Boundary → Legal x × (crosses x ≡ true)
    there e =
        let p1 = earlier _ Bus _ (λ f. clash cc) (refused-some (first (checks x)) Boundary e) in
        let p2 = earlier _ Size _ (λ f. clash cc) p1.1 in
        let p3 = earlier _ Kind _ (λ f. clash cc) p2.1 in
        let p4 = earlier _ Count _ (λ f. clash cc) p3.1 in
        let p5 = earlier _ Align _ (λ f. clash cc) p4.1 in
        (record { bus = not-false _ p1.0; size = p2.0; kind = p3.0; count = p4.0; start = p5.0 }, last _ p5.1)

    back : Legal x × (crosses x ≡ true) → judgement x ≡ Err Boundary
    back y = rw (y.0.bus, y.0.size, y.0.kind, y.0.count, y.0.start, y.1)

-- ---- a burst's own refusals have numbers from 7 on

-- checks that give 7 and on
abbrev FromSeven : List (Check Refusal) → Type 0
FromSeven [] = Unit
FromSeven (c ∷ cs) = (7 ≤ (code_of c.gives).0) × FromSeven cs

given_seven : (cs : List (Check Refusal)) (r : Refusal) → FromSeven cs → first cs ≡ Some r → 7 ≤ (code_of r).0
given_seven [] r h e = absurd (clash cc)
given_seven (c ∷ cs) r h e = go c.found (given_seven cs r h.1) e
  where
    go : (t : Bool) → (first cs ≡ Some r → 7 ≤ (code_of r).0) → cond t (Some c.gives) (first cs) ≡ Some r → 7 ≤ (code_of r).0
    go true rest f = let same : c.gives ≡ r = cc in subst (λ (q : Refusal). 7 ≤ (code_of q).0) same h.0
    go false rest f = rest f

pub own-number : (x : Burst) (r : Refusal) → first (checks x) ≡ Some r → 7 ≤ (code_of r).0
own-number x r =
    given_seven (checks x) r (omega arith, (omega arith, (omega arith, (omega arith, (omega arith, (omega arith, tt))))))

leb_next : (a b : ℕ) → leb a b ≡ leb (a + 1) (b + 1)
leb_next a b = go (leb a b) refl
  where
    go : (t : Bool) → leb a b ≡ t → t ≡ leb (a + 1) (b + 1)
    go true e = sym (le-leb (a + 1) (b + 1) (omega (arith, leb-true a b e)))
    go false e = sym (lt-leb (a + 1) (b + 1) (omega (arith, leb-false a b e)))

-- ---- beats and steps: 7 to 12, and then 13 where the beat that is asked for is missing

module _ (x : Burst) (missing : Bool) where
  -- a refused burst keeps its refusal, and of an accepted one the index decides
  pub refused-first : (r : Refusal) → judgement x ≡ Err r → Err r ≡ judgement_for (first (indexed_checks x missing))
  refused-first r e =
      ap judgement_for (sym (append-found (checks x) (check missing Index ∷ []) r (refused-some (first (checks x)) r e)))

  pub index_last : (t : Bool) → judgement x ≡ Ok tt → missing ≡ t
      → judgement_for (cond t (Some Index) None) ≡ judgement_for (first (indexed_checks x missing))
  index_last t e m =
      sym
      (ap judgement_for
      (append-passed (checks x) (check missing Index ∷ []) (accepted-none (first (checks x)) e)
      ∙ ap (λ u. cond u (Some Index) None) m))

  accepted_there : first (indexed_checks x missing) ≡ None → Accepted x × (missing ≡ false)
  accepted_there e =
      let h = append-none (checks x) (check missing Index ∷ []) e in
      ((none_exactly x).0 h.0, (cond-none missing Index None h.1).0)

-- what the calls answer for beat k, and for the step from it, by how the burst and the index were judged
module _ (x : Burst) (k : ℕ) where
  -- the tests of the code: no beat k, and no beat after k
  pub no-beat : judgement_for (first (indexed_checks x (ltb x.len k))) ≡ judgement_for (first (checks_of_beat x k))
  no-beat = ap (λ m. judgement_for (first (indexed_checks x m))) same
    where
      same : ltb x.len k ≡ leb (beats x) k
      same = rw (add-one x.len)

  pub no-next : judgement_for (first (indexed_checks x (leb x.len k))) ≡ judgement_for (first (checks_of_step x k))
  no-next = ap (λ m. judgement_for (first (indexed_checks x m))) (leb_next x.len k)

  pub has_beat : judgement_for (first (checks_of_beat x k)) ≡ Ok tt → Accepted x × (k < beats x)
  has_beat e =
      let h = accepted_there x (leb (beats x) k) (accepted-none (first (checks_of_beat x k)) e) in
      (h.0, leb-false (beats x) k h.1)

  -- a beat that an accepted burst has is answered, and never refused
  present-beat : Accepted x → k < beats x → beat_answer x k ≡ Ok (beat_of x k)
  present-beat y h =
      ap (λ o. beat_for o (beat_of x k))
      (none-append (checks x) (check (leb (beats x) k) Index ∷ []) ((none_exactly x).1 y) (rw (lt-leb (beats x) k h)))

  pub present-is : Accepted x → k < beats x → (y : Beat) → beat_answer x k ≡ Ok y → beat_of x k ≡ y
  present-is a h y e = same (beat_of x k) (sym (present-beat a h) ∙ e)
    where
      same : (z : Beat) → ◌≡◌ {A = Result Beat Refusal} (Ok z) (Ok y) → z ≡ y
      same z f = cc

  pub present_never : Accepted x → k < beats x → (r : Refusal) → beat_answer x k ≡ Err r → ⊥
  present_never a h r e = apart (beat_of x k) (sym (present-beat a h) ∙ e)
    where
      apart : (z : Beat) → ◌≡◌ {A = Result Beat Refusal} (Ok z) (Err r) → ⊥
      apart z f = clash cc

  pub refused-beat : (r : Refusal) → judgement_for (first (checks_of_beat x k)) ≡ Err r → BeatGiven x k (Err r)
  refused-beat r e =
      beat-is x k (Err r) (sym (ap (λ o. beat_for o (beat_of x k)) (refused-some (first (checks_of_beat x k)) r e)))

  pub given_beat : judgement_for (first (checks_of_beat x k)) ≡ Ok tt → (y : Beat) → y ≡ beat_of x k → BeatGiven x k (Ok y)
  given_beat e y f =
      beat-is x k (Ok y) (ap Ok f ∙ sym (ap (λ o. beat_for o (beat_of x k)) (accepted-none (first (checks_of_beat x k)) e)))

  pub refused-step : (r : Refusal) → judgement_for (first (checks_of_step x k)) ≡ Err r → StepGiven x k (Err r)
  refused-step r e =
      step_is x k (Err r) (sym (ap (λ o. step_for o (beat_step x k)) (refused-some (first (checks_of_step x k)) r e)))

  pub given_step : judgement_for (first (checks_of_step x k)) ≡ Ok tt → (d : ℤ) → d ≡ beat_step x k → StepGiven x k (Ok d)
  given_step e d f =
      step_is x k (Ok d) (ap Ok f ∙ sym (ap (λ o. step_for o (beat_step x k)) (accepted-none (first (checks_of_step x k)) e)))

  -- a step that is answered is the burst's step, and the burst is accepted
  pub answered-step : (d : ℤ) → Ok d ≡ step_answer x k → (d ≡ beat_step x k) × Accepted x
  answered-step d e = go (first (checks_of_step x k)) refl e
    where
      go : (o : Option Refusal) → first (checks_of_step x k) ≡ o → Ok d ≡ step_for o (beat_step x k) → (d ≡ beat_step x k) × Accepted x
      go (Some r) h f = absurd (clash cc)
      go None h f = (cc, (accepted_there x (leb (beats x) (k + 1)) h).0)

-- the numbers from 3 on are the reserved kind, and no others
pub reserved_exactly : (n : ℕ) → (kind_of n ≡ Reserved) ↔ (3 ≤ n)
reserved_exactly zero = (λ e. absurd (clash cc), λ h. absurd (omega arith))
reserved_exactly (suc zero) = (λ e. absurd (clash cc), λ h. absurd (omega arith))
reserved_exactly (suc (suc zero)) = (λ e. absurd (clash cc), λ h. absurd (omega arith))
reserved_exactly (suc (suc (suc n))) = (λ e. omega arith, λ h. refl)
