-- When a cut is refused and with what, and that an answer shows the paper's numbers. Assumes nothing.
use Rattle.std.specs.Prelude.{Option, None, Some, Ok, Err, Result}
use mathlib.Core.List.{List, [], ◌∷◌}
use mathlib.Core.Path.{◌≡◌, refl, sym, ap, ◌∙◌}
use Prim.Native.Nat.{ℕ, ◌≤◌, ◌<◌}
use native.Mathlib.Omega.{arith}
use lib.Dec.{ltb}
use borrow.Author.Tests.{lt-ltb, le-ltb, ltb-false}
use Rattle.refusal.specs.declared.Refusal.{Refusal}
use Rattle.refusal.specs.declared.Refusal.TheVariants.{Room}
use Rattle.refusal.specs.Checks.{Check, check, first}
use Rattle.refusal.proofs.First.{cond-none, append-none, append-found, append-passed}
use Rattle.burst_spec.specs.declared.Burst.{Burst}
use Rattle.burst_spec.specs.Answers.{judgement_for, judgement}
use Rattle.burst_spec.specs.Checks.{checks}
use Rattle.burst_spec.proofs.Answers.{accepted-none, refused-some}
use Rattle.burst_spec.proofs.Known.{clash}
use Rattle.axi3_spec.specs.Cut.{piece_count}
use Rattle.axi3_spec.specs.Answers.{cut_refusal, cut_for, cut_answer, cut_values, values_for, Answered}
use Rattle.axi3_spec.specs.Promises.{IsAccepted}

cut-shows : (o : Option Refusal) (n : ℕ) → cut_values (cut_for o n) ≡ values_for o n
cut-shows (Some r) n = refl
cut-shows None n = refl

-- an answer that is the defined one shows the paper's numbers
pub answered : (x : Burst) (room : ℕ) (r : Result ℕ Refusal) → r ≡ cut_answer x room → Answered x room r
answered x room r e = record { is = e; shows = ap cut_values e ∙ cut-shows (cut_refusal x room) (piece_count x) }

module _ (x : Burst) (room : ℕ) where
  abbrev room_checks : List (Check Refusal)
  room_checks = check (ltb room (piece_count x)) Room ∷ []

  -- ---- the three cases, from how the burst was judged

  pub refusal_judged : (r : Refusal) → judgement x ≡ Err r → cut_refusal x room ≡ Some r
  refusal_judged r e = append-found (checks x) room_checks r (refused-some (first (checks x)) r e)

  pub refusal-room : IsAccepted x → room < piece_count x → cut_refusal x room ≡ Some Room
  refusal-room e h = append-passed (checks x) room_checks (accepted-none (first (checks x)) e) ∙ rw (lt-ltb room (piece_count x) h)

  pub refusal-none : IsAccepted x → piece_count x ≤ room → cut_refusal x room ≡ None
  refusal-none e h = append-passed (checks x) room_checks (accepted-none (first (checks x)) e) ∙ rw (le-ltb room (piece_count x) h)

  -- a cut that is not refused: the burst is accepted, and the row is long enough
  pub none-refused : cut_refusal x room ≡ None → IsAccepted x × (piece_count x ≤ room)
  none-refused e =
      let h = append-none (checks x) room_checks e in
      (ap judgement_for h.0, ltb-false room (piece_count x) (cond-none (ltb room (piece_count x)) Room None h.1).0)

  -- ---- the answer in each case

  pub answer_judged : (r : Refusal) → judgement x ≡ Err r → Answered x room (Err r)
  answer_judged r e = answered x room (Err r) (sym (ap (λ o. cut_for o (piece_count x)) (refusal_judged r e)))

  pub answer-room : IsAccepted x → room < piece_count x → Answered x room (Err Room)
  answer-room e h = answered x room (Err Room) (sym (ap (λ o. cut_for o (piece_count x)) (refusal-room e h)))

  pub answer-bursts : IsAccepted x → (n : ℕ) → n ≡ piece_count x → n ≤ room → Answered x room (Ok n)
  answer-bursts e n f h =
      let few : piece_count x ≤ room = omega arith in
      answered x room (Ok n) (ap Ok f ∙ sym (ap (λ o. cut_for o (piece_count x)) (refusal-none e few)))

  -- an answer of n bursts was not refused
  pub bursts-none : (n : ℕ) → Ok n ≡ cut_answer x room → (cut_refusal x room ≡ None) × (n ≡ piece_count x)
  bursts-none n e = go (cut_refusal x room) refl e
    where
      go : (o : Option Refusal) → cut_refusal x room ≡ o → Ok n ≡ cut_for o (piece_count x) → (cut_refusal x room ≡ None) × (n ≡ piece_count x)
      go (Some r) h f = absurd (clash cc)
      go None h f = (h, cc)

  pub refused-is : (r : Refusal) → Err r ≡ cut_answer x room → cut_refusal x room ≡ Some r
  refused-is r e = go (cut_refusal x room) refl e
    where
      go : (o : Option Refusal) → cut_refusal x room ≡ o → Err r ≡ cut_for o (piece_count x) → cut_refusal x room ≡ Some r
      go (Some q) h f = let same : q ≡ r = cc in h ∙ ap Some same
      go None h f = absurd (clash cc)
