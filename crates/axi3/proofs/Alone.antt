-- A cut into a row of its own: it is made with room for every cut, and what was asked for decides. Assumes nothing.
use Rattle.std.specs.Prelude.{Option, None, Some, Result}
use Rattle.std.proofs.lemmas.List.{drop-append-le, take-append-drop}
use mathlib.Core.List.{List, ◌++◌, append_assoc}
use mathlib.Core.Path.{◌≡◌, refl, sym, ap, ap₂, subst, ◌∙◌}
use Prim.Native.Nat.{ℕ, ◌≤◌, min}
use native.Mathlib.Decide.{dec_le}
use native.Mathlib.Omega.{arith}
use lib.ListN.{length, take, drop}
use lib.Seq.{length-take-le}
use Rattle.refusal.specs.declared.Refusal.{Refusal}
use Rattle.refusal.specs.Checks.{first}
use Rattle.burst_spec.specs.declared.Burst.{Burst}
use Rattle.burst_spec.specs.Answers.{judgement_for}
use Rattle.burst_spec.specs.Checks.{checks}
use Rattle.burst_spec.proofs.Answers.{accepted_exactly}
use Rattle.axi3_spec.specs.Cut.{piece_count, piece, pieces}
use Rattle.axi3_spec.specs.Answers.{cut_refusal, cut_for, row_for, row_length, blank_row, Cut, CutAlone}
use Rattle.axi3_spec.specs.Promises.{IsAccepted}
use Rattle.axi3_spec.proofs.Answers.{answered, refusal_judged, refusal-room, refusal-none, none-refused}
use Rattle.axi3_spec.proofs.Pieces.{count_most}
use Rattle.axi3_spec.proofs.Runs.{run_length}

module _ (x : Burst) (room m : ℕ) (e : m ≡ min room row_length) where
  -- a row of 16 is refused as one with that much room is, if at all
  same-refusal : cut_refusal x m ≡ cut_refusal x room
  same-refusal = go (first (checks x)) refl
    where
      go : (o : Option Refusal) → first (checks x) ≡ o → cut_refusal x m ≡ cut_refusal x room
      go (Some p) g = refusal_judged x m p (ap judgement_for g) ∙ sym (refusal_judged x room p (ap judgement_for g))
      go None g =
          let a : IsAccepted x = ap judgement_for g in
          let most : piece_count x ≤ row_length = count_most x ((accepted_exactly x).0 a).legal in
          elim (dec_le (piece_count x) room) [
            | yes h ↦ refusal-none x m a (omega arith) ∙ sym (refusal-none x room a h)
            | no h ↦ refusal-room x m a (omega arith) ∙ sym (refusal-room x room a (omega arith))
          ]

  -- the first m descriptions are cut into, and the others stay blank
  rest : (k : ℕ) → k ≤ m → drop k (take m blank_row) ++ drop m blank_row ≡ drop k blank_row
  rest k h =
      sym (drop-append-le k (take m blank_row) (drop m blank_row) (omega (arith, length-take-le m blank_row (omega arith))))
      ∙ ap (drop k) (take-append-drop m blank_row)

  behind : (o : Option Refusal) → cut_refusal x m ≡ o → row_for o (pieces x) (take m blank_row) ++ drop m blank_row ≡ row_for o (pieces x) blank_row
  behind (Some r) g = take-append-drop m blank_row
  behind None g =
      append_assoc (pieces x) (drop (length (pieces x)) (take m blank_row)) (drop m blank_row)
      ∙ ap (λ l. pieces x ++ l) (rest (length (pieces x)) (omega (arith, run_length (piece x) 0 (piece_count x), (none-refused x m g).1)))

  pub alone : (blanks : List Burst) → blanks ≡ blank_row → (r : Result ℕ Refusal) (after : List Burst) → Cut x (take m blanks) r after
      → CutAlone x room (record { answer = r; bursts = after ++ drop m blanks })
  alone blanks f r after c =
      let long : length (take m blank_row) ≡ m = length-take-le m blank_row (omega arith) in
      let lent : Cut x (take m blank_row) r after = subst (λ (l : List Burst). Cut x (take m l) r after) f c in
      let same : cut_refusal x (length (take m blank_row)) ≡ cut_refusal x room = ap (cut_refusal x) long ∙ same-refusal in
      record {
        answers = answered x room r (lent.answers.is ∙ ap (λ o. cut_for o (piece_count x)) same);
        leaves =
            ap₂ (λ (l k : List Burst). l ++ drop m k) (lent.leaves ∙ ap (λ n. row_for (cut_refusal x n) (pieces x) (take m blank_row)) long) f
            ∙ behind (cut_refusal x m) refl
            ∙ ap (λ o. row_for o (pieces x) blank_row) same-refusal;
      }
