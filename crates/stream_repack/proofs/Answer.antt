-- The ladder of repack's refusals, a law for each way the code returns. Assumes nothing.
use Rattle.std.specs.Prelude.{Option, None, Some, Result, Ok, Err}
use Rattle.std.specs.Result.{result_err}
use mathlib.Core.Path.{◌≡◌, refl, sym, ap, ◌∙◌}
use mathlib.Core.List.{List, [], ◌∷◌, ◌++◌}
use Prim.Native.Nat.{ℕ}
use native.Mathlib.Omega.{arith}
use lib.ListN.{length, take}
use Rattle.refusal.specs.declared.Refusal.{Refusal}
use Rattle.refusal.specs.Checks.{Check, first}
use Rattle.refusal.proofs.First.{append-found, append-passed}
use Rattle.stream_spec.specs.declared.Shape.{Shape}
use Rattle.stream_spec.specs.Layout.{of_width, records, packed_transfers, packed}
use Rattle.stream_spec.specs.Checks.{transfer_checks, room_check}
use Rattle.stream_spec.specs.Answers.{Repacked, written, lent_after, repack_refusal, repack_answer, repack_after}
use Rattle.stream_spec.proofs.Passed.{WidthFits}
use Rattle.stream_record.proofs.Tests.{input_passed}
use Rattle.repack_scratch.specs.declared.Entry.{Entry}
use Rattle.repack_parse.specs.Read.{TakenAs}
use Rattle.repack_emit.specs.Emit.{Emitted}
use Rattle.stream_repack.specs.Tests.{input_checks}

-- what is told to refuse is that refusal
err_is : (r : Result ℕ Refusal) (f : Refusal) → result_err r ≡ Some f → r ≡ Err f
err_is (Err g) f e = let same : g ≡ f = cc in ap Err same
err_is (Ok n) f e = let z : ◌≡◌ {A = ℕ} 0 1 = cc in absurd (omega arith)

module _ (s : Shape) (v : ℕ) (transfers out : List ℕ) where
  -- the answer and the memory of a refusal, and of any outcome
  pub refused : (f : Refusal) → repack_refusal s v transfers (length out) ≡ Some f → (r : Result ℕ Refusal) → result_err r ≡ Some f
      → Repacked s v transfers out out r
  unfolding repack_answer repack_after
  refused f e r g = rw (err_is r f g) (record { is = rw e refl; leaves = rw e refl; shows = rw e refl })

  pub answered : (o : Option Refusal) (after : List ℕ) (r : Result ℕ Refusal) → repack_refusal s v transfers (length out) ≡ o
      → r ≡ written o (length (packed_transfers s v transfers)) → after ≡ lent_after o (packed s v transfers) out → Repacked s v transfers out after r
  unfolding repack_answer repack_after
  answered o after r e f g = record { is = rw e f; leaves = rw e g; shows = rw (e, f) refl }

  -- the checks behind the tests
  abbrev later : List (Check Refusal)
  later = transfer_checks s 0 (records s transfers) ++ room_check (packed s v transfers) (length out) ∷ []

  -- a test refuses
  pub not_passed : (f : Refusal) → first (input_checks s v transfers) ≡ Some f → (r : Result ℕ Refusal) → result_err r ≡ Some f
      → Repacked s v transfers out out r
  not_passed f e = refused f (append-found (input_checks s v transfers) later f e)

  module _ (tested : first (input_checks s v transfers) ≡ None) where
    -- what the tests let through
    pub width_fits : WidthFits v
    width_fits = (input_passed {X = Unit {0}} (Ok tt) tt refl s v transfers (sym tested)).1

    ladder : repack_refusal s v transfers (length out) ≡ first later
    ladder = append-passed (input_checks s v transfers) later tested

    -- a record's fault
    pub bad_record : (f : Refusal) → first (transfer_checks s 0 (records s transfers)) ≡ Some f → (r : Result ℕ Refusal) → result_err r ≡ Some f
        → Repacked s v transfers out out r
    bad_record f h =
        refused f (ladder ∙ append-found (transfer_checks s 0 (records s transfers)) (room_check (packed s v transfers) (length out) ∷ []) f h)

    -- no fault: the take's stretches are in the table, their items held as codes
    module _ (codes : List ℕ) (table : List Entry) (n : ℕ) (t : TakenAs s transfers codes table n) where
      -- what writing them answers is the answer
      pub no_fault : (after : List ℕ) (r : Result ℕ Refusal) → Emitted s.user v codes (take n table) out after r → Repacked s v transfers out after r
      no_fault after r m =
          answered (first (room_check (packed s v transfers) (length out) ∷ [])) after r
          (ladder ∙ append-passed (transfer_checks s 0 (records s transfers)) (room_check (packed s v transfers) (length out) ∷ []) t.faultless)
          (rw t.finished.is at m.answer) (rw t.finished.is at m.memory)

-- a shape without user bits is known by its width
pub bare_shape : (s : Shape) → s.user ≡ 0 → of_width s.width ≡ s
bare_shape s e = λ i. record { width = s.width; user = sym e i }
