-- A row of bursts while a cut is written to it, and when it is written. Assumes nothing.
use Rattle.std.specs.Prelude.{Option, None, Some, Result, Err}
use Rattle.std.proofs.lemmas.List.{drop_all}
use mathlib.Core.List.{List, [], ◌∷◌, ◌++◌, append-nil}
use mathlib.Core.Path.{◌≡◌, refl, sym, ap, ◌∙◌}
use Prim.Native.Nat.{ℕ, suc, ◌+◌, ◌≤◌, ◌<◌}
use native.Mathlib.Numerals.{add-one}
use native.Mathlib.Omega.{arith}
use lib.ListN.{length, set, take, drop, get_or}
use lib.Seq.{drop-cons, set-append_seam, append_snoc, length-take-le}
use Rattle.refusal.specs.declared.Refusal.{Refusal}
use Rattle.burst_spec.specs.declared.Burst.{Burst}
use Rattle.axi3_spec.specs.Cut.{piece_count, piece, run, pieces}
use Rattle.axi3_spec.specs.Answers.{cut_refusal, cut_for, cut_after, row_for, Answered, Cut}
use Rattle.axi3.specs.Rows.{used_of, filled}
use Rattle.axi3_spec.proofs.Runs.{run_length, run-last}
use Rattle.axi3_spec.proofs.Answers.{refused-is}

-- what an answer counts, by the first refusal
pub used_is : (x : Burst) (room : ℕ) (r : Result ℕ Refusal) → Answered x room r → (o : Option Refusal) → cut_refusal x room ≡ o
    → used_of r ≡ used_of (cut_for o (piece_count x))
used_is x room r a o e = ap used_of a.is ∙ ap (λ q. used_of (cut_for q (piece_count x))) e

module _ (x : Burst) (row : List Burst) where
  pub filled_none : filled x 0 row ≡ row
  unfolding filled run
  filled_none = refl

  -- one more is written
  pub filled_next : (n : ℕ) → n < length row → set (filled x n row) n (piece x n) ≡ filled x (n + 1) row
  unfolding filled
  filled_next n h =
      let front : List Burst = run (piece x) 0 n in
      ap (λ l. set (front ++ l) n (piece x n)) (drop-cons row n x h)
      ∙ ap (λ k. set (front ++ get_or row n x ∷ drop (suc n) row) k (piece x n)) (sym (run_length (piece x) 0 n))
      ∙ set-append_seam front (get_or row n x) (drop (suc n) row) (piece x n)
      ∙ sym (append_snoc front (piece x n) (drop (suc n) row))
      ∙ ap (λ l. l ++ drop (suc n) row) (sym (run-last (piece x) n))
      ∙ ap (λ k. run (piece x) 0 k ++ drop k row) (sym (add-one n))

  -- the front of the row, when it is written
  pub filled-front : (n : ℕ) → n ≤ length row → (front : List Burst) → front ≡ filled x n (take n row) → front ++ drop n row ≡ filled x n row
  unfolding filled
  filled-front n h front e =
      let none : drop n (take n row) ≡ [] = drop_all n (take n row) (omega (arith, length-take-le n row h)) in
      ap (λ l. l ++ drop n row) (e ∙ ap (λ l. run (piece x) 0 n ++ l) none ∙ append-nil (run (piece x) 0 n))

  -- refused, the row keeps its content
  pub row_kept : (r : Refusal) → Answered x (length row) (Err r) → Cut x row (Err r) row
  row_kept r a =
      record { answers = a; leaves = sym (ap (λ o. row_for o (pieces x) row) (refused-is x (length row) r a.is)) }

  filled_by : (o : Option Refusal) → filled x (used_of (cut_for o (piece_count x))) row ≡ row_for o (pieces x) row
  unfolding filled
  filled_by (Some q) = filled_none
  filled_by None = ap (λ n. pieces x ++ drop n row) (sym (run_length (piece x) 0 (piece_count x)))

  -- when all that the answer counts is written, the row is as defined
  pub filled-all : (r : Result ℕ Refusal) → Answered x (length row) r → filled x (used_of r) row ≡ cut_after x row
  filled-all r a = ap (λ q. filled x (used_of q) row) a.is ∙ filled_by (cut_refusal x (length row))
