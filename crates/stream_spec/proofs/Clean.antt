-- What a clean verdict says of a take: shape and length have passed, no rule is broken, its number counts the transfers, and
-- harvesting it is refused for want of room and for nothing else. Assumes nothing.
use Rattle.std.specs.Prelude.{Option, None, Some, Ok}
use mathlib.Core.Path.{◌≡◌, refl, ◌∙◌}
use mathlib.Core.Bool.{Bool, true, false}
use mathlib.Core.List.{List, [], ◌∷◌, ◌++◌, map}
use Prim.Native.Nat.{ℕ, ◌≤◌}
use native.Mathlib.Omega.{arith}
use borrow.Author.Tests.{le-ltb}
use lib.ListN.{length}
use Rattle.refusal.specs.declared.Refusal.{Refusal}
use Rattle.refusal.specs.Checks.{Check, first}
use Rattle.refusal.proofs.First.{append-none, append-passed}
use Rattle.stream_spec.specs.declared.Shape.{Shape}
use Rattle.stream_spec.specs.declared.Verdict.TheVariants.{Clean}
use Rattle.stream_spec.specs.Layout.{records}
use Rattle.stream_spec.specs.Checks.{take_checks, cycle_checks, room_check}
use Rattle.stream_spec.specs.Handshake.{Finding, findings, first_finding, transfer_count, harvested}
use Rattle.stream_spec.specs.Walk.{Passed}
use Rattle.stream_spec.specs.Answers.{verdict, judge_checks, judge_answer, unclean_check, harvest_refusal}
use Rattle.stream_spec.proofs.Passed.{checks-passed}

-- nothing is refused, no rule is broken, and its number is the count
record IsClean (j : Option Refusal) (f : Option Finding) (n m : ℕ) : Type 0 where
  accepted : j ≡ None
  sound : f ≡ None
  count : n ≡ m

is-clean : (j : Option Refusal) (f : Option Finding) (n m : ℕ) → verdict j f m ≡ Ok (Clean n) → IsClean j f n m
is-clean (Some r) f n m e = let z : ◌≡◌ {A = ℕ} 0 1 = cc in absurd (omega arith)
is-clean None (Some f) n m e = let z : ◌≡◌ {A = ℕ} 0 1 = cc in absurd (omega arith)
is-clean None None n m e = record { accepted = refl; sound = refl; count = cc }

no-rule : (fs : List (Check Finding)) → first fs ≡ None → first (map unclean_check fs) ≡ None
no-rule [] e = refl
no-rule (f ∷ fs) e = go f.found refl (no-rule fs)
  where
    go : (b : Bool) → f.found ≡ b → (first fs ≡ None → first (map unclean_check fs) ≡ None) → first (map unclean_check (f ∷ fs)) ≡ None
    go true h later = let found : Some f.gives ≡ None = rw h at e in let z : ◌≡◌ {A = ℕ} 0 1 = cc in absurd (omega arith)
    go false h later = rw h (later (rw h at e))

module _ (s : Shape) (xs : List ℕ) (n : ℕ) (clean : judge_answer s xs ≡ Ok (Clean n)) where
  is : IsClean (first (judge_checks s xs)) (first_finding s xs) n (transfer_count s xs)
  unfolding judge_answer
  is = is-clean (first (judge_checks s xs)) (first_finding s xs) n (transfer_count s xs) clean

  pub clean-count : n ≡ transfer_count s xs
  clean-count = is.count

  pub clean-sound : first_finding s xs ≡ None
  clean-sound = is.sound

  -- shape and length have passed their tests
  pub clean-taken : first (take_checks s xs) ≡ None
  clean-taken = (append-none (take_checks s xs) (cycle_checks s 0 (records s xs)) is.accepted).0

  pub clean-passed : Passed s xs
  clean-passed = checks-passed s xs clean-taken

  pub clean-harvested : (room : ℕ) → length (harvested s xs) ≤ room → harvest_refusal s xs room ≡ None
  clean-harvested room h =
      let rules = map unclean_check (findings s 0 None (records s xs)) in
      let roomy = room_check (harvested s xs) room ∷ [] in
      append-passed (judge_checks s xs) (rules ++ roomy) is.accepted
      ∙ append-passed rules roomy (no-rule (findings s 0 None (records s xs)) is.sound)
      ∙ rw (le-ltb room (length (harvested s xs)) h) refl
