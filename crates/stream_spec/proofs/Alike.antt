-- A take that is filled in is judged alike at both levels: no field, no rule and no count tells them apart. Assumes nothing.
use Rattle.std.specs.Prelude.{Option, None, Some, Result}
use mathlib.Core.Path.{◌≡◌, refl, sym, ap, ap₂, ◌∙◌}
use mathlib.Core.Bool.{Bool, true, false}
use mathlib.Core.List.{List, [], ◌∷◌, ◌++◌, map}
use Prim.Native.Nat.{ℕ, suc, ◌%◌, ◌^◌, ◌<◌}
use native.Mathlib.Omega.{arith}
use borrow.Author.Tests.{le-leb, lt-leb, leb-true, leb-false}
use lib.Dec.{leb}
use lib.ListN.{length, length-map}
use Rattle.refusal.specs.declared.Refusal.{Refusal}
use Rattle.refusal.specs.Checks.{Check, first}
use Rattle.stream_spec.specs.declared.Shape.{Shape}
use Rattle.stream_spec.specs.declared.Verdict.{Verdict}
use Rattle.stream_spec.specs.Layout.{size, last_set, records}
use Rattle.stream_spec.specs.Checks.{cycle_flags, take_checks, cycle_checks}
use Rattle.stream_spec.specs.Handshake.{Finding, rule_checks, findings, handshakes, as_transfer, with_last, filled_in, as_filled}
use Rattle.stream_spec.specs.Answers.{verdict, judge_answer, fill_refusal, fill_after}
use Rattle.stream_spec.specs.Promises.{JudgedAlike}
use Rattle.stream_spec.proofs.Bools.{beq_refl}
use Rattle.stream_spec.proofs.Bits.{bit-one}
use Rattle.stream_spec.proofs.Size.{size_pos}
use Rattle.stream_spec.proofs.Users.{users_body}
use Rattle.stream_spec.proofs.Passed.{checks-passed}
use Rattle.stream_spec.proofs.Records.{Sized, records_sized}
use Rattle.stream_spec.proofs.Fill.{set-zero, set-above, filled-handshakes, filled-records, filled-long, refused-kept, taken-filled}

-- the flags above bit 3 are as they were, so FIELD is
flags_alike : (level : Bool) (f : ℕ) → leb (2 ^ cycle_flags) (last_set level f) ≡ leb (2 ^ cycle_flags) f
flags_alike level f = go (leb (2 ^ cycle_flags) f) refl
  where
    go : (b : Bool) → leb (2 ^ cycle_flags) f ≡ b → leb (2 ^ cycle_flags) (last_set level f) ≡ leb (2 ^ cycle_flags) f
    go true e = le-leb (2 ^ cycle_flags) (last_set level f) (omega (arith, leb-true (2 ^ cycle_flags) f e)) ∙ sym e
    go false e = lt-leb (2 ^ cycle_flags) (last_set level f) (omega (arith, leb-false (2 ^ cycle_flags) f e, bit-one level)) ∙ sym e

checks_alike : (level : Bool) (s : Shape) (k : ℕ) (cs : List (List ℕ)) → cycle_checks s k (map (with_last level) cs) ≡ cycle_checks s k cs
checks_alike level s k [] = refl
checks_alike level s k ([] ∷ cs) = rw (checks_alike level s (suc k) cs) refl
checks_alike level s k ((f ∷ r) ∷ cs) = rw (users_body s (last_set level f) f r, flags_alike level f, checks_alike level s (suc k) cs) refl

count_alike : (level : Bool) (n : ℕ) (cs : List (List ℕ)) → 0 < n → Sized n cs → length (handshakes (map (with_last level) cs)) ≡ length (handshakes cs)
count_alike level n cs h z =
    sym (length-map (handshakes (map (with_last level) cs)) as_transfer)
    ∙ ap {B = ℕ} length (filled-handshakes level n cs h z) ∙ length-map (handshakes cs) (as_filled level)

-- the cycle before, filled in; where there is one, it is a whole record
abbrev filled_before : Bool → Option (List ℕ) → Option (List ℕ)
filled_before level None = None
filled_before level (Some b) = Some (with_last level b)

abbrev BeforeSized : ℕ → Option (List ℕ) → Type 0
BeforeSized n None = Unit {0}
BeforeSized n (Some b) = length b ≡ n

-- no rule tells the levels apart: TLAST never differs in a filled take, and R1 to R4 read nothing else of bit 0
module _ (a b : Bool) (s : Shape) where
  rules_first : (k f : ℕ) (r : List ℕ) → rule_checks s k None (with_last a (f ∷ r)) ≡ rule_checks s k None (with_last b (f ∷ r))
  rules_first k f r = rw (set-above a 0 f, set-above a 2 f, set-above b 0 f, set-above b 2 f) refl

  rules_next : (k g : ℕ) (q : List ℕ) (f : ℕ) (r : List ℕ)
      → rule_checks s k (Some (with_last a (g ∷ q))) (with_last a (f ∷ r)) ≡ rule_checks s k (Some (with_last b (g ∷ q))) (with_last b (f ∷ r))
  rules_next k g q f r =
      rw (set-above a 0 f, set-above a 2 f, set-above a 0 g, set-above a 1 g, set-above a 2 g, set-zero a f, set-zero a g, beq_refl a)
      (rw (set-above b 0 f, set-above b 2 f, set-above b 0 g, set-above b 1 g, set-above b 2 g, set-zero b f, set-zero b g, beq_refl b) refl)

  findings_alike : (n : ℕ) → 0 < n → (k : ℕ) (cs : List (List ℕ)) → Sized n cs → (before : Option (List ℕ)) → BeforeSized n before
      → findings s k (filled_before a before) (map (with_last a) cs) ≡ findings s k (filled_before b before) (map (with_last b) cs)
  findings_alike n h k [] z before w = refl
  findings_alike n h k ([] ∷ cs) z before w = absurd (omega (arith, z.0))
  findings_alike n h k ((f ∷ r) ∷ cs) z None w =
      ap₂ {C = List (Check Finding)} (λ x y. x ++ y) (rules_first k f r) (findings_alike n h (suc k) cs z.1 (Some (f ∷ r)) z.0)
  findings_alike n h k ((f ∷ r) ∷ cs) z (Some []) w = absurd (omega (arith, w))
  findings_alike n h k ((f ∷ r) ∷ cs) z (Some (g ∷ q)) w =
      ap₂ {C = List (Check Finding)} (λ x y. x ++ y) (rules_next k g q f r) (findings_alike n h (suc k) cs z.1 (Some (f ∷ r)) z.0)

  -- judging a filled take: its length is the take's, and its records are these
  abbrev judged_by : List ℕ → List (List ℕ) → Result Verdict Refusal
  judged_by xs cs = verdict (first (take_checks s xs ++ cycle_checks s 0 cs)) (first (findings s 0 None cs)) (length (handshakes cs))

  judge-filled : (level : Bool) (xs : List ℕ) → length xs % size s ≡ 0 → judge_answer s (filled_in level s xs) ≡ judged_by xs (map (with_last level) (records s xs))
  unfolding judge_answer
  judge-filled level xs whole = rw (filled-records level s xs, filled-long level s xs whole) refl

  filled_alike : (xs : List ℕ) → length xs % size s ≡ 0 → judge_answer s (filled_in a s xs) ≡ judge_answer s (filled_in b s xs)
  filled_alike xs whole =
      let rs = records s xs in
      let z = records_sized s xs in
      judge-filled a xs whole
      ∙ rw (checks_alike a s 0 rs, checks_alike b s 0 rs, count_alike a (size s) rs (size_pos s) z, count_alike b (size s) rs (size_pos s) z, findings_alike (size s) (size_pos s) 0 rs z None tt) refl
      ∙ sym (judge-filled b xs whole)

pub judged-alike : JudgedAlike
judged-alike a b s xs = go (fill_refusal s xs) refl
  where
    go : (o : Option Refusal) → fill_refusal s xs ≡ o → judge_answer s (fill_after a s xs) ≡ judge_answer s (fill_after b s xs)
    go (Some r) e = ap (judge_answer s) (refused-kept a s xs r e ∙ sym (refused-kept b s xs r e))
    go None e =
        ap (judge_answer s) (taken-filled a s xs e) ∙ filled_alike a b s xs (checks-passed s xs e).whole ∙ sym (ap (judge_answer s) (taken-filled b s xs e))
