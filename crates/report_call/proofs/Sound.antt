-- A clean take: harvesting it into an array as long as a take leaves its transfers in front. Assumes nothing.
use Rattle.std.specs.Prelude.{Option, None, Result, Ok}
use Rattle.std.specs.Result.{is_ok, IsOk}
use mathlib.Core.Path.{◌≡◌, sym, ap, ap₂, ◌∙◌, subst}
use mathlib.Core.List.{List}
use Prim.Native.Nat.{ℕ, ◌*◌, ◌%◌, ◌≤◌}
use native.Mathlib.Nat.{mul-mod_left}
use native.Mathlib.Omega.{arith}
use lib.ListN.{length, take, drop, length-append}
use lib.Seq.{take_at}
use Rattle.refusal.specs.declared.Refusal.{Refusal}
use Rattle.stream_spec.specs.declared.Shape.{Shape}
use Rattle.stream_spec.specs.declared.Verdict.TheVariants.{Clean}
use Rattle.stream_spec.specs.Layout.{size}
use Rattle.stream_spec.specs.Checks.{capture_most}
use Rattle.stream_spec.specs.Handshake.{transfer_count, harvested}
use Rattle.stream_spec.specs.Walk.{Passed}
use Rattle.stream_spec.specs.Memory.{in_front}
use Rattle.stream_spec.specs.Answers.{written, lent_after, judge_answer, harvest_refusal, harvest_after, harvest_answer, Harvested}
use Rattle.stream_spec.proofs.Harvest.{harvested-long, harvested-short}
use Rattle.stream_spec.proofs.Clean.{clean-count, clean-passed, clean-harvested}

-- the code has the shape in t
module _ (s : Shape) (xs : List ℕ) (n : ℕ) (clean : judge_answer s xs ≡ Ok (Clean n)) (t : Shape) (same : t ≡ s) where
  passed : Passed s xs
  passed = clean-passed s xs n clean

  few : length (harvested s xs) ≤ capture_most
  few = omega (arith, harvested-short s xs, passed.short)

  module _ (before after : List ℕ) (room : length before ≡ capture_most) (r : Result ℕ Refusal) (h : Harvested t xs before after r) where
    accepted : harvest_refusal s xs (length before) ≡ None
    accepted = clean-harvested s xs n clean (length before) (omega (arith, few, room))

    pub is_harvested : IsOk r
    unfolding harvest_answer
    is_harvested =
        ap is_ok
        (h.is
        ∙ ap (λ (k : Shape). harvest_answer k xs (length before)) same
        ∙ ap (λ (o : Option Refusal). written o (transfer_count s xs)) accepted)

    left : after ≡ in_front (harvested s xs) before
    unfolding harvest_after
    left =
        h.leaves
        ∙ ap (λ (k : Shape). lent_after (harvest_refusal k xs (length before)) (harvested k xs) before) same
        ∙ ap (λ (o : Option Refusal). lent_after o (harvested s xs) before) accepted

    -- and a record's size in z
    module _ (z : ℕ) (q : z ≡ size t) where
      long : n * z ≡ length (harvested s xs)
      long = ap₂ (λ (a b : ℕ). a * b) (clean-count s xs n clean) (q ∙ ap size same) ∙ sym (harvested-long s xs)

      whole : length (harvested s xs) % size s ≡ 0
      whole = ap (λ (k : ℕ). k % size s) (harvested-long s xs) ∙ mul-mod_left (transfer_count s xs) (size s)

      pub part-is : take (n * z) after ≡ harvested s xs
      part-is = ap (take (n * z)) left ∙ take_at (harvested s xs) (drop (length (harvested s xs)) before) (n * z) (sym long)

      pub part-fits : n * z ≤ length after
      part-fits = omega (arith, long, ap length left, length-append (harvested s xs) (drop (length (harvested s xs)) before))

      pub part-long : n * z ≡ length (take (n * z) after)
      part-long = long ∙ sym (ap length part-is)

      pub short : n * z ≤ capture_most
      short = omega (arith, long, few)

      pub part-passed : Passed t (take (n * z) after)
      part-passed =
          subst (λ (k : Shape). Passed k (take (n * z) after)) (sym same)
          (subst (Passed s) (sym part-is) (record { low = passed.low; high = passed.high; user = passed.user; whole = whole; short = few }))
