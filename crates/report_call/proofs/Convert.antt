-- Converting the harvested transfers: what the call of either mode leaves, and the two ways that the code ends. Assumes nothing.
use Rattle.std.specs.Prelude.{Option, None, Some, Result, Ok, Err}
use mathlib.Core.Path.{◌≡◌, refl, sym, ap, ap₂, ◌∙◌, subst}
use mathlib.Core.List.{List}
use Prim.Native.Nat.{ℕ, ◌*◌, ◌≤◌}
use native.Mathlib.Omega.{arith}
use lib.ListN.{length}
use Rattle.refusal.specs.declared.Refusal.{Refusal}
use Rattle.stream_spec.specs.declared.Shape.{Shape}
use Rattle.stream_spec.specs.Layout.{size}
use Rattle.stream_spec.specs.Answers.{written, lent_after, repack_after, downsize_after}
use Rattle.report_setup_spec.specs.declared.Setup.{Setup}
use Rattle.report_setup_spec.specs.declared.Mode.{Mode}
use Rattle.report_setup_spec.specs.declared.Mode.TheVariants.{Pack, Lanes}
use Rattle.report_spec.specs.declared.Verdict.TheVariants.{Clean}
use Rattle.report_spec.specs.Report.{shape_of, out_shape, packet_count, convert_result, tally, converted, converted_transfers}
use Rattle.report_spec.proofs.Convert.{convert_refusal, convert_count, answer-is, result-long, result_fits, not_written, IsWritten, is-written}
use Rattle.report_call.specs.declared.outcome.Ending.{Ending}
use Rattle.report_call.specs.Steps.{Came, Converts, convert_after}
use Rattle.report_call.proofs.Steps.{as-refused}

-- ---- lent memory, in either mode

after_is : (m : Mode) (u : Setup) (xs out : List ℕ)
    → convert_after m u xs out ≡ lent_after (convert_refusal m (shape_of u) u.width_out xs (length out)) (convert_result m (shape_of u) u.width_out xs) out
unfolding repack_after downsize_after
after_is Pack u xs out = refl
after_is Lanes u xs out = refl

-- ---- the two ways that the code ends

module _ (u : Setup) (count : ℕ) (ts out after : List ℕ) (w : Result ℕ Refusal) (k : Converts u ts out after w) where
  abbrev s : Shape
  s = shape_of u

  abbrev v : ℕ
  v = u.width_out

  abbrev refusal : Option Refusal
  refusal = convert_refusal u.mode s v ts (length out)

  said : w ≡ written refusal (convert_count u.mode s v ts)
  said = k.is ∙ answer-is u.mode s v ts (length out)

  left : (o : Option Refusal) → refusal ≡ o → after ≡ lent_after o (convert_result u.mode s v ts) out
  left o e = k.leaves ∙ after_is u.mode u ts out ∙ ap (λ (x : Option Refusal). lent_after x (convert_result u.mode s v ts) out) e

  came : (f : Result Ending Refusal) (x : Result ℕ Refusal) → w ≡ x → Came (converted x count (packet_count s ts) (convert_result u.mode s v ts)) out after f
      → Came (converted_transfers u ts (length out) count) out after f
  came f x e c =
      subst (λ (y : Result ℕ Refusal). Came (converted y count (packet_count s ts) (convert_result u.mode s v ts)) out after f) (sym e ∙ k.is) c

  pub room-short : (r : Refusal) → w ≡ Err r → (f : Result Ending Refusal) → f ≡ Err r → Came (converted_transfers u ts (length out) count) out after f
  room-short r e f g =
      let found = not_written refusal (convert_count u.mode s v ts) r (sym e ∙ said) in
      came f (Err r) e (as-refused r out after f g (left (Some r) found))

  module _ (n : ℕ) (e : w ≡ Ok n) where
    wrote : IsWritten refusal n (convert_count u.mode s v ts)
    wrote = is-written refusal (convert_count u.mode s v ts) n (sym e ∙ said)

    -- and the shape of the result in o, with its record size in z
    module _ (o : Shape) (shape : o ≡ out_shape u) (z : ℕ) (q : z ≡ size o) where
      long-is : n * z ≡ length (convert_result u.mode s v ts)
      long-is = ap₂ (λ (a b : ℕ). a * b) wrote.count (q ∙ ap size shape) ∙ sym (result-long u.mode s v ts)

      pub long-fits : n * z ≤ length out
      long-fits = omega (arith, long-is, result_fits u.mode s v ts (length out) wrote.accepted)

      -- the packets were counted in records of the shape in t
      pub all-written : (p : ℕ) (t : Shape) → p ≡ packet_count t ts → t ≡ s
          → Came (converted_transfers u ts (length out) count) out after (Ok (record { verdict = Clean (tally count p n); octets = n * z }))
      all-written p t h same =
          came (Ok (record { verdict = Clean (tally count p n); octets = n * z })) (Ok n) e
          (record {
            is = ap (λ (x : ℕ). Ok (Clean (tally count x n))) (h ∙ ap (λ (x : Shape). packet_count x ts) same);
            result_length = long-is;
            leaves = left None wrote.accepted;
          })
