-- The data octets of a record: what the tests on the way give, and that the part lies in the take. Assumes nothing.
use Rattle.std.specs.Prelude.{Option, None, Some, Result, Ok, Err}
use Rattle.std.specs.Borrow.{Bor}
use Rattle.std.specs.Result.{IfOk, result_err, result_unwrap_or}
use Rattle.stream_data.specs.Found.{refusal_of}
use mathlib.Core.Path.{◌≡◌, refl, sym, ap, ◌∙◌}
use mathlib.Core.List.{List, [], ◌∷◌}
use Prim.Native.Nat.{ℕ, ◌+◌, ◌-◌, ◌*◌, ◌≤◌, ◌<◌}
use native.Mathlib.Omega.{arith}
use borrow.Author.Tests.{le-leb, lt-leb}
use lib.ListN.{length, take, drop}
use lib.Seq.{drop-drop}
use Rattle.refusal.specs.declared.Refusal.{Refusal}
use Rattle.refusal.specs.declared.Refusal.TheVariants.{Index}
use Rattle.stream_spec.specs.declared.Shape.{Shape}
use Rattle.stream_spec.specs.Layout.{head_octets, size, record_count}
use Rattle.refusal.specs.Checks.{first}
use Rattle.stream_spec.specs.Checks.{take_checks, index_check}
use Rattle.stream_spec.specs.Answers.{LookedUp, lookup, lookup_values, data_refusal, data_answer, data_part, data_start}
use Rattle.stream_spec.proofs.Size.{size_holds}
use Rattle.stream_spec.proofs.Promises.{data_there, record_there}
use Rattle.stream_record.proofs.Tests.{refused_front, passed_front}

module _ (s : Shape) (xs : List ℕ) (k : ℕ) where
  looked : (r : Option Refusal) → data_refusal s xs k ≡ r → LookedUp s xs k (lookup r)
  unfolding data_answer
  looked r e = record { is = ap lookup (sym e); shows = ap (λ (r : Option Refusal). lookup_values (lookup r)) (sym e) }

  -- the tests of shape and length, and then INDEX
  module _ {X : Type 0} (r : Result X Refusal) (e : result_err r ≡ first (take_checks s xs)) where
    pub looked_refused : (f : Refusal) → r ≡ Err f → LookedUp s xs k (Err f)
    looked_refused f h = looked (Some f) (refused_front r (take_checks s xs) e (index_check s xs k ∷ []) f h)

    module _ (t : X) (h : r ≡ Ok t) where
      pub looked_index : record_count s xs ≤ k → LookedUp s xs k (Err Index)
      looked_index i =
          looked (Some Index) (passed_front r (take_checks s xs) e (index_check s xs k ∷ []) t h ∙ rw (le-leb (record_count s xs) k i) refl)

      pub is-there : k < record_count s xs → data_refusal s xs k ≡ None
      is-there i = passed_front r (take_checks s xs) e (index_check s xs k ∷ []) t h ∙ rw (lt-leb (record_count s xs) k i) refl

  pub looked_present : data_refusal s xs k ≡ None → LookedUp s xs k (Ok tt)
  looked_present e = looked None e

  -- an accepted call hands out the record's data, which lies in the take; z is the record's size
  pub part-within : (z : ℕ) → z ≡ size s → data_refusal s xs k ≡ None → k * z + head_octets + s.width ≤ length xs
  part-within z q e = rw q (omega (arith, size_holds s, record_there s xs k (data_there s xs k e).1))

  pub start-present : (z : ℕ) → z ≡ size s → data_refusal s xs k ≡ None → k * z + head_octets ≡ data_start s xs k
  unfolding data_start
  start-present z q e = rw (e, q) refl

  -- ---- what an answer says of the part and of where it starts

  pub refused-start : (f : Refusal) → LookedUp s xs k (Err f) → 0 ≡ data_start s xs k
  unfolding data_answer data_start
  refused-start f h = go (data_refusal s xs k) refl h.is
    where
      go : (r : Option Refusal) → data_refusal s xs k ≡ r → Err f ≡ lookup r → 0 ≡ data_start s xs k
      go None e i = cc
      go (Some g) e i = rw e refl

  pub refused-part : (f : Refusal) → LookedUp s xs k (Err f) → [] ≡ data_part s xs k
  unfolding data_answer data_part
  refused-part f h = go (data_refusal s xs k) refl h.is
    where
      go : (r : Option Refusal) → data_refusal s xs k ≡ r → Err f ≡ lookup r → [] ≡ data_part s xs k
      go None e i = cc
      go (Some g) e i = rw e refl

  pub part-present : (start : ℕ) → start ≡ data_start s xs k → LookedUp s xs k (Ok tt) → take (start + s.width - start) (drop start xs) ≡ data_part s xs k
  unfolding data_answer data_part
  part-present start q h = go (data_refusal s xs k) refl h.is
    where
      go : (r : Option Refusal) → data_refusal s xs k ≡ r → Ok tt ≡ lookup r → take (start + s.width - start) (drop start xs) ≡ data_part s xs k
      go (Some g) e i = cc
      go None e i =
          let width : start + s.width - start ≡ s.width = omega arith in
          rw (e, width, q, ← start-present (size s) refl e, drop-drop head_octets (k * size s) xs) refl

  -- the calls that cannot be refused have 0 and an empty part in place of a refusal
  pub start-of : (r : Result ℕ Refusal) → LookedUp s xs k (refusal_of r) → IfOk r (λ start. start ≡ data_start s xs k) → result_unwrap_or r 0 ≡ data_start s xs k
  start-of (Ok start) h e = e
  start-of (Err f) h e = refused-start f h

  pub part-of : (r : Result (Bor (List ℕ)) Refusal) → LookedUp s xs k (refusal_of r) → IfOk r (λ part. part.now ≡ data_part s xs k)
      → (none : Bor (List ℕ)) → none.now ≡ [] → (result_unwrap_or r none).now ≡ data_part s xs k
  part-of (Ok part) h e none n = e
  part-of (Err f) h e none n = n ∙ refused-part f h
