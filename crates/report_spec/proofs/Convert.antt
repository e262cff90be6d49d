-- Converting the harvested transfers, in either mode: what its answer says of the refusal and of the result's length, and the
-- result of records that all have TLAST.
-- Assumes nothing.
use Rattle.std.specs.Prelude.{Option, None, Some, Ok, Err}
use mathlib.Core.Path.{◌≡◌, refl, sym, ap, ap₂, ◌∙◌, subst}
use mathlib.Core.List.{List, [], ◌∷◌, ◌++◌, map, append-nil}
use Prim.Native.Nat.{ℕ, ◌*◌, ◌≤◌}
use native.Mathlib.Omega.{arith}
use borrow.Author.Tests.{ltb-false}
use lib.ListN.{length}
use Rattle.refusal.specs.declared.Refusal.{Refusal}
use Rattle.refusal.proofs.First.{first-none, append-none}
use Rattle.stream_spec.specs.declared.Shape.{Shape}
use Rattle.stream_spec.specs.Layout.{size, at_width, records, joined, transfer_of, transfers, octets, packed_transfers, packed, sliced, sliced_transfers}
use Rattle.stream_spec.specs.Checks.{shape_checks, ratio_check, length_check, transfer_checks, room_check}
use Rattle.stream_spec.specs.Answers.{written, repack_refusal, repack_answer, downsize_refusal, downsize_answer}
use Rattle.stream_spec.specs.Packed.{slice_transfer, slices}
use Rattle.stream_spec.specs.Promises.{AllLast}
use Rattle.stream_spec.proofs.Pack.{wide-slices}
use Rattle.stream_spec.proofs.Records.{Sized, record_alone, records-joined, length-octets, octets-append, length-packed}
use Rattle.stream_spec.proofs.Promises.{each_its_packet}
use Rattle.stream_spec.proofs.Repack.{repacks_of}
use Rattle.report_setup_spec.specs.declared.Mode.{Mode}
use Rattle.report_setup_spec.specs.declared.Mode.TheVariants.{Pack, Lanes}
use Rattle.report_spec.specs.Report.{convert_answer, convert_result}

-- ---- one answer for both modes

abbrev pub convert_refusal : Mode → Shape → ℕ → List ℕ → ℕ → Option Refusal
convert_refusal Pack s v xs room = repack_refusal s v xs room
convert_refusal Lanes s v xs room = downsize_refusal s v xs room

abbrev pub convert_count : Mode → Shape → ℕ → List ℕ → ℕ
convert_count Pack s v xs = length (packed_transfers s v xs)
convert_count Lanes s v xs = length (sliced_transfers s v xs)

pub answer-is : (m : Mode) (s : Shape) (v : ℕ) (xs : List ℕ) (room : ℕ)
    → convert_answer m s v xs room ≡ written (convert_refusal m s v xs room) (convert_count m s v xs)
unfolding repack_answer downsize_answer
answer-is Pack s v xs room = refl
answer-is Lanes s v xs room = refl

pub result-long : (m : Mode) (s : Shape) (v : ℕ) (xs : List ℕ) → length (convert_result m s v xs) ≡ convert_count m s v xs * size (at_width s v)
result-long Pack s v xs = length-packed s v xs
result-long Lanes s v xs = length-octets (at_width s v) (sliced_transfers s v xs) (wide-slices s.width v (transfers s xs))

pub result_fits : (m : Mode) (s : Shape) (v : ℕ) (xs : List ℕ) (room : ℕ) → convert_refusal m s v xs room ≡ None → length (convert_result m s v xs) ≤ room
result_fits Pack s v xs room e = (repacks_of s v xs room e).fits
result_fits Lanes s v xs room e =
    let end = room_check (sliced s v xs) room ∷ [] in
    let recs = transfer_checks s 0 (records s xs) in
    let a = append-none (shape_checks s (v ∷ [])) (ratio_check s v ∷ length_check s xs ∷ (recs ++ end)) e in
    let b = first-none (ratio_check s v) (length_check s xs ∷ (recs ++ end)) a.1 in
    let c = first-none (length_check s xs) (recs ++ end) b.1 in
    let d = append-none recs end c.1 in
    ltb-false room (length (sliced s v xs)) (first-none (room_check (sliced s v xs) room) [] d.1).0

-- ---- record by record

-- a record is cut by itself
each-sliced : (s : Shape) (v : ℕ) (rs : List (List ℕ)) → Sized (size s) rs
    → octets s.user (slices s.width v (map (transfer_of s) rs)) ≡ joined (map (sliced s v) rs)
each-sliced s v [] z = refl
each-sliced s v (r ∷ rs) z =
    let t = transfer_of s r in
    let alone : sliced s v r ≡ octets s.user (slice_transfer s.width v t) =
    ap (λ (rs : List (List ℕ)). octets s.user (slices s.width v (map (transfer_of s) rs))) (record_alone s r z.0)
    ∙ ap (octets s.user) (append-nil (slice_transfer s.width v t)) in
    octets-append s.user (slice_transfer s.width v t) (slices s.width v (map (transfer_of s) rs))
    ∙ ap₂ (λ (a b : List ℕ). a ++ b) (sym alone) (each-sliced s v rs z.1)

-- where each record has TLAST, each is converted by itself, in either mode
pub each-converted : (m : Mode) (s : Shape) (v : ℕ) (rs : List (List ℕ)) → Sized (size s) rs → AllLast rs
    → convert_result m s v (joined rs) ≡ joined (map (convert_result m s v) rs)
each-converted Pack s v rs z h =
    each_its_packet s v (joined rs) (subst AllLast (sym (records-joined s rs z)) h)
    ∙ ap (λ (rs : List (List ℕ)). joined (map (packed s v) rs)) (records-joined s rs z)
each-converted Lanes s v rs z h =
    ap (λ (rs : List (List ℕ)). octets s.user (slices s.width v (map (transfer_of s) rs))) (records-joined s rs z) ∙ each-sliced s v rs z

-- ---- what an answer says

pub not_written : (o : Option Refusal) (n : ℕ) (r : Refusal) → Err r ≡ written o n → o ≡ Some r
not_written None n r e = let z : ◌≡◌ {A = ℕ} 0 1 = cc in absurd (omega arith)
not_written (Some q) n r e = cc

pub record IsWritten (o : Option Refusal) (m n : ℕ) : Type 0 where
  pub accepted : o ≡ None
  pub count : m ≡ n

pub is-written : (o : Option Refusal) (n m : ℕ) → Ok m ≡ written o n → IsWritten o m n
is-written None n m e = record { accepted = refl; count = cc }
is-written (Some q) n m e = let z : ◌≡◌ {A = ℕ} 0 1 = cc in absurd (omega arith)
