-- What an accepted repacking call means: its widths are from 1 to 16, its input is a take of whole records without fault,
-- and its result is the packed form. Assumes nothing.
use Rattle.std.specs.Prelude.{Option, None, Some}
use mathlib.Core.Path.{◌≡◌, refl, ◌∙◌}
use mathlib.Core.Bool.{false}
use mathlib.Core.List.{List, [], ◌∷◌, ◌++◌}
use Prim.Native.Nat.{ℕ, ◌*◌, ◌%◌, ◌≤◌}
use native.Mathlib.Omega.{arith}
use borrow.Author.Tests.{ltb-false, le-ltb}
use lib.ListN.{length, drop}
use lib.Seq.{take_at}
use Rattle.refusal.specs.declared.Refusal.{Refusal}
use Rattle.stream_spec.specs.declared.Shape.{Shape}
use Rattle.stream_spec.specs.Layout.{size, at_width, records, packed_transfers, packed}
use Rattle.refusal.specs.Checks.{first}
use Rattle.stream_spec.specs.Checks.{capture_most, width_check, shape_checks, length_check, transfer_checks, room_check}
use Rattle.stream_spec.specs.Answers.{written, repack_refusal, repack_answer, repack_after}
use Rattle.stream_spec.specs.Legal.{Octets, Legal}
use Rattle.stream_spec.specs.Demand3.{Call, answer_to, accepted, result_of}
use Rattle.refusal.proofs.First.{first-none, none_first, append-none, none-append, append-passed}
use Rattle.stream_spec.proofs.Passed.{WidthFits, ShapeFits, shapes_fit, fits-shapes, shapes_left, length-fits, fits-length}
use Rattle.stream_spec.proofs.Records.{length-packed}

-- the input that a repacking call accepts
pub record Takes (s : Shape) (xs : List ℕ) : Type 0 where
  pub shape : ShapeFits s
  pub length : (length_check s xs).found ≡ false
  pub faultless : first (transfer_checks s 0 (records s xs)) ≡ None

-- an accepted call
pub record Repacks (s : Shape) (v : ℕ) (xs : List ℕ) (room : ℕ) : Type 0 where
  pub input : Takes s xs
  pub output : WidthFits v
  pub fits : length (packed s v xs) ≤ room

pub repacks_of : (s : Shape) (v : ℕ) (xs : List ℕ) (room : ℕ) → repack_refusal s v xs room ≡ None → Repacks s v xs room
repacks_of s v xs room e =
    let later = transfer_checks s 0 (records s xs) ++ room_check (packed s v xs) room ∷ [] in
    let w = append-none (shape_checks s (v ∷ [])) (length_check s xs ∷ later) e in
    let h = shapes_fit s v w.0 in
    let l = first-none (length_check s xs) later w.1 in
    let r = append-none (transfer_checks s 0 (records s xs)) (room_check (packed s v xs) room ∷ []) l.1 in
    let f = first-none (room_check (packed s v xs) room) [] r.1 in
    record {
      input = record { shape = h.0; length = l.0; faultless = r.0 };
      output = h.1;
      fits = ltb-false room (length (packed s v xs)) f.0;
    }

pub of_repacks : (s : Shape) (v : ℕ) (xs : List ℕ) (room : ℕ) → Repacks s v xs room → repack_refusal s v xs room ≡ None
of_repacks s v xs room h =
    let later = transfer_checks s 0 (records s xs) ++ room_check (packed s v xs) room ∷ [] in
    none-append (shape_checks s (v ∷ [])) (length_check s xs ∷ later) (fits-shapes s v h.input.shape h.output)
    (none_first (length_check s xs) later h.input.length
    (none-append (transfer_checks s 0 (records s xs)) (room_check (packed s v xs) room ∷ []) h.input.faultless
    (none_first (room_check (packed s v xs) room) [] (le-ltb room (length (packed s v xs)) h.fits) refl)))

-- the input of an accepted call is a whole number of records
pub takes_whole : (s : Shape) (xs : List ℕ) → Takes s xs → length xs % size s ≡ 0
takes_whole s xs h = (length-fits s xs h.length).1

-- and a legal stream, where its numbers are octets
pub takes_legal : (s : Shape) (xs : List ℕ) → Octets xs → Takes s xs → Legal s xs
takes_legal s xs o h =
    record {
      width_low = h.shape.low;
      width_high = h.shape.high;
      user_high = h.shape.user;
      octets = o;
      whole = takes_whole s xs h;
      faultless = h.faultless;
    }

-- A legal stream that is no longer than a take is refused for the output's width or for want of room, and for nothing else.
pub legal_repacks : (s : Shape) (v : ℕ) (xs : List ℕ) (room : ℕ) → Legal s xs → length xs ≤ capture_most
    → repack_refusal s v xs room ≡ first (width_check v ∷ room_check (packed s v xs) room ∷ [])
legal_repacks s v xs room l short =
    let roomy = room_check (packed s v xs) room ∷ [] in
    let later = transfer_checks s 0 (records s xs) ++ roomy in
    shapes_left s v (length_check s xs ∷ later) (record { low = l.width_low; high = l.width_high; user = l.user_high })
    ∙ rw (fits-length s xs short l.whole, append-passed (transfer_checks s 0 (records s xs)) roomy l.faultless) refl

-- ---- answers

-- an accepted call answers the number of records of the packed form
pub record Accepted (s : Shape) (v : ℕ) (xs : List ℕ) (room n : ℕ) : Type 0 where
  pub repacks : Repacks s v xs room
  pub number : n ≡ length (packed_transfers s v xs)

pub accepted_of : (s : Shape) (v : ℕ) (xs : List ℕ) (room n : ℕ) → accepted (repack_answer s v xs room) ≡ Some n → Accepted s v xs room n
unfolding repack_answer
accepted_of s v xs room n e = go (repack_refusal s v xs room) refl e
  where
    go : (r : Option Refusal) → repack_refusal s v xs room ≡ r → accepted (written r (length (packed_transfers s v xs))) ≡ Some n
        → Accepted s v xs room n
    go None h k = record { repacks = repacks_of s v xs room h; number = cc }
    go (Some f) h k = let z : ◌≡◌ {A = ℕ} 0 1 = cc in absurd (omega arith)

pub of_accepted : (s : Shape) (xs : List ℕ) (c : Call) → Repacks s c.width xs (length c.lent)
    → accepted (answer_to s xs c) ≡ Some (length (packed_transfers s c.width xs))
unfolding repack_answer
of_accepted s xs c h = rw (of_repacks s c.width xs (length c.lent) h) refl

-- "The result of an accepted repacking call" is the packed form.
pub result-packed : (s : Shape) (xs : List ℕ) (c : Call) (n : ℕ) → Accepted s c.width xs (length c.lent) n → result_of s xs c n ≡ packed s c.width xs
unfolding repack_after
result-packed s xs c n h =
    rw (of_repacks s c.width xs (length c.lent) h.repacks, h.number)
    (take_at (packed s c.width xs) (drop (length (packed s c.width xs)) c.lent)
    (length (packed_transfers s c.width xs) * size (at_width s c.width)) (length-packed s c.width xs))
