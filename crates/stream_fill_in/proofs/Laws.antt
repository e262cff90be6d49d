-- Fill-in, record by record: what is known at the start, after one record more, and at the end; and the answer of the call.
-- Assumes nothing.
use Rattle.std.specs.Prelude.{Option, None, Some, Result, Ok, Err}
use Rattle.std.specs.Result.{result_err}
use mathlib.Core.Path.{◌≡◌, refl, sym, ap, ◌∙◌, subst}
use mathlib.Core.Bool.{Bool, true, false}
use mir.Val.{bool_byte}
use mathlib.Core.List.{List, [], ◌∷◌, ◌++◌, map}
use Prim.Native.Nat.{ℕ, zero, suc, ◌+◌, ◌-◌, ◌*◌, ◌/◌, ◌≤◌, ◌<◌}
use Rattle.std.proofs.Math.Nat.{mul-le-mul_right}
use native.Mathlib.Omega.{arith}
use lib.ListN.{length, get_or, take, drop, set, length-drop, take-append-drop}
use lib.Seq.{take_all}
use Rattle.refusal.specs.declared.Refusal.{Refusal}
use Rattle.refusal.specs.Checks.{first}
use Rattle.stream_spec.specs.declared.Shape.{Shape}
use Rattle.stream_spec.specs.Layout.{bit_of, size, record_count, joined}
use Rattle.stream_spec.specs.Checks.{take_checks}
use Rattle.stream_spec.specs.Handshake.{with_last, filled_in}
use Rattle.stream_spec.specs.Answers.{FilledIn, written, lent_after, written_values, fill_refusal, fill_answer, fill_after}
use Rattle.stream_spec.specs.Memory.{in_front, Writing}
use Rattle.stream_spec.specs.Walk.{Passed, record_at}
use Rattle.stream_spec.proofs.Memory.{writing_start, writing_as, writing-end, piece-room, part-writes}
use Rattle.stream_spec.proofs.Fill.{length_last, filled-long}
use Rattle.stream_spec.proofs.Size.{size_pos}
use Rattle.stream_spec.proofs.Records.{whole-count}
use Rattle.stream_spec.proofs.Walk.{left-start, record_is, record_long, left-next, records-next, no-records}
use Rattle.stream_record.proofs.Tests.{refused-is, passed_is}
use Rattle.stream_fill_in.specs.Filling.{Filled, Filling}

-- ---- one record

-- the code's number for a level
pub bit_told : (level : Bool) (v : ℕ) → v ≡ bool_byte level → v ≡ bit_of level
bit_told true v e = e
bit_told false v e = e

-- TLAST of the record in front is set, and nothing else
pub last_set : (level : Bool) (r : List ℕ) (v : ℕ) → 0 < length r → v ≡ bit_of level → set r 0 (get_or r 0 0 / 2 * 2 + v) ≡ with_last level r
last_set level [] v h e = absurd (omega arith)
last_set level (f ∷ r) v h e = ap (λ (x : ℕ). (f / 2 * 2 + x) ∷ r) e

-- it is the same for the record alone and for all octets from its start on
last_front : (level : Bool) (z : ℕ) (r : List ℕ) → 0 < z → with_last level r ≡ with_last level (take z r) ++ drop z r
last_front level zero r h = absurd (omega arith)
last_front level (suc z) [] h = refl
last_front level (suc z) (f ∷ r) h = ap (λ (l : List ℕ). (f / 2 * 2 + bit_of level) ∷ l) (sym (take-append-drop z r))

-- ---- the loop

-- the record k lies before the end, as there are n records of z octets
pub place-before : (s : Shape) (xs : List ℕ) (z : ℕ) → Passed s xs → z ≡ size s → (k n : ℕ) → n ≡ length xs / z → k < n → k * z < length xs
place-before s xs z p q k n e h =
    let few : (k + 1) * z ≤ n * z = mul-le-mul_right z (omega arith) in
    let whole : length xs ≡ n * z = rw (e, q) (whole-count s xs p.whole) in
    omega (arith, q, size_pos s)

-- the end is where the last record ends
pub place-end : (s : Shape) (xs : List ℕ) (z : ℕ) → Passed s xs → z ≡ size s → (k n : ℕ) → n ≡ length xs / z → n ≤ k → length xs ≤ k * z
place-end s xs z p q k n e h =
    let all : n * z ≤ k * z = mul-le-mul_right z h in
    let whole : length xs ≡ n * z = rw (e, q) (whole-count s xs p.whole) in
    omega arith

pub filling_start : (level : Bool) (s : Shape) (xs : List ℕ) (at : ℕ) → at ≡ 0 → Passed s xs → Filling level s xs xs at
filling_start level s xs at e p =
    rw e
    (record {
      left = left-start s xs p.whole;
      writing = writing_start xs (filled_in level s xs) (omega (arith, filled-long level s xs p.whole));
    })

module _ (level : Bool) (s : Shape) (xs now : List ℕ) (at : ℕ) (h : Filling level s xs now at) (l : at < length xs) (z : ℕ) (q : z ≡ size s) where
  -- the record as it is filled in, and what is left to be written
  abbrev piece : List ℕ
  piece = with_last level (record_at xs at z)

  next : Writing xs now at (filled_in level s xs) (piece ++ filled_in level s (drop (at + z) xs))
  next =
      writing_as xs now (filled_in level s xs) (filled_in level s (drop at xs)) (piece ++ filled_in level s (drop (at + z) xs)) at
      (ap (λ (rs : List (List ℕ)). joined (map (with_last level) rs)) (records-next s xs at h.left l z q)) h.writing

  room : at + length piece ≤ length now
  room = piece-room xs now (filled_in level s xs) piece (filled_in level s (drop (at + z) xs)) at next

  piece-long : length piece ≡ z
  piece-long = length_last level (record_at xs at z) ∙ record_long s xs at h.left l z q ∙ sym q

  -- what the helper leaves of the part lent to it
  module _ (part : List ℕ) (e : part ≡ with_last level (take (length now - at) (drop at now))) where
    abbrev after : List ℕ
    after = take at now ++ (part ++ drop (length now - at) (drop at now))

    lent_is : take (length now - at) (drop at now) ≡ drop at xs
    lent_is = take_all (length now - at) (drop at now) (omega (arith, length-drop at now)) ∙ h.writing.after

    part-is : part ≡ in_front piece (take (length now - at) (drop at now))
    part-is =
        e
        ∙ ap (with_last level) lent_is
        ∙ last_front level (size s) (drop at xs) (size_pos s)
        ∙ ap (λ (r : List ℕ). with_last level r ++ drop (size s) (drop at xs)) (sym (record_is s xs at h.left l z q))
        ∙ ap (λ (n : ℕ). piece ++ drop n (drop at xs)) (sym (piece-long ∙ q))
        ∙ sym (ap (in_front piece) lent_is)

    pub filling_more : (to : ℕ) → to ≡ at + z → Filling level s xs after to
    filling_more to e =
        let writes = part-writes now piece part at (length now - at) room refl part-is xs (filled_in level s xs) (filled_in level s (drop (at + z) xs)) next in
        rw e
        (record {
          left = left-next s xs at h.left l z q;
          writing = subst (λ (n : ℕ). Writing xs after (at + n) (filled_in level s xs) (filled_in level s (drop (at + z) xs))) piece-long writes;
        })

-- no record is left
pub filling_end : (level : Bool) (s : Shape) (xs now : List ℕ) (at : ℕ) → Filling level s xs now at → length xs ≤ at → now ≡ in_front (filled_in level s xs) xs
filling_end level s xs now at h end =
    let nothing : filled_in level s (drop at xs) ≡ [] = ap (λ (rs : List (List ℕ)). joined (map (with_last level) rs)) (no-records s xs at end) in
    writing-end xs now (filled_in level s xs) at
    (writing_as xs now (filled_in level s xs) (filled_in level s (drop at xs)) [] at nothing h.writing)

-- ---- the call, from what the tests of shape and length told

module _ {X : Type 0} (level : Bool) (s : Shape) (xs : List ℕ) (r : Result X Refusal) (told : result_err r ≡ first (take_checks s xs)) where
  answered : (o : Option Refusal) (after : List ℕ) → fill_refusal s xs ≡ o → after ≡ lent_after o (filled_in level s xs) xs
      → FilledIn level s xs after (written o (record_count s xs))
  unfolding fill_answer fill_after
  answered o xs_after e f =
      record {
        is = ap (λ (x : Option Refusal). written x (record_count s xs)) (sym e);
        shows = ap (λ (x : Option Refusal). written_values (written x (record_count s xs))) (sym e);
        leaves = f ∙ ap (λ (x : Option Refusal). lent_after x (filled_in level s xs) xs) (sym e);
      }

  pub refused : (f : Refusal) → r ≡ Err f → FilledIn level s xs xs (Err f)
  refused f h = answered (Some f) xs (refused-is r (take_checks s xs) told f h) refl

  pub filled : (t : X) → r ≡ Ok t → (after : List ℕ) (n : ℕ) → Filled level s xs after n → FilledIn level s xs after (Ok n)
  filled t h after n f =
      subst (λ (m : ℕ). FilledIn level s xs after (Ok m)) (sym f.count)
      (answered None after (passed_is r (take_checks s xs) told t h) f.octets)
