-- Each statement of specs/Promises, from the laws below it. Assumes nothing.
use Rattle.std.specs.Prelude.{Option, None, Some, Ok, Err}
use mathlib.Core.Bool.{Bool, true, false}
use mathlib.Core.List.{List, [], ◌∷◌, ◌++◌, map}
use mathlib.Core.Logic.{◌⊎◌, inl, inr, ◌≢◌}
use mathlib.Core.Path.{◌≡◌, refl, sym, ap, ap₂, subst, ◌∙◌}
use Prim.Native.Nat.{ℕ, suc, ◌+◌, ◌-◌, ◌*◌, ◌^◌, ◌≤◌, ◌<◌}
use native.Mathlib.Nat.{zero-add, suc-add}
use native.Mathlib.Omega.{arith}
use lib.Dec.{ltb}
use borrow.Author.Tests.{ltb-true, ltb-false}
use lib.ListN.{length, take, drop, length-append, length-drop}
use lib.Seq.{take-append_seam, drop-append_seam}
use Rattle.refusal.specs.declared.Refusal.{Refusal}
use Rattle.refusal.specs.declared.Refusal.TheVariants.{Room}
use Rattle.refusal.specs.Checks.{first}
use Rattle.burst_spec.specs.declared.Burst.{Burst}
use Rattle.burst_spec.specs.declared.Kind.TheVariants.{Incr}
use Rattle.burst_spec.specs.Address.{aligned, incr_address, beats, bytes}
use Rattle.burst_spec.specs.Answers.{judgement_for}
use Rattle.burst_spec.specs.Checks.{checks}
use Rattle.burst_spec.specs.Legal.{Legal, Accepted}
use Rattle.burst_spec.proofs.Answers.{accepted_exactly, own-number}
use Rattle.burst_spec.proofs.Known.{clash, known}
use Rattle.axi3_spec.specs.Cut.{beats_most, piece_count, piece_beats, piece, run, joined, pieces, beats_of_all}
use Rattle.axi3_spec.specs.Answers.{cut_refusal, cut_for, cut_answer, row_for, numbers_of, numbers_room}
use Rattle.axi3_spec.specs.Promises.{IsAccepted, Every, sixteens, InSixteens, Stands}
use Rattle.axi3_spec.specs.Promises.{BeatsKept, AllAccepted, CutInSixteens, FitsAxi3, Starts, Unchanged, Itself}
use Rattle.axi3_spec.specs.Promises.{RefusedAsJudged, RoomExactly, CutExactly, RowStands, RowKept}
use Rattle.axi3_spec.specs.Promises.{read_back, NumbersStand, RowOfNumbersStands, RowOfNumbersKept}
use Rattle.axi3_spec.proofs.Runs.{run-map, run_length, run-last, run_every, run_constant, run-same}
use Rattle.axi3_spec.proofs.Pieces.{count-is, count-some, beats_are, beats-kept, first-beat, len_most, piece_itself, piece-accepted, incr_is, few_or_incr}
use Rattle.axi3_spec.proofs.Answers.{refusal_judged, refusal-room, refusal-none, none-refused, bursts-none, refused-is}
use Rattle.axi3_spec.proofs.Numbers.{numbers-length, read_back_lem}

accepts : (x : Burst) → IsAccepted x → Accepted x
accepts x e = (accepted_exactly x).0 e

-- ---- the list

pub beats_kept : BeatsKept
beats_kept x e = beats-kept x (accepts x e).legal

pub all_accepted : AllAccepted
all_accepted x e =
    run_every IsAccepted (piece x) 0 (piece_count x)
    (λ k h. rw (zero-add k) ((accepted_exactly (piece x k)).1 (piece-accepted x (accepts x e) k h)))

-- with c bursts before the last
in_sixteens : (x : Burst) → Legal x → (c : ℕ) → piece_count x ≡ suc c → InSixteens (beats x) (pieces x)
in_sixteens x l c e =
    let last : beats (piece x c) ≡ piece_beats (beats x) c = beats_are x l c (omega arith) in
    let Some : beats_most * c < beats x = first-beat x l c (omega arith) in
    record {
      before = c;
      last = beats (piece x c);
      counts =
          run-map beats (piece x) 0 (piece_count x)
          ∙ ap (run (λ j. beats (piece x j)) 0) e
          ∙ run-last (λ j. beats (piece x j)) c
          ∙ ap (λ ns. ns ++ (beats (piece x c) ∷ [])) (run_constant (λ j. beats (piece x j)) 16 0 c full);
      some = omega arith;
      most = omega arith;
      number = run_length (piece x) 0 (piece_count x) ∙ count-is x l;
    }
  where
    full : (k : ℕ) → k < c → beats (piece x (0 + k)) ≡ 16
    full k h = rw (zero-add k) (beats_are x l k (omega arith) ∙ omega (arith, count-is x l))

pub cut_in_sixteens : CutInSixteens
cut_in_sixteens x e =
    let l = (accepts x e).legal in
    in_sixteens x l (piece_count x - 1) (omega (arith, count-some x l))

pub fits_axi3 : FitsAxi3
fits_axi3 x = run_every (λ y. y.len < 2 ^ 4) (piece x) 0 (piece_count x) (λ k h. omega (arith, len_most x (0 + k)))

pub unchanged : Unchanged
unfolding piece
unchanged x = run_every (λ y. (y.size ≡ x.size) × (y.kind ≡ x.kind) × (y.bus ≡ x.bus)) (piece x) 0 (piece_count x) (λ k h. (refl, refl, refl))

-- the start of burst j, and of the first
start_is : (x : Burst) → x.kind ≡ Incr → (j : ℕ) → (piece x (suc j)).start ≡ aligned x.start (bytes x) + 16 * suc j * bytes x
unfolding piece incr_address
start_is x e j =
    let more : beats_most * suc j ≡ suc (beats_most * j + 15) = omega arith in
    incr_is x e (beats_most * suc j) ∙ ap (incr_address x.start (bytes x)) more ∙ ap (λ n. aligned x.start (bytes x) + n * bytes x) (sym more)

start_first : (x : Burst) → x.kind ≡ Incr → (piece x 0).start ≡ x.start
unfolding piece incr_address
start_first x e = incr_is x e 0

starts_from : (x : Burst) → x.kind ≡ Incr → (c : ℕ)
    → map (λ (y : Burst). y.start) (run (piece x) 0 (suc c)) ≡ x.start ∷ run (λ j. aligned x.start (bytes x) + 16 * j * bytes x) 1 c
unfolding run
starts_from x e c =
    ap₂ (λ a l. a ∷ l) (start_first x e)
    (run-map (λ (y : Burst). y.start) (piece x) 1 c
    ∙ run-same (λ j. (piece x j).start) (λ j. aligned x.start (bytes x) + 16 * j * bytes x) 1 1 c (λ k h. rw (suc-add 0 k, zero-add k) (start_is x e k)))

pub starts : Starts
starts x a e =
    let l = (accepts x a).legal in
    let c : ℕ = sixteens (beats x) - 1 in
    let n : piece_count x ≡ suc c = omega (arith, count-is x l, count-some x l) in
    ap (λ m. map (λ (y : Burst). y.start) (run (piece x) 0 m)) n ∙ starts_from x e c

-- a burst of at most 16 beats is one burst
only_itself : (x : Burst) → Legal x → beats x ≤ 16 → pieces x ≡ x ∷ []
unfolding run
only_itself x l h =
    let one : piece_count x ≡ 1 = omega (arith, count-is x l) in
    ap (run (piece x) 0) one ∙ ap (λ y. y ∷ []) (piece_itself x h)

pub itself : Itself
itself x a h = only_itself x (accepts x a).legal (few h)
  where
    chosen : (x.kind ≢ Incr) → (beats x ≤ 16) ⊎ (x.kind ≡ Incr) → beats x ≤ 16
    chosen other (inl n) = n
    chosen other (inr e) = absurd (other e)

    few : (beats x ≤ 16) ⊎ (x.kind ≢ Incr) → beats x ≤ 16
    few (inl n) = n
    few (inr other) = chosen other (few_or_incr x.kind (beats x) (known x (accepts x a).legal).count)

-- ---- the answer

pub refused_as_judged : RefusedAsJudged
refused_as_judged x room r e = ap (λ o. cut_for o (piece_count x)) (refusal_judged x room r e)

-- no burst is judged ROOM: its own refusals are 7 and on
never_room : (x : Burst) → first (checks x) ≢ Some Room
never_room x e = let h = own-number x Room e in omega arith

pub room_exactly : RoomExactly
room_exactly x room = (λ e. there (first (checks x)) refl (refused-is x room Room (sym e)), back)
  where
    short : IsAccepted x → (t : Bool) → ltb room (piece_count x) ≡ t → cut_refusal x room ≡ Some Room → room < piece_count x
    short a true f e = ltb-true room (piece_count x) f
    short a false f e = absurd (let g : None ≡ Some Room = sym (refusal-none x room a (ltb-false room (piece_count x) f)) ∙ e in clash cc)

    there : (o : Option Refusal) → first (checks x) ≡ o → cut_refusal x room ≡ Some Room → IsAccepted x × (room < sixteens (beats x))
    there (Some r) f e =
        let g : Some r ≡ Some Room = sym (refusal_judged x room r (ap judgement_for f)) ∙ e in
        absurd (never_room x (f ∙ g))
    there None f e =
        let a : IsAccepted x = ap judgement_for f in
        (a, omega (arith, short a (ltb room (piece_count x)) refl e, count-is x (accepts x a).legal))

    back : IsAccepted x × (room < sixteens (beats x)) → cut_answer x room ≡ Err Room
    back h =
        let few : room < piece_count x = omega (arith, h.1, count-is x (accepts x h.0).legal) in
        ap (λ o. cut_for o (piece_count x)) (refusal-room x room h.0 few)

pub cut_exactly : CutExactly
cut_exactly x room n = (there, back)
  where
    there : cut_answer x room ≡ Ok n → IsAccepted x × (n ≡ sixteens (beats x)) × (n ≤ room)
    there e =
        let h = bursts-none x room n (sym e) in
        let f = none-refused x room h.0 in
        (f.0, h.1 ∙ count-is x (accepts x f.0).legal, omega (arith, h.1, f.1))

    back : IsAccepted x × (n ≡ sixteens (beats x)) × (n ≤ room) → cut_answer x room ≡ Ok n
    back h =
        let c : piece_count x ≡ n = count-is x (accepts x h.0).legal ∙ sym h.1 in
        ap (λ o. cut_for o (piece_count x)) (refusal-none x room h.0 (omega (arith, h.2))) ∙ ap Ok c

-- ---- the row

pub row_stands : RowStands
row_stands x row n after c = stood (bursts-none x (length row) n c.answers.is)
  where
    stood : (cut_refusal x (length row) ≡ None) × (n ≡ piece_count x) → Stands x row n after
    stood h =
        let f = none-refused x (length row) h.0 in
        let many : length (pieces x) ≡ n = run_length (piece x) 0 (piece_count x) ∙ sym h.1 in
        let is : after ≡ pieces x ++ drop (length (pieces x)) row = c.leaves ∙ ap (λ o. row_for o (pieces x) row) h.0 in
        let front : take n after ≡ pieces x =
        ap₂ take (sym many) is ∙ take-append_seam (pieces x) (drop (length (pieces x)) row)
        in
        record {
          list = front;
          accepted = subst (Every IsAccepted) (sym front) (all_accepted x f.0);
          kept = ap beats_of_all front ∙ beats_kept x f.0;
          beyond = ap₂ drop (sym many) is ∙ drop-append_seam (pieces x) (drop (length (pieces x)) row) ∙ ap (λ k. drop k row) many;
          long = ap length is ∙ length-append (pieces x) (drop (length (pieces x)) row)
              ∙ omega (arith, many, length-drop (length (pieces x)) row, h.1, f.1);
        }

pub row_kept : RowKept
row_kept x row r after c = c.leaves ∙ ap (λ o. row_for o (pieces x) row) (refused-is x (length row) r c.answers.is)

-- ---- the row of numbers

pub row_of_numbers_stands : RowOfNumbersStands
row_of_numbers_stands x row n after c = stood (bursts-none x (numbers_room row) n c.answers.is)
  where
    stood : (cut_refusal x (numbers_room row) ≡ None) × (n ≡ piece_count x) → NumbersStand x row n after
    stood h =
        let f = none-refused x (numbers_room row) h.0 in
        let written : List ℕ = joined (map numbers_of (pieces x)) in
        let many : length (pieces x) ≡ n = run_length (piece x) 0 (piece_count x) ∙ sym h.1 in
        let wide : length written ≡ 5 * n = numbers-length (pieces x) ∙ ap (λ k. 5 * k) many in
        let is : after ≡ written ++ drop (length written) row = c.leaves ∙ ap (λ o. row_for o written row) h.0 in
        record {
          read = ap₂ read_back (sym many) is ∙ read_back_lem (pieces x) (drop (length written) row);
          beyond = ap₂ drop (sym wide) is ∙ drop-append_seam written (drop (length written) row) ∙ ap (λ k. drop k row) wide;
          long = ap length is ∙ length-append written (drop (length written) row)
              ∙ omega (arith, wide, length-drop (length written) row, h.1, f.1);
        }

pub row_of_numbers_kept : RowOfNumbersKept
row_of_numbers_kept x row r after c =
    c.leaves ∙ ap (λ o. row_for o (joined (map numbers_of (pieces x))) row) (refused-is x (numbers_room row) r c.answers.is)
