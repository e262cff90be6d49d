-- The pass over both lists: what is known at its start, whose turn comes behind a record, and what stands in the output at its end; told
-- by what is left of the lists. Assumes nothing.
use mathlib.Core.Bool.{Bool, true, false, not}
use mathlib.Core.List.{List, [], ◌∷◌, ◌++◌, map}
use mathlib.Core.Path.{◌≡◌, refl, sym, ap, ◌∙◌, subst}
use Prim.Native.Nat.{ℕ, ◌+◌, ◌-◌, ◌%◌, ◌≤◌, ◌<◌}
use native.Mathlib.Omega.{arith}
use borrow.Author.Tests.{ltb-true, ltb-false, leb-false}
use lib.ListN.{length, take, drop, length-drop}
use lib.Seq.{length-take-le}
use Rattle.stream_spec.specs.Layout.{size_least, size_most, tlast, pieces_of, joined}
use Rattle.stream_spec.specs.Memory.{in_front, Writing}
use Rattle.stream_spec.proofs.Memory.{writing_start, writing_as, writing-end, piece-room, lent-long, part-writes}
use Rattle.stream_spec.proofs.Records.{FirstPiece, first_piece}
use Rattle.stream_spec.proofs.Walk.{no_pieces_short}
use Rattle.merge_spec.specs.Turns.{goes_out}
use Rattle.merge_spec.specs.Merge.{tid_added, tid, raised, high_tid}
use Rattle.merge_spec.proofs.Turns.{All, goes_first, goes_second, skip_first, skip_second, goes_no-first}
use Rattle.merge_spec.proofs.Tags.{raised_long, raised-last}
use Rattle.stream_merge.specs.declared.Turn.{Turn}
use Rattle.stream_merge.specs.Merging.{sent_as, picked_from, whose_turn, some, IsTurn, IsTurnBehind, Ready, Passes, left_of}

sent_long : (port1 : Bool) (r : List ℕ) → length (sent_as port1 r) ≡ length r
sent_long true r = raised_long r
sent_long false r = refl

-- ---- one record, as the code passes it on

module _ (z : ℕ) (t : Turn) (out : List ℕ) (to : ℕ) (ready : Ready z t out to) where
  ready_long : length (picked_from z t) ≡ z
  ready_long = go t.port1 refl
    where
      go : (b : Bool) → t.port1 ≡ b → length (picked_from z t) ≡ z
      go true e = rw e (length-take-le z t.left1.now (ready.picks.list1 e))
      go false e = rw e (length-take-le z t.left0.now (ready.picks.list0 e))

  -- it stands at its place in what the output comes back as
  module _ (rec : List ℕ) (is : rec ≡ picked_from z t) (part : List ℕ)
      (put : part ≡ in_front (sent_as t.port1 rec) (take (length out - to) (drop to out))) (last : Bool) (ends : last ≡ tlast rec) (r : Turn)
      (turned : IsTurnBehind z last t r) where
    abbrev sent : List ℕ
    sent = sent_as t.port1 (picked_from z t)

    sent_size : length sent ≡ z
    sent_size = sent_long t.port1 (picked_from z t) ∙ ready_long

    part-is : part ≡ in_front sent (take (length out - to) (drop to out))
    part-is = put ∙ ap (λ (l : List ℕ). in_front (sent_as t.port1 l) (take (length out - to) (drop to out))) is

    fits : to + length sent ≤ length out
    fits = omega (arith, sent_size, ready.room)

    pub passes_of : Passes z t out to (take to out ++ (part ++ drop (length out - to) (drop to out))) r
    passes_of =
        record {
          turn = subst (λ (b : Bool). IsTurnBehind z b t r) (ends ∙ ap tlast is) turned;
          same = rw part-is (lent-long out sent to (length sent) refl fits (length out - to) refl);
          writes = rw sent_size at (part-writes out sent part to (length out - to) fits refl part-is);
        }

-- ---- whose turn it is

module _ (z : ℕ) (pos : 0 < z) (xs ys : List ℕ) where
  abbrev list0 : List (List ℕ)
  list0 = pieces_of z xs

  abbrev list1 : List (List ℕ)
  list1 = map raised (pieces_of z ys)

  abbrev turn : Bool → Bool
  turn wanted = whose_turn wanted (some xs) (some ys)

  none : (l : List ℕ) → some l ≡ false → pieces_of z l ≡ []
  none l e = no_pieces_short z l (omega (arith, ltb-false 0 (length l) e))

  -- a port with nothing left is skipped
  skipped : (wanted : Bool) → goes_out tlast (turn wanted) list0 list1 ≡ goes_out tlast wanted list0 list1
  skipped true = go (some ys) refl
    where
      go : (b : Bool) → some ys ≡ b → goes_out tlast b list0 list1 ≡ goes_out tlast true list0 list1
      go true e = refl
      go false e = rw (none ys e) (sym (skip_second tlast list0))
  skipped false = go (some xs) refl
    where
      go : (b : Bool) → some xs ≡ b → goes_out tlast (not b) list0 list1 ≡ goes_out tlast false list0 list1
      go true e = refl
      go false e = rw (none xs e) (sym (skip_first tlast list1))

  -- while something is left, the port that has the turn has something
  module _ (left : 0 < length xs + length ys) where
    has_list0 : (wanted : Bool) → turn wanted ≡ false → 0 < length xs
    has_list0 true e = omega (arith, ltb-false 0 (length ys) e)
    has_list0 false e = go (some xs) refl e
      where
        go : (b : Bool) → some xs ≡ b → not b ≡ false → 0 < length xs
        go true f e = ltb-true 0 (length xs) f
        go false f e = let u : ◌≡◌ {A = ℕ} 0 1 = cc in absurd (omega arith)

    has_list1 : (wanted : Bool) → turn wanted ≡ true → 0 < length ys
    has_list1 true e = ltb-true 0 (length ys) e
    has_list1 false e = go (some xs) refl e
      where
        go : (b : Bool) → some xs ≡ b → not b ≡ true → 0 < length ys
        go true f e = let u : ◌≡◌ {A = ℕ} 0 1 = cc in absurd (omega arith)
        go false f e = omega (arith, ltb-false 0 (length xs) f)

-- ---- one record more

-- of port 0, and of port 1: it is the first of those left, and the others are left behind it
module _ (z : ℕ) (pos : 0 < z) (xs ys : List ℕ) where
  step-list0 : FirstPiece z xs
      → goes_out tlast false (pieces_of z xs) (map raised (pieces_of z ys))
      ≡ take z xs
      ∷ goes_out tlast (turn z pos (drop z xs) ys (tlast (take z xs))) (pieces_of z (drop z xs)) (map raised (pieces_of z ys))
  step-list0 f =
      let r = take z xs in
      ap (λ (rs : List (List ℕ)). goes_out tlast false rs (map raised (pieces_of z ys))) f.is
      ∙ goes_first tlast r (pieces_of z (drop z xs)) (map raised (pieces_of z ys))
      ∙ ap {B = List (List ℕ)} (λ l. r ∷ l) (sym (skipped z pos (drop z xs) ys (tlast r)))

  step-list1 : FirstPiece z ys
      → goes_out tlast true (pieces_of z xs) (map raised (pieces_of z ys))
      ≡ raised (take z ys)
      ∷ goes_out tlast (turn z pos xs (drop z ys) (not (tlast (take z ys)))) (pieces_of z xs) (map raised (pieces_of z (drop z ys)))
  step-list1 f =
      let r = take z ys in
      let rest = map raised (pieces_of z (drop z ys)) in
      ap (λ (rs : List (List ℕ)). goes_out tlast true (pieces_of z xs) (map raised rs)) f.is
      ∙ goes_second tlast (pieces_of z xs) (raised r) rest
      ∙ ap (λ (b : Bool). raised r ∷ goes_out tlast (not b) (pieces_of z xs) rest) (raised-last r)
      ∙ ap {B = List (List ℕ)} (λ l. raised r ∷ l) (sym (skipped z pos xs (drop z ys) (not (tlast r))))

-- ---- what is known between two records

-- all that is to be written
abbrev pub whole_of : ℕ → List ℕ → List ℕ → List ℕ
whole_of z xs ys = joined (goes_out tlast false (pieces_of z xs) (map raised (pieces_of z ys)))

-- Whole records of z octets are left of both lists, `total` octets in all with those that are written, up to `to`; and the turn is the one
-- that was wanted, or the other's.
pub record Stands (z total : ℕ) (t : Turn) (to : ℕ) : Type 0 where
  pub wanted : Bool
  pub is : t.port1 ≡ whose_turn wanted (some t.left0.now) (some t.left1.now)
  pub list0 : length t.left0.now % z ≡ 0
  pub list1 : length t.left1.now % z ≡ 0
  pub low : All high_tid false (pieces_of z t.left1.now)
  pub count : to + (length t.left0.now + length t.left1.now) ≡ total

-- and the output is written up to `to`, all but what the records left will add
pub record Merging (z : ℕ) (xs ys before out : List ℕ) (t : Turn) (to : ℕ) : Type 0 where
  pub stands : Stands z (length xs + length ys) t to
  pub writing : Writing before out to (whole_of z xs ys) (joined (left_of z t))

-- the start: nothing is written, and port 0 has the first turn
pub merging_start : (z : ℕ) → 0 < z → (xs ys out : List ℕ) (t : Turn) → IsTurn false xs ys t → length xs % z ≡ 0 → length ys % z ≡ 0
    → All high_tid false (pieces_of z ys) → length (whole_of z xs ys) ≤ length out → Merging z xs ys out out t 0
merging_start z pos xs ys out t i w w' low room =
    let same : goes_out tlast false (pieces_of z xs) (map raised (pieces_of z ys)) ≡ left_of z t =
    sym (skipped z pos xs ys false) ∙ rw (i.port, i.left0, i.left1) refl in
    record {
      stands =
          record {
            wanted = false;
            is = rw i.left0 i.port;
            list0 = rw i.left0 w;
            list1 = rw i.left1 w';
            low = rw i.left1 low;
            count = rw (i.left0, i.left1) (omega arith);
          };
      writing = writing_as out out (whole_of z xs ys) (whole_of z xs ys) (joined (left_of z t)) 0 (ap joined same) (writing_start out (whole_of z xs ys) room);
    }

-- the end: nothing is left
pub merging_end : (z : ℕ) → 0 < z → (xs ys before out : List ℕ) (t : Turn) (to : ℕ) → Merging z xs ys before out t to → length xs + length ys ≤ to
    → out ≡ in_front (whole_of z xs ys) before
merging_end z pos xs ys before out t to m h =
    let none0 : pieces_of z t.left0.now ≡ [] = no_pieces_short z t.left0.now (omega (arith, m.stands.count)) in
    let none1 : pieces_of z t.left1.now ≡ [] = no_pieces_short z t.left1.now (omega (arith, m.stands.count)) in
    let nothing : left_of z t ≡ [] = rw (none0, none1) (goes_no-first tlast t.port1 []) in
    writing-end before out (whole_of z xs ys) to
    (writing_as before out (whole_of z xs ys) (joined (left_of z t)) [] to (ap joined nothing) m.writing)

module _ (z : ℕ) (low : size_least ≤ z) (high : z ≤ size_most) (xs ys before out : List ℕ) (t : Turn) (to : ℕ) (m : Merging z xs ys before out t to)
    (more : to < length xs + length ys) where
  pos : 0 < z
  pos = omega arith

  front0 : t.port1 ≡ false → FirstPiece z t.left0.now
  front0 e =
      first_piece z pos t.left0.now m.stands.list0
      (has_list0 z pos t.left0.now t.left1.now (omega (arith, m.stands.count)) m.stands.wanted (sym m.stands.is ∙ e))

  front1 : t.port1 ≡ true → FirstPiece z t.left1.now
  front1 e =
      first_piece z pos t.left1.now m.stands.list1
      (has_list1 z pos t.left0.now t.left1.now (omega (arith, m.stands.count)) m.stands.wanted (sym m.stands.is ∙ e))

  abbrev piece : List ℕ
  piece = sent_as t.port1 (picked_from z t)

  -- the records that are left behind it
  abbrev behind : Bool → List (List ℕ)
  behind true =
      goes_out tlast (turn z pos t.left0.now (drop z t.left1.now) (not (tlast (take z t.left1.now)))) (pieces_of z t.left0.now)
      (map raised (pieces_of z (drop z t.left1.now)))
  behind false =
      goes_out tlast (turn z pos (drop z t.left0.now) t.left1.now (tlast (take z t.left0.now))) (pieces_of z (drop z t.left0.now))
      (map raised (pieces_of z t.left1.now))

  picked_long : (b : Bool) → t.port1 ≡ b → length (picked_from z t) ≡ z
  picked_long true e = rw e (length-take-le z t.left1.now (front1 e).fits)
  picked_long false e = rw e (length-take-le z t.left0.now (front0 e).fits)

  piece-size : length piece ≡ z
  piece-size = sent_long t.port1 (picked_from z t) ∙ picked_long t.port1 refl

  left_is : (b : Bool) → t.port1 ≡ b → joined (left_of z t) ≡ piece ++ joined (behind b)
  left_is true e = rw e (ap joined (step-list1 z pos t.left0.now t.left1.now (front1 e)))
  left_is false e = rw e (ap joined (step-list0 z pos t.left0.now t.left1.now (front0 e)))

  writing : Writing before out to (whole_of z xs ys) (piece ++ joined (behind t.port1))
  writing =
      writing_as before out (whole_of z xs ys) (joined (left_of z t)) (piece ++ joined (behind t.port1)) to (left_is t.port1 refl) m.writing

  place-room : to + z ≤ length out
  place-room = omega (arith, piece-size, piece-room before out (whole_of z xs ys) piece (joined (behind t.port1)) to writing)

  -- the TIDs of port 1's records that are left: of this one, and of the others
  lows : t.port1 ≡ true → All high_tid false (take z t.left1.now ∷ pieces_of z (drop z t.left1.now))
  lows e = rw (front1 e).is at m.stands.low

  tag-low : t.port1 ≡ true → tid (picked_from z t) < 128
  tag-low e = rw e (leb-false tid_added (tid (take z t.left1.now)) (lows e).0)

  pub asks : Ready z t out to
  asks =
      record {
        picks = record { list0 = λ e. (front0 e).fits; list1 = λ e. (front1 e).fits };
        low = low;
        high = high;
        tag = tag-low;
        room = place-room;
      }

  -- what stands behind it
  stands : (r : Turn) (b : Bool) → t.port1 ≡ b → IsTurnBehind z (tlast (picked_from z t)) t r → Stands z (length xs + length ys) r (to + z)
  stands r true e turned =
      let q : IsTurn (not (tlast (take z t.left1.now))) t.left0.now (drop z t.left1.now) r = rw e at turned in
      record {
        wanted = not (tlast (take z t.left1.now));
        is = rw (q.left0, q.left1) q.port;
        list0 = rw q.left0 m.stands.list0;
        list1 = rw q.left1 (front1 e).whole;
        low = rw q.left1 (lows e).1;
        count = rw (q.left0, q.left1) (omega (arith, m.stands.count, length-drop z t.left1.now, (front1 e).fits));
      }
  stands r false e turned =
      let q : IsTurn (tlast (take z t.left0.now)) (drop z t.left0.now) t.left1.now r = rw e at turned in
      record {
        wanted = tlast (take z t.left0.now);
        is = rw (q.left0, q.left1) q.port;
        list0 = rw q.left0 (front0 e).whole;
        list1 = rw q.left1 m.stands.list1;
        low = rw q.left1 m.stands.low;
        count = rw (q.left0, q.left1) (omega (arith, m.stands.count, length-drop z t.left0.now, (front0 e).fits));
      }

  left_behind : (r : Turn) (b : Bool) → t.port1 ≡ b → IsTurnBehind z (tlast (picked_from z t)) t r → joined (behind b) ≡ joined (left_of z r)
  left_behind r true e turned =
      let q : IsTurn (not (tlast (take z t.left1.now))) t.left0.now (drop z t.left1.now) r = rw e at turned in
      rw (q.port, q.left0, q.left1) refl
  left_behind r false e turned =
      let q : IsTurn (tlast (take z t.left0.now)) (drop z t.left0.now) t.left1.now r = rw e at turned in
      rw (q.port, q.left0, q.left1) refl

  pub goes_on : (after : List ℕ) (r : Turn) → Passes z t out to after r → Merging z xs ys before after r (to + z)
  goes_on after r p =
      record {
        stands = stands r t.port1 refl p.turn;
        writing =
            writing_as before after (whole_of z xs ys) (joined (behind t.port1)) (joined (left_of z r)) (to + z) (left_behind r t.port1 refl p.turn)
            (p.writes before (whole_of z xs ys) (joined (behind t.port1)) writing);
      }
