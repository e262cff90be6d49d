-- What is known while a take of records with user bits is read, record by record: the invariant of repack_parse's Take, of items
-- that are held as codes. Assumes nothing.
use Rattle.std.specs.Prelude.{None, Some}
use mathlib.Core.Path.{◌≡◌, refl, sym, ap, ◌∙◌}
use mathlib.Core.List.{List, ◌++◌}
use Prim.Native.Nat.{ℕ, ◌+◌, ◌-◌, ◌*◌, ◌/◌, ◌%◌, ◌≤◌, ◌<◌}
use native.Mathlib.Nat.{mod-eq_of_lt, mul-div_cancel, zero-mul}
use native.Mathlib.Omega.{arith}
use lib.ListN.{length, get_or, take, drop, length-append, length-drop}
use lib.Seq.{take_at, drop_at, drop-drop}
use Rattle.refusal.specs.declared.Refusal.{Refusal}
use Rattle.refusal.specs.Checks.{first}
use Rattle.stream_spec.specs.declared.Shape.{Shape}
use Rattle.stream_spec.specs.Layout.{size, records, data_octets, user_number}
use Rattle.stream_spec.specs.Checks.{transfer_faults, transfer_checks}
use Rattle.stream_spec.specs.Walk.{Passed}
use Rattle.stream_spec.proofs.Size.{size_pos}
use Rattle.stream_record.specs.declared.Header.{Header}
use Rattle.repack_parse.specs.declared.state.Open.{Open}
use Rattle.repack_scratch.specs.declared.Entry.{Entry}
use Rattle.repack_scratch.specs.Codes.{item_room, stretch_room, tagged, pair_code}
use Rattle.repack_parse.specs.Stands.{at_start, kept_at}
use Rattle.repack_tags.specs.Tags.{GatheredTags}
use Rattle.repack_parse.specs.Read.{Turned, Ended, Carries, Added, Ready, FinishIs}
use Rattle.repack_parse.specs.Reading.{record_from, Reading, StandsAt}
use Rattle.repack_parse.proofs.Records.{added_codes, lane_count, tagged-lanes}
use Rattle.repack_parse.proofs.Take.{reading-starts, stands-start, reading-refused, reading-next, stands-next, reading_done}
use Rattle.repack_tagged_parse.specs.Read.{Taken}
use Rattle.repack_tagged_parse.proofs.Fits.{taken-fits}

-- ---- one record more

-- turned, sifted with its user bits and ended
module _ (s : Shape) (rec items : List ℕ) (table table1 : List Entry) (h : Header) (st o : Open) (byte_at : (i : ℕ) → get_or rec i 0 < 256)
    (carries : Carries s rec h) (ready : Ready s items table st) (p : ℕ) (pe : p ≡ pair_code h.tid h.tdest)
    (turned : Turned p table st table1 o) (lanes : List ℕ) (le : lanes ≡ data_octets s rec) where
  pub added-tagged : (items1 : List ℕ) (table2 : List Entry) (r : Open) (n u : ℕ) → u ≡ user_number s rec
      → GatheredTags s.user h.keep h.strb u lanes items o.items items1 n → Ended h.flags table1 (kept_at o n) table2 r
      → Added s rec items table st items1 table2 r
  added-tagged items1 table2 r n u ue gathered ended =
      let count : length lanes ≡ s.width = lane_count s rec items table table1 h st o byte_at carries ready p pe turned lanes le in
      let g : GatheredTags s.user h.keep h.strb (user_number s rec) lanes items o.items items1 n = rw ue at gathered in
      added_codes s rec items table table1 h st o byte_at carries ready p pe turned
      (tagged s.user s.width h.keep h.strb (user_number s rec) lanes) items items1 table2 r n refl
      (tagged-lanes s rec items table table1 h st o byte_at carries ready p pe turned lanes le)
      (record { same = g.same; beyond = g.beyond; within = rw count at g.within; is = rw count at g.is }) ended

-- ---- reading a take

-- k records are read without fault, and the items have these codes
pub record Parsing (s : Shape) (transfers rest items : List ℕ) (table : List Entry) (st : Open) (k : ℕ) : Type 0 where
  pub left : rest ≡ drop (k * size s) transfers
  pub reading : Reading s transfers items table st (k * size s)
  pub stands : StandsAt s transfers items table st (k * size s)

pub parsing_starts : (s : Shape) (transfers rest items : List ℕ) (table : List Entry) (k : ℕ) → Passed s transfers → length items ≡ item_room
    → length table ≡ stretch_room → rest ≡ transfers → k ≡ 0 → Parsing s transfers rest items table at_start k
parsing_starts s transfers rest items table k p i t e f =
    let none : 0 * size s ≡ 0 = zero-mul (size s) in
    rw (e, f)
    (record {
      left = rw none refl;
      reading = rw none (reading-starts s transfers items table p i t);
      stands = rw none (stands-start s transfers items table);
    })

module _ (s : Shape) (transfers rest items : List ℕ) (table : List Entry) (st : Open) (k : ℕ) (q : Parsing s transfers rest items table st k) where
  rest_long : length rest ≡ length transfers - k * size s
  rest_long = ap length q.left ∙ length-drop (k * size s) transfers

  -- nothing is left, and the last stretch is closed
  module _ (short : length rest < size s) where
    done : length transfers ≤ k * size s
    done =
        let whole : length rest % size s ≡ 0 = ap (λ (l : List ℕ). length l % size s) q.left ∙ q.reading.left.whole in
        omega (arith, rest_long, mod-eq_of_lt short)

    pub parsing_done : (after : List Entry) (n : ℕ) → FinishIs table st after n → Taken s transfers items after n
    parsing_done after n f =
        let g = reading_done s transfers items table st (k * size s) q.reading done items after n q.stands f in
        record {
          taken = g.0;
          same_items = q.reading.same_items;
          room = g.1;
          fits = taken-fits s transfers (take n after) items g.0.finished.is;
        }

  -- another record stands in front, which an iterator counts as j
  module _ (r after : List ℕ) (cut : rest ≡ r ++ after) (long : length r ≡ size s) (j : ℕ) (counted : j ≡ k) where
    more : k * size s < length transfers
    more = omega (arith, rest_long, ap length cut ∙ length-append r after, long, size_pos s)

    is_here : r ≡ record_from s transfers (k * size s)
    is_here = sym (rw (← q.left, cut) (take_at r after (size s) long))

    count : k * size s / size s ≡ k
    count = mul-div_cancel k (size_pos s)

    -- its fault is the take's
    pub parsing_refused : (f : Refusal) → first (transfer_faults s j r) ≡ Some f → first (transfer_checks s 0 (records s transfers)) ≡ Some f
    parsing_refused f h = reading-refused s transfers items table st (k * size s) q.reading more r f is_here (rw (count, ← counted) h)

    -- it is read
    pub parsing_next : (items' : List ℕ) (table' : List Entry) (st' : Open) (n : ℕ) → n ≡ k + 1 → length items' ≡ length items
        → (first (transfer_faults s j r) ≡ None) × Added s r items table st items' table' st' → Parsing s transfers after items' table' st' n
    parsing_next items' table' st' n en l a =
        let place : (k + 1) * size s ≡ k * size s + size s = omega arith in
        rw en
        (record {
          left = rw place (sym (sym (drop-drop (size s) (k * size s) transfers) ∙ rw (← q.left, cut) (drop_at r after (size s) long)));
          reading = rw place
              (reading-next s transfers items table st (k * size s) q.reading more r items items' table' st' is_here a.1 items'
              (rw (count, ← counted) a.0) l);
          stands = rw place (stands-next s transfers items table st (k * size s) q.reading more r items items' table' st' is_here a.1 q.stands);
        })
