-- What each step of reading does to the state: laws of Read's records, a law for each way a function returns. Assumes nothing.
use mathlib.Core.Path.{◌≡◌, refl, sym, ap, ◌∙◌}
use mathlib.Core.Bool.{Bool, true, false}
use mathlib.Core.List.{List, [], ◌∷◌, ◌++◌, map}
use Prim.Native.Nat.{ℕ, ◌+◌, ◌-◌, ◌≤◌, ◌<◌}
use native.Mathlib.Numerals.{add-one}
use native.Mathlib.Omega.{arith}
use lib.ListN.{length, take, drop, set, length-set, length-drop, length-take, length-map, take-append-drop}
use lib.Seq.{take-suc-set}
use Rattle.stream_spec.specs.Items.{Item, byte, end}
use Rattle.stream_spec.specs.Packed.{Stretch, cut}
use Rattle.stream_spec.specs.Layout.{Kept}
use Rattle.stream_spec.proofs.Cut.{cut-ended}
use Rattle.repack_parse.specs.declared.state.Open.{Open}
use Rattle.repack_scratch.specs.declared.Entry.{Entry}
use Rattle.repack_scratch.specs.Codes.{kept_of, pair_from, entry_of, stretches_of, total}
use Rattle.repack_parse.specs.Stands.{closed_at, paired_at, Stands}
use Rattle.repack_scratch.proofs.Codes.{stretches_more}
use Rattle.repack_parse.proofs.Stands.{opened, made, close_stands, turn-stands, all_closed, pairs_differ, cut_apart, cut-last}
use Rattle.repack_parse.specs.Read.{Closable, Turned, Ended, Finished}

-- ---- closing

-- the table with one entry more
listed : (table : List Entry) (m : ℕ) (e : Entry) → m < length table → take (m + 1) (set table m e) ≡ take m table ++ e ∷ []
listed table m e h = rw (add-one m) (take-suc-set table m e h)

module _ (table : List Entry) (st : Open) (c : Closable st table) where
  abbrev entry : Bool → Entry
  entry last = entry_of (st.items - st.start) last st.pair

  closed-stands : (codes : List ℕ) (rest rest' : List (Item Kept)) (all : List (Stretch Kept)) (last : Bool) (pair : ℕ)
      → cut (map (byte (pair_from st.pair)) (opened st codes) ++ rest) ≡ made st codes last ∷ cut rest'
      → Stands codes (take st.closed table) st rest all
      → Stands codes (take (st.closed + 1) (set table st.closed (entry last))) (closed_at st pair) rest' all
  closed-stands codes rest rest' all last pair e h =
      rw (listed table st.closed (entry last) c.lists)
      (close_stands codes (take st.closed table) st all rest rest' last pair c.started c.small e h)

  -- some bytes are open
  some_open : (codes : List ℕ) → (st.start ≡ st.items → ⊥) → length codes ≡ st.items → 0 < length (opened st codes)
  some_open codes n e = rw (length-map (drop st.start codes) kept_of, length-drop st.start codes) (omega (arith, c.started))

  -- ---- turning to another pair

  pub turn_close : (pair : ℕ) → (st.pair ≡ pair → ⊥) → (st.start ≡ st.items → ⊥)
      → Turned pair table st (set table st.closed (entry false)) (closed_at st pair)
  turn_close pair p n =
      record {
        same = length-set table st.closed (entry false);
        items = refl;
        paired = refl;
        started = omega arith;
        closed = omega arith;
        few = λ k h. omega arith;
        stands =
            λ codes i rest all e h.
            closed-stands codes (i ∷ rest) (i ∷ rest) all false pair
            (cut_apart (pair_from st.pair) (opened st codes) i rest (some_open codes n h.kept) (rw e (pairs_differ st.pair pair p))) h;
      }

  -- ---- a record's end

  pub end_close : Ended 1 table st (set table st.closed (entry true)) (closed_at st st.pair)
  end_close =
      record {
        same = length-set table st.closed (entry true);
        items = refl;
        pair = refl;
        started = omega arith;
        few = λ k h. omega arith;
        stands =
            λ codes rest all h.
            closed-stands codes (end (pair_from st.pair) ∷ rest) rest all true st.pair
            (cut-ended (pair_from st.pair) (opened st codes) rest) h;
      }

pub turn_empty : (table : List Entry) (st : Open) (pair : ℕ) → st.start ≡ st.items → Turned pair table st table (paired_at st pair)
turn_empty table st pair e =
    record {
      same = refl;
      items = refl;
      paired = refl;
      started = omega arith;
      closed = omega arith;
      few = λ k h. h;
      stands = λ codes i rest all p h. turn-stands codes (take st.closed table) st all (i ∷ rest) pair e h;
    }

-- what is closed is the whole take's
pub finished : (items : List ℕ) (table : List Entry) (st : Open) (all : List (Stretch Kept)) → st.start ≡ st.items
    → Stands (take st.items items) (take st.closed table) st [] all
    → Finished st.closed items table all × (total (take st.closed table) ≡ st.items)
finished items table st all e h =
    let held : st.items ≤ length items = omega (arith, h.kept, length-take st.items items) in
    let within : total (take st.closed table) ≤ length (take st.items items) = omega (arith, h.kept, h.started) in (
      record {
        within = omega (arith, h.closed, length-take st.closed table);
        held = omega (arith, h.started);
        is =
            ap (stretches_of (take st.closed table)) (sym (take-append-drop st.items items))
            ∙ stretches_more (take st.closed table) (take st.items items) (drop st.items items) within
            ∙ sym (all_closed (take st.items items) (take st.closed table) st all e h);
      },
      h.started ∙ e,
    )

pub finish_close : (items : List ℕ) (table : List Entry) (st : Open) (all : List (Stretch Kept)) (c : Closable st table) → (st.start ≡ st.items → ⊥) → Stands (take st.items items) (take st.closed table) st [] all
    → Finished (st.closed + 1) items (set table st.closed (entry_of (st.items - st.start) false st.pair)) all
    × (total (take (st.closed + 1) (set table st.closed (entry_of (st.items - st.start) false st.pair))) ≡ st.items)
finish_close items table st all c n h =
    finished items (set table st.closed (entry_of (st.items - st.start) false st.pair)) (closed_at st st.pair) all refl
    (closed-stands table st c (take st.items items) [] [] all false st.pair
    (cut-last (pair_from st.pair) (opened st (take st.items items)) (some_open table st c (take st.items items) n h.kept)) h)
