-- The invariant of reading a take, record by record: where it starts, what a record more does to it, and what it says at the
-- end, for records of any shape and items held as codes. How records follow each other is stream_spec's Walk. Assumes nothing.
use Rattle.std.specs.Prelude.{None, Some}
use mathlib.Core.Path.{◌≡◌, refl, ap, ◌∙◌, subst}
use mathlib.Core.List.{List, [], ◌∷◌, ◌++◌}
use Prim.Native.Nat.{ℕ, ◌+◌, ◌/◌, ◌≤◌, ◌<◌}
use native.Mathlib.Nat.{zero-div}
use native.Mathlib.Numerals.{add-one}
use native.Mathlib.Omega.{arith}
use lib.ListN.{length, take, drop}
use Rattle.refusal.specs.declared.Refusal.{Refusal}
use Rattle.refusal.specs.Checks.{first}
use Rattle.stream_spec.specs.declared.Shape.{Shape}
use Rattle.stream_spec.specs.Items.{transfer_items}
use Rattle.stream_spec.specs.Packed.{cut}
use Rattle.stream_spec.specs.Layout.{size, transfer_of, records, stream_items}
use Rattle.stream_spec.specs.Checks.{transfer_faults, transfer_checks}
use Rattle.stream_spec.specs.Walk.{Passed}
use Rattle.stream_spec.proofs.RecordChecks.{each-found, each-passed}
use Rattle.stream_spec.proofs.Size.{size_holds}
use Rattle.stream_spec.proofs.Walk.{left-start, record_fits, record_is, left-next, records-next, place-next, no-records}
use Rattle.repack_parse.specs.declared.state.Open.{Open}
use Rattle.repack_scratch.specs.declared.Entry.{Entry}
use Rattle.repack_scratch.specs.Codes.{item_room, stretch_room, total}
use Rattle.repack_parse.specs.Stands.{at_start, Stands}
use Rattle.repack_parse.specs.Read.{Added, Ready, FinishIs, TakenAs}
use Rattle.repack_parse.specs.Reading.{record_from, Reading, StandsAt}

-- ---- the start

pub reading-starts : (s : Shape) (transfers items : List ℕ) (table : List Entry) → Passed s transfers → length items ≡ item_room → length table ≡ stretch_room
    → Reading s transfers items table at_start 0
reading-starts s transfers items table p i t =
    let zeroth : 0 / size s ≡ 0 = zero-div (size s) in
    record {
      passed = p;
      left = left-start s transfers p.whole;
      faults = rw zeroth refl;
      same_items = i;
      same_table = t;
      started = omega arith;
      pair = omega arith;
      kept = omega arith;
      many = rw zeroth (omega arith);
      few = rw zeroth (omega arith);
    }

pub stands-start : (s : Shape) (transfers codes : List ℕ) (table : List Entry) → StandsAt s transfers codes table at_start 0
stands-start s transfers codes table = record { kept = refl; closed = refl; started = refl; is = refl }

-- ---- a record more

module _ (s : Shape) (transfers items : List ℕ) (table : List Entry) (st : Open) (at : ℕ) (r : Reading s transfers items table st at) where
  module _ (more : at < length transfers) where
    -- another record stands there
    pub reading-fits : at + size s ≤ length transfers
    reading-fits = record_fits s transfers at r.left more (size s) refl

    -- it is the first of those that are left
    here : records s (drop at transfers) ≡ record_from s transfers at ∷ records s (drop (at + size s) transfers)
    here =
        records-next s transfers at r.left more (size s) refl
        ∙ ap (λ (xs : List ℕ). xs ∷ records s (drop (at + size s) transfers)) (record_is s transfers at r.left more (size s) refl)

    faults_here : first (transfer_checks s 0 (records s transfers))
        ≡ first (transfer_checks s (at / size s) (record_from s transfers at ∷ records s (drop (at + size s) transfers)))
    faults_here = r.faults ∙ ap (λ (rs : List (List ℕ)). first (transfer_checks s (at / size s) rs)) here

    pub reading_ready : Ready s items table st
    reading_ready =
        let room = reading-fits in
        let long : 7 + s.width ≤ size s = size_holds s in
        record {
          low = r.passed.low;
          high = r.passed.high;
          started = r.started;
          pair = r.pair;
          holds = omega (arith, r.kept, r.same_items, r.passed.short, r.passed.low);
          small = omega (arith, r.same_items);
          lists = omega (arith, r.few, r.started, r.many, r.same_table, r.passed.short, r.passed.low);
        }

    -- a record's fault is the take's
    pub reading-refused : (rec : List ℕ) (f : Refusal) → rec ≡ record_from s transfers at
        → first (transfer_faults s (at / size s) rec) ≡ Some f
        → first (transfer_checks s 0 (records s transfers)) ≡ Some f
    reading-refused rec f e h =
        faults_here
        ∙ each-found (transfer_faults s) (at / size s) (record_from s transfers at)
        (records s (drop (at + size s) transfers)) f (rw e at h)

    -- the next record's place
    next_place : (at + size s) / size s ≡ at / size s + 1
    next_place = place-next s transfers at r.left more (size s) refl

    module _ (rec codes codes' : List ℕ) (table' : List Entry) (st' : Open) (e : rec ≡ record_from s transfers at) (a : Added s rec codes table st codes' table' st') where
      pub reading-next : (items' : List ℕ) → first (transfer_faults s (at / size s) rec) ≡ None → length items' ≡ length items
          → Reading s transfers items' table' st' (at + size s)
      reading-next items' sound l =
          let long : 7 + s.width ≤ size s = size_holds s in
          record {
            passed = r.passed;
            left = left-next s transfers at r.left more (size s) refl;
            faults =
                faults_here
                ∙ each-passed (transfer_faults s) (at / size s) (record_from s transfers at)
                (records s (drop (at + size s) transfers)) (rw e at sound)
                ∙ rw (next_place, add-one (at / size s)) refl;
            same_items = l ∙ r.same_items;
            same_table = a.same_table ∙ r.same_table;
            started = a.started;
            pair = a.pair;
            kept = omega (arith, a.kept, r.kept, r.passed.high);
            many = rw next_place (omega (arith, r.many, r.passed.low));
            few = rw next_place (a.few (at / size s) r.few);
          }

      items_here : stream_items s (drop at transfers)
          ≡ transfer_items (transfer_of s rec) ++ stream_items s (drop (at + size s) transfers)
      items_here = rw (here, e) refl

      pub stands-next : StandsAt s transfers codes table st at → StandsAt s transfers codes' table' st' (at + size s)
      stands-next h =
          a.stands (stream_items s (drop (at + size s) transfers)) (cut (stream_items s transfers))
          (subst (λ R. Stands (take st.items codes) (take st.closed table) st R (cut (stream_items s transfers))) items_here h)

  -- ---- nothing is left

  module _ (done : length transfers ≤ at) where
    reading-faultless : first (transfer_checks s 0 (records s transfers)) ≡ None
    reading-faultless = r.faults ∙ rw (no-records s transfers at done) refl

    stands_done : (codes : List ℕ) → StandsAt s transfers codes table st at
        → Stands (take st.items codes) (take st.closed table) st [] (cut (stream_items s transfers))
    stands_done codes h =
        subst (λ R. Stands (take st.items codes) (take st.closed table) st R (cut (stream_items s transfers)))
        (rw (no-records s transfers at done) refl) h

    -- the last stretch is closed, and the whole take is read; items can be read past the last one
    pub reading_done : (codes : List ℕ) (table' : List Entry) (n : ℕ) → StandsAt s transfers codes table st at → FinishIs table st table' n
        → TakenAs s transfers codes table' n × (total (take n table') + 32 ≤ length items)
    reading_done codes table' n h f =
        let g = f codes (cut (stream_items s transfers)) (stands_done codes h) in (
          record { faultless = reading-faultless; finished = g.0 },
          omega (arith, g.1, r.kept, r.left.within, r.passed.short, r.same_items),
        )
