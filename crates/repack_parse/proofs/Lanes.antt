-- One record more is read by the fast reader, which holds octets and marks: where each kept lane is data, and where some are
-- position lanes. Assumes nothing.
use mathlib.Core.Path.{◌≡◌, refl, sym, ap, ◌∙◌}
use mathlib.Core.List.{List, map}
use Prim.Native.Nat.{ℕ, ◌+◌, ◌-◌, ◌≤◌, ◌<◌}
use native.Mathlib.Omega.{arith}
use lib.ListN.{length, get_or, take, drop}
use Rattle.stream_spec.proofs.Legal.{octets-of}
use Rattle.stream_spec.proofs.Size.{size_bare}
use Rattle.stream_spec.specs.Items.{kept}
use Rattle.stream_spec.specs.Layout.{size, of_width, flags, pair_of, tkeep, tstrb, data_octets, user_number, transfer_of}
use Rattle.stream_spec.specs.Legal.{Octets}
use Rattle.stream_record.specs.declared.Header.{Header}
use Rattle.repack_parse.specs.declared.state.Open.{Open}
use Rattle.repack_scratch.specs.declared.Entry.{Entry}
use Rattle.repack_scratch.specs.Codes.{held_codes, kept_of, sifted, pair_code}
use Rattle.repack_scratch.specs.Stands.{Gathered}
use Rattle.repack_parse.specs.Stands.{kept_at}
use Rattle.repack_scratch.proofs.Codes.{sifted-tagged}
use Rattle.repack_scratch.proofs.Held.{length-held}
use Rattle.repack_sieve.specs.Kept.{Collected}
use Rattle.repack_gather.specs.Gather.{Clear, Marks}
use Rattle.repack_gather.proofs.Lanes.{collected_codes}
use Rattle.repack_parse.specs.Read.{Turned, Ended, Carries, AddedData, AddedMarked, Ready}
use Rattle.repack_parse.proofs.Records.{Paired, lanes-long, codes_kept, add-some, turned_paired, added_codes, lane_count, tagged-lanes}

-- where each kept lane is data
module _ (w : ℕ) (rec : List ℕ) (oct : Octets rec) (long : length rec ≡ size (of_width w)) where
  abbrev lanes : List ℕ
  lanes = data_octets (of_width w) rec

  sifted-lanes : map kept_of (sifted w (tkeep rec) (tstrb rec) lanes) ≡ kept (transfer_of (of_width w) rec).lanes
  sifted-lanes =
      ap (map kept_of) (sifted-tagged w (tkeep rec) (tstrb rec) (user_number (of_width w) rec) lanes) ∙ codes_kept (of_width w) rec oct long

  pub add_collected : (octets octets1 : List ℕ) (table table1 table2 : List Entry) (st o r : Open) (n keep last : ℕ) → w ≤ 16 → (pair_of rec).tdest ≤ 15
      → tkeep rec ≡ keep → tstrb rec ≡ keep → flags rec ≡ last → st.items + 16 ≤ length octets
      → ((items : List ℕ) → Paired (of_width w) rec items table st table1 o)
      → Collected (length lanes) keep lanes octets o.items octets1 n → Ended last table1 (kept_at o n) table2 r
      → AddedData w rec octets table st octets1 table2 r
  add_collected octets octets1 table table1 table2 st o r n keep last high tdest k t f holds paired collected ended =
      record {
        same = collected.same;
        added =
            λ marks l c.
            let p = paired (held_codes octets marks) in
            let clear : Clear o.items marks = λ i b. c i (omega (arith, p.items)) in
            let same : length (held_codes octets marks) ≡ length octets = length-held octets marks (sym l) in
            let count : length lanes ≡ w = lanes-long (of_width w) rec oct long in
            let gathered : Gathered w (sifted w (tkeep rec) (tstrb rec) lanes) (held_codes octets marks) o.items (held_codes octets1 marks) n =
            rw (k, t)
            (rw count at
            (collected_codes keep lanes octets octets1 marks o.items n (omega (arith, collected.within, count, p.items)) l clear collected)) in
            add-some (of_width w) rec oct long (sifted w (tkeep rec) (tstrb rec) lanes) sifted-lanes (held_codes octets marks)
            (held_codes octets1 marks) table table1 table2 st o r n high tdest (rw same holds) p gathered (rw f ended);
      }

-- ---- the same, of the values that the code has

-- without user bits nothing stands behind a record's lanes
pub lanes_behind : (w : ℕ) (rec : List ℕ) → length rec ≡ size (of_width w) → take (length rec - 7) (drop 7 rec) ≡ data_octets (of_width w) rec
lanes_behind w rec long = let same : length rec - 7 ≡ w = omega (arith, long, size_bare w) in rw same refl

module _ (w : ℕ) (rec octets : List ℕ) (table table1 : List Entry) (h : Header) (st o : Open) (byte_at : (i : ℕ) → get_or rec i 0 < 256)
    (carries : Carries (of_width w) rec h) (ready : Ready (of_width w) octets table st) (p : ℕ) (pe : p ≡ pair_code h.tid h.tdest)
    (turned : Turned p table st table1 o) (lanes : List ℕ) (le : lanes ≡ data_octets (of_width w) rec) where
  count : length lanes ≡ w
  count = lane_count (of_width w) rec octets table table1 h st o byte_at carries ready p pe turned lanes le

  pub added_data : (octets1 : List ℕ) (table2 : List Entry) (r : Open) (n : ℕ) → h.keep ≡ h.strb
      → Collected w h.keep lanes octets o.items octets1 n → Ended h.flags table1 (kept_at o n) table2 r
      → AddedData w rec octets table st octets1 table2 r
  added_data octets1 table2 r n d collected ended =
      let e = carries.header in
      let strb : tstrb rec ≡ h.keep = sym (rw e at d) ∙ rw e refl in
      let tdest : (pair_of rec).tdest ≤ 15 = rw e at carries.fits.tdest in
      add_collected w rec (octets-of rec byte_at) carries.long octets octets1 table table1 table2 st o r n h.keep h.flags ready.high tdest
      (rw e refl) strb (rw e refl) ready.holds
      (turned_paired (of_width w) rec octets table table1 h st o byte_at carries ready p pe turned) (rw le at (rw (← count) at collected)) ended

  pub added-marked : (octets1 marks marks1 : List ℕ) (table2 : List Entry) (r : Open) (n : ℕ) → length marks ≡ length octets → Clear st.items marks
      → Marks h.keep h.strb lanes octets marks o.items octets1 marks1 n → Ended h.flags table1 (kept_at o n) table2 r
      → AddedMarked w rec octets marks table st octets1 marks1 table2 r
  added-marked octets1 marks marks1 table2 r n l c marked ended =
      let q = turned_paired (of_width w) rec octets table table1 h st o byte_at carries ready p pe turned (held_codes octets marks) in
      let kept =
      ap (map kept_of) (sifted-tagged w h.keep h.strb (user_number (of_width w) rec) lanes)
      ∙ tagged-lanes (of_width w) rec octets table table1 h st o byte_at carries ready p pe turned lanes le in
      record {
        added =
            added_codes (of_width w) rec octets table table1 h st o byte_at carries ready p pe turned (sifted w h.keep h.strb lanes)
            (held_codes octets marks) (held_codes octets1 marks1) table2 r n (length-held octets marks (sym l)) kept (rw count at marked.gathered) ended;
        clear = λ i b. marked.clear (λ j g. c j (omega (arith, q.items))) i (omega (arith, ended.items));
      }

-- ---- a record of data, with the marks that were there

pub data_marked : (w : ℕ) (rec octets marks : List ℕ) (table : List Entry) (st : Open) (octets1 : List ℕ) (table1 : List Entry) (r : Open) → length marks ≡ length octets
    → Clear st.items marks → AddedData w rec octets table st octets1 table1 r → AddedMarked w rec octets marks table st octets1 marks table1 r
data_marked w rec octets marks table st octets1 table1 r l c d =
    let a = d.added marks l c in
    record { added = a; clear = λ i b. c i (omega (arith, a.beyond)) }
