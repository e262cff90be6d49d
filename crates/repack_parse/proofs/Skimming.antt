-- The usual record: what its two words tell of it, that it has no fault, and that adding it is a step of reading. Assumes
-- nothing.
use Rattle.std.specs.Prelude.{None}
use mathlib.Core.Path.{◌≡◌, refl, sym, ap, ◌∙◌}
use mathlib.Core.List.{List, [], ◌∷◌, ◌++◌}
use Prim.Native.Nat.{ℕ, zero, suc, ◌+◌, ◌-◌, ◌/◌, ◌%◌, ◌^◌, ◌≤◌, ◌<◌}
use native.Mathlib.Omega.{arith}
use native.Mathlib.Nat.{add-zero}
use lib.Pow.{pow_pos}
use lib.ListN.{length, get_or, take, drop, replicate, length-drop, length-replicate}
use lib.Seq.{get_or-take, drop-drop, length-take-le}
use Rattle.refusal.specs.Checks.{first}
use Rattle.stream_spec.specs.Layout.{size, of_width, data_octets, flags, pair_of, tkeep, tstrb}
use Rattle.stream_spec.specs.Legal.{Octets}
use Rattle.stream_spec.specs.Checks.{HeadFits, transfer_flags, transfer_faults}
use Rattle.stream_spec.proofs.Legal.{octets-of, octets-take, octets-drop}
use Rattle.stream_spec.proofs.Size.{size_holds, data_inside}
use Rattle.words.specs.Words.{word_at}
use Rattle.words.proofs.Words.{word-drop}
use Rattle.stream_record.specs.Header.{header_of}
use Rattle.stream_head.specs.Usual.{Usual, UsualWords}
use Rattle.repack_parse.specs.declared.state.Open.{Open}
use Rattle.repack_scratch.specs.declared.Entry.{Entry}
use Rattle.repack_scratch.specs.Codes.{held_codes}
use Rattle.repack_parse.specs.Stands.{kept_at}
use Rattle.repack_scratch.proofs.Held.{unmarked-at}
use Rattle.repack_sieve.specs.Kept.{kept_octet, kept_octets, Collected}
use Rattle.repack_gather.specs.Gather.{Clear}
use Rattle.repack_parse.specs.Read.{Ready, Ended, AddedData}
use Rattle.repack_parse.specs.Reading.{record_from, UsualAt, Skimmed}
use Rattle.repack_parse.proofs.Faults.{data_faultless}
use Rattle.repack_parse.proofs.Records.{lanes-long, paired_same}
use Rattle.repack_parse.proofs.Lanes.{add_collected}
use Rattle.repack_parse.proofs.Take.{reading-next}
use Rattle.repack_parse.proofs.Parsing.{holding-next}

-- ---- the words of a record that starts at octet `a`

pub usual_told : (transfers : List ℕ) (at pair full lo hi : ℕ) → ((i : ℕ) → get_or transfers i 0 < 256) → lo ≡ word_at 4 transfers at → hi ≡ word_at 4 transfers (at + 3)
    → UsualWords lo hi pair full → UsualAt transfers at pair full
usual_told transfers at pair full lo hi b l h u =
    let low : word_at 4 transfers at ≡ word_at 4 (drop at transfers) 0 = sym (rw (add-zero at) refl) ∙ word-drop 4 at transfers 0 in
    rw (← l, ← h) (u (drop at transfers) (octets-drop at transfers (octets-of transfers b)) (l ∙ low) (h ∙ word-drop 4 at transfers 3))

-- ---- the record itself

-- its header is there before its lanes
header-taken : (n : ℕ) (xs : List ℕ) → 7 ≤ n → header_of (take n xs) ≡ header_of xs
header-taken n xs h =
    rw (
      get_or-take n xs 0 0 (omega arith),
      get_or-take n xs 1 0 (omega arith),
      get_or-take n xs 2 0 (omega arith),
      get_or-take n xs 3 0 (omega arith),
      get_or-take n xs 4 0 (omega arith),
      get_or-take n xs 5 0 (omega arith),
      get_or-take n xs 6 0 (omega arith),
    ) refl

-- and its lanes behind it
lanes_taken : (w : ℕ) (transfers : List ℕ) (at : ℕ) → at + size (of_width w) ≤ length transfers
    → take w (drop (at + 7) transfers) ≡ data_octets (of_width w) (take (size (of_width w)) (drop at transfers))
lanes_taken w transfers at h =
    sym (data_inside (of_width w) (drop at transfers) (omega (arith, length-drop at transfers)) ∙ rw (drop-drop 7 at transfers) refl)

-- ---- what stands behind the last lane is not looked at

kept-taken : (w k : ℕ) (ds : List ℕ) → kept_octets w k (take w ds) ≡ kept_octets w k ds
kept-taken zero k ds = refl
kept-taken (suc w) k [] = refl
kept-taken (suc w) k (d ∷ ds) = ap (λ (l : List ℕ). kept_octet k d ++ l) (kept-taken w (k / 2) ds)

collected_taken : (w k : ℕ) (ds octets : List ℕ) (at : ℕ) (after : List ℕ) (r : ℕ) → Collected w k ds octets at after r
    → Collected w k (take w ds) octets at after r
collected_taken w k ds octets at after r c =
    record { same = c.same; beyond = c.beyond; within = c.within; is = c.is ∙ rw (kept-taken w k ds) refl }

-- ---- the usual record

module _ (w : ℕ) (transfers octets : List ℕ) (table : List Entry) (st : Open) (at full : ℕ) (b : (i : ℕ) → get_or transfers i 0 < 256) (fits : at + size (of_width w) ≤ length transfers)
    (fe : full ≡ 2 ^ w - 1) (ready : Ready (of_width w) octets table st) (u : UsualAt transfers at st.pair full) where
  abbrev rec : List ℕ
  rec = record_from (of_width w) transfers at

  rec-octets : Octets rec
  rec-octets = octets-take (size (of_width w)) (drop at transfers) (octets-drop at transfers (octets-of transfers b))

  rec-long : length rec ≡ size (of_width w)
  rec-long = length-take-le (size (of_width w)) (drop at transfers) (rw (length-drop at transfers) (omega arith))

  told : Usual (word_at 4 transfers at) (word_at 4 transfers (at + 3)) st.pair full (header_of rec)
  told = rw (header-taken (size (of_width w)) (drop at transfers) (omega (arith, size_holds (of_width w)))) u

  usual_fields : HeadFits transfer_flags (of_width w) (flags rec) (pair_of rec).tdest (tkeep rec) (tstrb rec)
  usual_fields =
      let keep = told.keep in
      let strb = told.strb in
      let pos = pow_pos w in
      record {
        flags = omega (arith, told.flags);
        tdest = omega (arith, told.paired, ready.pair);
        keep = omega (arith, told.within);
        strb = omega (arith, told.within);
      }

  pub usual_faultless : (k : ℕ) → first (transfer_faults (of_width w) k rec) ≡ None
  usual_faultless k = data_faultless w rec k usual_fields (told.keep ∙ sym told.strb)

  pub usual_added : (octets1 : List ℕ) (table1 : List Entry) (r : Open) (n lo hi : ℕ) → lo ≡ word_at 4 transfers at → hi ≡ word_at 4 transfers (at + 3)
      → Collected w (hi % 0x10000) (drop (at + 7) transfers) octets st.items octets1 n → Ended (lo % 2) table (kept_at st n) table1 r
      → AddedData w rec octets table st octets1 table1 r
  usual_added octets1 table1 r n lo hi l h collected ended =
      let of_lanes : Collected w (hi % 0x10000) (data_octets (of_width w) rec) octets st.items octets1 n =
      rw (lanes_taken w transfers at fits) at (collected_taken w (hi % 0x10000) (drop (at + 7) transfers) octets st.items octets1 n collected) in
      add_collected w rec rec-octets rec-long octets octets1 table table table1 st st r n (hi % 0x10000) (lo % 2) ready.high usual_fields.tdest
      (rw h told.keep) (rw h told.strb) (rw l told.flags) ready.holds
      (λ items. paired_same (of_width w) rec items table st ready.started (sym told.paired)) (rw (lanes-long (of_width w) rec rec-octets rec-long) of_lanes) ended

-- ---- a step of skimming

module _ (w : ℕ) (transfers octets : List ℕ) (table : List Entry) (st : Open) (from : ℕ) (octets1 : List ℕ) (table1 : List Entry) (st1 : Open) (at : ℕ)
    (k : Skimmed w transfers octets table st from octets1 table1 st1 at) where
  pub skimmed_next : (octets2 : List ℕ) (table2 : List Entry) (st2 : Open) → at < length transfers → first (transfer_faults (of_width w) (at / size (of_width w)) (record_from (of_width w) transfers at)) ≡ None
      → AddedData w (record_from (of_width w) transfers at) octets1 table1 st1 octets2 table2 st2
      → Skimmed w transfers octets table st from octets2 table2 st2 (at + size (of_width w))
  skimmed_next octets2 table2 st2 more sound a =
      let zeros = replicate {A = ℕ} (length octets1) 0 in
      let zero-at : Clear st1.items zeros = λ i h. unmarked-at zeros (rw (length-replicate {A = ℕ} (length octets1) 0) refl) i in
      let plain = a.added zeros (length-replicate {A = ℕ} (length octets1) 0) zero-at in
      record {
        on = omega (arith, k.on);
        reading =
            reading-next (of_width w) transfers octets1 table1 st1 at k.reading more (record_from (of_width w) transfers at) (held_codes octets1 zeros)
            (held_codes octets2 zeros) table2 st2 refl plain octets2 sound a.same;
        holding =
            λ marks h.
            let g = k.holding marks h in
            holding-next w transfers octets1 table1 st1 at k.reading more (record_from (of_width w) transfers at) octets2 table2 st2 refl marks marks a.same refl
            (λ i b. g.clear i (omega (arith, plain.beyond))) (a.added marks g.long g.clear) g;
      }
