-- One record more is read: how turning, gathering and ending follow each other, for records of any shape and items held as codes.
-- Assumes nothing.
use mathlib.Core.Path.{◌≡◌, refl, sym, ap, ◌∙◌, subst}
use mathlib.Core.Bool.{Bool, true, false, cond}
use mathlib.Core.List.{List, [], ◌∷◌, ◌++◌, map, append_assoc}
use Prim.Native.Nat.{ℕ, zero, suc, ◌+◌, ◌*◌, ◌/◌, ◌%◌, ◌^◌, ◌≤◌, ◌<◌}
use native.Mathlib.Nat.{pow-suc}
use native.Mathlib.Omega.{arith}
use borrow.Author.Tests.{eqb-false}
use lib.Dec.{eqb}
use lib.ListN.{length, get_or, take, drop, length-append, length-map}
use lib.Seq.{length-take-le}
use Rattle.stream_spec.specs.declared.Shape.{Shape}
use Rattle.stream_spec.specs.Items.{Pair, Item, byte, end, item_pair, items_of, kept, transfer_items}
use Rattle.stream_spec.specs.Packed.{Stretch}
use Rattle.stream_spec.specs.Layout.{width_most, size, flags, pair_of, tkeep, tstrb, tlast, data_octets, user_number, Kept, transfer_of}
use Rattle.stream_spec.specs.Legal.{Octets}
use Rattle.stream_spec.specs.Checks.{HeadFits, transfer_flags}
use Rattle.stream_spec.proofs.Legal.{octets-of, octets-take, octets-drop, octet-at}
use Rattle.stream_spec.proofs.Size.{data_long}
use Rattle.stream_record.specs.declared.Header.{Header}
use Rattle.stream_record.specs.Header.{header_of}
use Rattle.repack_parse.specs.declared.state.Open.{Open}
use Rattle.repack_scratch.specs.declared.Entry.{Entry}
use Rattle.repack_scratch.specs.Codes.{kept_of, tagged, pair_code, pair_from, pair_limit}
use Rattle.repack_scratch.specs.Stands.{Gathered}
use Rattle.repack_parse.specs.Stands.{kept_at, Stands}
use Rattle.repack_scratch.proofs.Codes.{tagged-kept}
use Rattle.repack_parse.proofs.Stands.{gather_stands}
use Rattle.repack_parse.specs.Read.{Few, Closable, Turned, Ended, Carries, Added, Ready}

-- ---- whether a record has an item

tagged-none : (m w t u : ℕ) (ds : List ℕ) → tagged m w 0 t u ds ≡ []
tagged-none m zero t u ds = refl
tagged-none m (suc w) t u ds = tagged-none m w (t / 2) (u / 2 ^ m) (drop 1 ds)

tagged-some : (m w k t u : ℕ) (ds : List ℕ) → k < 2 ^ w → 0 < k → length (tagged m w k t u ds) ≡ 0 → ⊥
tagged-some m zero k t u ds h p e = omega arith
tagged-some m (suc w) k t u ds h p e = go (eqb (k % 2) 1) refl (tagged-some m w (k / 2) (t / 2) (u / 2 ^ m) (drop 1 ds))
  where
    rest : List ℕ
    rest = tagged m w (k / 2) (t / 2) (u / 2 ^ m) (drop 1 ds)

    go : (b : Bool) → eqb (k % 2) 1 ≡ b → (k / 2 < 2 ^ w → 0 < k / 2 → length rest ≡ 0 → ⊥) → ⊥
    go true o ih = let z : suc (length rest) ≡ 0 = rw o at e in omega arith
    go false o ih =
        let even : k % 2 ≡ 1 → ⊥ = eqb-false (k % 2) 1 o in
        ih (omega (arith, pow-suc 2 w)) (omega arith) (rw o at e)

-- what holds of items that begin with this pair holds of a record's items, if it has one
starts : (p : Pair) (bs : List Kept) (last : Bool) (rest : List (Item Kept)) → (length bs ≡ 0 → last ≡ false → ⊥)
    → (P : List (Item Kept) → Type 0) → ((i : Item Kept) (js : List (Item Kept)) → item_pair i ≡ p → P (i ∷ js))
    → P (items_of p bs last ++ rest)
starts p (b ∷ bs) last rest h P f = f (byte p b) (map (byte p) bs ++ cond last (end p ∷ []) [] ++ rest) refl
starts p [] true rest h P f = f (end p) rest refl
starts p [] false rest h P f = absurd (h refl refl)

pair_back : (tid tdest : ℕ) → tid < 256 → pair_from (pair_code tid tdest) ≡ record { tid = tid; tdest = tdest }
pair_back tid tdest h =
    let low : (tid + 256 * tdest) % 256 ≡ tid = omega arith in
    let high : (tid + 256 * tdest) / 256 ≡ tdest = omega arith in
    λ i. record { tid = low i; tdest = high i }

-- a record's pair as one number
abbrev pub code_of : List ℕ → ℕ
code_of rec = pair_code (pair_of rec).tid (pair_of rec).tdest

-- the open stretch has the record's pair, and stands as before
pub record Paired (s : Shape) (rec codes : List ℕ) (table : List Entry) (st : Open) (table1 : List Entry) (o : Open) : Type 0 where
  pub same : length table1 ≡ length table
  pub items : o.items ≡ st.items
  pub paired : o.pair ≡ code_of rec
  pub started : o.start ≤ o.items
  pub few : (k : ℕ) → Few st k 0 → Few o k 0
  pub stands :
      (rest : List (Item Kept)) (all : List (Stretch Kept))
      → Stands (take st.items codes) (take st.closed table) st (transfer_items (transfer_of s rec) ++ rest) all
      → Stands (take st.items codes) (take o.closed table1) o (transfer_items (transfer_of s rec) ++ rest) all

pub paired_same : (s : Shape) (rec items : List ℕ) (table : List Entry) (st : Open) → st.start ≤ st.items → st.pair ≡ code_of rec → Paired s rec items table st table st
paired_same s rec items table st b e =
    record { same = refl; items = refl; paired = e; started = b; few = λ k h. h; stands = λ rest all h. h }

module _ (s : Shape) (rec : List ℕ) (oct : Octets rec) (long : length rec ≡ size s) where
  pub lanes-long : length (data_octets s rec) ≡ s.width
  lanes-long = data_long s rec (omega (arith, long))

  -- the codes of a record's kept lanes, which carry what the record does
  abbrev record_codes : List ℕ
  record_codes = tagged s.user s.width (tkeep rec) (tstrb rec) (user_number s rec) (data_octets s rec)

  pub codes_kept : map kept_of record_codes ≡ kept (transfer_of s rec).lanes
  codes_kept =
      tagged-kept s.user s.width (tkeep rec) (tstrb rec) (user_number s rec) (data_octets s rec)
      (octets-take s.width (drop 7 rec) (octets-drop 7 rec oct))

  -- ---- a record with no item vanishes

  no_items : tkeep rec ≡ 0 → flags rec ≡ 0 → transfer_items (transfer_of s rec) ≡ []
  no_items k f =
      rw (← codes_kept) (rw (k, f) (rw (tagged-none s.user s.width (tstrb rec) (user_number s rec) (data_octets s rec)) refl))

  pub add_none : (items : List ℕ) (table : List Entry) (st : Open) → st.start ≤ st.items → st.pair < pair_limit → tkeep rec ≡ 0 → flags rec ≡ 0
      → Added s rec items table st items table st
  add_none items table st b p k f =
      record {
        same_table = refl;
        beyond = omega arith;
        kept = omega arith;
        pair = p;
        started = b;
        few = λ n h. omega arith;
        stands = λ rest all h. rw (no_items k f) at h;
      }

  -- ---- a record with an item, and its pair

  tid-small : (pair_of rec).tid < 256
  tid-small = octet-at rec 1 oct

  code_pair : pair_from (code_of rec) ≡ pair_of rec
  code_pair = pair_back (pair_of rec).tid (pair_of rec).tdest tid-small

  pub code_small : (pair_of rec).tdest ≤ 15 → code_of rec < pair_limit
  code_small h = omega (arith, tid-small)

  module _ (fits : HeadFits transfer_flags s (flags rec) (pair_of rec).tdest (tkeep rec) (tstrb rec)) (some : tkeep rec + flags rec ≡ 0 → ⊥) where
    has_item : length (map kept_of record_codes) ≡ 0 → tlast rec ≡ false → ⊥
    has_item e l =
        let even : flags rec / 2 ^ 0 % 2 ≡ 1 → ⊥ = eqb-false (flags rec / 2 ^ 0 % 2) 1 l in
        let low : flags rec ≡ 0 = omega (arith, fits.flags) in
        tagged-some s.user s.width (tkeep rec) (tstrb rec) (user_number s rec) (data_octets s rec) fits.keep (omega arith)
        (rw (length-map record_codes kept_of) at e)

    pub paired_turned : (items : List ℕ) (table table1 : List Entry) (st o : Open) → Turned (code_of rec) table st table1 o → Paired s rec items table st table1 o
    paired_turned items table table1 st o turned =
        record {
          same = turned.same;
          items = turned.items;
          paired = turned.paired;
          started = turned.started;
          few = turned.few;
          stands =
              λ rest all.
              rw (← codes_kept)
              (starts (pair_of rec) (map kept_of record_codes) (tlast rec) rest has_item
              (λ R. Stands (take st.items items) (take st.closed table) st R all → Stands (take st.items items) (take o.closed table1) o R all)
              (λ i js e. turned.stands (take st.items items) i js all (e ∙ sym code_pair)));
        }

  -- ---- its bytes and its end

  -- The codes may be others than the record's own, as long as they stand for what its lanes carry.
  module _ (more : List ℕ) (more-kept : map kept_of more ≡ kept (transfer_of s rec).lanes) where
    -- the record's items, its end apart
    apart-items : (p : ℕ) → p ≡ code_of rec → (rest : List (Item Kept))
        → transfer_items (transfer_of s rec) ++ rest
        ≡ map (byte (pair_from p)) (map kept_of more) ++ (cond (tlast rec) (end (pair_from p) ∷ []) [] ++ rest)
    apart-items p e rest =
        rw (e, code_pair, ← more-kept)
        (append_assoc (map (byte (pair_of rec)) (map kept_of more)) (cond (tlast rec) (end (pair_of rec) ∷ []) []) rest)

    module _ (items items1 : List ℕ) (table table1 table2 : List Entry) (st o r : Open) (n : ℕ) (high : s.width ≤ width_most) (tdest : (pair_of rec).tdest ≤ 15)
        (holds : st.items + 16 ≤ length items) (paired : Paired s rec items table st table1 o)
        (gathered : Gathered s.width more items o.items items1 n) (ended : Ended (flags rec) table1 (kept_at o n) table2 r) where
      reached : n ≤ length items1
      reached = omega (arith, gathered.within, gathered.same, paired.items, high, holds)

      counted : n ≡ o.items + length more
      counted =
          let before : length (take o.items items) ≡ o.items = length-take-le o.items items (omega (arith, paired.items, holds)) in
          let both : length (take n items1) ≡ length (take o.items items) + length more =
          ap length gathered.is ∙ length-append (take o.items items) more in
          omega (arith, length-take-le n items1 reached)

      gathered-stands : (rest : List (Item Kept)) (all : List (Stretch Kept))
          → Stands (take st.items items) (take o.closed table1) o (transfer_items (transfer_of s rec) ++ rest) all
          → Stands (take n items1) (take o.closed table1) (kept_at o n) (cond (tlast rec) (end (pair_from o.pair) ∷ []) [] ++ rest) all
      gathered-stands rest all h =
          rw (gathered.is, paired.items)
          (gather_stands (take st.items items) (take o.closed table1) o all more (cond (tlast rec) (end (pair_from o.pair) ∷ []) [] ++ rest) n
          paired.started counted
          (subst (λ R. Stands (take st.items items) (take o.closed table1) o R all) (apart-items o.pair paired.paired rest) h))

      pub add-some : Added s rec items table st items1 table2 r
      add-some =
          record {
            same_table = ended.same ∙ paired.same;
            beyond = omega (arith, ended.items, gathered.beyond, paired.items);
            kept = omega (arith, ended.items, gathered.within, paired.items);
            pair = omega (arith, ended.pair, paired.paired, code_small tdest);
            started = ended.started;
            few =
                λ k h.
                ended.few k (omega (arith, paired.few k h, gathered.within, high, paired.items));
            stands = λ rest all h.
                subst (λ m. Stands (take m items1) (take r.closed table2) r rest all) (sym ended.items)
                (ended.stands (take n items1) rest all (gathered-stands rest all (paired.stands rest all h)));
          }

-- ---- the same, of the values that the code has

-- a record with no item
pub added_none : (s : Shape) (rec items : List ℕ) (table : List Entry) (h : Header) (st : Open) → ((i : ℕ) → get_or rec i 0 < 256) → length rec ≡ size s
    → h ≡ header_of rec → Ready s items table st → (codes : List ℕ) → h.keep + h.flags ≡ 0 → Added s rec codes table st codes table st
added_none s rec items table h st byte_at long e ready codes z =
    let sum : tkeep rec + flags rec ≡ 0 = rw e at z in
    add_none s rec (octets-of rec byte_at) long codes table st ready.started ready.pair (omega arith) (omega arith)

-- a record with an item, after turning
module _ (s : Shape) (rec items : List ℕ) (table table1 : List Entry) (h : Header) (st o : Open) (byte_at : (i : ℕ) → get_or rec i 0 < 256)
    (carries : Carries s rec h) (ready : Ready s items table st) where
  e : h ≡ header_of rec
  e = carries.header

  head : HeadFits transfer_flags s (flags rec) (pair_of rec).tdest (tkeep rec) (tstrb rec)
  head = rw e at carries.fits

  item_there : tkeep rec + flags rec ≡ 0 → ⊥
  item_there = rw e at carries.some

  module _ (p : ℕ) (pe : p ≡ pair_code h.tid h.tdest) (turned : Turned p table st table1 o) where
    pub turned_paired : (codes : List ℕ) → Paired s rec codes table st table1 o
    turned_paired codes =
        let pc : p ≡ code_of rec = pe ∙ rw e refl in
        paired_turned s rec (octets-of rec byte_at) carries.long head item_there codes table table1 st o (rw pc at turned)

    -- Items are gathered and ended: as many codes are there as items.
    pub added_codes : (more codes codes1 : List ℕ) (table2 : List Entry) (r : Open) (n : ℕ) → length codes ≡ length items
        → map kept_of more ≡ kept (transfer_of s rec).lanes → Gathered s.width more codes o.items codes1 n
        → Ended h.flags table1 (kept_at o n) table2 r → Added s rec codes table st codes1 table2 r
    added_codes more codes codes1 table2 r n same kept gathered ended =
        add-some s rec (octets-of rec byte_at) carries.long more kept codes codes1 table table1 table2 st o r n ready.high head.tdest
        (rw same ready.holds) (turned_paired codes) gathered (rw e at ended)

    module _ (lanes : List ℕ) (le : lanes ≡ data_octets s rec) where
      pub lane_count : length lanes ≡ s.width
      lane_count = ap length le ∙ lanes-long s rec (octets-of rec byte_at) carries.long

      -- the codes of its lanes stand for what they carry
      pub tagged-lanes : map kept_of (tagged s.user s.width h.keep h.strb (user_number s rec) lanes) ≡ kept (transfer_of s rec).lanes
      tagged-lanes = rw (e, le) (codes_kept s rec (octets-of rec byte_at) carries.long)

      -- what gathering needs of the state after turning
      pub lanes_ready : (length lanes ≡ s.width) × (o.items + s.width ≤ length items)
      lanes_ready = (lane_count, omega (arith, turned.items, ready.high, ready.holds))

      -- and ending, of the state after gathering
      pub end_ready : (n : ℕ) → o.items ≤ n → n ≤ o.items + s.width → Closable (kept_at o n) table1 × (h.flags < 2)
      end_ready n low high =
          let tid : h.tid < 256 = rw e (byte_at 1) in
          let f = carries.fits in (
            record {
              started = omega (arith, turned.started);
              small = omega (arith, turned.items, lane_count, ready.high, ready.holds, ready.small);
              lists = omega (arith, turned.closed, turned.same, ready.lists);
              pair = omega (arith, turned.paired, f.tdest);
            },
            f.flags,
          )
