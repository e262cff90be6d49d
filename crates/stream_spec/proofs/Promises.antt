-- Every statement of specs/Promises, proved: mostly by citing the law that carries it. Assumes nothing.
use Rattle.std.specs.Prelude.{Option, None, Ok}
use mathlib.Core.Path.{◌≡◌, refl, sym, ap, ap₂, ◌∙◌}
use mathlib.Core.Logic.{inl, inr, ⊎_elim}
use mathlib.Core.Bool.{Bool, true, false, not, ◌||◌, or-true}
use mathlib.Core.List.{List, [], ◌∷◌, map}
use borrow.Author.Tests.{eqb-true, eqb-false, eq-eqb, ne_eqb, ltb-true, lt-ltb, leb-true, leb-false, le-leb, not-true}
use lib.Dec.{eqb, ltb}
use Prim.Native.Nat.{ℕ, zero, suc, ◌+◌, ◌-◌, ◌*◌, ◌/◌, ◌%◌, ◌^◌, ◌≤◌, ◌<◌}
use lib.Pow.{pow_pos, pow_mono, shr-shr}
use native.Mathlib.Nat.{le_trans, one-mul, mod-le, le-div_iff_mul-le, suc-mul, zero-mul, div-add-mod', mul-le-mul_right, div-mul-le_self}
use native.Mathlib.Omega.{arith}
use lib.ListN.{length, get_or, drop, length-map, length-append, length-drop}
use Rattle.refusal.specs.declared.Refusal.{Refusal}
use Rattle.refusal.specs.Checks.{first}
use Rattle.stream_spec.specs.declared.Shape.{Shape}
use Rattle.stream_spec.specs.declared.Verdict.TheVariants.{Clean}
use Rattle.stream_spec.specs.Items.{Item, Transfer, items}
use Rattle.stream_spec.specs.Packed.{pack, slice_transfer, slices}
use Rattle.stream_spec.specs.Layout.{bit, odd, size, tvalid, aresetn, tkeep, tstrb, shaped, at_width, null_lane, lane_type, types_of, Kept, data_octets, user_number, octets_of, record_count, records, transfer_of, transfers, octets, stream_items, packed_transfers, packed, sliced_transfers, sliced}
use Rattle.stream_spec.specs.Checks.{capture_most, width_check, take_checks, index_check, room_check}
use Rattle.stream_spec.specs.Handshake.{was_reset}
use Rattle.stream_spec.specs.Walk.{Passed}
use Rattle.stream_spec.specs.Answers.{written, lent_after, judge_answer, data_refusal, data_part, repack_refusal, repack_answer, repack_after}
use Rattle.stream_spec.specs.Legal.{Legal}
use Rattle.stream_spec.specs.Demand3.{accepted}
use Rattle.stream_spec.specs.Promises.{SetAbove, cycle_before, FieldBits, UserExactly, RecordGrows, WithoutUserBits, LaneUserBits, PaddingExactly, NullsZero, NullLanesZero, DataHandedOut, WidthExactly, LengthExactly, ByteTypes, RepackingKeeps, PackedLegal, PackedLength, PackedFull, PackedOnly, Holds, Joins, Canonical, NoShorter, LeastReached, LaneKeeping, ArchivesRepack, Findings, ResetQuiet, HarvestLegal, HarvestRepacks, FilledHarvest, JudgedAlike, EachItsPacket}
use Rattle.stream_spec.proofs.Bits.{bit-zero, bit-suc}
use Rattle.stream_spec.proofs.Size.{size_is, data_long}
use Rattle.stream_spec.proofs.Bools.{or_split, not_left}
use Rattle.refusal.proofs.First.{first-none, append-none}
use Rattle.stream_spec.proofs.Passed.{checks-passed}
use Rattle.stream_spec.proofs.Pack.{Wide, pack-parted, length-spread, items-slices, wide-pack, wide-slices}
use Rattle.stream_spec.proofs.Hold.{hold}
use Rattle.stream_spec.proofs.Least.{pack-least}
use Rattle.stream_spec.proofs.Records.{octets_sized, records-joined, packed-items, length-octets, length-packed, transfers_back, packed-tagged, sliced-tagged}
use Rattle.stream_spec.proofs.Users.{Tagged}
use Rattle.stream_spec.proofs.Bare.{without_user-bits}
use Rattle.stream_spec.proofs.UserBits.{lane-reads, padding_set, set_padding, transfers-nulls}
use Rattle.stream_spec.proofs.Legal.{packed-legal, sliced-legal, wide-transfers}
use Rattle.stream_spec.proofs.Repack.{takes_legal, legal_repacks, accepted_of}
use Rattle.stream_spec.proofs.Full.{packed-full}
use Rattle.stream_spec.proofs.Only.{packed-only}
use Rattle.stream_spec.proofs.Findings.{judges}
use Rattle.stream_spec.proofs.Clean.{clean-sound}
use Rattle.stream_spec.proofs.Harvest.{harvest_legal as harvest-legal, harvest_repacks as harvest-repacks}
use Rattle.stream_spec.proofs.Fill.{filled-harvest, each-its-packet}
use Rattle.stream_spec.proofs.Alike.{judged-alike}

-- ---- refusals

pub width_exactly : WidthExactly
width_exactly w = (
  (λ e. ⊎_elim (λ h. inl (eqb-true w 0 h)) (λ h. inr (ltb-true 16 w h)) (or_split (eqb w 0) (ltb 16 w) e)),
  ⊎_elim (λ h. rw (eq-eqb w 0 h) refl) (λ h. rw (lt-ltb 16 w h) (or-true (eqb w 0))),
)

pub length_exactly : LengthExactly
length_exactly s xs =
    let over = ltb 65536 (length xs) in
    let whole = eqb (length xs % size s) 0 in (
      (λ e. ⊎_elim (λ h. inl (ltb-true 65536 (length xs) h)) (λ h. inr (eqb-false (length xs % size s) 0 (not-true whole h))) (or_split over (not whole) e)),
      ⊎_elim (λ h. rw (lt-ltb 65536 (length xs) h) refl) (λ h. rw (ne_eqb (length xs % size s) 0 h) (or-true over)),
    )

pub user_exactly : UserExactly
user_exactly s = ((λ e. ltb-true 4 s.user e), (λ h. lt-ltb 4 s.user h))

-- ---- byte types

-- a number above 0 has a bit that is set; f bounds how far up
some-bit : (f n : ℕ) → 0 < n → n ≤ f → SetAbove 0 n
some-bit zero n h k = absurd (omega arith)
some-bit (suc f) n h k = go (some-bit f (n / 2)) (odd n) refl
  where
    up : SetAbove 0 (n / 2) → SetAbove 0 n
    up s = record { place = suc s.place; above = omega arith; high = bit-suc s.place n ∙ s.high }

    go : (0 < n / 2 → n / 2 ≤ f → SetAbove 0 (n / 2)) → (b : Bool) → odd n ≡ b → SetAbove 0 n
    go half true e = record { place = 0; above = omega arith; high = bit-zero n ∙ e }
    go half false e = let even = eqb-false (n % 2) 1 e in up (half (omega arith) (omega arith))

pub field_bits : FieldBits
field_bits n m = (found, bounded)
  where
    found : 2 ^ n ≤ m → SetAbove n m
    found h =
        let some' = some-bit (m / 2 ^ n) (m / 2 ^ n) ((le-div_iff_mul-le (pow_pos n)).1 (rw (one-mul (2 ^ n)) h)) (omega arith) in
        record {
          place = n + some'.place;
          above = omega arith;
          high = ap (λ (x : ℕ). eqb (x % 2) 1) (sym (shr-shr m n some'.place)) ∙ some'.high;
        }

    bounded : SetAbove n m → 2 ^ n ≤ m
    bounded s =
        let one : m / 2 ^ s.place % 2 ≡ 1 = eqb-true (m / 2 ^ s.place % 2) 1 s.high in
        let up : 1 ≤ m / 2 ^ s.place = omega (arith, mod-le (m / 2 ^ s.place) 2) in
        le_trans (pow_mono s.above) (rw (one-mul (2 ^ s.place)) at ((le-div_iff_mul-le (pow_pos s.place)).0 up))

-- ---- user bits

pub record_grows : RecordGrows
record_grows s = record { long = size_is s; enough = omega arith; least = omega arith }

pub without_user_bits : WithoutUserBits
without_user_bits = without_user-bits

pub lane_user_bits : LaneUserBits
lane_user_bits = lane-reads

pub padding_exactly : PaddingExactly
padding_exactly s r o =
    let limit = s.width * s.user in (
      (λ e. padding_set s r o ((field_bits limit (user_number s r)).0 (leb-true (2 ^ limit) (user_number s r) e))),
      (λ p. le-leb (2 ^ limit) (user_number s r) ((field_bits limit (user_number s r)).1 (set_padding s r o p))),
    )

nulls_of : (s : Shape) (ts : List (Transfer Kept)) → Wide s.width ts → Tagged s.user ts → NullsZero s (records s (octets s.user ts))
nulls_of s ts h k = rw (records-joined s (map (octets_of s.user) ts) (octets_sized s ts h)) (transfers-nulls s ts h k)

pub null_lanes_zero : NullLanesZero
null_lanes_zero s v xs = (
  nulls_of (at_width s v) (packed_transfers s v xs) (wide-pack v (stream_items s xs)) (packed-tagged s v xs),
  nulls_of (at_width s v) (sliced_transfers s v xs) (wide-slices s.width v (transfers s xs)) (sliced-tagged s v xs),
)

types_at : (w x k t : ℕ) → x < w → get_or (types_of w k t) x null_lane ≡ lane_type (bit x k) (bit x t)
types_at zero x k t h = absurd (omega arith)
types_at (suc w) zero k t h = rw (bit-zero k, bit-zero t) refl
types_at (suc w) (suc x) k t h = types_at w x (k / 2) (t / 2) (omega arith) ∙ rw (bit-suc x k, bit-suc x t) refl

pub byte_types : ByteTypes
byte_types s r x h = types_at s.width x (tkeep r) (tstrb r) h

-- ---- data octets of a record

-- a record that is there lies whole in the take
pub record_there : (s : Shape) (xs : List ℕ) (k : ℕ) → k < record_count s xs → k * size s + size s ≤ length xs
record_there s xs k h =
    omega (arith, suc-mul k (size s), mul-le-mul_right (size s) h, div-mul-le_self (length xs) (size s))

data_of : (s : Shape) (xs : List ℕ) (k : ℕ) → k < record_count s xs → length (data_octets s (drop (k * size s) xs)) ≡ s.width
data_of s xs k h = data_long s (drop (k * size s) xs) (omega (arith, length-drop (k * size s) xs, record_there s xs k h))

pub data_there : (s : Shape) (xs : List ℕ) (k : ℕ) → data_refusal s xs k ≡ None → Passed s xs × (k < record_count s xs)
data_there s xs k e =
    let t = append-none (take_checks s xs) (index_check s xs k ∷ []) e in
    let i = first-none (index_check s xs k) [] t.1 in
    (checks-passed s xs t.0, leb-false (record_count s xs) k i.0)

pub data_handed_out : DataHandedOut
unfolding data_part
data_handed_out s xs k = record { present = λ e. let h = data_there s xs k e in rw e (data_of s xs k h.1, h.0.low); refused = λ r e. rw e refl }

-- ---- repacking

pub repacking_keeps : RepackingKeeps
repacking_keeps s v xs w = packed-items s v w.0 xs

pub packed_legal : PackedLegal
packed_legal s v xs w l = packed-legal s v xs w.0 w.1 l

pub packed_length : PackedLength
packed_length = length-packed

pub packed_full : PackedFull
packed_full = packed-full

pub packed_only : PackedOnly
packed_only = packed-only

pub holds : Holds
holds v h is js = hold v h is js

pub joins : Joins
joins v is js h = pack-parted v is js h

pub canonical : Canonical
canonical s t v xs ys m w l k = (
  (λ e.
      sym (packed-items s v w.0 xs)
      ∙ ap (stream_items (at_width s v)) e
      ∙ ap (λ (u : ℕ). stream_items (shaped v u) (packed t v ys)) m
      ∙ packed-items t v w.0 ys),
  (λ e. ap₂ (λ (u : ℕ) (is : List (Item Kept)). octets u (pack v is)) m e),
)

-- the other stream's transfers have the input's items, and the packed form of these has no more transfers than they are
pub no_shorter : NoShorter
no_shorter s v xs room n e ys l same =
    let a = accepted_of s v xs room n (ap accepted e) in
    let other = at_width s v in
    omega (
      arith,
      a.number,
      ap (λ (is : List (Item Kept)). length (pack v is)) same,
      pack-least v a.repacks.output.low (transfers other ys) (wide-transfers other ys),
      length-map (records other ys) (transfer_of other),
    )

pub least_reached : LeastReached
least_reached s v xs room n o e =
    let a = accepted_of s v xs room n (ap accepted e) in
    let low = a.repacks.output.low in
    let t = at_width s v in
    record {
      legal = packed-legal s v xs low a.repacks.output.high (takes_legal s xs o a.repacks.input);
      same = packed-items s v low xs;
      count =
          sym (length-map (records t (packed s v xs)) (transfer_of t))
          ∙ ap length (transfers_back t (packed_transfers s v xs) (wide-pack v (stream_items s xs)) (packed-tagged s v xs)) ∙ sym a.number;
    }

-- ---- lane-keeping downsizing

count-slices : (w v : ℕ) → 0 < w / v → (ts : List (Transfer Kept)) → length (slices w v ts) ≡ length ts * (w / v)
count-slices w v h [] = sym (zero-mul (w / v))
count-slices w v h (t ∷ ts) =
    omega (
      arith,
      length-append (slice_transfer w v t) (slices w v ts),
      length-spread (w / v - 1) v t.pair t.lanes t.last,
      count-slices w v h ts,
      suc-mul (length ts) (w / v),
    )

-- a width is at least one slice
one_slice : (w v : ℕ) → w % v ≡ 0 → 0 < w → 0 < w / v
one_slice w v d h = go (w / v) (div-add-mod' w v)
  where
    go : (q : ℕ) → q * v + w % v ≡ w → 0 < q
    go zero e = omega (arith, zero-mul v)
    go (suc q) e = omega arith

pub lane_keeping : LaneKeeping
lane_keeping s v xs w d l =
    let same = ap items (transfers_back (at_width s v) (sliced_transfers s v xs) (wide-slices s.width v (transfers s xs)) (sliced-tagged s v xs))
    ∙ items-slices s.width v w.0 d l.width_low (transfers s xs) (wide-transfers s xs) in
    let count = count-slices s.width v (one_slice s.width v d l.width_low) (transfers s xs)
    ∙ ap (λ (n : ℕ). n * (s.width / v)) (length-map (records s xs) (transfer_of s)) in
    record {
      same = same;
      legal = sliced-legal s v xs w.0 w.1 l;
      packs = λ u. ap (λ (is : List (Item Kept)). octets s.user (pack u is)) same;
      count = count;
      long =
          length-octets (at_width s v) (sliced_transfers s v xs) (wide-slices s.width v (transfers s xs))
          ∙ ap (λ (n : ℕ). n * size (at_width s v)) count;
    }

-- both calls are tested for the output's width and for room, and for nothing else; and the packed form is the same
alike_refused : (s t : Shape) (xs ys : List ℕ) → Legal s xs → Legal t ys → length xs ≤ capture_most → length ys ≤ capture_most
    → (u : ℕ) → packed t u ys ≡ packed s u xs → (room : ℕ) → repack_refusal t u ys room ≡ repack_refusal s u xs room
alike_refused s t xs ys l k a b u same room =
    legal_repacks t u ys room k b ∙ ap (λ (zs : List ℕ). first (width_check u ∷ room_check zs room ∷ [])) same ∙ sym (legal_repacks s u xs room l a)

pub archives_repack : ArchivesRepack
unfolding repack_answer repack_after
archives_repack s v xs w d l a b u lent =
    let k = lane_keeping s v xs w d l in
    let refusal = alike_refused s (at_width s v) xs (sliced s v xs) l k.legal a b u (k.packs u) (length lent) in
    record {
      answers = ap₂ (λ (r : Option Refusal) (is : List (Item Kept)). written r (length (pack u is))) refusal k.same;
      leaves = ap₂ (λ (r : Option Refusal) (zs : List ℕ). lent_after r zs lent) refusal (k.packs u);
    }

-- ---- findings and harvest

pub findings : Findings
findings = judges

-- no cycle of a clean take breaks R1: with ARESETn low there or at the cycle before, TVALID is low
quiet_at : (s : Shape) (xs : List ℕ) (n k : ℕ) → judge_answer s xs ≡ Ok (Clean n) → k < length (records s xs)
    → (not (aresetn (get_or (records s xs) k [])) || was_reset (cycle_before (records s xs) k)) ≡ true → tvalid (get_or (records s xs) k []) ≡ false
quiet_at s xs n k clean there low =
    let c = get_or (records s xs) k [] in
    not_left (tvalid c) (not (aresetn c) || was_reset (cycle_before (records s xs) k)) ((judges s xs).clean (clean-sound s xs n clean) k 1 there) low

pub reset_quiet : ResetQuiet
reset_quiet s xs n k clean there low =
    record {
      in_reset = quiet_at s xs n k clean there (rw low refl);
      after_reset = λ h. quiet_at s xs n (suc k) clean h (rw low (or-true (not (aresetn (get_or (records s xs) (suc k) [])))));
    }

pub harvest_legal : HarvestLegal
harvest_legal = harvest-legal

pub harvest_repacks : HarvestRepacks
harvest_repacks = harvest-repacks

-- ---- fill-in

pub filled_harvest : FilledHarvest
filled_harvest = filled-harvest

pub judged_alike : JudgedAlike
judged_alike = judged-alike

pub each_its_packet : EachItsPacket
each_its_packet = each-its-packet
