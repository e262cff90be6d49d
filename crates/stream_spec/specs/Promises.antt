-- What is proved of the definitions, a statement each. Words in quotes are paper 01's or, where it is said, a demand's or a
-- request's. Demand 3 has a page of its own. The proofs are in proofs/Promises.
use Rattle.std.specs.Prelude.{◌≡◌, Bool, true, false, not, ◌&&◌, ◌||◌, cond, List, [], ◌∷◌, ◌++◌, map, ℕ, zero, suc, ◌+◌, ◌*◌, ◌/◌, ◌%◌, ◌^◌, ◌≤◌, ◌<◌, ◌⊎◌, ◌↔◌, ◌≢◌, eqb, leb, ltb, length, get_or, take, drop, Option, None, Some, Ok}
use Rattle.refusal.specs.declared.Refusal.{Refusal}
use Rattle.refusal.specs.declared.Refusal.TheVariants.{Room}
use Rattle.stream_spec.specs.declared.Shape.{Shape}
use Rattle.stream_spec.specs.declared.Verdict.TheVariants.{Clean}
use Rattle.stream_spec.specs.Items.{same_pair, Transfer, Item, kept, items}
use Rattle.stream_spec.specs.Packed.{fitted, pack, settled, held, parted}
use Rattle.stream_spec.specs.Layout.{bit, bit_of, mask_of, width_most, user_octets, user_number, data_octets, tlast, tvalid, aresetn, tkeep, tstrb, size, of_width, at_width, LaneType, data_lane, null_lane, lane_type, types_of, lane_types, any_reserved, lane_of, Kept, keep_bit, strb_bit, lane_octet, transfer_of, octets_of, records, joined, stream_items, packed_transfers, packed, sliced_transfers, sliced}
use Rattle.stream_spec.specs.Checks.{width_check, user_check, length_check, user_fault, field_fault, reserved_fault}
use Rattle.stream_spec.specs.Handshake.{r1, r2, r3, r4, Finding, first_finding, handshakes, harvested, filled_in, as_filled}
use Rattle.stream_spec.specs.Answers.{judge_answer, fill_after, repack_refusal, repack_answer, repack_after, harvest_refusal, data_refusal, data_part}
use Rattle.stream_spec.specs.Legal.{Octets, Legal}

-- a width that is not refused
abbrev pub Width : ℕ → Type 0
Width v = (1 ≤ v) × (v ≤ width_most)

-- ---- refusals

-- 1: "a width is 0 or above 16". Here and in 2 01's number is written out, which pins the named one.
abbrev pub WidthExactly : Type 0
WidthExactly = (w : ℕ) → ((width_check w).found ≡ true) ↔ ((w ≡ 0) ⊎ (16 < w))

-- 2: "input is over 65,536 octets or no whole number of records"
abbrev pub LengthExactly : Type 0
LengthExactly = (s : Shape) (xs : List ℕ) → ((length_check s xs).found ≡ true) ↔ ((65536 < length xs) ⊎ (length xs % size s ≢ 0))

-- 3: "a bit that must be zero is set". `field_fault` asks it of octet 0, of both masks and of the user bits as 2 ^ n ≤ x: that is
-- so exactly where some bit of x at or above n is set.
pub record SetAbove (n x : ℕ) : Type 0 where
  pub place : ℕ
  pub above : n ≤ place
  pub high : bit place x ≡ true

abbrev pub FieldBits : Type 0
FieldBits = (n x : ℕ) → (2 ^ n ≤ x) ↔ SetAbove n x

-- 16 (T-06): "m above 4"
abbrev pub UserExactly : Type 0
UserExactly = (s : Shape) → ((user_check s).found ≡ true) ↔ (4 < s.user)

-- ---- user bits (T-06)

-- "every record grows at its end by w*m/8 octets rounded up": n octets hold w*m bits, and n is the least that do
pub record Grows (s : Shape) (n : ℕ) : Type 0 where
  pub long : size s ≡ 7 + s.width + n
  pub enough : s.width * s.user ≤ 8 * n
  pub least : 8 * n < s.width * s.user + 8

abbrev pub RecordGrows : Type 0
RecordGrows = (s : Shape) → Grows s (user_octets s.width s.user)

-- the types of w lanes, by 01's octets of TKEEP and TSTRB
abbrev pub bare_types : ℕ → List ℕ → List LaneType
bare_types w r = types_of w (get_or r 3 0 + 256 * get_or r 4 0) (get_or r 5 0 + 256 * get_or r 6 0)

-- what lanes of these types with these data octets carry where there are no user bits
abbrev pub bare_lanes : List LaneType → List ℕ → List (Option Kept)
bare_lanes [] ds = []
bare_lanes (t ∷ ts) [] = lane_of t 0 0 ∷ bare_lanes ts []
bare_lanes (t ∷ ts) (d ∷ ds) = lane_of t d 0 ∷ bare_lanes ts ds

-- "With m = 0 all else in 01 stays octet for octet": a record's size, its FIELD and RESERVED, what is read of it and what is
-- written are 01's formulas, with its octets' numbers written out.
pub record AsBefore (w : ℕ) : Type 0 where
  pub size : size (of_width w) ≡ 7 + w
  pub field :
      (used : ℕ) (r : List ℕ)
      → field_fault used (of_width w) r
      ≡ (leb (2 ^ used) (get_or r 0 0) || ltb 15 (get_or r 2 0)
      || leb (2 ^ w) (get_or r 3 0 + 256 * get_or r 4 0) || leb (2 ^ w) (get_or r 5 0 + 256 * get_or r 6 0))
  pub reserved : (r : List ℕ) → reserved_fault (of_width w) r ≡ any_reserved (bare_types w r)
  pub reads :
      (r : List ℕ)
      → transfer_of (of_width w) r
      ≡ record {
        pair = record { tid = get_or r 1 0; tdest = get_or r 2 0 };
        lanes = bare_lanes (bare_types w r) (take w (drop 7 r));
        last = bit 0 (get_or r 0 0);
      }
  pub writes :
      (t : Transfer Kept)
      → octets_of 0 t
      ≡ bit_of t.last ∷ t.pair.tid ∷ t.pair.tdest
      ∷ mask_of (map keep_bit t.lanes) % 256 ∷ mask_of (map keep_bit t.lanes) / 256
      ∷ mask_of (map strb_bit t.lanes) % 256 ∷ mask_of (map strb_bit t.lanes) / 256 ∷ map lane_octet t.lanes

abbrev pub WithoutUserBits : Type 0
WithoutUserBits = (w : ℕ) → AsBefore w

-- the user bits of lane x
abbrev pub lane_bits : Shape → List ℕ → ℕ → ℕ
lane_bits s r x = user_number s r / 2 ^ (x * s.user) % 2 ^ s.user

-- "holding the bits of lane x from bit x*m, low octet first": bit j of lane x is bit (x*m + j) mod 8 of octet 7 + w + (x*m + j)/8,
-- and with its type and its data octet these bits are what the lane carries, whatever the other lanes are.
pub record LaneReads (s : Shape) (r : List ℕ) (x : ℕ) : Type 0 where
  pub few : lane_bits s r x < 2 ^ s.user
  pub bits :
      (j : ℕ) → j < s.user
      → bit j (lane_bits s r x) ≡ bit ((x * s.user + j) % 8) (get_or r (7 + s.width + (x * s.user + j) / 8) 0)
  pub carries :
      get_or (transfer_of s r).lanes x None ≡ lane_of (get_or (lane_types s r) x null_lane) (get_or (data_octets s r) x 0) (lane_bits s r x)

abbrev pub LaneUserBits : Type 0
LaneUserBits = (s : Shape) (r : List ℕ) (x : ℕ) → Octets r → x < s.width → LaneReads s r x

-- "FIELD covers the padding": a bit above those of the lanes is set in the octets of the user bits, and no other bit counts.
pub record PaddingSet (s : Shape) (r : List ℕ) : Type 0 where
  pub place : ℕ
  pub above : s.width * s.user ≤ place
  pub within : place < 8 * user_octets s.width s.user
  pub high : bit (place % 8) (get_or r (7 + s.width + place / 8) 0) ≡ true

abbrev pub PaddingExactly : Type 0
PaddingExactly = (s : Shape) (r : List ℕ) → Octets r → (user_fault s r ≡ true) ↔ PaddingSet s r

-- "null lanes get zero bits", in each record that packing and slicing write
abbrev pub NullsZero : Shape → List (List ℕ) → Type 0
NullsZero s rs =
    (k x : ℕ) → k < length rs → x < s.width → get_or (lane_types s (get_or rs k [])) x data_lane ≡ null_lane
    → lane_bits s (get_or rs k []) x ≡ 0

abbrev pub NullLanesZero : Type 0
NullLanesZero =
    (s : Shape) (v : ℕ) (xs : List ℕ)
    → NullsZero (at_width s v) (records (at_width s v) (packed s v xs)) × NullsZero (at_width s v) (records (at_width s v) (sliced s v xs))

-- ---- byte types

-- Table 2-2 bit by bit: the type of lane x is that of bit x of TKEEP and bit x of TSTRB.
abbrev pub ByteTypes : Type 0
ByteTypes = (s : Shape) (r : List ℕ) (x : ℕ) → x < s.width → get_or (lane_types s r) x null_lane ≡ lane_type (bit x (tkeep r)) (bit x (tstrb r))

-- ---- data octets of a record

-- The part handed out has an octet for each lane, or is empty: it is empty exactly where the call is refused.
pub record HandsOut (s : Shape) (xs : List ℕ) (k : ℕ) : Type 0 where
  pub present : data_refusal s xs k ≡ None → (length (data_part s xs k) ≡ s.width) × (0 < s.width)
  pub refused : (r : Refusal) → data_refusal s xs k ≡ Some r → data_part s xs k ≡ []

abbrev pub DataHandedOut : Type 0
DataHandedOut = (s : Shape) (xs : List ℕ) (k : ℕ) → HandsOut s xs k

-- ---- repacking

-- Demand 2: "Repacking keeps every data byte with its value, every position byte, every packet end, each with its TID and TDEST, in
-- order, and adds none."
abbrev pub RepackingKeeps : Type 0
RepackingKeeps = (s : Shape) (v : ℕ) (xs : List ℕ) → Width v → stream_items (at_width s v) (packed s v xs) ≡ stream_items s xs

abbrev pub PackedLegal : Type 0
PackedLegal = (s : Shape) (v : ℕ) (xs : List ℕ) → Width v → Legal s xs → Legal (at_width s v) (packed s v xs)

-- the packed form's octets are those of its records, size octets each
abbrev pub PackedLength : Type 0
PackedLength = (s : Shape) (v : ℕ) (xs : List ℕ) → length (packed s v xs) ≡ length (packed_transfers s v xs) * size (at_width s v)

-- "filled from lane 0": the kept lanes of a transfer stand below its null lanes
abbrev pub FromLaneZero : ℕ → Transfer Kept → Type 0
FromLaneZero v t = t.lanes ≡ fitted v (map Some (kept t.lanes))

-- whether a transfer keeps a byte in each of v lanes, or in none
abbrev pub full : ℕ → Transfer Kept → Bool
full v t = eqb (length (kept t.lanes)) v

abbrev pub all_null : Transfer Kept → Bool
all_null t = eqb (length (kept t.lanes)) 0

-- "all full but perhaps the last" of a stretch, and no needless TLAST-only transfer: a transfer that another one follows
-- is full and the next one is not all-null, or it has TLAST, or the next one has another pair
abbrev pub closes : ℕ → Transfer Kept → List (Transfer Kept) → Bool
closes v t [] = true
closes v t (u ∷ us) = (full v t && not (all_null u)) || t.last || not (same_pair t.pair u.pair)

-- ".. gives one all-null TLAST record": an all-null transfer stands only for an end
abbrev pub Packs : ℕ → List (Transfer Kept) → Type 0
Packs v [] = Unit {0}
Packs v (t ∷ ts) = FromLaneZero v t × ((t.last || not (all_null t)) ≡ true) × (closes v t ts ≡ true) × Packs v ts

abbrev pub PackedFull : Type 0
PackedFull = (v : ℕ) → 0 < v → (is : List (Item Kept)) → Packs v (pack v is)

-- And these properties leave no choice: transfers that have them are the packed form of their items.
abbrev pub PackedOnly : Type 0
PackedOnly = (v : ℕ) → 0 < v → (ts : List (Transfer Kept)) → Packs v ts → ts ≡ pack v (items ts)

-- The hold law: once more items follow, the settled transfers of the packed form are certain, and what is held is packed
-- again with what follows.
abbrev pub Holds : Type 0
Holds =
    (v : ℕ) → 0 < v → (is js : List (Item Kept))
    → pack v (is ++ js) ≡ settled (pack v is) ++ pack v (items (held (pack v is)) ++ js)

-- Two streams, packed apart and joined, under demand 3's condition.
abbrev pub Joins : Type 0
Joins = (v : ℕ) (is js : List (Item Kept)) → parted is js ≡ true → pack v (is ++ js) ≡ pack v is ++ pack v js

-- The packed form is canonical: two legal streams of any two widths and of one m have equal packed forms at a width exactly when
-- they carry the same items. So comparing two files of packed records octet by octet compares what the streams carry. Of two
-- different m it is false both ways (`other_m` and `other-octets` of proofs/Witnesses).
abbrev pub Canonical : Type 0
Canonical =
    (s t : Shape) (v : ℕ) (xs ys : List ℕ) → s.user ≡ t.user → Width v → Legal s xs → Legal t ys
    → (packed s v xs ≡ packed t v ys) ↔ (stream_items s xs ≡ stream_items t ys)

-- T-07: "no list of legal transfer records of width v with the same items in the same order has fewer records than our packed
-- form, for every accepted input". n is what an accepted call answers; ys is any such list, of any length and of the call's m, with
-- null lanes and all-null records anywhere. It says nothing of octets, nor that no other stream has n records.
abbrev pub NoShorter : Type 0
NoShorter =
    (s : Shape) (v : ℕ) (xs : List ℕ) (room n : ℕ) → repack_answer s v xs room ≡ Ok n
    → (ys : List ℕ) → Legal (at_width s v) ys → stream_items (at_width s v) ys ≡ stream_items s xs
    → n ≤ length (records (at_width s v) ys)

-- And n is reached, at every accepted call: the packed form is such a list itself. So n is the least number.
pub record Reached (s : Shape) (v : ℕ) (xs : List ℕ) (n : ℕ) : Type 0 where
  pub legal : Legal (at_width s v) (packed s v xs)
  pub same : stream_items (at_width s v) (packed s v xs) ≡ stream_items s xs
  pub count : length (records (at_width s v) (packed s v xs)) ≡ n

abbrev pub LeastReached : Type 0
LeastReached = (s : Shape) (v : ℕ) (xs : List ℕ) (room n : ℕ) → Octets xs → repack_answer s v xs room ≡ Ok n → Reached s v xs n

-- ---- lane-keeping downsizing

-- "Its items equal the input's, so its packed form at any width is the input's." And it is a legal stream, of so many octets.
pub record Keeps (s : Shape) (v : ℕ) (xs : List ℕ) : Type 0 where
  pub same : stream_items (at_width s v) (sliced s v xs) ≡ stream_items s xs
  pub legal : Legal (at_width s v) (sliced s v xs)
  pub packs : (u : ℕ) → packed (at_width s v) u (sliced s v xs) ≡ packed s u xs
  pub count : length (sliced_transfers s v xs) ≡ length (records s xs) * (s.width / v)
  pub long : length (sliced s v xs) ≡ length (records s xs) * (s.width / v) * size (at_width s v)

abbrev pub LaneKeeping : Type 0
LaneKeeping = (s : Shape) (v : ℕ) (xs : List ℕ) → Width v → s.width % v ≡ 0 → Legal s xs → Keeps s v xs

-- Archived files, which hold such slices, "remain legal transfer lists: repacking them gives what repacking their original takes
-- gave". ys are repacked to width u like xs: the call answers the same, and leaves the same in whatever memory it is lent.
pub record RepacksAlike (s t : Shape) (xs ys : List ℕ) (u : ℕ) (lent : List ℕ) : Type 0 where
  pub answers : repack_answer t u ys (length lent) ≡ repack_answer s u xs (length lent)
  pub leaves : repack_after t u ys lent ≡ repack_after s u xs lent

-- At every width, refused ones too, and into every room. Both have to be as short as a take, since what is longer is refused with 2.
abbrev pub ArchivesRepack : Type 0
ArchivesRepack =
    (s : Shape) (v : ℕ) (xs : List ℕ) → Width v → s.width % v ≡ 0 → Legal s xs → length xs ≤ 65536 → length (sliced s v xs) ≤ 65536
    → (u : ℕ) (lent : List ℕ) → RepacksAlike s (at_width s v) xs (sliced s v xs) u lent

-- ---- handshake findings

-- rule n, 1 to 4, at a cycle and the cycle before it
abbrev pub rule : Shape → Option (List ℕ) → List ℕ → ℕ → Bool
rule s before c zero = false
rule s before c (suc zero) = r1 before c
rule s before c (suc (suc zero)) = r2 before c
rule s before c (suc (suc (suc zero))) = r3 before c
rule s before c (suc (suc (suc (suc zero)))) = r4 s c
rule s before c (suc (suc (suc (suc (suc n))))) = false

-- the cycle before cycle k
abbrev pub cycle_before : List (List ℕ) → ℕ → Option (List ℕ)
cycle_before cs zero = None
cycle_before cs (suc k) = Some (get_or cs k [])

-- cycle k breaks rule n
abbrev pub breaks : Shape → List (List ℕ) → ℕ → ℕ → Bool
breaks s cs k n = rule s (cycle_before cs k) (get_or cs k []) n

-- "broken, with the earliest breaking cycle and its lowest rule"
pub record IsEarliest (s : Shape) (cs : List (List ℕ)) (f : Finding) : Type 0 where
  pub within : f.cycle < length cs
  pub broken : breaks s cs f.cycle f.rule ≡ true
  pub others : (k n : ℕ) → k < length cs → breaks s cs k n ≡ true → (f.cycle < k) ⊎ ((f.cycle ≡ k) × (f.rule ≤ n))

pub record FindsEarliest (s : Shape) (xs : List ℕ) : Type 0 where
  pub found : (f : Finding) → first_finding s xs ≡ Some f → IsEarliest s (records s xs) f
  pub clean : first_finding s xs ≡ None → (k n : ℕ) → k < length (records s xs) → breaks s (records s xs) k n ≡ false

abbrev pub Findings : Type 0
Findings = (s : Shape) (xs : List ℕ) → FindsEarliest s xs

-- What T-01's R1 comes to: in a take that is judged clean, where ARESETn is low at cycle k, TVALID is low at k, and
-- at k + 1 where there is such a cycle.
pub record Quiet (cs : List (List ℕ)) (k : ℕ) : Type 0 where
  pub in_reset : tvalid (get_or cs k []) ≡ false
  pub after_reset : suc k < length cs → tvalid (get_or cs (suc k) []) ≡ false

abbrev pub ResetQuiet : Type 0
ResetQuiet =
    (s : Shape) (xs : List ℕ) (n k : ℕ) → judge_answer s xs ≡ Ok (Clean n) → k < length (records s xs)
    → aresetn (get_or (records s xs) k []) ≡ false → Quiet (records s xs) k

-- ---- harvest

-- What an accepted harvest writes is a legal stream of the same width, no longer than the take.
abbrev pub HarvestLegal : Type 0
HarvestLegal =
    (s : Shape) (xs : List ℕ) (room : ℕ) → Octets xs → harvest_refusal s xs room ≡ None
    → Legal s (harvested s xs) × (length (harvested s xs) ≤ length xs)

-- So repacking what was harvested is refused for a bad output width or for want of room, and for nothing else: never 2, 3
-- or 4.
abbrev pub HarvestRepacks : Type 0
HarvestRepacks =
    (s : Shape) (xs : List ℕ) (room v lent : ℕ) → Octets xs → harvest_refusal s xs room ≡ None → Width v
    → repack_refusal s v (harvested s xs) lent ≡ cond (ltb lent (length (packed s v (harvested s xs)))) (Some Room) None

-- ---- fill-in (T-03)

-- What is harvested of a take that was filled in: the transfers that were sampled, in order, each with that level as its
-- TLAST and every other octet as sampled.
abbrev pub FilledHarvest : Type 0
FilledHarvest =
    (level : Bool) (s : Shape) (xs : List ℕ)
    → harvested s (filled_in level s xs) ≡ joined (map (as_filled level) (handshakes (records s xs)))

-- The level decides nothing that judging answers: a filled take is clean, broken or refused alike at both.
abbrev pub JudgedAlike : Type 0
JudgedAlike = (a b : Bool) (s : Shape) (xs : List ℕ) → judge_answer s (fill_after a s xs) ≡ judge_answer s (fill_after b s xs)

-- every one of these records has TLAST
abbrev pub AllLast : List (List ℕ) → Type 0
AllLast [] = Unit {0}
AllLast (r ∷ rs) = (tlast r ≡ true) × AllLast rs

-- "each transfer its own packet": where each record has TLAST, the packed form is that of each record by itself, joined in
-- order. So an all-null record does not vanish there.
abbrev pub EachItsPacket : Type 0
EachItsPacket = (s : Shape) (v : ℕ) (xs : List ℕ) → AllLast (records s xs) → packed s v xs ≡ joined (map (packed s v) (records s xs))
