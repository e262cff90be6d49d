-- The octets of a record (paper 01, 'One record of a take'; paper 02, T-06; Arm IHI 0051A 2.1, 2.4, 2.8): which octet or bit is what, a name
-- for each number of 01's table. Everything else in specs/ goes through the names below, or through transfers and items.
use Rattle.std.specs.Prelude.{Bool, true, false, ◌||◌, List, [], ◌∷◌, ◌++◌, map, ℕ, zero, suc, ◌+◌, ◌*◌, ◌/◌, ◌%◌, ◌^◌, eqb, length, get_or, take, drop, Option, None, Some}
use Rattle.words.specs.Words.{word_at, octets_of_word}
use Rattle.stream_spec.specs.declared.Shape.{Shape}
use Rattle.stream_spec.specs.Items.{Pair, Transfer, Item, items}
use Rattle.stream_spec.specs.Packed.{pack, slices}

-- ---- bits

-- bit x of a number, bit 0 the lowest
abbrev pub bit : ℕ → ℕ → Bool
bit x n = eqb (n / 2 ^ x % 2) 1

abbrev pub odd : ℕ → Bool
odd n = eqb (n % 2) 1

abbrev pub bit_of : Bool → ℕ
bit_of true = 1
bit_of false = 0

-- the number whose bits these are, bit 0 first
abbrev pub mask_of : List Bool → ℕ
mask_of [] = 0
mask_of (b ∷ bs) = bit_of b + 2 * mask_of bs

-- ---- the table of a record, row by row

-- "Width w is 1 to 16 bytes."
abbrev pub width_most : ℕ
width_most = 16

-- octet 0: "bit 0 TLAST, bit 1 TVALID, bit 2 TREADY, bit 3 ARESETn"
abbrev pub flags_at : ℕ
flags_at = 0

abbrev pub tlast_bit : ℕ
tlast_bit = 0

abbrev pub tvalid_bit : ℕ
tvalid_bit = 1

abbrev pub tready_bit : ℕ
tready_bit = 2

abbrev pub aresetn_bit : ℕ
aresetn_bit = 3

-- octet 1: "TID, 0 to 255"
abbrev pub tid_at : ℕ
tid_at = 1

-- octet 2: "TDEST, 0 to 15"
abbrev pub tdest_at : ℕ
tdest_at = 2

abbrev pub tdest_most : ℕ
tdest_most = 15

-- octets 3 and 4: "TKEEP, low octet first"
abbrev pub tkeep_at : ℕ
tkeep_at = 3

-- octets 5 and 6: "TSTRB, the same way"
abbrev pub tstrb_at : ℕ
tstrb_at = 5

-- octets 7 on: "data of lane 0, lane 1, up to w - 1"
abbrev pub head_octets : ℕ
head_octets = 7

-- T-06: "m user bits to a byte, m from 0 to 4"
abbrev pub user_most : ℕ
user_most = 4

-- "every record grows at its end by w*m/8 octets rounded up"
abbrev pub user_octets : ℕ → ℕ → ℕ
user_octets w m = (w * m + 7) / 8

-- an octet has so many values; of two octets, low octet first, the high one counts so much
abbrev pub octet_values : ℕ
octet_values = 256

-- ---- a record's size and fields

-- "A record has 7 + w octets", and those of its user bits. Its laws are in proofs/Size; no other law takes it apart (worked
-- cases, tables and witnesses compute with it).
unfoldable pub size : Shape → ℕ
size s = head_octets + s.width + user_octets s.width s.user

-- the sizes of the shortest record, one lane without user bits, and of the longest, sixteen lanes with four bits each
abbrev pub size_least : ℕ
size_least = 8

abbrev pub size_most : ℕ
size_most = 31

-- Records of so many lanes with so many user bits to a byte; those without user bits, which are 01's; and records of the same
-- kind as others at another width, "m being one fixed number". No other place makes a shape of its parts.
abbrev pub shaped : ℕ → ℕ → Shape
shaped w m = record { width = w; user = m }

abbrev pub of_width : ℕ → Shape
of_width w = shaped w 0

abbrev pub at_width : Shape → ℕ → Shape
at_width s v = shaped v s.user

abbrev pub flags : List ℕ → ℕ
flags r = get_or r flags_at 0

abbrev pub tlast : List ℕ → Bool
tlast r = bit tlast_bit (flags r)

abbrev pub tvalid : List ℕ → Bool
tvalid r = bit tvalid_bit (flags r)

abbrev pub tready : List ℕ → Bool
tready r = bit tready_bit (flags r)

abbrev pub aresetn : List ℕ → Bool
aresetn r = bit aresetn_bit (flags r)

-- octet 0 where TLAST is the only flag, and octet 0 with another TLAST and its other flags as they are: TLAST is bit 0
abbrev pub last_alone : Bool → ℕ
last_alone last = bit_of last

abbrev pub last_set : Bool → ℕ → ℕ
last_set last flags = flags / 2 * 2 + bit_of last

abbrev pub pair_of : List ℕ → Pair
pair_of r = record { tid = get_or r tid_at 0; tdest = get_or r tdest_at 0 }

-- a field of two octets
abbrev pub two_at : ℕ → List ℕ → ℕ
two_at i r = get_or r i 0 + octet_values * get_or r (i + 1) 0

abbrev pub tkeep : List ℕ → ℕ
tkeep r = two_at tkeep_at r

abbrev pub tstrb : List ℕ → ℕ
tstrb r = two_at tstrb_at r

abbrev pub data_octets : Shape → List ℕ → List ℕ
data_octets s r = take s.width (drop head_octets r)

-- the user bits of all lanes as one number: "holding the bits of lane x from bit x*m, low octet first"
abbrev pub user_number : Shape → List ℕ → ℕ
user_number s r = word_at (user_octets s.width s.user) r (head_octets + s.width)

-- all but octet 0: TID, TDEST, TKEEP, TSTRB, data and user bits
abbrev pub body : List ℕ → List ℕ
body r = drop tid_at r

-- ---- byte lanes

-- IHI 0051A table 2-2: "TKEEP and TSTRB high: a data item with its octet. TKEEP high, TSTRB low: a position item, its
-- octet ignored. Both low: null, no item. TKEEP low, TSTRB high: reserved."
pub data LaneType : Type 0 where
  data_lane position_lane null_lane reserved_lane : LaneType

abbrev pub lane_type : Bool → Bool → LaneType
lane_type true true = data_lane
lane_type true false = position_lane
lane_type false false = null_lane
lane_type false true = reserved_lane

-- the types of w lanes: lane 0 has the lowest bit of TKEEP and TSTRB, the lanes above it have the other bits
abbrev pub types_of : ℕ → ℕ → ℕ → List LaneType
types_of zero keep strb = []
types_of (suc w) keep strb = lane_type (odd keep) (odd strb) ∷ types_of w (keep / 2) (strb / 2)

abbrev pub lane_types : Shape → List ℕ → List LaneType
lane_types s r = types_of s.width (tkeep r) (tstrb r)

abbrev pub is_reserved : LaneType → Bool
is_reserved data_lane = false
is_reserved position_lane = false
is_reserved null_lane = false
is_reserved reserved_lane = true

abbrev pub any_reserved : List LaneType → Bool
any_reserved [] = false
any_reserved (t ∷ ts) = is_reserved t || any_reserved ts

-- What a kept lane carries: "a data item with its octet", or "a position item, its octet ignored"; T-06: "Data and position
-- items carry their m bits", which are the last number.
pub data Kept : Type 0 where
  octet : ℕ → ℕ → Kept
  position : ℕ → Kept

-- what a lane of this type with this data octet and these user bits carries. A reserved lane is refused before anything
-- reads it.
abbrev pub lane_of : LaneType → ℕ → ℕ → Option Kept
lane_of data_lane d u = Some (octet d u)
lane_of position_lane d u = Some (position u)
lane_of null_lane d u = None
lane_of reserved_lane d u = None

-- lanes of these types: lane 0 has the m lowest bits of the user bits, and the lanes above it have the others, whatever
-- their types are
abbrev pub lanes_of : ℕ → List LaneType → ℕ → List ℕ → List (Option Kept)
lanes_of m [] u ds = []
lanes_of m (t ∷ ts) u [] = lane_of t 0 (u % 2 ^ m) ∷ lanes_of m ts (u / 2 ^ m) []
lanes_of m (t ∷ ts) u (d ∷ ds) = lane_of t d (u % 2 ^ m) ∷ lanes_of m ts (u / 2 ^ m) ds

-- ---- records and transfers

-- the transfer that a transfer record stands for
abbrev pub transfer_of : Shape → List ℕ → Transfer Kept
transfer_of s r =
    record { pair = pair_of r; lanes = lanes_of s.user (lane_types s r) (user_number s r) (data_octets s r); last = tlast r }

abbrev pub strb_bit : Option Kept → Bool
strb_bit None = false
strb_bit (Some (octet d u)) = true
strb_bit (Some (position u)) = false

abbrev pub keep_bit : Option Kept → Bool
keep_bit None = false
keep_bit (Some k) = true

-- "Null and position lanes carry data 00."
abbrev pub lane_octet : Option Kept → ℕ
lane_octet None = 0
lane_octet (Some (octet d u)) = d
lane_octet (Some (position u)) = 0

-- T-06: "null lanes get zero bits"
abbrev pub lane_user : Option Kept → ℕ
lane_user None = 0
lane_user (Some (octet d u)) = u
lane_user (Some (position u)) = u

-- the user bits of lanes as one number, those of lane 0 the lowest
abbrev pub users_of : ℕ → List (Option Kept) → ℕ
users_of m [] = 0
users_of m (l ∷ ls) = lane_user l + 2 ^ m * users_of m ls

-- the two octets of a mask, the low one first
abbrev pub mask_octets : List Bool → List ℕ
mask_octets bs = mask_of bs % octet_values ∷ mask_of bs / octet_values ∷ []

-- the octets of lanes with m user bits each: their data, then their user bits, low octet first; "padding bits are zero"
abbrev pub lane_octets : ℕ → List (Option Kept) → List ℕ
lane_octets m ls = map lane_octet ls ++ octets_of_word (user_octets (length ls) m) (users_of m ls)

-- the octets of the transfer record that stands for a transfer
abbrev pub octets_of : ℕ → Transfer Kept → List ℕ
octets_of m t =
    last_alone t.last ∷ t.pair.tid ∷ t.pair.tdest
    ∷ (mask_octets (map keep_bit t.lanes) ++ (mask_octets (map strb_bit t.lanes) ++ lane_octets m t.lanes))

-- ---- streams

-- n pieces of so many octets each
abbrev pub pieces : ℕ → ℕ → List ℕ → List (List ℕ)
pieces zero octets xs = []
pieces (suc n) octets xs = take octets xs ∷ pieces n octets (drop octets xs)

-- all whole pieces of so many octets
abbrev pub pieces_of : ℕ → List ℕ → List (List ℕ)
pieces_of octets xs = pieces (length xs / octets) octets xs

-- how many whole records stand in these octets, and the records, one after the other
abbrev pub record_count : Shape → List ℕ → ℕ
record_count s xs = length xs / size s

abbrev pub records : Shape → List ℕ → List (List ℕ)
records s xs = pieces_of (size s) xs

-- octets of records, one record after the other
abbrev pub joined : List (List ℕ) → List ℕ
joined [] = []
joined (r ∷ rs) = r ++ joined rs

abbrev pub transfers : Shape → List ℕ → List (Transfer Kept)
transfers s xs = map (transfer_of s) (records s xs)

abbrev pub octets : ℕ → List (Transfer Kept) → List ℕ
octets m ts = joined (map (octets_of m) ts)

-- the items that a stream carries
abbrev pub stream_items : Shape → List ℕ → List (Item Kept)
stream_items s xs = items (transfers s xs)

-- the packed form of a stream at width v: its transfers, and their octets
abbrev pub packed_transfers : Shape → ℕ → List ℕ → List (Transfer Kept)
packed_transfers s v xs = pack v (stream_items s xs)

abbrev pub packed : Shape → ℕ → List ℕ → List ℕ
packed s v xs = octets s.user (packed_transfers s v xs)

-- the lane-keeping slices of a stream at width v: its transfers, and their octets
abbrev pub sliced_transfers : Shape → ℕ → List ℕ → List (Transfer Kept)
sliced_transfers s v xs = slices s.width v (transfers s xs)

abbrev pub sliced : Shape → ℕ → List ℕ → List ℕ
sliced s v xs = octets s.user (sliced_transfers s v xs)
