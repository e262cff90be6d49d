-- Worked data for each promise that has a premise: examples that meet all its premises, and what it then says of them,
-- typed by hand and never computed. proofs/Witnesses applies the proved promise to each, so a premise that lets in less
-- is refused there. Which streams, divisions and numbers a premise lets in is in Tables.
use Rattle.std.specs.Prelude.{◌≡◌, Bool, true, false, List, [], ◌∷◌, ◌++◌, map, ℕ, ◌+◌, ◌*◌, ◌%◌, ◌≤◌, length, replicate, Option, None, Some, Ok}
use Rattle.stream_spec.specs.declared.Shape.{Shape}
use Rattle.stream_spec.specs.Items.{Transfer, Item, byte, end}
use Rattle.stream_spec.specs.Layout.{Kept, octet, position, at_width, records, stream_items, sliced}
use Rattle.stream_spec.specs.Answers.{repack_answer}
use Rattle.stream_spec.specs.Legal.{Legal}
use Rattle.stream_spec.specs.Promises.{Width, RepacksAlike}
use Rattle.stream_spec.specs.Demand3.{Call, Standing, Part, whole, PartsJoin}
use Rattle.stream_spec.specs.Cases.{straddled}
use Rattle.stream_spec.specs.Tables.{lanes, one, stream, tagged, pair, part, seven, other_tid, other_tdest, ended, nulls}

-- ---- a stream: two data bytes, a position byte and an end of the pair (1, 2)

abbrev pub first : Standing
first = stream 2 (0 ∷ 1 ∷ 2 ∷ 3 ∷ 0 ∷ 3 ∷ 0 ∷ 17 ∷ 34 ∷ 1 ∷ 1 ∷ 2 ∷ 2 ∷ 0 ∷ 0 ∷ 0 ∷ 0 ∷ 51 ∷ [])

abbrev pub endless_items : List (Item Kept)
endless_items = byte (pair 1 2) (octet 17 0) ∷ byte (pair 1 2) (octet 34 0) ∷ byte (pair 1 2) (position 0) ∷ []

abbrev pub first_items : List (Item Kept)
first_items = endless_items ++ end (pair 1 2) ∷ []

-- its packed form at widths 1, 2, 4 and 16
abbrev pub at_one : List ℕ
at_one = one 0 1 2 1 1 17 ++ (one 0 1 2 1 1 34 ++ one 1 1 2 1 0 0)

abbrev pub at_two : List ℕ
at_two = 0 ∷ 1 ∷ 2 ∷ 3 ∷ 0 ∷ 3 ∷ 0 ∷ 17 ∷ 34 ∷ 1 ∷ 1 ∷ 2 ∷ 1 ∷ 0 ∷ 0 ∷ 0 ∷ 0 ∷ 0 ∷ []

abbrev pub at_four : List ℕ
at_four = 1 ∷ 1 ∷ 2 ∷ 7 ∷ 0 ∷ 3 ∷ 0 ∷ 17 ∷ 34 ∷ 0 ∷ 0 ∷ []

abbrev pub at_sixteen : List ℕ
at_sixteen = 1 ∷ 1 ∷ 2 ∷ 7 ∷ 0 ∷ 3 ∷ 0 ∷ 17 ∷ 34 ∷ 0 ∷ 0 ∷ 0 ∷ 0 ∷ 0 ∷ 0 ∷ 0 ∷ 0 ∷ 0 ∷ 0 ∷ 0 ∷ 0 ∷ 0 ∷ 0 ∷ []

-- another stream: the same without its end
abbrev pub endless : List ℕ
endless = one 0 1 2 1 1 17 ++ (one 0 1 2 1 1 34 ++ one 0 1 2 1 0 0)

-- ---- lists of calls

-- a call to this width with so many octets lent
abbrev pub lends : ℕ → ℕ → Call
lends v room = record { width = v; lent = replicate {A = ℕ} room 0xEE }

-- refused for its width, and for want of one octet of room
abbrev pub refused_calls : List Call
refused_calls = lends 17 40 ∷ lends 1 23 ∷ []

-- the same two, then 4 accepted, 1 refused for want of room, 1 accepted in exactly the room it needs, 0 and 3 refused
abbrev pub mixed_calls : List Call
mixed_calls = lends 17 40 ∷ lends 1 23 ∷ lends 4 11 ∷ lends 1 23 ∷ lends 1 24 ∷ lends 0 40 ∷ lends 3 9 ∷ []

-- ---- a list of parts, repacked from width 1 to 2

-- Nothing before a division; an end before it; another TID after it, twice; another TDEST after it; nothing after it.
abbrev pub some_parts : List Part
some_parts =
    map part
    ([] ∷ nulls ∷ (seven ++ (seven ++ (seven ++ ended))) ∷ seven ∷ (other_tid ++ other_tid) ∷ seven ∷ other_tdest ∷ nulls ∷ [] ∷ [])

abbrev pub some_numbers : List ℕ
some_numbers = 0 ∷ 0 ∷ 2 ∷ 1 ∷ 1 ∷ 1 ∷ 1 ∷ 0 ∷ 0 ∷ []

abbrev pub some_joined : List ℕ
some_joined =
    0 ∷ 1 ∷ 2 ∷ 3 ∷ 0 ∷ 3 ∷ 0 ∷ 7 ∷ 7 ∷ 1 ∷ 1 ∷ 2 ∷ 1 ∷ 0 ∷ 1 ∷ 0 ∷ 7 ∷ 0 ∷ 0 ∷ 1 ∷ 2 ∷ 1 ∷ 0 ∷ 1 ∷ 0 ∷ 7 ∷ 0
    ∷ 0 ∷ 3 ∷ 2 ∷ 3 ∷ 0 ∷ 3 ∷ 0 ∷ 8 ∷ 8 ∷ 0 ∷ 1 ∷ 2 ∷ 1 ∷ 0 ∷ 1 ∷ 0 ∷ 7 ∷ 0 ∷ 0 ∷ 1 ∷ 3 ∷ 1 ∷ 0 ∷ 1 ∷ 0 ∷ 9 ∷ 0 ∷ []

-- And any number of parts, so of a whole longer than a take: packets with nothing in them, a record and a part each.
abbrev pub many_parts : ℕ → List Part
many_parts n = replicate n (part ended)

pub record ManyJoin (n : ℕ) : Type 0 where
  pub joins : PartsJoin (lanes 1) 2 (many_parts n) (replicate {A = ℕ} n 1)
  pub octets : length (whole (many_parts n)) ≡ n * 8

-- ---- items and transfers of the pair (1, 2), for the laws of packing

abbrev pub transfer : List (Option Kept) → Bool → Transfer Kept
transfer lanes last = record { pair = pair 1 2; lanes = lanes; last = last }

-- two full transfers of width 1, the second with TLAST, and one that is all-null
abbrev pub packed_ones : List (Transfer Kept)
packed_ones = transfer (Some (octet 17 0) ∷ []) false ∷ transfer (Some (position 0) ∷ []) true ∷ transfer (None ∷ []) true ∷ []

abbrev pub ones_bytes : List (Item Kept)
ones_bytes = byte (pair 1 2) (octet 17 0) ∷ byte (pair 1 2) (position 0) ∷ []

abbrev pub ones_ends : List (Item Kept)
ones_ends = end (pair 1 2) ∷ end (pair 1 2) ∷ []

abbrev pub ones_items : List (Item Kept)
ones_items = ones_bytes ++ ones_ends

-- ---- no shorter stream (T-07)

-- The items of `first` at width 2, in seven records where the packed form has two: all-null ones of another pair in front, between and
-- behind, a null lane in each other one, and TLAST in a record of its own. (`first` itself has two, and is not the packed form.)
abbrev pub no_item : List ℕ
no_item = 0 ∷ 5 ∷ 6 ∷ 0 ∷ 0 ∷ 0 ∷ 0 ∷ 99 ∷ 99 ∷ []

abbrev pub spread_out : List ℕ
spread_out =
    no_item
    ++ (0 ∷ 1 ∷ 2 ∷ 2 ∷ 0 ∷ 2 ∷ 0 ∷ 99 ∷ 17 ∷ 0 ∷ 1 ∷ 2 ∷ 1 ∷ 0 ∷ 1 ∷ 0 ∷ 34 ∷ 99 ∷ []
    ++ (no_item ++ (0 ∷ 1 ∷ 2 ∷ 2 ∷ 0 ∷ 0 ∷ 0 ∷ 99 ∷ 99 ∷ 1 ∷ 1 ∷ 2 ∷ 0 ∷ 0 ∷ 0 ∷ 0 ∷ 99 ∷ 99 ∷ [] ++ no_item)))

-- `packed_ones` as records of width 1
abbrev pub ones_octets : List ℕ
ones_octets = one 0 1 2 1 1 17 ++ (one 1 1 2 1 0 0 ++ one 1 1 2 0 0 0)

-- The items of `packed_ones` behind any number of records with nothing in them, so in a stream longer than a take: at least the
-- three records that a call to width 1 answers.
pub record Behind (k : ℕ) : Type 0 where
  pub other : List ℕ
  pub legal : Legal (lanes 1) other
  pub same : stream_items (lanes 1) other ≡ ones_items
  pub octets : length other ≡ (k + 3) * 8
  pub least : 3 ≤ length (records (lanes 1) other)

-- T-07's statement with another comparison, and with the other stream of another shape
abbrev pub Compared : (ℕ → ℕ → Type 0) → (Shape → ℕ → Shape) → Type 0
Compared than at =
    (s : Shape) (v : ℕ) (xs : List ℕ) (room n : ℕ) → repack_answer s v xs room ≡ Ok n
    → (ys : List ℕ) → Legal (at s v) ys → stream_items (at s v) ys ≡ stream_items s xs
    → than n (length (records (at s v) ys))

-- ---- lane-keeping: P1's transfer (p1 of Cases) at width 4, its slices of width 2, and the packed form of both

abbrev pub p1_slices : List ℕ
p1_slices =
    0x00 ∷ 0x01 ∷ 0x02 ∷ 0x01 ∷ 0x00 ∷ 0x01 ∷ 0x00 ∷ 0x11 ∷ 0x00
    ∷ 0x01 ∷ 0x01 ∷ 0x02 ∷ 0x03 ∷ 0x00 ∷ 0x02 ∷ 0x00 ∷ 0x00 ∷ 0x44 ∷ []

abbrev pub p1_items : List (Item Kept)
p1_items = byte (pair 1 2) (octet 0x11 0) ∷ byte (pair 1 2) (position 0) ∷ byte (pair 1 2) (octet 0x44 0) ∷ end (pair 1 2) ∷ []

abbrev pub p1_packed : List ℕ
p1_packed = 0x01 ∷ 0x01 ∷ 0x02 ∷ 0x07 ∷ 0x00 ∷ 0x05 ∷ 0x00 ∷ 0x11 ∷ 0x00 ∷ 0x44 ∷ 0x00 ∷ []

-- lent memory of twelve octets
abbrev pub twelve : List ℕ
twelve = replicate {A = ℕ} 12 0xEE

-- the statement of archived files with another condition on how long the slices of xs are
abbrev pub ArchivesOf : (List ℕ → List ℕ → Type 0) → Type 0
ArchivesOf short =
    (s : Shape) (v : ℕ) (xs : List ℕ) → Width v → s.width % v ≡ 0 → Legal s xs → length xs ≤ 65536 → short xs (sliced s v xs)
    → (u : ℕ) (lent : List ℕ) → RepacksAlike s (at_width s v) xs (sliced s v xs) u lent

-- lane 15 of width 16 is a data lane, lane 14 a position lane
abbrev pub wide : List ℕ
wide = 0 ∷ 1 ∷ 2 ∷ 0 ∷ 0xC0 ∷ 0 ∷ 0x80 ∷ replicate {A = ℕ} 16 7

-- ---- takes of width 1

-- cycle 0 waits, cycle 1 breaks R3 and R4, cycle 2 breaks R1
abbrev pub broken_take : List ℕ
broken_take = one 0x0A 5 0 1 1 7 ++ (one 0x0E 6 0 0 1 7 ++ one 0x02 0 0 0 0 0)

-- a position byte with TLAST, a cycle that waits, and the data byte it waited for
abbrev pub clean_take : List ℕ
clean_take = one 0x0F 1 2 1 0 7 ++ (one 0x0A 1 2 1 1 8 ++ one 0x0E 1 2 1 1 8)

-- reset, one sample with ARESETn high and TVALID low, and a transfer; ARESETn falls again at the last cycle
abbrev pub reset_take : List ℕ
reset_take = one 0x00 0 0 0 0 0 ++ (one 0x08 0 0 0 0 0 ++ (one 0x0E 1 2 1 1 8 ++ one 0x04 0 0 0 0 0))

-- TVALID in the first sample out of reset, at width 2; and TVALID in reset
abbrev pub early_take : List ℕ
early_take = 0x00 ∷ 0 ∷ 0 ∷ 0 ∷ 0 ∷ 0 ∷ 0 ∷ 0 ∷ 0 ∷ 0x0E ∷ 1 ∷ 2 ∷ 3 ∷ 0 ∷ 3 ∷ 0 ∷ 8 ∷ 9 ∷ []

abbrev pub loud_take : List ℕ
loud_take = one 0x02 0 0 0 0 0

abbrev pub harvest : List ℕ
harvest = one 1 1 2 1 0 7 ++ one 0 1 2 1 1 8

-- what is harvested of the clean take once it is filled in, at each level
abbrev pub harvest_low : List ℕ
harvest_low = one 0 1 2 1 0 7 ++ one 0 1 2 1 1 8

abbrev pub harvest_high : List ℕ
harvest_high = one 1 1 2 1 0 7 ++ one 1 1 2 1 1 8

-- two records with TLAST, the second all-null, and their packed form at width 2: a record each
abbrev pub last_ones : List ℕ
last_ones = one 1 1 2 1 1 7 ++ one 1 1 2 0 0 0

abbrev pub last_twos : List ℕ
last_twos = 1 ∷ 1 ∷ 2 ∷ 1 ∷ 0 ∷ 1 ∷ 0 ∷ 7 ∷ 0 ∷ 1 ∷ 1 ∷ 2 ∷ 0 ∷ 0 ∷ 0 ∷ 0 ∷ 0 ∷ 0 ∷ []

-- ---- user bits (T-06): the stream `straddled` of Cases, three lanes with three bits each; its items, its packed forms at widths 1, 2
-- and 3, and its slices of width 1

abbrev pub tags : Standing
tags = tagged 3 3 straddled

abbrev pub tags_items : List (Item Kept)
tags_items = byte (pair 1 2) (octet 17 5) ∷ byte (pair 1 2) (position 6) ∷ end (pair 1 2) ∷ []

abbrev pub tags_at_one : List ℕ
tags_at_one = 0 ∷ 1 ∷ 2 ∷ 1 ∷ 0 ∷ 1 ∷ 0 ∷ 17 ∷ 5 ∷ 1 ∷ 1 ∷ 2 ∷ 1 ∷ 0 ∷ 0 ∷ 0 ∷ 0 ∷ 6 ∷ []

abbrev pub tags_at_two : List ℕ
tags_at_two = 1 ∷ 1 ∷ 2 ∷ 3 ∷ 0 ∷ 1 ∷ 0 ∷ 17 ∷ 0 ∷ 0x35 ∷ []

abbrev pub tags_at_three : List ℕ
tags_at_three = 1 ∷ 1 ∷ 2 ∷ 3 ∷ 0 ∷ 1 ∷ 0 ∷ 17 ∷ 0 ∷ 0 ∷ 0x35 ∷ 0 ∷ []

abbrev pub tags_slices : List ℕ
tags_slices = 0 ∷ 1 ∷ 2 ∷ 1 ∷ 0 ∷ 1 ∷ 0 ∷ 17 ∷ 5 ∷ 0 ∷ 1 ∷ 2 ∷ 0 ∷ 0 ∷ 0 ∷ 0 ∷ 0 ∷ 0 ∷ 1 ∷ 1 ∷ 2 ∷ 1 ∷ 0 ∷ 0 ∷ 0 ∷ 0 ∷ 6 ∷ []

-- refused for its width; to 1, in exactly the room it needs; to 2 with an octet too few; to 2
abbrev pub tags_calls : List Call
tags_calls = lends 17 40 ∷ lends 1 18 ∷ lends 2 9 ∷ lends 2 10 ∷ []

-- two parts of width 1, an end between them; repacked to 2 they are a record each
abbrev pub tags_parts : List Part
tags_parts = part tags_at_one ∷ part (0 ∷ 1 ∷ 2 ∷ 1 ∷ 0 ∷ 1 ∷ 0 ∷ 34 ∷ 7 ∷ []) ∷ []

abbrev pub tags_joined : List ℕ
tags_joined = tags_at_two ++ 0 ∷ 1 ∷ 2 ∷ 1 ∷ 0 ∷ 1 ∷ 0 ∷ 34 ∷ 0 ∷ 7 ∷ []

-- `straddled` with the lowest bit of its padding set
abbrev pub padded : List ℕ
padded = 0x01 ∷ 1 ∷ 2 ∷ 0x05 ∷ 0 ∷ 0x01 ∷ 0 ∷ 17 ∷ 34 ∷ 51 ∷ 0xBD ∷ 0x03 ∷ []

-- two data lanes whose user bits are this number
abbrev pub two_tags : ℕ → List ℕ
two_tags u = 0 ∷ 1 ∷ 2 ∷ 3 ∷ 0 ∷ 3 ∷ 0 ∷ 17 ∷ 34 ∷ u ∷ []

-- a cycle with two bits that waits, and is taken
abbrev pub tags_take : List ℕ
tags_take = 0x0B ∷ 1 ∷ 2 ∷ 1 ∷ 0 ∷ 1 ∷ 0 ∷ 7 ∷ 3 ∷ 0x0F ∷ 1 ∷ 2 ∷ 1 ∷ 0 ∷ 1 ∷ 0 ∷ 7 ∷ 3 ∷ []

abbrev pub tags_harvest : List ℕ
tags_harvest = 0x01 ∷ 1 ∷ 2 ∷ 1 ∷ 0 ∷ 1 ∷ 0 ∷ 7 ∷ 3 ∷ []
