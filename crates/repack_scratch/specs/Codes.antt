-- The codes of items and of stretches, as the converter's scratch arrays hold them: an item's octet in one array, its mark in
-- another, a stretch's entry in a third.
use Rattle.std.specs.Prelude.{Bool, ◌≡◌, cond, List, [], ◌∷◌, ◌++◌, map, ℕ, zero, suc, ◌+◌, ◌-◌, ◌*◌, ◌/◌, ◌%◌, ◌^◌, length, get_or, take, drop, replicate}
use Rattle.stream_spec.specs.Items.{Pair}
use Rattle.stream_spec.specs.Packed.{Stretch}
use Rattle.stream_spec.specs.Layout.{odd, bit_of, Kept, octet, position}
use Rattle.repack_scratch.specs.declared.Entry.{Entry}

-- ---- how much the arrays hold

-- Items: the 45,584 of 2,849 records of 16 lanes (a take has at most 65,536 octets, a record of w lanes has 7 + w or more), and
-- more than the 32 that may be read past the last one.
abbrev pub item_room : ℕ
item_room = 0xB260

-- octets of marks, a bit an item
abbrev pub mark_room : ℕ
mark_room = 0x164C

-- stretches: one for each of 8,192 records, which have 8 octets at least, and one more
abbrev pub stretch_room : ℕ
stretch_room = 0x2001

-- ---- an item's code: its octet, its strobe times 0x100, and its user bits, if there are any, times 0x200

abbrev pub item_code : ℕ → ℕ → ℕ
item_code strb d = d + 0x100 * (strb % 2)

abbrev pub tagged_code : ℕ → ℕ → ℕ → ℕ
tagged_code strb user d = item_code strb d + 0x200 * user

-- a data item's code
abbrev pub data_code : ℕ → ℕ
data_code d = d + 0x100

-- An item as it is held: its octet, and a mark that is 0 for data and 1 for position.
abbrev pub held_code : ℕ → ℕ → ℕ
held_code d mark = d + 0x100 * (1 - mark)

-- the codes of the items that two arrays of one length hold
abbrev pub held_codes : List ℕ → List ℕ → List ℕ
held_codes [] ms = []
held_codes (d ∷ ds) [] = []
held_codes (d ∷ ds) (m ∷ ms) = held_code d m ∷ held_codes ds ms

-- the k low bits of a number, lowest first
abbrev pub bits_of : ℕ → ℕ → List ℕ
bits_of zero x = []
bits_of (suc k) x = x % 2 ∷ bits_of k (x / 2)

-- the marks as an array of octets holds them: a bit an item, eight items an octet
abbrev pub mark_bits : List ℕ → List ℕ
mark_bits [] = []
mark_bits (m ∷ ms) = bits_of 8 m ++ mark_bits ms

-- the codes of items that are held as octets, with their marks as bits
abbrev pub codes_in : List ℕ → List ℕ → List ℕ
codes_in octets marks = held_codes octets (mark_bits marks)

-- no item is marked: every one is data
abbrev pub Unmarked : List ℕ → Type 0
Unmarked ms = ms ≡ replicate {A = ℕ} (length ms) 0

-- what an item's code stands for; every number stands for something
unfoldable pub kept_of : ℕ → Kept
kept_of x = cond (odd (x / 0x100)) (octet (x % 0x100) (x / 0x200)) (position (x / 0x200))

-- the codes of the lanes that TKEEP keeps: lane 0 has the lowest bit of both masks
abbrev pub sifted : ℕ → ℕ → ℕ → List ℕ → List ℕ
sifted zero keep strb ds = []
sifted (suc w) keep strb ds =
    cond (odd keep) (item_code strb (get_or ds 0 0) ∷ sifted w (keep / 2) (strb / 2) (drop 1 ds))
    (sifted w (keep / 2) (strb / 2) (drop 1 ds))

-- the same of lanes with m user bits each, all of them as one number: lane 0 has the lowest
abbrev pub tagged : ℕ → ℕ → ℕ → ℕ → ℕ → List ℕ → List ℕ
tagged m zero keep strb user ds = []
tagged m (suc w) keep strb user ds =
    cond (odd keep) (tagged_code strb (user % 2 ^ m) (get_or ds 0 0) ∷ tagged m w (keep / 2) (strb / 2) (user / 2 ^ m) (drop 1 ds))
    (tagged m w (keep / 2) (strb / 2) (user / 2 ^ m) (drop 1 ds))

-- ---- a stretch's entry: how many bytes it has, whether an end is behind them, and its pair

abbrev pub pair_code : ℕ → ℕ → ℕ
pair_code tid tdest = tid + 0x100 * tdest

abbrev pub pair_from : ℕ → Pair
pair_from x = record { tid = x % 0x100; tdest = x / 0x100 }

-- a pair's code is below this: TID has 8 bits, TDEST 4
abbrev pub pair_limit : ℕ
pair_limit = 0x1000

abbrev pub entry_of : ℕ → Bool → ℕ → Entry
entry_of count last pair = record { 0 = count + 0x10000 * (bit_of last + 2 * pair) }

abbrev pub entry_count : Entry → ℕ
entry_count e = e.0 % 0x10000

abbrev pub entry_last : Entry → Bool
entry_last e = odd (e.0 / 0x10000)

abbrev pub entry_pair : Entry → ℕ
entry_pair e = e.0 / 0x20000

-- the stretch of an entry whose items have these codes
abbrev pub stretch_of : Entry → List ℕ → Stretch Kept
stretch_of e codes = record { pair = pair_from (entry_pair e); bytes = map kept_of codes; ended = entry_last e }

-- the stretches of a table, each with as many of the codes as its entry says
abbrev pub stretches_of : List Entry → List ℕ → List (Stretch Kept)
stretches_of [] codes = []
stretches_of (e ∷ es) codes = stretch_of e (take (entry_count e) codes) ∷ stretches_of es (drop (entry_count e) codes)

-- how many codes a table has in all
abbrev pub total : List Entry → ℕ
total [] = 0
total (e ∷ es) = entry_count e + total es
