-- What is written of a stretch that is held as codes, and what holds while it is written, stated by what remains.
use Rattle.std.specs.Prelude.{◌≡◌, Bool, List, ◌++◌, map, ℕ, ◌+◌, ◌-◌, ◌/◌, ◌%◌, ◌^◌, ◌≤◌, ◌<◌, length, take, drop, Some}
use Rattle.stream_spec.specs.Items.{Pair, Transfer}
use Rattle.stream_spec.specs.Packed.{fitted, spread}
use Rattle.stream_spec.specs.Layout.{width_most, size, shaped, Kept, bit_of, strb_bit, lane_octet, octets_of, octets}
use Rattle.stream_spec.specs.Memory.{Writing, Writes}
use Rattle.stream_record.specs.declared.Header.{Header}
use Rattle.repack_scratch.specs.Codes.{kept_of, pair_from}
use Rattle.repack_plain.specs.declared.stretch.Cursor.{Cursor}
use Rattle.repack_plain.specs.declared.stretch.Head.{Head}

-- ---- octets

-- the data octet and the strobe of an item
abbrev pub item_octet : ℕ → ℕ
item_octet x = lane_octet (Some (kept_of x))

abbrev pub item_strobe : ℕ → Bool
item_strobe x = strb_bit (Some (kept_of x))

-- one record with the items of these codes from lane 0 up
abbrev pub record_of : ℕ → Pair → List ℕ → Bool → Transfer Kept
record_of v pair codes last = record { pair = pair; lanes = fitted v (map Some (map kept_of codes)); last = last }

-- the octets of one with n items, from item `from` on, and m user bits to a byte
abbrev pub record_at : ℕ → ℕ → Head → List ℕ → ℕ → ℕ → List ℕ
record_at m v head codes from n = octets_of m (record_of v (pair_from head.pair) (take n (drop from codes)) head.last)

-- the octets of a stretch with the items of these codes
abbrev pub stretch_octets : ℕ → ℕ → Pair → List ℕ → Bool → List ℕ
stretch_octets m v pair codes last = octets m (spread ((length codes - 1) / v) v pair (map Some (map kept_of codes)) last)

-- of what is left of a stretch at a cursor
abbrev pub left_octets : ℕ → ℕ → Head → List ℕ → Cursor → List ℕ
left_octets m v head codes c = stretch_octets m v (pair_from head.pair) (take c.left (drop c.from codes)) head.last

-- ---- a record

-- the header of one with items on its first n lanes, and this TSTRB
abbrev pub header_with : Head → ℕ → ℕ → Header
header_with head n strb =
    record { flags = bit_of head.last; tid = head.pair % 0x100; tdest = head.pair / 0x100; keep = 2 ^ n - 1; strb = strb }

-- A record of v lanes with n items can be written at the front of memory: the lanes are enough, and there is room for it.
pub record RecordFits (m v n : ℕ) (out : List ℕ) : Type 0 where
  pub few : n ≤ v
  pub low : 1 ≤ v
  pub high : v ≤ width_most
  pub room : size (shaped v m) ≤ length out

-- ---- a stretch

-- What is left of a stretch at a cursor can be written: its items can be counted, and there is room for its octets.
pub record StretchFits (m v : ℕ) (head : Head) (codes out : List ℕ) (c : Cursor) : Type 0 where
  pub low : 1 ≤ v
  pub high : v ≤ width_most
  pub counted : c.from + c.left < 2 ^ 64
  pub room : c.to + length (left_octets m v head codes c) ≤ length out

-- it is written, up to octet r
pub record StretchPut (m v : ℕ) (head : Head) (codes out : List ℕ) (c : Cursor) (after : List ℕ) (r : ℕ) : Type 0 where
  pub same : length after ≡ length out
  pub writes : Writes (left_octets m v head codes c) out c.to after r

-- More of it is written, up to another cursor, and what is left there has room.
pub record Advanced (m v : ℕ) (head : Head) (codes out : List ℕ) (c : Cursor) (after : List ℕ) (r : Cursor) : Type 0 where
  pub end : r.from + r.left ≡ c.from + c.left
  pub less : r.left ≤ c.left
  pub same : length after ≡ length out
  pub room : r.to + length (left_octets m v head codes r) ≤ length after
  pub writes :
      (before whole rest : List ℕ) → Writing before out c.to whole (left_octets m v head codes c ++ rest)
      → Writing before after r.to whole (left_octets m v head codes r ++ rest)
