-- Items with user bits: what is gathered of one record's lanes, and what is written of one record.
use Rattle.std.specs.Prelude.{List, [], ◌∷◌, map, ℕ, ◌/◌, ◌^◌, ◌+◌, ◌≤◌, ◌<◌, length, get_or, take, drop, Option, Some}
use Rattle.stream_spec.specs.Layout.{mask_of, Kept, strb_bit, users_of}
use Rattle.repack_scratch.specs.Codes.{kept_of, tagged}
use Rattle.repack_scratch.specs.Stands.{Gathered}
use Rattle.repack_tags.specs.declared.Tags.{Tags}

-- ---- reading

-- the codes of a record's kept lanes with their user bits stand behind those before them, up to place r
abbrev pub GatheredTags : ℕ → ℕ → ℕ → ℕ → List ℕ → List ℕ → ℕ → List ℕ → ℕ → Type 0
GatheredTags m keep strb user lanes items at after r =
    Gathered (length lanes) (tagged m (length lanes) keep strb user lanes) items at after r

-- ---- writing

-- no item has more than m user bits
abbrev pub TagsFit : ℕ → List ℕ → Type 0
TagsFit m [] = Unit {0}
TagsFit m (x ∷ xs) = (x / 0x200 < 2 ^ m) × TagsFit m xs

-- the same of n of those that are held, from item `from` on
abbrev pub PartFits : ℕ → List ℕ → ℕ → ℕ → Type 0
PartFits m items from n = (i : ℕ) → from ≤ i → i < from + n → get_or items i 0 / 0x200 < 2 ^ m

-- what n lanes carry: the items of these codes, from item `from` on
abbrev pub item_lanes : List ℕ → ℕ → ℕ → List (Option Kept)
item_lanes codes from n = map Some (map kept_of (take n (drop from codes)))

-- TSTRB and the user bits of lanes
abbrev pub tags_of : ℕ → List (Option Kept) → Tags
tags_of m ls = record { strb = mask_of (map strb_bit ls); user = users_of m ls }
