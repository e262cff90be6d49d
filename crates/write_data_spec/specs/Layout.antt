-- The octets of a write beat (paper 02, T-05): "one octet with bit 0 WLAST and the other bits zero, then bus/8 octets (rounded up) of
-- WSTRB with lane 0 in the lowest bit". Octets of WSTRB stand low octet first. Everything else in specs/ goes through these names.
use Rattle.std.specs.Prelude.{Bool, List, [], ◌∷◌, ℕ, zero, suc, ◌+◌, ◌/◌, ◌%◌, get_or}
use Rattle.stream_spec.specs.Layout.{bit, bit_of, pieces_of}

-- "one octet with bit 0 WLAST"
abbrev pub flags_at : ℕ
flags_at = 0

abbrev pub wlast_bit : ℕ
wlast_bit = 0

-- ".. then .. WSTRB": from this octet on, a strobe for each of so many lanes in an octet
abbrev pub strobes_at : ℕ
strobes_at = 1

abbrev pub lanes_each : ℕ
lanes_each = 8

-- "bus/8 octets (rounded up)"
abbrev pub strobe_octets : ℕ → ℕ
strobe_octets bus = (bus + 7) / lanes_each

-- the octets of a beat
unfoldable pub beat_size : ℕ → ℕ
beat_size bus = strobes_at + strobe_octets bus

-- the beats of a take
abbrev pub write_beats : ℕ → List ℕ → List (List ℕ)
write_beats bus xs = pieces_of (beat_size bus) xs

-- octet 0 of a beat, and WLAST
abbrev pub flags : List ℕ → ℕ
flags r = get_or r flags_at 0

abbrev pub wlast : List ℕ → Bool
wlast r = bit wlast_bit (flags r)

-- WSTRB[x], the strobe of byte lane x: "lane 0 in the lowest bit", low octet first
unfoldable pub strobe : List ℕ → ℕ → Bool
strobe r x = bit (x % lanes_each) (get_or r (strobes_at + x / lanes_each) 0)

-- how many numbers below n have the property
unfoldable pub count_below : ℕ → (ℕ → Bool) → ℕ
count_below zero p = 0
count_below (suc n) p = bit_of (p n) + count_below n p

-- the high strobes of a beat, and of all beats
abbrev pub high_strobes : ℕ → List ℕ → ℕ
high_strobes bus r = count_below bus (strobe r)

abbrev pub all_strobes : ℕ → List (List ℕ) → ℕ
all_strobes bus [] = 0
all_strobes bus (r ∷ rs) = high_strobes bus r + all_strobes bus rs
