-- The bits of a header that must be zero, in its first four octets and in the four of its masks.
use Rattle.std.specs.Prelude.{◌≡◌, Bool, List, ℕ, ◌-◌, ◌*◌, ◌^◌, ◌≤◌}
use Rattle.stream_spec.specs.declared.Shape.{Shape}
use Rattle.stream_spec.specs.Layout.{width_most}
use Rattle.stream_record.specs.Header.{header_of, header_fault}
use Rattle.stream_head.specs.declared.Zeros.{Zeros}

-- Octet 0 above the flags in use (bits up to 7) and TDEST above 15 (its bits 4 to 7 are bits 20 to 23 of the first word);
-- TKEEP and TSTRB above the lanes of the width, in the lower and the upper half of the second word.
abbrev pub zeros_of : ℕ → Shape → Zeros
zeros_of used s = record { low = 0xF00100 - 2 ^ used; high = 0x10001 * (0x10000 - 2 ^ s.width) }

-- r tells whether a record has a field fault, for all flags in use and all widths for which these bits must be zero
abbrev pub TellsFault : Zeros → List ℕ → Bool → Type 0
TellsFault z rec r =
    (used : ℕ) (s : Shape) → used ≤ 8 → s.width ≤ width_most → z ≡ zeros_of used s → r ≡ header_fault used s (header_of rec)
