-- The sieve that closes up null lanes: for each four TKEEP bits a row of three masks and a count.
use Rattle.std.specs.Prelude.{List, [], ◌∷◌, ℕ, ◌+◌, ◌-◌, ◌/◌}
use Rattle.std.specs.Int.Bits.{bit_and}
use Rattle.repack_sieve.specs.declared.Row.{Row}

-- four octets hold a number below this
abbrev pub four_octets : ℕ
four_octets = 0x1_0000_0000

-- the octets of x that a mask names, moved down; `by` is 0x100 for one place, 0x10000 for two
abbrev pub moved : ℕ → ℕ → ℕ → ℕ
moved x mask by = x - bit_and x mask + bit_and x mask / by

-- the kept octets of x closed up, by the three masks of a row
abbrev pub closing : ℕ → ℕ → ℕ → ℕ → ℕ
closing x kept odd far = moved (moved (bit_and x kept) odd 0x100) far 0x10000

-- a row: the octets that are kept, those of them that move down one place, those that then move down two, how many are kept
abbrev pub row_of : ℕ → ℕ → ℕ → ℕ → Row
row_of kept odd far count = record { kept = kept; odd = odd; far = far; count = count }

abbrev pub sieve_rows : List Row
sieve_rows =
    row_of 0 0 0 0 ∷
    row_of 0xFF 0 0 1 ∷
    row_of 0xFF00 0xFF00 0 1 ∷
    row_of 0xFFFF 0 0 2 ∷
    row_of 0x00FF_0000 0 0x00FF_0000 1 ∷
    row_of 0x00FF_00FF 0x00FF_0000 0 2 ∷
    row_of 0x00FF_FF00 0x00FF_FF00 0 2 ∷
    row_of 0x00FF_FFFF 0 0 3 ∷
    row_of 0xFF00_0000 0xFF00_0000 0x00FF_0000 1 ∷
    row_of 0xFF00_00FF 0 0xFF00_0000 2 ∷
    row_of 0xFF00_FF00 0xFF00 0xFF00_0000 2 ∷
    row_of 0xFF00_FFFF 0xFF00_0000 0 3 ∷
    row_of 0xFFFF_0000 0 0xFFFF_0000 2 ∷
    row_of 0xFFFF_00FF 0xFFFF_0000 0 3 ∷
    row_of 0xFFFF_FF00 0xFFFF_FF00 0 3 ∷
    row_of 0xFFFF_FFFF 0 0 4 ∷ []
