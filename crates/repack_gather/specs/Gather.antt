-- What keeping one record's lanes does to the held items, octets and marks: repack_scratch's Gathered. Where every kept lane is
-- data only the octets change: repack_sieve's Collected.
use Rattle.std.specs.Prelude.{◌≡◌, List, ℕ, ◌≤◌, length, get_or}
use Rattle.repack_scratch.specs.Codes.{sifted, held_codes}
use Rattle.repack_scratch.specs.Stands.{Gathered}

-- no mark stands at place n or behind it
abbrev pub Clear : ℕ → List ℕ → Type 0
Clear n marks = (i : ℕ) → n ≤ i → get_or marks i 0 ≡ 0

-- octets and marks of a record's kept lanes, of any type
pub record Marks (keep strb : ℕ) (lanes octets marks : List ℕ) (at : ℕ) (octetsAfter marksAfter : List ℕ) (r : ℕ) : Type 0 where
  pub gathered :
      Gathered (length lanes) (sifted (length lanes) keep strb lanes) (held_codes octets marks) at (held_codes octetsAfter marksAfter) r
  pub clear : Clear at marks → Clear r marksAfter
