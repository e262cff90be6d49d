-- What is written of a table's stretches, and what the call that writes them answers.
use Rattle.std.specs.Prelude.{◌≡◌, List, [], ◌∷◌, ℕ, ◌+◌, ◌-◌, ◌/◌, ◌<◌, length, get_or, Result}
use Rattle.refusal.specs.declared.Refusal.{Refusal}
use Rattle.refusal.specs.Checks.{first}
use Rattle.stream_spec.specs.Packed.{pack_stretches}
use Rattle.stream_spec.specs.Layout.{octets}
use Rattle.stream_spec.specs.Checks.{room_check}
use Rattle.stream_spec.specs.Answers.{written, lent_after}
use Rattle.repack_scratch.specs.declared.Entry.{Entry}
use Rattle.repack_scratch.specs.Codes.{entry_count, entry_last, entry_pair, stretches_of}
use Rattle.repack_plain.specs.declared.stretch.Head.{Head}

-- the pair and the end of an entry's stretch
pub record IsHeadOf (e : Entry) (head : Head) : Type 0 where
  pub pair : head.pair ≡ entry_pair e
  pub last : head.last ≡ entry_last e

-- the octets of the packed form of a table's stretches, with m user bits to a byte
abbrev pub packed_from : ℕ → ℕ → List Entry → List ℕ → List ℕ
packed_from m v table codes = octets m (pack_stretches v (stretches_of table codes))

-- a list that has, for each number of items below n, how many records they give
abbrev pub Counts : ℕ → ℕ → List ℕ → Type 0
Counts v n few = (i : ℕ) → i < n → get_or few i 0 ≡ (i - 1) / v + 1

-- how many records the stretches of a table give
abbrev pub count_of : ℕ → List Entry → ℕ
count_of v [] = 0
count_of v (e ∷ es) = (entry_count e - 1) / v + 1 + count_of v es

-- what writing the packed form answers, and the memory after it
pub record Emitted (m v : ℕ) (codes : List ℕ) (table : List Entry) (out after : List ℕ) (r : Result ℕ Refusal) : Type 0 where
  pub answer : r ≡ written (first (room_check (packed_from m v table codes) (length out) ∷ [])) (length (pack_stretches v (stretches_of table codes)))
  pub memory : after ≡ lent_after (first (room_check (packed_from m v table codes) (length out) ∷ [])) (packed_from m v table codes) out
