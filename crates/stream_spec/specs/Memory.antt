-- Lent memory: what it holds when a call has written, and what is known while it writes. Octets in the middle of a memory
-- (`splice`) are the crate words'; here is what the calls promise of a whole memory.
use Rattle.std.specs.Prelude.{◌≡◌, List, ◌++◌, ℕ, ◌+◌, ◌≤◌, length, take, drop}

-- these octets at the front of lent memory, and the rest as before
abbrev pub in_front : List ℕ → List ℕ → List ℕ
in_front octets lent = octets ++ drop (length octets) lent

-- Of `whole` all but `rest` is written, up to octet `to`; from there on the memory is as it was.
pub record Writing (before out : List ℕ) (to : ℕ) (whole rest : List ℕ) : Type 0 where
  pub same : length out ≡ length before
  pub room : to + length rest ≤ length out
  pub is : take to out ++ rest ≡ whole
  pub after : drop to out ≡ drop to before

-- these octets, more, are written
abbrev pub Writes : List ℕ → List ℕ → ℕ → List ℕ → ℕ → Type 0
Writes octets out to after next =
    (before whole rest : List ℕ) → Writing before out to whole (octets ++ rest) → Writing before after next whole rest
