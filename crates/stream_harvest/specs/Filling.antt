-- Harvesting as one pass over the cycles, against stream_spec's Handshake: what a cycle adds to the output, and what is known
-- between two cycles.
use Rattle.std.specs.Prelude.{◌≡◌, cond, List, [], ℕ, ◌%◌, ◌≤◌, length}
use Rattle.stream_spec.specs.declared.Shape.{Shape}
use Rattle.stream_spec.specs.Layout.{size_least, size_most, size}
use Rattle.stream_spec.specs.Handshake.{transferred, as_transfer, harvested}
use Rattle.stream_spec.specs.Memory.{in_front, Writing}

-- a record whose octets find room at the front of `out`
pub record RecordFits (rec out : List ℕ) : Type 0 where
  pub low : size_least ≤ length rec
  pub high : length rec ≤ size_most
  pub room : length rec ≤ length out

-- the octets that a cycle adds: a transfer record, or none
abbrev pub added : List ℕ → List ℕ
added c = cond (transferred c) (as_transfer c) []

-- a cycle whose octets find room
pub record CycleFits (c out : List ℕ) : Type 0 where
  pub low : size_least ≤ length c
  pub high : length c ≤ size_most
  pub room : length (added c) ≤ length out

-- its octets stand at the front, and n counts them
pub record CyclePut (c before after : List ℕ) (n : ℕ) : Type 0 where
  pub is : n ≡ length (added c)
  pub leaves : after ≡ in_front (added c) before

-- what is known at the start of each turn: the output is written up to `to`, all but what the cycles left, `rest`, will add
pub record Filling (s : Shape) (xs rest before out : List ℕ) (to : ℕ) : Type 0 where
  pub whole : length rest % size s ≡ 0
  pub writing : Writing before out to (harvested s xs) (harvested s rest)
