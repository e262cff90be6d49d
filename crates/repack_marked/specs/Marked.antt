-- What is written of one record without user bits whose items may be marked.
use Rattle.std.specs.Prelude.{List, ◌++◌, ℕ, ◌+◌, take, drop}
use Rattle.stream_spec.specs.Layout.{head_octets}
use Rattle.repack_scratch.specs.Codes.{codes_in}

-- the codes of n items, from item `from` on
abbrev pub items_from : List ℕ → List ℕ → ℕ → ℕ → List ℕ
items_from octets marks from n = take n (drop from (codes_in octets marks))

-- the octets of n lanes behind the head of the record at the front of memory
abbrev pub lanes_put : ℕ → List ℕ → List ℕ → List ℕ
lanes_put n lanes out = take head_octets out ++ (lanes ++ drop (head_octets + n) out)
