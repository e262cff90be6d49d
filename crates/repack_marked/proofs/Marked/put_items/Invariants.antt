use mathlib.Core.Path.{◌≡◌}
use mathlib.Core.List.{List, ◌++◌, map}
use Prim.Native.Nat.{ℕ, ◌+◌, ◌≤◌}
use lib.ListN.{length, take, drop}
use lib.Seq.{slice}
use Rattle.stream_spec.specs.Layout.{mask_of}
use Rattle.repack_scratch.specs.Codes.{held_codes, mark_bits}
use Rattle.repack_plain.specs.Write.{item_octet, item_strobe}
use Rattle.repack_marked.proofs.Marked.put_items.Given as goal

-- the items from one on
abbrev pub items : List ℕ → List ℕ → ℕ → List ℕ
items octets marks from = held_codes (drop from octets) (drop from (mark_bits marks))

abbrev pub invariant-loop-j : goal.invariant-loop-j
invariant-loop-j l =
    let xs = slice l.j l.n (items l.self.octets.now l.self.marks.now l.from) in
    (l.j ≤ l.n) × (length l.out ≡ length l.initial.out) × (l.strb ≡ mask_of (map item_strobe xs))
    × (l.out ≡ take (7 + l.j) l.initial.out ++ (map item_octet xs ++ drop (7 + l.n) l.initial.out))
