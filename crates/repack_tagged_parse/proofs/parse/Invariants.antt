use Rattle.std.specs.Slice.Iter.{chunks_exact_rest, chunks_exact_size}
use Rattle.std.proofs.Common.{◌≡◌}
use Rattle.stream_spec.specs.Layout.{size}
use Rattle.repack_tagged_parse.proofs.Parsing.{Parsing}
use Rattle.repack_tagged_parse.proofs.parse.Given as goal

abbrev pub invariant-loop-k : goal.invariant-loop-k
invariant-loop-k l =
    let left = l.k-iterator.iter in
    (goal.iterator-loop-k).can_next l.k-iterator
    × (goal.iterator-loop-k).is_finite l.k-iterator
    × (chunks_exact_size left ≡ size l.take.shape)
    × Parsing l.take.shape l.take.octets.now (chunks_exact_rest left) l.items l.table l.state l.k-iterator.count
