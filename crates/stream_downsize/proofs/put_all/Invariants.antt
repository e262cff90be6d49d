use Rattle.std.specs.Slice.Iter.{chunks_exact_rest, chunks_exact_size}
use Rattle.std.proofs.Common.{◌≡◌}
use Rattle.stream_spec.specs.Layout.{size}
use Rattle.stream_downsize.proofs.Take.{Sliding}
use Rattle.stream_downsize.proofs.put_all.Given as goal

abbrev pub invariant-loop-rec : goal.invariant-loop-rec
invariant-loop-rec l =
    let left = l.rec-iterator in
    (goal.iterator-loop-rec).can_next left
    × (goal.iterator-loop-rec).is_finite left
    × (chunks_exact_size left ≡ size l.take.shape)
    × Sliding l.take.shape l.t l.take.octets.now l.initial.out l.out l.to (chunks_exact_rest left)
