use Rattle.std.specs.Slice.Iter.{chunks_exact_rest, chunks_exact_size}
use Rattle.std.proofs.Common.{◌≡◌}
use Rattle.stream_spec.specs.Layout.{size}
use Rattle.stream_record.proofs.Walking.{Walking}
use Rattle.stream_judge.specs.Scan.{Turning}
use Rattle.stream_judge.proofs.judge_cycles.Given as goal

abbrev pub invariant-loop-k : goal.invariant-loop-k
invariant-loop-k l =
    let left = l.k-iterator.iter in
    (goal.iterator-loop-k).can_next l.k-iterator
    × (goal.iterator-loop-k).is_finite l.k-iterator
    × (chunks_exact_size left ≡ size l.take.shape)
    × Walking l.take.shape l.take.octets.now (chunks_exact_rest left) l.k-iterator.count
    × Turning l.take.shape l.take.octets.now (chunks_exact_rest left) l.prev l.k-iterator.count l.count l.prev_flags
