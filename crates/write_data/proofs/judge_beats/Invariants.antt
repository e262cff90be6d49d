use mathlib.Core.Path.{◌≡◌}
use Rattle.std.specs.Slice.Iter.{chunks_exact_rest, chunks_exact_size}
use Rattle.write_data_spec.specs.Layout.{beat_size}
use Rattle.write_data.specs.Scan.{Turning}
use Rattle.write_data.proofs.judge_beats.Given as goal

abbrev pub invariant-loop-k : goal.invariant-loop-k
invariant-loop-k l =
    record {
      goes_on : (goal.iterator-loop-k).can_next l.k-iterator;
      ends : (goal.iterator-loop-k).is_finite l.k-iterator;
      each : chunks_exact_size l.k-iterator.iter ≡ beat_size l.accepted.burst.bus;
      turning : Turning l.accepted.burst l.beats (chunks_exact_rest l.k-iterator.iter) l.k-iterator.count l.high;
    }
