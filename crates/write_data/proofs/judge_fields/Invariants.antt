use mathlib.Core.Path.{◌≡◌}
use Rattle.std.specs.Slice.Iter.{chunks_exact_rest, chunks_exact_size}
use Rattle.write_data_spec.specs.Layout.{beat_size}
use Rattle.write_data.specs.Scan.{Looking}
use Rattle.write_data.proofs.judge_fields.Given as goal

abbrev pub invariant-loop-k : goal.invariant-loop-k
invariant-loop-k l =
    record {
      goes_on : (goal.iterator-loop-k).can_next l.k-iterator;
      ends : (goal.iterator-loop-k).is_finite l.k-iterator;
      each : chunks_exact_size l.k-iterator.iter ≡ beat_size l.bus;
      looking : Looking l.bus l.beats (chunks_exact_rest l.k-iterator.iter) l.k-iterator.count;
    }
