use Rattle.std.specs.Slice.Iter.{chunks_exact_rest, chunks_exact_size}
use Rattle.std.proofs.Common.{◌≡◌}
use Rattle.stream_spec.specs.Layout.{size}
use Rattle.report_call.proofs.Packets.{Counting}
use Rattle.report_call.proofs.outcome.packets.Given as goal

abbrev pub invariant-loop-rec : goal.invariant-loop-rec
invariant-loop-rec l =
    (goal.iterator-loop-rec).can_next l.rec-iterator
    × (goal.iterator-loop-rec).is_finite l.rec-iterator
    × (chunks_exact_size l.rec-iterator ≡ size l.transfers.shape)
    × Counting l.transfers.shape l.transfers.octets.now (chunks_exact_rest l.rec-iterator) l.n
