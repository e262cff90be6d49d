-- `Take::records`: a record has octets. Assumes nothing.
use Rattle.stream_spec.proofs.Size.{size_pos}
use Rattle.stream_record.proofs.take.Take.records.Goals as goal

pub chunks_exact-requires : goal.chunks_exact-requires
chunks_exact-requires c = rw c.record_size.ensures (size_pos c.args.self.now.shape)
