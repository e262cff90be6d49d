-- `stream_record::bad_length`: a record has octets. Assumes nothing.
use Rattle.stream_spec.proofs.Size.{size_pos}
use Rattle.stream_record.proofs.bad_length.Goals as goal

pub nonzero_rem-result : goal.nonzero_rem-result
nonzero_rem-result c = rw c.record_size.ensures (size_pos c.args.s)
