-- `write_data::bad_length` meets its contract. Assumes nothing.
use Rattle.write_data.proofs.Fields.{size_pos}
use Rattle.write_data.proofs.bad_length.Goals as goal

pub nonzero_rem-result : goal.nonzero_rem-result
nonzero_rem-result c = rw c.beat_size.ensures (size_pos c.args.bus)
