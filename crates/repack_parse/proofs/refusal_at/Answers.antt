-- `repack_parse::refusal_at` meets its contract: a record has octets. Assumes nothing.
use Rattle.stream_spec.specs.Layout.{of_width}
use Rattle.stream_spec.proofs.Size.{size_pos}
use Rattle.repack_parse.proofs.refusal_at.Goals as goal

pub nonzero_div-at : goal.nonzero_div-at
nonzero_div-at c = rw c.record_size.ensures (size_pos (of_width c.args.lanes.width))
