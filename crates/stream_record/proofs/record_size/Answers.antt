-- `stream_record::record_size` meets its contract, which is its definition. Assumes nothing.
use mathlib.Core.Path.{sym}
use Rattle.stream_spec.proofs.Size.{size_is}
use Rattle.stream_record.proofs.record_size.Goals as goal

pub returns : goal.returns
returns c = rw c.user_octets.ensures.0 (sym (size_is c.args.s))
