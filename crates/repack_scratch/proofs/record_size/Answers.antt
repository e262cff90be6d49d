-- `repack_scratch::record_size` meets its contract: a record without user bits. Assumes nothing.
use mathlib.Core.Path.{sym}
use Rattle.stream_spec.proofs.Size.{size_bare}
use Rattle.repack_scratch.proofs.record_size.Goals as goal

pub returns : goal.returns
returns c = sym (size_bare c.args.w)
