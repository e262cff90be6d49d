-- `stream_record::layout::tlast` meets its contract: a remainder is bit 0. Assumes nothing.
use mathlib.Core.Path.{sym}
use Rattle.stream_spec.proofs.Bits.{bit-zero}
use Rattle.stream_record.proofs.layout.tlast.Goals as goal

pub returns : goal.returns
returns c = sym (bit-zero c.args.flags)
