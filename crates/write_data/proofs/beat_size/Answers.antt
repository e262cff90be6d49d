-- `write_data::beat_size` meets its contract. Assumes nothing.
use native.Mathlib.Omega.{arith}
use Rattle.write_data.proofs.Fields.{size_is}
use Rattle.write_data.proofs.beat_size.Goals as goal

pub returns : goal.returns
returns c = rw c.div_ceil.ensures (omega (arith, size_is c.args.bus))
