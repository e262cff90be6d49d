-- `stream_record::fault_in`: a record holds a header. Assumes nothing.
use native.Mathlib.Omega.{arith}
use Rattle.stream_spec.proofs.Size.{size_holds}
use Rattle.stream_record.proofs.faults.fault_in.Goals as goal

pub read_header-requires : goal.read_header-requires
read_header-requires c = omega (arith, c.requires.1, size_holds c.args.s)
