-- `stream_merge::port_fault` meets its contract: the record's own fault, then its TID. Assumes nothing.
use native.Mathlib.Omega.{arith}
use Rattle.stream_spec.proofs.Size.{size_holds}
use Rattle.stream_merge.proofs.port_fault.Goals as goal

pub bounds-rec-1 : goal.bounds-rec-1
bounds-rec-1 c = omega (arith, c.requires.1, size_holds c.args.s)
