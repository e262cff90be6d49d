use Rattle.repack_scratch.specs.Codes.{mark_bits}
use Rattle.repack_gather.proofs.Marked.{Marking}
use Rattle.repack_gather.proofs.sift_marked.Given as goal

abbrev pub invariant-loop-lane : goal.invariant-loop-lane
invariant-loop-lane l = Marking l.keep l.strb l.lanes l.initial.octets (mark_bits l.initial.marks) l.at l.octets (mark_bits l.marks) l.n l.k l.t l.lane-index
