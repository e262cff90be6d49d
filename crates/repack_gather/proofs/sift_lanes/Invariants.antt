use Rattle.repack_gather.proofs.Lanes.{Sifting}
use Rattle.repack_gather.proofs.sift_lanes.Given as goal

abbrev pub invariant-loop-lane : goal.invariant-loop-lane
invariant-loop-lane l = Sifting l.keep l.lanes l.initial.octets l.at l.octets l.n l.k l.lane-index
