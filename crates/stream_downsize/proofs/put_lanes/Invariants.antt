use Rattle.stream_downsize.proofs.Lanes.{Filling}
use Rattle.stream_downsize.proofs.put_lanes.Given as goal

abbrev pub invariant-loop-j : goal.invariant-loop-j
invariant-loop-j l = Filling l.v l.h l.lanes l.octet-items l.j
