use Rattle.stream_downsize.proofs.Lanes.{Tagging}
use Rattle.stream_downsize.proofs.slice_user.Given as goal

abbrev pub invariant-loop-j : goal.invariant-loop-j
invariant-loop-j l = Tagging l.m l.fn.t.width l.keep l.user l.bits l.j
