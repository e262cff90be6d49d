use Rattle.report_call.proofs.Told.{Lines}
use Rattle.report_call.proofs.lines.put_lines.Given as goal

abbrev pub invariant-loop-key : goal.invariant-loop-key
invariant-loop-key l = Lines l.head l.lines l.fn.out l.out l.at l.key-index
