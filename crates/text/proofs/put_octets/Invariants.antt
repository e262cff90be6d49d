use Rattle.text.proofs.Laws.{Copied}
use Rattle.text.proofs.put_octets.Given as goal

abbrev pub invariant-loop-i : goal.invariant-loop-i
invariant-loop-i l = Copied l.at l.octets l.initial.out l.out l.i
