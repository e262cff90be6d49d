use lib.ListN.{take, drop}
use Rattle.repack_tags.proofs.Putting.{Putting}
use Rattle.repack_tags.proofs.Tagged.put_items.Given as goal

abbrev pub invariant-loop-j : goal.invariant-loop-j
invariant-loop-j l = Putting l.self.user l.n (take l.n (drop l.from l.self.items.now)) l.initial.out l.out l.strb l.user l.j
