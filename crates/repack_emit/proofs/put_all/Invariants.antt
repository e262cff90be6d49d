use Rattle.repack_emit.proofs.Tables.{Packing}
use Rattle.repack_emit.proofs.put_all.Given as goal

abbrev pub invariant-loop-e : goal.invariant-loop-e
invariant-loop-e g l =
    Packing (g.I.Items.user l.items) l.v (g.I.Items.codes l.items) l.table l.initial.out l.out l.to l.from l.e-index
