use Rattle.repack_plain.specs.Write.{Advanced}
use Rattle.repack_plain.proofs.Items.put_stretch.Given as goal

abbrev pub invariant-loop-d : goal.invariant-loop-d
invariant-loop-d g l = Advanced (g.Self.Items.user l.self) l.v l.head (g.Self.Items.codes l.self) l.initial.out l.initial.d l.out l.d

abbrev pub decreases-loop-d : goal.decreases-loop-d
decreases-loop-d g l = l.d.left
