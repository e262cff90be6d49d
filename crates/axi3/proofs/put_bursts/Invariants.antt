use mathlib.Core.Path.{◌≡◌}
use Rattle.axi3.specs.Rows.{laid}
use Rattle.axi3.proofs.put_bursts.Given as goal

abbrev pub invariant-loop-j : goal.invariant-loop-j
invariant-loop-j l = l.row ≡ laid l.bursts l.j l.initial.row
