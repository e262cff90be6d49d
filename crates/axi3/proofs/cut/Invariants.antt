use mathlib.Core.Path.{◌≡◌}
use Rattle.axi3.specs.Rows.{filled}
use Rattle.axi3.proofs.cut.Given as goal

-- the first j bursts of the cut stand in front
abbrev pub invariant-loop-j : goal.invariant-loop-j
invariant-loop-j l = l.place-items ≡ filled l.accepted.burst l.j l.initial.place-items
