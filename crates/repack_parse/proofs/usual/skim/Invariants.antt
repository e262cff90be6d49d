use Prim.Native.Nat.{◌-◌}
use lib.ListN.{length}
use Rattle.repack_parse.specs.Reading.{Skimmed}
use Rattle.repack_parse.proofs.usual.skim.Given as goal

abbrev pub invariant-loop-at : goal.invariant-loop-at
invariant-loop-at l = Skimmed l.lanes.width l.transfers l.initial.octets l.initial.table l.initial.state l.from l.octets l.table l.state l.at

abbrev pub decreases-loop-at : goal.decreases-loop-at
decreases-loop-at l = length l.transfers - l.at
