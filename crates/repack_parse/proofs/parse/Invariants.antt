use Prim.Native.Nat.{◌-◌}
use lib.ListN.{length}
use Rattle.repack_parse.proofs.Parsing.{Parsing}
use Rattle.repack_parse.proofs.parse.Given as goal

abbrev pub invariant-loop-at : goal.invariant-loop-at
invariant-loop-at l =
    Parsing l.lanes.width l.transfers l.octets l.marks l.table l.state l.at l.plain

abbrev pub decreases-loop-at : goal.decreases-loop-at
decreases-loop-at l = length l.transfers - l.at
