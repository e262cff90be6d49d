-- `repack_gather::gather_lanes` meets its contract: the bulk copy keeps what the lane loop would. Assumes nothing.
use mathlib.Core.Path.{◌∙◌}
use native.Mathlib.Omega.{arith}
use Rattle.repack_gather.proofs.Lanes.{all-kept}
use Rattle.repack_gather.proofs.gather_lanes.Goals as goal

pub returns-then-keep-of : goal.returns-then-keep-of
returns-then-keep-of c =
    let a = c.args in
    rw (c.if-keep-of.true ∙ a.of.wide.full)
    (all-kept a.of.width a.of.width a.lanes.now a.octets.now c.place.new.to a.at (omega arith) c.requires.1 c.place.ensures)
