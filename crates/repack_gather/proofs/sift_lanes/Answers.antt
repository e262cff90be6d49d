-- `repack_gather::sift_lanes` meets its contract: lane by lane, what is left to keep gets shorter. Assumes nothing.
use Rattle.repack_gather.proofs.Lanes.{sifting_starts, sifting_lane, sifting_done}
use Rattle.repack_gather.proofs.sift_lanes.Goals as goal

pub loop-lane-init : goal.loop-lane-init
loop-lane-init c = let a = c.args in sifting_starts a.keep a.lanes.now a.octets.now a.at

pub loop-lane-preserved : goal.loop-lane-preserved
loop-lane-preserved c =
    let a = c.args in
    let l = c.loop-lane in
    sifting_lane a.keep a.lanes.now a.octets.now a.at l.octets l.n l.k l.lane-index l.invariant c.keep_lane-n.new.octets c.keep_lane-n.result
    c.loop-lane-test.true c.keep_lane-n.ensures

pub returns : goal.returns
returns c =
    let a = c.args in
    let l = c.loop-lane in
    sifting_done a.keep a.lanes.now a.octets.now a.at l.octets l.n l.k l.lane-index l.invariant c.loop-lane-test.false
