-- `repack_gather::sift_marked` meets its contract: lane by lane, what is left to keep gets shorter. Assumes nothing.
use native.Mathlib.Omega.{arith}
use mathlib.Core.Path.{◌∙◌}
use Rattle.repack_scratch.specs.Codes.{mark_bits}
use Rattle.repack_scratch.proofs.Marks.{length-marks}
use Rattle.repack_gather.proofs.Marked.{marking_starts, marking_lane, marking_done}
use Rattle.repack_gather.proofs.sift_marked.Goals as goal

pub loop-lane-init : goal.loop-lane-init
loop-lane-init c =
    let a = c.args in
    marking_starts a.keep a.strb a.lanes.now a.octets.now (mark_bits a.marks.now) a.at (length-marks a.marks.now ∙ c.requires.0)

pub keep_marked-n-requires : goal.keep_marked-n-requires
keep_marked-n-requires c =
    let a = c.args in
    let p = c.requires in
    let l = c.loop-lane in (
      omega (arith, l.invariant.near, l.invariant.same_octets, p.1, c.loop-lane-test.true),
      omega (arith, l.invariant.near, l.invariant.same_marks, length-marks l.marks, p.1, c.loop-lane-test.true),
      l.invariant.clear p.2 l.n (omega arith),
    )

pub loop-lane-preserved : goal.loop-lane-preserved
loop-lane-preserved c =
    let a = c.args in
    let l = c.loop-lane in
    let e = c.keep_marked-n.ensures in
    marking_lane a.keep a.strb a.lanes.now a.octets.now (mark_bits a.marks.now) a.at (length-marks a.marks.now ∙ c.requires.0) l.octets (mark_bits l.marks) l.n l.k l.t l.lane-index l.invariant
    c.requires.1 c.loop-lane-test.true c.keep_marked-n.new.octets (mark_bits c.keep_marked-n.new.marks) c.keep_marked-n.result e.value e.octets_after e.marks_after

pub returns : goal.returns
returns c =
    let a = c.args in
    let l = c.loop-lane in
    marking_done a.keep a.strb a.lanes.now a.octets.now (mark_bits a.marks.now) a.at (length-marks a.marks.now ∙ c.requires.0) l.octets (mark_bits l.marks) l.n l.k l.t l.lane-index l.invariant
    c.loop-lane-test.false
