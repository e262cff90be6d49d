-- `repack_parse::add_marked` meets its contract: turned, sifted with marks and ended. Assumes nothing.
use mathlib.Core.Path.{◌∙◌}
use Prim.Native.Nat.{◌-◌}
use native.Mathlib.Omega.{arith}
use lib.ListN.{length, take, drop}
use Rattle.stream_spec.specs.Layout.{of_width}
use Rattle.stream_spec.proofs.Size.{size_holds}
use Rattle.repack_scratch.specs.Codes.{mark_bits}
use Rattle.repack_scratch.proofs.Marks.{length-marks}
use Rattle.repack_parse.proofs.Records.{lanes_ready, end_ready}
use Rattle.repack_parse.proofs.Lanes.{lanes_behind, added-marked}
use Rattle.repack_parse.proofs.add_marked.Goals as goal

pub slice_bounds-sift_marked-count : goal.slice_bounds-sift_marked-count
slice_bounds-sift_marked-count c = omega (arith, c.requires.record_fits.0.long, size_holds (of_width c.args.lanes.width))

pub slice_bounds-sift_marked-start : goal.slice_bounds-sift_marked-start
slice_bounds-sift_marked-start c = omega (arith, c.requires.record_fits.0.long, size_holds (of_width c.args.lanes.width))

pub sift_marked-state-requires : goal.sift_marked-state-requires
sift_marked-state-requires c =
    let a = c.args in
    let p = c.requires in
    let w = a.lanes.width in
    let l = lanes_ready (of_width w) a.rec.now a.octets.now a.table.now c.turn.new.table a.h a.state.now c.turn.new.self (λ i. omega (arith, c.type_inv.rec i)) p.record_fits.0 p.record_fits.1
    c.pair_code.result c.pair_code.ensures c.turn.ensures (take (length a.rec.now - 7) (drop 7 a.rec.now)) (lanes_behind w a.rec.now p.record_fits.0.long) in
    (p.unmarked.0, omega (arith, l.0, l.1), λ i b. p.unmarked.1 i (omega (arith, c.turn.ensures.items)))

pub end-requires : goal.end-requires
end-requires c =
    let sift = c.sift_marked-state in
    let a = c.args in
    let p = c.requires in
    let w = a.lanes.width in
    let rest = take (length a.rec.now - 7) (drop 7 a.rec.now) in
    let l = lanes_ready (of_width w) a.rec.now a.octets.now a.table.now c.turn.new.table a.h a.state.now c.turn.new.self (λ i. omega (arith, c.type_inv.rec i)) p.record_fits.0 p.record_fits.1
    c.pair_code.result c.pair_code.ensures c.turn.ensures rest (lanes_behind w a.rec.now p.record_fits.0.long) in
    end_ready (of_width w) a.rec.now a.octets.now a.table.now c.turn.new.table a.h a.state.now c.turn.new.self (λ i. omega (arith, c.type_inv.rec i)) p.record_fits.0 p.record_fits.1
    c.pair_code.result c.pair_code.ensures c.turn.ensures rest (lanes_behind w a.rec.now p.record_fits.0.long)
    sift.result sift.ensures.gathered.beyond (omega (arith, l.0, sift.ensures.gathered.within))

pub returns : goal.returns
returns c =
    let sift = c.sift_marked-state in
    let a = c.args in
    let p = c.requires in
    let w = a.lanes.width in
    added-marked w a.rec.now a.octets.now a.table.now c.turn.new.table a.h a.state.now c.turn.new.self (λ i. omega (arith, c.type_inv.rec i)) p.record_fits.0 p.record_fits.1
    c.pair_code.result c.pair_code.ensures c.turn.ensures (take (length a.rec.now - 7) (drop 7 a.rec.now)) (lanes_behind w a.rec.now p.record_fits.0.long)
    sift.new.octets (mark_bits a.marks.now) (mark_bits sift.new.marks) c.end.new.table c.end.new.self sift.result (length-marks a.marks.now ∙ p.unmarked.0) p.unmarked.1
    sift.ensures c.end.ensures
