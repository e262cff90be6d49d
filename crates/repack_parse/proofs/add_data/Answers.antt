-- `repack_parse::add_data` meets its contract: turned, gathered and ended. Assumes nothing.
use Prim.Native.Nat.{◌-◌}
use native.Mathlib.Omega.{arith}
use lib.ListN.{length, take, drop}
use Rattle.stream_spec.specs.Layout.{of_width}
use Rattle.stream_spec.proofs.Size.{size_holds}
use Rattle.repack_parse.proofs.Records.{lanes_ready, end_ready}
use Rattle.repack_parse.proofs.Lanes.{lanes_behind, added_data}
use Rattle.repack_parse.proofs.add_data.Goals as goal

pub slice_bounds-gather_lanes-count : goal.slice_bounds-gather_lanes-count
slice_bounds-gather_lanes-count c = omega (arith, c.requires.0.long, size_holds (of_width c.args.lanes.width))

pub slice_bounds-gather_lanes-start : goal.slice_bounds-gather_lanes-start
slice_bounds-gather_lanes-start c = omega (arith, c.requires.0.long, size_holds (of_width c.args.lanes.width))

pub gather_lanes-state-requires : goal.gather_lanes-state-requires
gather_lanes-state-requires c =
    let a = c.args in
    let p = c.requires in
    let w = a.lanes.width in
    lanes_ready (of_width w) a.rec.now a.octets.now a.table.now c.turn.new.table a.h a.state.now c.turn.new.self (λ i. omega (arith, c.type_inv.rec i)) p.0 p.2
    c.pair_code.result c.pair_code.ensures c.turn.ensures (take (length a.rec.now - 7) (drop 7 a.rec.now)) (lanes_behind w a.rec.now p.0.long)

pub end-requires : goal.end-requires
end-requires c =
    let gather = c.gather_lanes-state in
    let a = c.args in
    let p = c.requires in
    let w = a.lanes.width in
    end_ready (of_width w) a.rec.now a.octets.now a.table.now c.turn.new.table a.h a.state.now c.turn.new.self (λ i. omega (arith, c.type_inv.rec i)) p.0 p.2
    c.pair_code.result c.pair_code.ensures c.turn.ensures (take (length a.rec.now - 7) (drop 7 a.rec.now)) (lanes_behind w a.rec.now p.0.long)
    gather.result gather.ensures.beyond gather.ensures.within

pub returns : goal.returns
returns c =
    let gather = c.gather_lanes-state in
    let a = c.args in
    let p = c.requires in
    let w = a.lanes.width in
    added_data w a.rec.now a.octets.now a.table.now c.turn.new.table a.h a.state.now c.turn.new.self (λ i. omega (arith, c.type_inv.rec i)) p.0 p.2
    c.pair_code.result c.pair_code.ensures c.turn.ensures (take (length a.rec.now - 7) (drop 7 a.rec.now)) (lanes_behind w a.rec.now p.0.long)
    gather.new.octets c.end.new.table c.end.new.self gather.result p.1 gather.ensures c.end.ensures
