-- `repack_parse::usual::add_usual` meets its contract: the words give TLAST and TKEEP, gathered and ended. Assumes nothing.
use native.Mathlib.Omega.{arith}
use Rattle.stream_spec.specs.Layout.{of_width}
use Rattle.stream_spec.proofs.Size.{size_holds}
use Rattle.repack_parse.proofs.Skimming.{usual_added}
use Rattle.repack_parse.proofs.usual.add_usual.Goals as goal

pub load-lo-requires : goal.load-lo-requires
load-lo-requires c = omega (arith, c.requires.usual.0, size_holds (of_width c.args.lanes.width))

pub load-hi-requires : goal.load-hi-requires
load-hi-requires c = omega (arith, c.requires.usual.0, size_holds (of_width c.args.lanes.width))

pub gather-state-requires-clause-lanes : goal.gather-state-requires-clause-lanes
gather-state-requires-clause-lanes c =
    let u = c.requires.usual in
    (omega (arith, u.1.within, c.load-hi.ensures), omega arith, omega (arith, u.0, size_holds (of_width c.args.lanes.width)))

pub returns : goal.returns
returns c =
    let a = c.args in
    let p = c.requires in
    usual_added a.lanes.width a.transfers.now a.octets.now a.table.now a.state.now a.at a.lanes.full (λ i. omega (arith, c.type_inv.transfers i)) p.usual.0 a.lanes.wide.full p.ready p.usual.1
    c.gather-state.new.octets c.end.new.table c.end.new.self c.gather-state.result c.load-lo.result c.load-hi.result
    c.load-lo.ensures c.load-hi.ensures c.gather-state.ensures c.end.ensures
