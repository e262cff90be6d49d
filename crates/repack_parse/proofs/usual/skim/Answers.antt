-- `repack_parse::usual::skim` meets its contract: a usual record at a time. Assumes nothing.
use native.Mathlib.Omega.{arith}
use Rattle.stream_spec.specs.Layout.{of_width}
use Rattle.stream_spec.proofs.Size.{size_holds}
use Rattle.repack_parse.proofs.Take.{reading-fits, reading_ready}
use Rattle.repack_parse.proofs.Skimming.{usual_faultless, skimmed_next}
use Rattle.repack_parse.proofs.usual.skim.Goals as goal

pub usual_at-requires : goal.usual_at-requires
usual_at-requires c =
    let l = c.loop-at in
    let a = c.args in
    let s = of_width a.lanes.width in
    (omega (arith, reading-fits s a.transfers.now l.octets l.table l.state l.at l.invariant.reading c.loop-at-test.true, size_holds s), l.invariant.reading.pair)

pub add_usual-requires-clause-usual : goal.add_usual-requires-clause-usual
add_usual-requires-clause-usual c =
    let l = c.loop-at in
    let a = c.args in
    (reading-fits (of_width a.lanes.width) a.transfers.now l.octets l.table l.state l.at l.invariant.reading c.loop-at-test.true, c.usual_at.ensures c.if-usual_at.true)

pub loop-at-preserved : goal.loop-at-preserved
loop-at-preserved c =
    let add = c.add_usual in
    let l = c.loop-at in
    let a = c.args in
    let w = a.lanes.width in
    let s = of_width w in
    let more = c.loop-at-test.true in
    let reading = l.invariant.reading in
    rw c.record_size-z.ensures
    (skimmed_next w a.transfers.now a.octets.now a.table.now a.state.now a.from l.octets l.table l.state l.at l.invariant add.new.octets add.new.table add.new.state more
    (usual_faultless w a.transfers.now l.octets l.table l.state l.at a.lanes.full (λ i. omega (arith, c.type_inv.transfers i))
    (reading-fits s a.transfers.now l.octets l.table l.state l.at reading more) a.lanes.wide.full
    (reading_ready s a.transfers.now l.octets l.table l.state l.at reading more) (c.usual_at.ensures c.if-usual_at.true) _)
    add.ensures)
