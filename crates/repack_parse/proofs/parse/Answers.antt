-- `repack_parse::parse` meets its contract: the usual records, then one of another kind, and at last the open stretch. Assumes nothing.
use Rattle.std.proofs.Common.{rules, Err, ◌≡◌}
use native.Mathlib.Omega.{arith}
use Rattle.stream_spec.specs.Layout.{of_width}
use Rattle.stream_spec.specs.Walk.{Passed}
use Rattle.repack_parse.proofs.Parsing.{bare_shape, parsing_starts, parsing_skimmed, parsing_done, parsing_fits, parsing_refused, parsing_read, parsing_marked}
use Rattle.repack_parse.proofs.parse.Goals as goal

pub loop-at-init : goal.loop-at-init
loop-at-init c =
    let a = c.args in
    let p = c.requires in
    let take = a.take.now in
    let w = c.new-lanes.result.width in
    let passed : Passed (of_width w) take.octets.now = (rw (bare_shape take.shape w p.bare.0 c.new-lanes.ensures) at take.passed) in
    rw c.new-state.ensures
    (parsing_starts w take.octets.now a.octets.now a.marks.now a.table.now passed p.bare.1 p.room.0 p.room.1 p.room.2)

pub returns-then-transfers-at : goal.returns-then-transfers-at
returns-then-transfers-at c =
    let l = c.loop-at in
    let k = c.skim-at in
    let transfers = c.args.take.now.octets.now in
    let w = c.new-lanes.result.width in
    let q = parsing_skimmed w transfers l.octets l.marks l.table l.state l.at l.plain l.invariant k.new.octets k.new.table k.new.state k.result k.ensures in
    rw (← c.new-lanes.ensures)
    (parsing_done w transfers k.new.octets l.marks k.new.table k.new.state k.result l.plain q c.if-transfers-at.true c.finish.new.table c.finish.result c.finish.ensures)

pub slice_bounds-rec-end : goal.slice_bounds-rec-end
slice_bounds-rec-end c =
    let l = c.loop-at in
    let k = c.skim-at in
    let transfers = c.args.take.now.octets.now in
    let w = c.new-lanes.result.width in
    let q = parsing_skimmed w transfers l.octets l.marks l.table l.state l.at l.plain l.invariant k.new.octets k.new.table k.new.state k.result k.ensures in
    omega (arith, parsing_fits w transfers k.new.octets l.marks k.new.table k.new.state k.result l.plain q c.if-transfers-at.false c.record_size.result c.record_size.ensures)

pub returns-in_err-unusual : goal.returns-in_err-unusual
returns-in_err-unusual c =
    let l = c.loop-at in
    let k = c.skim-at in
    let transfers = c.args.take.now.octets.now in
    let w = c.new-lanes.result.width in
    let q = parsing_skimmed w transfers l.octets l.marks l.table l.state l.at l.plain l.invariant k.new.octets k.new.table k.new.state k.result k.ensures in
    let f = c.in_err-unusual in
    let given : c.from_residual.result ≡ Err f.field-0.0 = search rules in
    rw (given, ← c.new-lanes.ensures)
    (parsing_refused w transfers k.new.octets l.marks k.new.table k.new.state k.result l.plain q c.if-transfers-at.false c.record_size.result c.record_size.ensures f.field-0.0 f.ensures)

pub loop-at-preserved-then-branch : goal.loop-at-preserved-then-branch
loop-at-preserved-then-branch c =
    let l = c.loop-at in
    let k = c.skim-at in
    let u = c.unusual in
    let transfers = c.args.take.now.octets.now in
    let w = c.new-lanes.result.width in
    let q = parsing_skimmed w transfers l.octets l.marks l.table l.state l.at l.plain l.invariant k.new.octets k.new.table k.new.state k.result k.ensures in
    parsing_marked w transfers k.new.octets l.marks k.new.table k.new.state k.result l.plain q c.if-transfers-at.false c.record_size.result c.record_size.ensures
    u.new.octets u.new.marks u.new.table u.new.state u.auto.octets u.auto.marks c.in_ok-unusual.ensures.0

pub loop-at-preserved : goal.loop-at-preserved
loop-at-preserved c =
    let l = c.loop-at in
    let k = c.skim-at in
    let u = c.unusual in
    let transfers = c.args.take.now.octets.now in
    let w = c.new-lanes.result.width in
    let q = parsing_skimmed w transfers l.octets l.marks l.table l.state l.at l.plain l.invariant k.new.octets k.new.table k.new.state k.result k.ensures in
    let n = c.in_ok-unusual.ensures in
    parsing_read w transfers k.new.octets l.marks k.new.table k.new.state k.result l.plain q c.if-transfers-at.false c.record_size.result c.record_size.ensures
    u.new.octets u.new.marks u.new.table u.new.state u.auto.octets u.auto.marks n.0 (n.1 c.if-branch.false)
