-- `report_call::outcome::packets` meets its contract: the records that are left, and those that were counted. Assumes nothing.
use Rattle.std.proofs.Common.{rules, ap, ◌∙◌}
use Rattle.std.specs.Slice.Iter.{chunks_exact_rest, chunks_exact_size}
use Rattle.stream_spec.proofs.Size.{size_pos}
use Rattle.report_call.proofs.Packets.{counting_start, counted_flag, counted}
use Rattle.report_call.proofs.outcome.packets.Goals as goal

pub loop-rec-init : goal.loop-rec-init
loop-rec-init c =
    let t = c.args.transfers.now in
    let i = c.into_iter-rec-iterator.ensures.into_iter_gives in
    let sized = ap chunks_exact_size i ∙ c.records-rec-items.ensures.size in
    let pos = size_pos t.shape in
    (search rules, tt, sized, counting_start t.shape t.octets.now _ t.passed.whole (ap chunks_exact_rest i ∙ c.records-rec-items.ensures.rest))

pub loop-rec-preserved : goal.loop-rec-preserved
loop-rec-preserved c =
    let t = c.args.transfers.now in
    let st = c.in-Some.ensures.steps in
    let inv = c.loop-rec.invariant in (
      search rules,
      tt,
      st.0 ∙ inv.2,
      rw c.from-n.ensures (counted_flag t.shape t.octets.now _ _ inv.3 _ _ st.1.0 (st.1.1 ∙ inv.2) c.tlast.result (rw (← c.from.ensures) c.tlast.ensures)),
    )

pub returns : goal.returns
returns c =
    let t = c.args.transfers.now in
    counted t.shape t.octets.now _ _ c.loop-rec.invariant.3 (rw (← c.loop-rec.invariant.2) c.in-None.ensures.steps.1.0)
