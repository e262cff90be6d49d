-- `stream_downsize::put_all` meets its contract: what is written and the slices of the records that are left are the slices of all.
-- Assumes nothing.
use Rattle.std.proofs.Common.{rules, ap, ◌∙◌}
use Rattle.std.specs.Slice.Iter.{chunks_exact_rest, chunks_exact_size}
use Rattle.stream_spec.proofs.Size.{size_pos}
use Rattle.stream_downsize.proofs.Take.{sliding_starts, sliding_asks, sliding_next, sliding_done}
use Rattle.stream_downsize.proofs.put_all.Goals as goal

pub loop-rec-init : goal.loop-rec-init
loop-rec-init c =
    let a = c.args in
    let i = c.into_iter-rec-iterator.ensures.into_iter_gives in
    let e = c.records-rec-items.ensures in
    let sized = ap chunks_exact_size i ∙ e.size in
    let pos = size_pos a.take.now.shape in
    (search rules, tt, sized, sliding_starts a.take.now.shape a.t a.take.now.octets.now a.out.now _ c.requires (ap chunks_exact_rest i ∙ e.rest))

pub put_slices-to-requires : goal.put_slices-to-requires
put_slices-to-requires c =
    let st = c.in-Some.ensures.steps in
    let l = c.loop-rec.invariant in
    sliding_asks _ _ _ _ _ _ _ l.3 _ _ st.1.0 (st.1.1 ∙ l.2) c.args.out.now c.requires

pub loop-rec-preserved : goal.loop-rec-preserved
loop-rec-preserved c =
    let st = c.in-Some.ensures.steps in
    let l = c.loop-rec.invariant in
    (search rules, tt, st.0 ∙ l.2, sliding_next _ _ _ _ _ _ _ l.3 _ _ st.1.0 (st.1.1 ∙ l.2) _ _ c.put_slices-to.ensures.writes)

pub returns : goal.returns
returns c =
    let l = c.loop-rec.invariant in
    sliding_done _ _ _ _ _ _ _ l.3 (rw (← l.2) c.in-None.ensures.steps.1.0)
