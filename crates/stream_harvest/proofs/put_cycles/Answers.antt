-- `stream_harvest::put_cycles` meets its contract. The loop's invariant: the output is written up to `to`, all but what the cycles left
-- will add. Assumes nothing.
use native.Mathlib.Omega.{arith}
use Rattle.std.proofs.Common.{rules, ap, ◌∙◌}
use Rattle.std.specs.Slice.Iter.{chunks_exact_rest, chunks_exact_size}
use Rattle.stream_spec.proofs.Size.{size_pos}
use Rattle.stream_harvest.proofs.Fill.{filling_start, asks, adds, goes_on, filled}
use Rattle.stream_harvest.proofs.put_cycles.Goals as goal

pub loop-rec-init : goal.loop-rec-init
loop-rec-init c =
    let t = c.args.take.now in
    let i = c.into_iter-rec-iterator.ensures.into_iter_gives in
    let sized = ap chunks_exact_size i ∙ c.records-rec-items.ensures.size in
    let pos = size_pos t.shape in
    (search rules, tt, sized, filling_start t.shape t.octets.now _ c.args.out.now (ap chunks_exact_rest i ∙ c.records-rec-items.ensures.rest) t.passed c.requires)

pub put_cycle-to-requires : goal.put_cycle-to-requires
put_cycle-to-requires c =
    let t = c.args.take.now in
    let l = c.loop-rec in
    let st = c.in-Some.ensures.steps in
    asks t.shape t.octets.now _ c.args.out.now l.out l.to l.invariant.3 _ _ st.1.0 (st.1.1 ∙ l.invariant.2) t.passed

pub overflow_add-to : goal.overflow_add-to
overflow_add-to c =
    let t = c.args.take.now in
    let l = c.loop-rec in
    let st = c.in-Some.ensures.steps in
    let put = c.put_cycle-to in
    let more = adds t.shape t.octets.now _ c.args.out.now l.out l.to l.invariant.3 _ _ st.1.0 (st.1.1 ∙ l.invariant.2) put.new.out put.result put.ensures in
    omega (arith, more, l.auto.out)

pub loop-rec-preserved : goal.loop-rec-preserved
loop-rec-preserved c =
    let t = c.args.take.now in
    let l = c.loop-rec in
    let st = c.in-Some.ensures.steps in
    let put = c.put_cycle-to in (
      search rules,
      tt,
      st.0 ∙ l.invariant.2,
      goes_on t.shape t.octets.now _ c.args.out.now l.out l.to l.invariant.3 _ _ st.1.0 (st.1.1 ∙ l.invariant.2) put.new.out put.result put.ensures,
    )

pub returns : goal.returns
returns c =
    let t = c.args.take.now in
    let l = c.loop-rec in
    filled t.shape t.octets.now _ c.args.out.now l.out l.to l.invariant.3 (rw (← l.invariant.2) c.in-None.ensures.steps.1.0)
