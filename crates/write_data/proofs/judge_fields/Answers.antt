-- `write_data::judge_fields` meets its contract: the first fault of the records left is the first of all. Assumes nothing.
use Rattle.std.proofs.Common.{rules, ap, ◌∙◌}
use Rattle.std.specs.Slice.Iter.{chunks_exact_rest, chunks_exact_size}
use Rattle.write_data.proofs.Fields.{bus-fits, size_pos}
use Rattle.write_data.proofs.Turns.{looking_start, looking_found, looking_next, looking_end}
use Rattle.write_data.proofs.judge_fields.Goals as goal

pub beat_size-requires : goal.beat_size-requires
beat_size-requires c = (bus-fits c.args.bus c.requires.allowed).most

pub chunks_exact-requires : goal.chunks_exact-requires
chunks_exact-requires c = rw c.beat_size.ensures (size_pos c.args.bus)

pub loop-k-init : goal.loop-k-init
loop-k-init c =
    let e = c.enumerate-k-items.ensures in
    let i = c.into_iter-k-iterator.ensures.into_iter_gives in
    let sized = ap (λ x. chunks_exact_size x.iter) i ∙ ap chunks_exact_size e.source ∙ c.chunks_exact.ensures.size ∙ c.beat_size.ensures in
    let pos = size_pos c.args.bus in
    record {
      goes_on = search rules;
      ends = tt;
      each = sized;
      looking =
          rw (ap (λ x. chunks_exact_rest x.iter) i ∙ ap chunks_exact_rest e.source ∙ c.chunks_exact.ensures.rest, ap (λ x. x.count) i ∙ e.count)
          (looking_start c.args.bus c.args.beats.now c.requires);
    }

pub field_fault-requires : goal.field_fault-requires
field_fault-requires c = (c.requires.allowed, c.in-Some.ensures.steps.0.1.1 ∙ c.loop-k.invariant.each)

pub returns-then-field_fault : goal.returns-then-field_fault
returns-then-field_fault c =
    let st = c.in-Some.ensures.steps in
    rw st.1
    (looking_found c.args.bus c.args.beats.now _ _ c.loop-k.invariant.looking c.in-Some.rec.now _ st.0.1.0 (st.0.1.1 ∙ c.loop-k.invariant.each)
    c.field_fault.result c.field_fault.ensures c.if-field_fault.true)

pub loop-k-preserved : goal.loop-k-preserved
loop-k-preserved c =
    let st = c.in-Some.ensures.steps in
    record {
      goes_on = search rules;
      ends = tt;
      each = st.0.0 ∙ c.loop-k.invariant.each;
      looking =
          rw st.2
          (looking_next c.args.bus c.args.beats.now _ _ c.loop-k.invariant.looking c.in-Some.rec.now _ st.0.1.0 (st.0.1.1 ∙ c.loop-k.invariant.each)
          c.field_fault.result c.field_fault.ensures c.if-field_fault.false);
    }

pub returns : goal.returns
returns c =
    looking_end c.args.bus c.args.beats.now _ _ c.loop-k.invariant.looking
    (rw (← c.loop-k.invariant.each) c.in-None.ensures.steps.0.1.0)
