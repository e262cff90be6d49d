-- `stream_judge::judge_cycles` meets its contract. The loop's invariant: the verdict on the cycles left is the verdict on all.
-- Assumes nothing.
use native.Mathlib.Omega.{arith}
use Rattle.std.proofs.Common.{rules, sym, ap, ◌∙◌}
use Rattle.std.proofs.lemmas.Result.{err_from_is_err_and}
use Rattle.std.specs.Slice.Iter.{chunks_exact_rest, chunks_exact_size}
use Rattle.stream_spec.specs.Layout.{bit_of}
use Rattle.stream_spec.proofs.Size.{size_pos, size_holds}
use Rattle.stream_record.proofs.Walking.{walking_starts, walking_next}
use Rattle.stream_judge.proofs.Turns.{walking_as, turning_as, turning_start, turns-end, turn-clear, turn-bad, few_more, counts, head_sound, head_bad, asks, asks_behind, finds, goes_on}
use Rattle.stream_judge.proofs.judge_cycles.Goals as goal

pub loop-k-init : goal.loop-k-init
loop-k-init c =
    let t = c.args.take.now in
    let e = c.enumerate-k-items.ensures in
    let i = c.into_iter-k-iterator.ensures.into_iter_gives in
    let sized = ap (λ x. chunks_exact_size x.iter) i ∙ ap chunks_exact_size e.source ∙ c.records.ensures.size in
    let all = ap (λ x. chunks_exact_rest x.iter) i ∙ ap chunks_exact_rest e.source ∙ c.records.ensures.rest in
    let none = ap (λ x. x.count) i ∙ e.count in
    let pos = size_pos t.shape in (
      search rules,
      tt,
      sized,
      walking_starts t.shape t.octets.now _ _ t.passed.whole all none,
      turning_start t.shape t.octets.now _ _ all none c.requires,
    )

pub head_fault-requires : goal.head_fault-requires
head_fault-requires c = omega (arith, c.in-Some.ensures.steps.0.1.1, c.loop-k.invariant.2, size_holds c.args.take.now.shape)

pub returns-in_err-head_fault : goal.returns-in_err-head_fault
returns-in_err-head_fault c =
    let t = c.args.take.now in
    let l = c.loop-k in
    let st = c.in-Some.ensures.steps in
    let long = st.0.1.1 ∙ l.invariant.2 in
    let walk = walking_as t.shape t.octets.now _ _ _ st.1 l.invariant.3 in
    let turn = turning_as t.shape t.octets.now _ l.prev.now _ _ l.count l.prev_flags st.1 l.invariant.4 in
    let clear = turn-clear t.shape t.octets.now _ l.prev.now _ l.count l.prev_flags turn walk _ _ st.0.1.0 long in
    let p = err_from_is_err_and c.from_residual.result c.from_residual.ensures.1 in
    let bad = head_bad t.shape c.must_be_zero-z.result c.in-Some.k c.in-Some.rec.now c.head_fault.result t.passed.high c.must_be_zero-z.ensures clear.0
    c.head_fault.ensures _ c.in_err-head_fault.was in
    rw (p.1, p.2, bad.1) (turn-bad t.shape t.octets.now _ l.prev.now _ l.count l.prev_flags turn walk _ _ st.0.1.0 long bad.0)

pub read_header-h-requires : goal.read_header-h-requires
read_header-h-requires c = omega (arith, c.in-Some.ensures.steps.0.1.1, c.loop-k.invariant.2, size_holds c.args.take.now.shape)

pub rule_of-requires : goal.rule_of-requires
rule_of-requires c =
    let t = c.args.take.now in
    let l = c.loop-k in
    let st = c.in-Some.ensures.steps in
    let long = st.0.1.1 ∙ l.invariant.2 in
    let clear = turn-clear t.shape t.octets.now _ l.prev.now _ l.count l.prev_flags l.invariant.4 l.invariant.3 _ _ st.0.1.0 long in
    let sound = head_sound t.shape c.must_be_zero-z.result c.in-Some.k c.in-Some.rec.now c.head_fault.result t.passed.high c.must_be_zero-z.ensures clear.0
    c.head_fault.ensures c.in_ok-head_fault.was in
    asks t.shape t.octets.now _ l.prev.now _ l.count l.prev_flags l.invariant.4 l.invariant.3 _ _ st.0.1.0 long t.passed
    c.read_header-h.result c.read_header-h.ensures sound

pub broken-requires : goal.broken-requires
broken-requires c =
    let t = c.args.take.now in
    let l = c.loop-k in
    let st = c.in-Some.ensures.steps in
    let long = st.0.1.1 ∙ l.invariant.2 in
    let walk = walking_as t.shape t.octets.now _ _ _ st.1 l.invariant.3 in
    let turn = turning_as t.shape t.octets.now _ l.prev.now _ _ l.count l.prev_flags st.1 l.invariant.4 in
    asks_behind t.shape t.octets.now _ l.prev.now _ l.count l.prev_flags turn walk _ _ st.0.1.0 long c.must_be_zero-z.result c.must_be_zero-z.ensures

pub returns-in-Some-rule_of : goal.returns-in-Some-rule_of
returns-in-Some-rule_of c =
    let t = c.args.take.now in
    let l = c.loop-k in
    let st = c.in-Some.ensures.steps in
    let long = st.0.1.1 ∙ l.invariant.2 in
    let walk = walking_as t.shape t.octets.now _ _ _ st.1 l.invariant.3 in
    let turn = turning_as t.shape t.octets.now _ l.prev.now _ _ l.count l.prev_flags st.1 l.invariant.4 in
    let clear = turn-clear t.shape t.octets.now _ l.prev.now _ l.count l.prev_flags turn walk _ _ st.0.1.0 long in
    let sound = head_sound t.shape c.must_be_zero-z.result c.in-Some.k c.in-Some.rec.now c.head_fault.result t.passed.high c.must_be_zero-z.ensures clear.0
    c.head_fault.ensures c.in_ok-head_fault.was in
    finds t.shape t.octets.now _ l.prev.now _ l.count l.prev_flags turn walk _ _ st.0.1.0 long sound c.in-Some-rule_of.rule
    (sym c.rule_of.ensures ∙ c.in-Some-rule_of.is) c.broken.result c.broken.ensures

pub overflow_add-count : goal.overflow_add-count
overflow_add-count c =
    let t = c.args.take.now in
    let l = c.loop-k in
    let st = c.in-Some.ensures.steps in
    let long = st.0.1.1 ∙ l.invariant.2 in
    let few = few_more t.shape t.octets.now _ l.prev.now _ l.count l.prev_flags l.invariant.4 l.invariant.3 _ _ st.0.1.0 long
    c.is_transfer.result c.from-count.result c.from-count.ensures t.passed in
    omega (arith, few)

pub loop-k-preserved : goal.loop-k-preserved
loop-k-preserved c =
    let t = c.args.take.now in
    let l = c.loop-k in
    let st = c.in-Some.ensures.steps in
    let long = st.0.1.1 ∙ l.invariant.2 in
    let clear = turn-clear t.shape t.octets.now _ l.prev.now _ l.count l.prev_flags l.invariant.4 l.invariant.3 _ _ st.0.1.0 long in
    let sound = head_sound t.shape c.must_be_zero-z.result c.in-Some.k c.in-Some.rec.now c.head_fault.result t.passed.high c.must_be_zero-z.ensures clear.0
    c.head_fault.ensures c.in_ok-head_fault.was in
    let none' = c.in_default.is in (
      search rules,
      tt,
      st.0.0 ∙ l.invariant.2,
      walking_next t.shape t.octets.now _ _ l.invariant.3 _ _ st.0.1.0 long _ st.2,
      goes_on t.shape t.octets.now _ l.prev.now _ l.count l.prev_flags l.invariant.4 l.invariant.3 _ _ st.0.1.0 long sound
          (sym c.rule_of.ensures ∙ none') c.read_header-h.result c.read_header-h.ensures c.from-count.result
          (counts c.is_transfer.result c.from-count.result c.from-count.ensures ∙ ap bit_of c.is_transfer.ensures) _ st.2,
    )

pub returns : goal.returns
returns c =
    let t = c.args.take.now in
    let l = c.loop-k in
    turns-end t.shape t.octets.now _ l.prev.now _ l.count l.prev_flags l.invariant.4 (rw (← l.invariant.2) c.in-None.ensures.steps.0.1.0)
