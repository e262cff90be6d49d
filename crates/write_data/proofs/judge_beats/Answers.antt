-- `write_data::judge_beats` meets its contract: the verdict on the beats left is the verdict on all. Assumes nothing.
use Rattle.std.proofs.Common.{rules, ap, ◌∙◌, ◌≡◌, ℕ, ◌/◌, ◌<◌, length, Ok}
use mathlib.Core.Path.{sym}
use Rattle.std.specs.Slice.Iter.{chunks_exact_rest, chunks_exact_size}
use native.Mathlib.Omega.{arith}
use Rattle.write_data_spec.specs.declared.WriteVerdict.TheVariants.{Broken}
use Rattle.write_data_spec.specs.Layout.{beat_size}
use Rattle.write_data.specs.Scan.{lowest_rule}
use Rattle.write_data.proofs.Fields.{bus-fits, size_pos}
use Rattle.write_data.proofs.Turns.{turning_start, asks, turning_found, turning_next, turning_few, turning_count, turning_short, turning_clean}
use Rattle.write_data.proofs.judge_beats.Goals as goal

pub beat_size-size-requires : goal.beat_size-size-requires
beat_size-size-requires c = (bus-fits c.args.accepted.burst.bus c.requires.whole.allowed).most

pub chunks_exact-requires : goal.chunks_exact-requires
chunks_exact-requires c = rw c.beat_size-size.ensures (size_pos c.args.accepted.burst.bus)

pub loop-k-init : goal.loop-k-init
loop-k-init c =
    let e = c.enumerate-k-items.ensures in
    let i = c.into_iter-k-iterator.ensures.into_iter_gives in
    let sized = ap (λ x. chunks_exact_size x.iter) i ∙ ap chunks_exact_size e.source ∙ c.chunks_exact.ensures.size ∙ c.beat_size-size.ensures in
    let pos = size_pos c.args.accepted.burst.bus in
    record {
      goes_on = search rules;
      ends = tt;
      each = sized;
      turning =
          rw (ap (λ x. chunks_exact_rest x.iter) i ∙ ap chunks_exact_rest e.source ∙ c.chunks_exact.ensures.rest, ap (λ x. x.count) i ∙ e.count)
          (turning_start c.args.accepted.burst c.args.beats.now c.requires);
    }

pub rule_of-requires : goal.rule_of-requires
rule_of-requires c =
    let st = c.in-Some.ensures.steps in
    asks c.args.accepted.burst c.args.beats.now _ _ _ c.loop-k.invariant.turning c.in-Some.rec.now _ st.0.1.0 (st.0.1.1 ∙ c.loop-k.invariant.each)
    c.requires.whole.allowed

pub returns-in-Some-rule_of : goal.returns-in-Some-rule_of
returns-in-Some-rule_of c =
    let st = c.in-Some.ensures.steps in
    rw st.1
    (turning_found c.args.accepted.burst c.args.beats.now _ _ _ c.loop-k.invariant.turning c.in-Some.rec.now _ st.0.1.0 (st.0.1.1 ∙ c.loop-k.invariant.each)
    c.in-Some-rule_of.rule (c.in-Some-rule_of.ensures ∙ ap (λ i. lowest_rule c.args.accepted.burst i c.in-Some.rec.now) st.1))

pub high_strobes-high-requires : goal.high_strobes-high-requires
high_strobes-high-requires c =
    let st = c.in-Some.ensures.steps in
    asks c.args.accepted.burst c.args.beats.now _ _ _ c.loop-k.invariant.turning c.in-Some.rec.now _ st.0.1.0 (st.0.1.1 ∙ c.loop-k.invariant.each)
    c.requires.whole.allowed

pub overflow_add-high : goal.overflow_add-high
overflow_add-high c =
    omega (
      arith,
      c.loop-k.invariant.turning.counted,
      turning_few c.args.accepted.burst c.args.beats.now _ _ _ c.loop-k.invariant.turning,
      c.requires.whole.short,
      c.high_strobes-high.ensures.1,
    )

pub loop-k-preserved : goal.loop-k-preserved
loop-k-preserved c =
    let st = c.in-Some.ensures.steps in
    record {
      goes_on = search rules;
      ends = tt;
      each = st.0.0 ∙ c.loop-k.invariant.each;
      turning =
          rw st.2
          (turning_next c.args.accepted.burst c.args.beats.now _ _ _ c.loop-k.invariant.turning c.in-Some.rec.now _ st.0.1.0 (st.0.1.1 ∙ c.loop-k.invariant.each)
          (sym c.in_default.is ∙ c.rule_of.ensures ∙ ap (λ i. lowest_rule c.args.accepted.burst i c.in-Some.rec.now) st.1) c.high_strobes-high.result c.high_strobes-high.ensures.0 c.high_strobes-high.ensures.1);
    }

pub nonzero_div-count : goal.nonzero_div-count
nonzero_div-count c = rw c.beat_size-size.ensures (size_pos c.args.accepted.burst.bus)

pub returns-then-count-b : goal.returns-then-count-b
returns-then-count-b c =
    let xs = c.args.beats.now in
    let t = c.loop-k.invariant.turning in
    let end : length (chunks_exact_rest c.loop-k.k-iterator.iter) < beat_size c.args.accepted.burst.bus = rw (← c.loop-k.invariant.each) c.in-None.ensures.steps.0.1.0 in
    let counted : length xs / c.beat_size-size.result ≡ c.loop-k.k-iterator.count =
    ap (λ (z : ℕ). length xs / z) c.beat_size-size.ensures ∙ turning_count c.args.accepted.burst xs _ _ _ t end
    in
    ap (λ (k : ℕ). Ok (Broken k 5)) counted ∙ turning_short c.args.accepted.burst xs _ _ _ t end (omega (arith, counted))

pub returns : goal.returns
returns c =
    let xs = c.args.beats.now in
    let t = c.loop-k.invariant.turning in
    let end : length (chunks_exact_rest c.loop-k.k-iterator.iter) < beat_size c.args.accepted.burst.bus = rw (← c.loop-k.invariant.each) c.in-None.ensures.steps.0.1.0 in
    let counted : length xs / c.beat_size-size.result ≡ c.loop-k.k-iterator.count =
    ap (λ (z : ℕ). length xs / z) c.beat_size-size.ensures ∙ turning_count c.args.accepted.burst xs _ _ _ t end
    in
    turning_clean c.args.accepted.burst xs _ _ _ t end (omega (arith, counted))
