-- `Take::first_fault` meets its contract: the first fault of the records that are left is the first of all. Assumes nothing.
use Rattle.std.proofs.Common.{rules, Some, ◌≡◌, ap, ◌∙◌}
use Rattle.std.specs.Result.{result_err}
use Rattle.std.specs.Slice.Iter.{chunks_exact_rest, chunks_exact_size}
use Rattle.stream_spec.proofs.Size.{size_pos}
use Rattle.stream_record.proofs.Tests.{refused-is, passed_is}
use Rattle.stream_record.proofs.RecordFaults.{ahead_starts, ahead_found, ahead_next, ahead_done}
use Rattle.stream_record.proofs.Walking.{walking_starts, walking_within, walking_next}
use Rattle.stream_record.proofs.take.Take.first_fault.Goals as goal

pub loop-k-init : goal.loop-k-init
loop-k-init g c =
    let t = c.args.self.now in
    let e = c.enumerate-k-items.ensures in
    let i = c.into_iter-k-iterator.ensures.into_iter_gives in
    let sized = ap (λ x. chunks_exact_size x.iter) i ∙ ap chunks_exact_size e.source ∙ c.records.ensures.size in
    let all = ap (λ x. chunks_exact_rest x.iter) i ∙ ap chunks_exact_rest e.source ∙ c.records.ensures.rest in
    let none = ap (λ x. x.count) i ∙ e.count in
    let pos = size_pos t.shape in (
      search rules,
      tt,
      sized,
      walking_starts t.shape t.octets.now _ _ t.passed.whole all none,
      λ checks told. ahead_starts checks t.shape t.octets.now _ _ t.passed.whole all none,
    )

pub fault-requires : goal.fault-requires
fault-requires g c =
    let t = c.args.self.now in
    let st = c.in-Some.ensures.steps in
    let long = st.0.1.1 ∙ c.loop-k.invariant.2 in
    c.requires c.in-Some.k c.in-Some.rec
    (walking_within t.shape t.octets.now _ _ c.loop-k.invariant.3 _ _ st.0.1.0 long c.in-Some.k st.1) long

pub loop-k-preserved : goal.loop-k-preserved
loop-k-preserved g c =
    let t = c.args.self.now in
    let st = c.in-Some.ensures.steps in
    let r = c.fault in
    let long = st.0.1.1 ∙ c.loop-k.invariant.2 in
    let within = walking_within t.shape t.octets.now _ _ c.loop-k.invariant.3 _ _ st.0.1.0 long c.in-Some.k st.1 in (
      search rules,
      tt,
      st.0.0 ∙ c.loop-k.invariant.2,
      walking_next t.shape t.octets.now _ _ c.loop-k.invariant.3 _ _ st.0.1.0 long _ st.2,
      λ checks told. ahead_next checks t.shape t.octets.now _ _ (c.loop-k.invariant.4 checks told) _ _ st.0.1.0 long
          c.in-Some.k st.1 _ st.2
          (passed_is r.result (checks c.in-Some.k c.in-Some.rec.now) (told c.in-Some.k c.in-Some.rec r.result within long r.ensures) _ c.in_ok-fault.was),
    )

pub returns-in_err-fault : goal.returns-in_err-fault
returns-in_err-fault g c =
    let t = c.args.self.now in
    let st = c.in-Some.ensures.steps in
    let r = c.fault in
    let f = c.in_err-fault in
    let long = st.0.1.1 ∙ c.loop-k.invariant.2 in
    let within = walking_within t.shape t.octets.now _ _ c.loop-k.invariant.3 _ _ st.0.1.0 long c.in-Some.k st.1 in
    let given : result_err c.from_residual.result ≡ Some f.field-0.0 = search rules in
    λ checks told. given
    ∙ ahead_found checks t.shape t.octets.now _ _ (c.loop-k.invariant.4 checks told) _ _ st.0.1.0 long
    c.in-Some.k st.1 _ (refused-is r.result (checks c.in-Some.k c.in-Some.rec.now) (told c.in-Some.k c.in-Some.rec r.result within long r.ensures) _ f.was)

pub returns : goal.returns
returns g c =
    let t = c.args.self.now in
    λ checks told. ahead_done checks t.shape t.octets.now _ _ (c.loop-k.invariant.4 checks told)
    (rw (← c.loop-k.invariant.2) c.in-None.ensures.steps.0.1.0)
