-- `repack_tagged_parse::parse` meets its contract: record by record, and at last the open stretch. Assumes nothing.
use Rattle.std.proofs.Common.{rules, Err, ◌≡◌, ap, ◌∙◌}
use Rattle.std.specs.Slice.Iter.{chunks_exact_rest, chunks_exact_size}
use Rattle.stream_spec.proofs.Size.{size_pos}
use Rattle.repack_tagged_parse.proofs.Parsing.{parsing_starts, parsing_refused, parsing_next, parsing_done}
use Rattle.repack_tagged_parse.proofs.parse.Goals as goal

pub loop-k-init : goal.loop-k-init
loop-k-init c =
    let a = c.args in
    let t = a.take.now in
    let e = c.enumerate-k-items.ensures in
    let i = c.into_iter-k-iterator.ensures.into_iter_gives in
    let sized = ap (λ x. chunks_exact_size x.iter) i ∙ ap chunks_exact_size e.source ∙ c.records.ensures.size in
    let pos = size_pos t.shape in
    let starts =
    parsing_starts t.shape t.octets.now _ a.items.now a.table.now _ t.passed c.requires.0 c.requires.1
    (ap (λ x. chunks_exact_rest x.iter) i ∙ ap chunks_exact_rest e.source ∙ c.records.ensures.rest) (ap (λ x. x.count) i ∙ e.count) in
    (search rules, tt, sized, rw c.new-state.ensures starts)

pub loop-k-preserved : goal.loop-k-preserved
loop-k-preserved c =
    let t = c.args.take.now in
    let l = c.loop-k in
    let st = c.in-Some.ensures.steps in
    let r = c.read_record in (
      search rules,
      tt,
      st.0.0 ∙ l.invariant.2,
      parsing_next t.shape t.octets.now _ l.items l.table l.state _ l.invariant.3 _ _ st.0.1.0 (st.0.1.1 ∙ l.invariant.2)
          c.in-Some.k st.1 r.new.items r.new.table r.new.state _ st.2 r.auto.items c.in_ok-read_record.ensures,
    )

pub returns-in_err-read_record : goal.returns-in_err-read_record
returns-in_err-read_record c =
    let t = c.args.take.now in
    let l = c.loop-k in
    let st = c.in-Some.ensures.steps in
    let f = c.in_err-read_record in
    let given : c.from_residual.result ≡ Err f.field-0.0 = search rules in
    rw given
    (parsing_refused t.shape t.octets.now _ l.items l.table l.state _ l.invariant.3 _ _ st.0.1.0 (st.0.1.1 ∙ l.invariant.2)
    c.in-Some.k st.1 f.field-0.0 f.ensures)

pub returns : goal.returns
returns c =
    let t = c.args.take.now in
    let l = c.loop-k in
    parsing_done t.shape t.octets.now _ l.items l.table l.state _ l.invariant.3 (rw (← l.invariant.2) c.in-None.ensures.steps.0.1.0)
    c.finish.new.table c.finish.result c.finish.ensures
