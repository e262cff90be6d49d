-- `stream_data::find_start` meets its contract: the tests in front, then INDEX, then the place. Assumes nothing.
use Rattle.std.proofs.lemmas.Result.{err_from_is_err_and}
use Rattle.stream_spec.proofs.Size.{size_pos}
use Rattle.stream_data.proofs.DataPart.{looked_refused, looked_index, looked_present, is-there, part-within, start-present}
use Rattle.stream_data.proofs.find_start.Goals as goal

pub returns-in_err-new-clause-looked : goal.returns-in_err-new-clause-looked
returns-in_err-new-clause-looked c =
    let a = c.args in
    let p = err_from_is_err_and c.from_residual.result c.from_residual.ensures.1 in
    rw (p.1, p.2) (looked_refused a.s a.capture.now a.k c.new.result c.new.ensures.refused _ c.in_err-new.was)

pub nonzero_div-capture : goal.nonzero_div-capture
nonzero_div-capture c = rw c.record_size-size.ensures (size_pos c.args.s)

pub returns-then-capture-size-clause-looked : goal.returns-then-capture-size-clause-looked
returns-then-capture-size-clause-looked c =
    let a = c.args in
    looked_index a.s a.capture.now a.k c.new.result c.new.ensures.refused _ c.in_ok-new.was (rw c.record_size-size.ensures at c.if-capture-size.true)

pub returns-clause-looked : goal.returns-clause-looked
returns-clause-looked c =
    let a = c.args in
    looked_present a.s a.capture.now a.k
    (is-there a.s a.capture.now a.k c.new.result c.new.ensures.refused _ c.in_ok-new.was (rw c.record_size-size.ensures at c.if-capture-size.false))

pub returns-clause-start : goal.returns-clause-start
returns-clause-start c =
    let a = c.args in
    start-present a.s a.capture.now a.k _ c.record_size-size.ensures
    (is-there a.s a.capture.now a.k c.new.result c.new.ensures.refused _ c.in_ok-new.was (rw c.record_size-size.ensures at c.if-capture-size.false))

pub returns-clause-within : goal.returns-clause-within
returns-clause-within c =
    let a = c.args in
    part-within a.s a.capture.now a.k _ c.record_size-size.ensures
    (is-there a.s a.capture.now a.k c.new.result c.new.ensures.refused _ c.in_ok-new.was (rw c.record_size-size.ensures at c.if-capture-size.false))
