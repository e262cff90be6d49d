-- `stream_downsize::downsize` meets its contract: the tests in the paper's order, each with what those before it have passed, then all
-- slices. Assumes nothing.
use Rattle.std.proofs.Common.{rules, Err, ◌≡◌, ap, ◌∙◌, arith}
use Rattle.stream_spec.specs.Layout.{size}
use Rattle.stream_spec.proofs.Size.{size_pos}
use Rattle.stream_downsize.proofs.Answer.{tested_by, cuts_of, passed_of, product_fits, bad-shapes, bad-ratio, bad-length, bad_record, no_room, fits-take, all-written}
use Rattle.stream_downsize.proofs.downsize.Goals as goal

pub returns-in_err-check_shapes : goal.returns-in_err-check_shapes
returns-in_err-check_shapes c =
    let e = c.in_err-check_shapes in
    let given : c.from_residual.result ≡ Err e.field-0.0 = search rules in
    rw given (bad-shapes _ _ _ _ _ e.ensures)

pub returns-then-s-v-ne0 : goal.returns-then-s-v-ne0
returns-then-s-v-ne0 c = bad-ratio _ _ _ _ c.in_ok-check_shapes.ensures c.if-s-v-ne0.true

pub returns-in_err-check_length : goal.returns-in_err-check_length
returns-in_err-check_length c =
    let e = c.in_err-check_length in
    let given : c.from_residual-in_err-check_length.result ≡ Err e.field-0.0 = search rules in
    rw given (bad-length _ _ _ _ c.in_ok-check_shapes.ensures c.if-s-v-ne0.false _ e.ensures)

pub returns-in_err-find_fault : goal.returns-in_err-find_fault
returns-in_err-find_fault c =
    let e = c.in_err-find_fault in
    let given : c.from_residual-in_err-find_fault.result ≡ Err e.field-0.0 = search rules in
    let t = tested_by _ _ _ c.in_ok-check_shapes.ensures c.if-s-v-ne0.false c.in_ok-check_length.ensures in
    rw given (bad_record _ _ _ _ t _ e.ensures)

pub nonzero_div-n : goal.nonzero_div-n
nonzero_div-n c = rw c.record_size.ensures (size_pos c.args.s)

pub overflow_mul-n-2 : goal.overflow_mul-n-2
overflow_mul-n-2 c =
    let a = c.args in
    let t = tested_by _ _ _ c.in_ok-check_shapes.ensures c.if-s-v-ne0.false c.in_ok-check_length.ensures in
    record {
      fits = omega (
        arith,
        product_fits a.s a.v a.transfers.now (cuts_of _ _ _ t) c.record_size.result c.record_size.ensures c.record_size-2.result
            (c.record_size-2.ensures ∙ ap size c.at_width-t.ensures) (passed_of _ _ _ t).short,
      );
    }

pub returns-then-out-n : goal.returns-then-out-n
returns-then-out-n c =
    let t = tested_by _ _ _ c.in_ok-check_shapes.ensures c.if-s-v-ne0.false c.in_ok-check_length.ensures in
    no_room _ _ _ _ t c.in_ok-find_fault.ensures _ c.record_size.ensures _ (c.record_size-2.ensures ∙ ap size c.at_width-t.ensures) c.if-out-n.true

pub put_all-requires : goal.put_all-requires
put_all-requires c =
    let t = tested_by _ _ _ c.in_ok-check_shapes.ensures c.if-s-v-ne0.false c.in_ok-check_length.ensures in
    rw c.at_width-t.ensures
    (fits-take _ _ _ _ t c.in_ok-find_fault.ensures _ c.record_size.ensures _ (c.record_size-2.ensures ∙ ap size c.at_width-t.ensures) c.if-out-n.false)

pub returns : goal.returns
returns c =
    let t = tested_by _ _ _ c.in_ok-check_shapes.ensures c.if-s-v-ne0.false c.in_ok-check_length.ensures in
    all-written _ _ _ _ t c.in_ok-find_fault.ensures _ c.record_size.ensures _ (c.record_size-2.ensures ∙ ap size c.at_width-t.ensures) c.if-out-n.false
    _ (rw c.at_width-t.ensures at c.put_all.ensures)
