-- `stream_record::bad_padding` meets its contract: the last octet, where lanes and octets do not end together. Assumes nothing.
use Rattle.std.proofs.Common.{not, eq-eqb, ap, ◌∙◌}
use native.Mathlib.Omega.{arith}
use Rattle.stream_spec.proofs.Size.{size_pos}
use Rattle.stream_record.proofs.Padding.{padding_clear, padding_set}
use Rattle.stream_record.proofs.bad_padding.Goals as goal

pub overflow_sub-result : goal.overflow_sub-result
overflow_sub-result c = omega (arith, c.requires.1, size_pos c.args.s)

pub bounds-rec-rec : goal.bounds-rec-rec
bounds-rec-rec c = omega (arith, c.requires.1, size_pos c.args.s)

pub returns-then-n-ne0 : goal.returns-then-n-ne0
returns-then-n-ne0 c =
    let a = c.args in
    let n = c.user_rest-n in
    padding_set a.s a.rec.now (λ i. omega (arith, c.shared_slice_known-1.given i)) n.result n.ensures.0 c.requires.1 n.ensures.1 c.if-n-ne0.true

pub returns-else-n-ne0 : goal.returns-else-n-ne0
returns-else-n-ne0 c =
    let a = c.args in
    let n = c.user_rest-n in
    ap not (eq-eqb n.result 0 c.if-n-ne0.false)
    ∙ padding_clear a.s a.rec.now (λ i. omega (arith, c.shared_slice_known-1.given i)) n.result n.ensures.0 c.if-n-ne0.false
