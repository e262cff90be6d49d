-- `stream_fill_in::fill` meets its contract. The loop's invariant: the records in front stand filled, and what follows is as it
-- was. Assumes nothing.
use native.Mathlib.Omega.{arith}
use Rattle.std.proofs.Common.{refl}
use Rattle.stream_spec.proofs.Size.{size_pos}
use Rattle.stream_fill_in.proofs.Laws.{place-before, place-end, filling_start, filling_more, filling_end}
use Rattle.stream_fill_in.proofs.fill.Goals as goal

pub nonzero_div-count : goal.nonzero_div-count
nonzero_div-count c = rw c.record_size-size.ensures (size_pos c.args.s)

pub loop-k-init : goal.loop-k-init
loop-k-init c = filling_start c.args.level c.args.s c.args.capture.now _ (omega arith) c.requires

pub loop-k-preserved : goal.loop-k-preserved
loop-k-preserved c =
    let a = c.args in
    let size = c.record_size-size in
    let put = c.put_last in
    filling_more a.level a.s a.capture.now c.loop-k.capture _ c.loop-k.invariant
    (place-before a.s a.capture.now size.result c.requires size.ensures c.loop-k.k _ refl c.loop-k-test.true)
    size.result size.ensures put.new.rec put.ensures _ (omega arith)

pub returns : goal.returns
returns c =
    let a = c.args in
    let size = c.record_size-size in
    record {
      octets =
          filling_end a.level a.s a.capture.now c.loop-k.capture _ c.loop-k.invariant
          (place-end a.s a.capture.now size.result c.requires size.ensures c.loop-k.k _ refl c.loop-k-test.false);
      count = rw size.ensures refl;
    }
