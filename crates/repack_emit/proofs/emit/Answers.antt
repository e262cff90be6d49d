-- `repack_emit::emit` meets its contract: ROOM where the records do not fit, else all of them. Assumes nothing.
use Rattle.repack_scratch.specs.Codes.{total}
use Rattle.repack_emit.proofs.Answer.{product_fits, packed-long, emit_refused, emit_written}
use Rattle.repack_emit.proofs.emit.Goals as goal

pub overflow_mul-n : goal.overflow_mul-n
overflow_mul-n g c = record { fits = product_fits c.count-n.result c.record_size.result c.record_size.ensures.1 c.count-n.ensures.1 }

pub returns-then-out-n : goal.returns-then-out-n
returns-then-out-n g c =
    let a = c.args in
    let n = c.count-n in
    let held = g.met.I.Items.held a.items.now 0 (total a.table.now) c.requires.held in
    emit_refused _ a.v _ a.table.now a.out.now n.result c.record_size.result held n.ensures.0 c.record_size.ensures.0 c.if-out-n.true

pub put_all-requires : goal.put_all-requires
put_all-requires g c =
    let a = c.args in
    let n = c.count-n in
    let held = g.met.I.Items.held a.items.now 0 (total a.table.now) c.requires.held in
    let long = packed-long _ a.v _ a.table.now a.out.now n.result c.record_size.result held n.ensures.0 c.record_size.ensures.0 in
    record { few = c.requires.few; held = c.requires.held; room = rw long c.if-out-n.false }

pub returns : goal.returns
returns g c =
    let a = c.args in
    let n = c.count-n in
    let held = g.met.I.Items.held a.items.now 0 (total a.table.now) c.requires.held in
    emit_written _ a.v _ a.table.now a.out.now n.result c.record_size.result held n.ensures.0 c.record_size.ensures.0 c.put_all.new.out c.if-out-n.false c.put_all.ensures
