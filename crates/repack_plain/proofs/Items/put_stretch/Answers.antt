-- `repack_plain::Items::put_stretch` meets its contract: full records while more is left than one holds, then the last. Assumes nothing.
use native.Mathlib.Omega.{arith}
use Rattle.repack_plain.proofs.Stretches.{full_fits, full-written, last_fits, last_written}
use Rattle.repack_plain.proofs.Items.put_stretch.Goals as goal

pub put_record-requires : goal.put_record-requires
put_record-requires g c =
    let a = c.args in
    let l = c.loop-d in
    let held = g.met.Self.Items.held a.self.now a.c.from a.c.left c.requires.0 in (
      g.met.Self.Items.part a.self.now a.c.from a.c.left l.d.from a.v (omega (arith, l.invariant.end, l.invariant.less)) (omega (arith, l.invariant.end, c.loop-d-test.true)) c.requires.0,
      full_fits _ a.v a.head _ _ a.c c.requires.1 held l.out l.d l.invariant c.loop-d-test.true,
    )

pub loop-d-preserved : goal.loop-d-preserved
loop-d-preserved g c =
    let a = c.args in
    let l = c.loop-d in
    let held = g.met.Self.Items.held a.self.now a.c.from a.c.left c.requires.0 in
    full-written _ a.v a.head _ _ a.c c.requires.1 held l.out l.d l.invariant c.loop-d-test.true c.record_size-size.result
    c.record_size-size.ensures.0 c.put_record.new.out (rw (← c.record_size-size.ensures.0) at c.put_record.ensures)

pub put_record-requires-2 : goal.put_record-requires-2
put_record-requires-2 g c =
    let a = c.args in
    let l = c.loop-d in
    let held = g.met.Self.Items.held a.self.now a.c.from a.c.left c.requires.0 in (
      g.met.Self.Items.part a.self.now a.c.from a.c.left l.d.from l.d.left (omega (arith, l.invariant.end, l.invariant.less)) (omega (arith, l.invariant.end)) c.requires.0,
      last_fits _ a.v a.head _ _ a.c c.requires.1 held l.out l.d l.invariant c.loop-d-test.false,
    )

pub returns : goal.returns
returns g c =
    let a = c.args in
    let l = c.loop-d in
    let held = g.met.Self.Items.held a.self.now a.c.from a.c.left c.requires.0 in
    last_written _ a.v a.head _ _ a.c c.requires.1 held l.out l.d l.invariant c.loop-d-test.false c.record_size-size.result c.record_size-size.ensures.0
    c.put_record-2.new.out (rw (← c.record_size-size.ensures.0) at c.put_record-2.ensures)
