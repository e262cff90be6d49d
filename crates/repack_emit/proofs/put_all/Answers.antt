-- `repack_emit::put_all` meets its contract: stretch by stretch, what is left to write gets less. Assumes nothing.
use native.Mathlib.Omega.{arith}
use Rattle.repack_scratch.specs.Codes.{total}
use Rattle.repack_emit.proofs.Tables.{entry_at, packing_starts, packing_held, packing_fits, packing_next, packing_done}
use Rattle.repack_emit.proofs.put_all.Goals as goal

pub loop-e-init : goal.loop-e-init
loop-e-init g c = packing_starts _ c.args.v _ c.args.table.now c.args.out.now c.requires.room

pub put_stretch-to-requires : goal.put_stretch-to-requires
put_stretch-to-requires g c =
    let a = c.args in
    let l = c.loop-e in
    let n = c.count-left in
    let cut = entry_at a.table.now l.e-index c.loop-e-test.true in
    let held = packing_held _ a.v _ a.table.now a.out.now l.out l.to l.from l.e-index l.invariant _ c.head_of.result n.result cut c.head_of.ensures n.ensures in (
      g.met.I.Items.part a.items.now 0 (total a.table.now) l.from n.result (omega arith) (omega (arith, held)) c.requires.held,
      packing_fits _ a.v _ a.table.now a.out.now l.out l.to l.from l.e-index l.invariant _ c.head_of.result n.result cut c.head_of.ensures n.ensures c.requires.few.0 c.requires.few.1 c.requires.few.2,
    )

pub overflow_add-from : goal.overflow_add-from
overflow_add-from g c =
    let a = c.args in
    let l = c.loop-e in
    let n = c.count-left in
    let cut = entry_at a.table.now l.e-index c.loop-e-test.true in
    let fits = packing_fits _ a.v _ a.table.now a.out.now l.out l.to l.from l.e-index l.invariant _ c.head_of.result n.result cut c.head_of.ensures n.ensures c.requires.few.0 c.requires.few.1 c.requires.few.2 in
    record { fits = fits.counted }

pub loop-e-preserved : goal.loop-e-preserved
loop-e-preserved g c =
    let a = c.args in
    let l = c.loop-e in
    let n = c.count-left in
    let put = c.put_stretch-to in
    let cut = entry_at a.table.now l.e-index c.loop-e-test.true in
    packing_next _ a.v _ a.table.now a.out.now l.out l.to l.from l.e-index l.invariant _ c.head_of.result n.result cut c.head_of.ensures n.ensures put.new.out put.result put.ensures

pub returns : goal.returns
returns g c =
    let a = c.args in
    let l = c.loop-e in
    packing_done _ a.v _ a.table.now a.out.now l.out l.to l.from l.e-index l.invariant c.loop-e-test.false
