-- `repack_plain::put_fulls` meets its contract: a full record while more is left than it holds. Assumes nothing.
use native.Mathlib.Omega.{arith}
use Prim.Native.Nat.{◌+◌}
use Rattle.repack_plain.proofs.Stretches.{lent-room, lent_codes, data_held, full-room, full_fits, full-written}
use Rattle.repack_plain.proofs.put_fulls.Goals as goal

pub put_plain-requires : goal.put_plain-requires
put_plain-requires c =
    let a = c.args in
    let l = c.loop-c in
    let held = data_held a.octets.now (a.c.from + a.c.left) c.requires.0 in (
      lent-room a.octets.now l.c.from a.v (omega (arith, c.requires.1.high, l.invariant.end)),
      full_fits 0 a.v a.head _ _ a.c c.requires.1 held l.out l.c l.invariant c.loop-c-test.true,
    )

pub overflow_add-c : goal.overflow_add-c
overflow_add-c c =
    let a = c.args in
    let l = c.loop-c in
    let held = data_held a.octets.now (a.c.from + a.c.left) c.requires.0 in
    omega (arith, c.record_size.ensures, full-room 0 a.v a.head _ _ a.c c.requires.1 held l.out l.c l.invariant c.loop-c-test.true, l.invariant.same, c.well_formed)

pub loop-c-preserved : goal.loop-c-preserved
loop-c-preserved c =
    let a = c.args in
    let l = c.loop-c in
    let held = data_held a.octets.now (a.c.from + a.c.left) c.requires.0 in
    full-written 0 a.v a.head _ _ a.c c.requires.1 held l.out l.c l.invariant c.loop-c-test.true c.record_size.result c.record_size.ensures
    c.put_plain.new.out (rw (lent_codes a.octets.now l.c.from, ← c.record_size.ensures) at c.put_plain.ensures)
