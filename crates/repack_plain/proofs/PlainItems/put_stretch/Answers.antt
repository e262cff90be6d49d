-- A stretch of items that are data: all records but the last, then that one. Assumes nothing.
use native.Mathlib.Omega.{arith}
use Prim.Native.Nat.{◌+◌}
use Rattle.repack_plain.proofs.Stretches.{lent-room, lent_codes, data_held, last-room, last_fits, last_written}
use Rattle.repack_plain.proofs.PlainItems.put_stretch.Goals as goal

pub put_plain-requires : goal.put_plain-requires
put_plain-requires c =
    let a = c.args in
    let d = c.put_all_but_last-d in
    let octets = a.self.now.octets.now in
    let held = data_held octets (a.c.from + a.c.left) c.requires.0 in (
      lent-room octets d.result.from a.v (omega (arith, c.requires.1.high, d.ensures.1.end)),
      last_fits 0 a.v a.head _ _ a.c c.requires.1 held d.new.out d.result d.ensures.1 d.ensures.0,
    )

pub overflow_add-result : goal.overflow_add-result
overflow_add-result c =
    let a = c.args in
    let d = c.put_all_but_last-d in
    let held = data_held a.self.now.octets.now (a.c.from + a.c.left) c.requires.0 in
    let room = last-room 0 a.v a.head _ _ a.c c.requires.1 held d.new.out d.result d.ensures.1 d.ensures.0 in
    omega (arith, c.record_size.ensures, room, d.ensures.1.same, c.well_formed)

pub returns : goal.returns
returns c =
    let a = c.args in
    let d = c.put_all_but_last-d in
    let held = data_held a.self.now.octets.now (a.c.from + a.c.left) c.requires.0 in
    last_written 0 a.v a.head _ _ a.c c.requires.1 held d.new.out d.result d.ensures.1 d.ensures.0 c.record_size.result c.record_size.ensures
    c.put_plain.new.out (rw (lent_codes a.self.now.octets.now d.result.from, ← c.record_size.ensures) at c.put_plain.ensures)
