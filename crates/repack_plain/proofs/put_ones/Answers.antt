-- `repack_plain::put_ones` meets its contract: a record of one lane while more is left than one item. Assumes nothing.
use mathlib.Core.Path.{refl, sym, ◌∙◌}
use Prim.Native.Nat.{◌-◌, ◌+◌}
use native.Mathlib.Omega.{arith}
use lib.ListN.{length, get_or, take, drop}
use Rattle.stream_spec.proofs.Size.{size_bare}
use Rattle.repack_plain.proofs.Stretches.{lent-room, data_held, full-room, full-written, one_written}
use Rattle.repack_plain.proofs.put_ones.Goals as goal

pub write_one-requires : goal.write_one-requires
write_one-requires c =
    let a = c.args in
    let l = c.loop-c in
    let held = data_held a.octets.now (a.c.from + a.c.left) c.requires.0 in
    let room = full-room 0 1 a.head _ _ a.c c.requires.1 held l.out l.c l.invariant c.loop-c-test.true in
    (lent-room l.out l.c.to 8 (omega (arith, room, size_bare 1)), a.head.fits)

pub loop-c-preserved : goal.loop-c-preserved
loop-c-preserved c =
    let a = c.args in
    let l = c.loop-c in
    let held = data_held a.octets.now (a.c.from + a.c.left) c.requires.0 in
    full-written 0 1 a.head _ _ a.c c.requires.1 held l.out l.c l.invariant c.loop-c-test.true 8 (sym (size_bare 1)) c.write_one.new.out
    (c.write_one.ensures
    ∙ one_written a.head (get_or a.octets.now l.c.from 0) a.octets.now (drop 8 (take (length l.out - l.c.to) (drop l.c.to l.out))) l.c.from
    (omega (arith, c.requires.0, l.invariant.end, c.loop-c-test.true)) refl (omega (arith, c.type_inv.octets l.c.from)))
