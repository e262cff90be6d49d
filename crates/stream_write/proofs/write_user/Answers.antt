-- `stream_write::write_user` meets its contract: octet by octet, what is left to write gets shorter. Assumes nothing.
use Prim.Native.Nat.{◌+◌}
use native.Mathlib.Omega.{arith}
use borrow.Rule.Slice.PartMut.{mid_len}
use Rattle.stream_write.proofs.Users.{storing_starts, storing_octet, storing_done}
use Rattle.stream_write.proofs.write_user.Goals as goal

pub loop-octet-init : goal.loop-octet-init
loop-octet-init c =
    let a = c.args in
    storing_starts _ _ _ (omega (arith, mid_len a.at (a.at + a.k) a.out.now c.requires))

pub loop-octet-preserved : goal.loop-octet-preserved
loop-octet-preserved c =
    let l = c.loop-octet.invariant in
    storing_octet _ _ _ _ _ l (omega (arith, c.loop-octet-test.true, l.long, c.loop-octet.auto.octet-items))

pub returns : goal.returns
returns c =
    let l = c.loop-octet.invariant in
    storing_done _ _ _ _ _ l c.args.at _ c.args.out.now (omega (arith, c.loop-octet-test.false, l.long, c.loop-octet.auto.octet-items)) (omega arith)
