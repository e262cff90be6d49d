-- `stream_harvest::put_transfer` meets its contract: eight octets at a time, the last eight over the end of those before them.
-- Assumes nothing.
use native.Mathlib.Omega.{arith}
use Rattle.stream_harvest.proofs.Copied.{Copying, copying_starts, copying_more, copying_enough, copying_ends}
use Rattle.stream_harvest.proofs.put_transfer.Goals as goal
use Rattle.stream_harvest.proofs.put_transfer.Goals.{then-n, else-n, then-n-2, else-n-2}

pub returns : goal.returns
returns c =
    let rec = c.args.rec.now in
    let out = c.args.out.now in
    let p = c.requires in
    let one : Copying rec out c.move_front.new.out 8 = copying_starts rec out p.low p.room _ c.move_front.ensures in
    let two : Copying rec out c.if-n.out 16 =
    elim c.if-n.branch [
      | then-n w ↦ rw w.out-is (copying_more rec out p.low p.room _ 8 one _ (omega arith) (omega (arith, w.if-n.true)) w.move_word.ensures)
      | else-n w ↦ rw w.out-is (copying_enough rec out p.low p.room _ 8 one (omega (arith, w.if-n.false)))
    ] in
    let three : Copying rec out c.if-n-2.out 24 =
    elim c.if-n-2.branch [
      | then-n-2 w ↦ rw w.out-is (copying_more rec out p.low p.room _ 16 two _ (omega arith) (omega (arith, w.if-n-2.true)) w.move_word-then-n-2.ensures)
      | else-n-2 w ↦ rw w.out-is (copying_enough rec out p.low p.room _ 16 two (omega (arith, w.if-n-2.false)))
    ] in
    copying_ends rec out p.low p.room _ 24 three _ (omega (arith, p.low, c.if-n-eq-SIZE_LEAST.false)) (omega (arith, p.high)) c.move_word-2.ensures
