-- `stream_merge::copy_record` meets its contract: eight octets at a time, the last eight over the end of those before them. Assumes
-- nothing.
use native.Mathlib.Omega.{arith}
use Rattle.stream_merge.proofs.Copy.{Copying, copying_starts, copying_more, copying_enough, copying_ends}
use Rattle.stream_merge.proofs.copy_record.Goals as goal
use Rattle.stream_merge.proofs.copy_record.Goals.{then-n, else-n, then-n-2, else-n-2}

pub returns : goal.returns
returns c =
    let rec = c.args.rec.now in
    let out = c.args.out.now in
    let p = c.requires in
    let one : Copying rec out c.move_word.new.out 8 = copying_starts rec out _ p.room p.low c.move_word.ensures in
    let two : Copying rec out c.if-n.out 16 =
    elim c.if-n.branch [
      | then-n w ↦ rw w.out-is (copying_more rec out _ p.room 8 one _ (omega (arith, w.if-n.true)) w.move_word-then-n.ensures)
      | else-n w ↦ rw w.out-is (copying_enough rec out _ p.room 8 one (omega (arith, w.if-n.false)))
    ] in
    let three : Copying rec out c.if-n-2.out 24 =
    elim c.if-n-2.branch [
      | then-n-2 w ↦ rw w.out-is (copying_more rec out _ p.room 16 two _ (omega (arith, w.if-n-2.true)) w.move_word-then-n-2.ensures)
      | else-n-2 w ↦ rw w.out-is (copying_enough rec out _ p.room 16 two (omega (arith, w.if-n-2.false)))
    ] in
    copying_ends rec out _ p.room 24 three _ p.low (omega (arith, p.high)) c.move_word-2.ensures
