-- A record of items with marks: those that are not marked are data. Assumes nothing.
use native.Mathlib.Omega.{arith}
use Rattle.repack_scratch.specs.Codes.{mark_bits}
use Rattle.stream_spec.proofs.Memory.{lent-rest}
use Rattle.repack_marked.proofs.Near.{marks-same, near_data}
use Rattle.repack_marked.proofs.MarkedItems.put_record.Goals as goal

pub returns-then-unmarked_near : goal.returns-then-unmarked_near
returns-then-unmarked_near c =
    let a = c.args in
    let octets = a.self.now.octets.now in
    let marks = a.self.now.marks.now in
    rw (near_data a.n a.from octets (mark_bits marks) (marks-same octets marks a.self.now.same) (omega (arith, c.requires.0))
    (λ i h. c.unmarked_near.ensures c.if-unmarked_near.true i (omega (arith, h, c.requires.1.few, c.requires.1.high))))
    (rw (lent-rest octets a.from) at c.put_plain.ensures)
