-- `stream_judge::changed` meets its contract: a group that differs tells, and the groups cover all octets from 1 on. Assumes nothing.
use native.Mathlib.Omega.{arith}
use Rattle.std.proofs.Common.{◌∙◌, refl}
use Rattle.stream_judge.proofs.Groups.{Told, told_as, Ends, More, first_differs, ends-told, more-told, more_none, more_differs, all_same, last-told}
use Rattle.stream_judge.proofs.changed.Goals.{Joined-differ-3, then-differ-2, else-differ-2, then-differ-3, else-differ-3+then-n-gt17, else-differ-3+else-n-gt17}
use Rattle.stream_judge.proofs.changed.Goals as goal

seen : (c : Joined-differ-3) → Told c.args.prev.now c.args.rec.now c.if-differ-3.value (More c.args.prev.now c.args.rec.now)
seen c =
    let p = c.args.prev.now in
    let r = c.args.rec.now in
    let ends : Told p r c.if-differ-2.value (Ends p r) = elim c.if-differ-2.branch [
      | then-differ-2 w ↦
          told_as p r (Ends p r) _ _ w.value-is
          (first_differs p r (Ends p r) 8 1 c.differ-2.result (omega arith) c.differ-2.ensures w.if-differ-2.true)
      | else-differ-2 w ↦
          told_as p r (Ends p r) _ _ w.value-is
          (ends-told p r (omega (arith, c.requires.low, c.if-n-eq-SIZE_LEAST.false)) c.differ-2.result w.differ-else-differ-2.result
          c.differ-2.ensures w.differ-else-differ-2.ensures w.if-differ-2.false)
    ] in
    elim c.if-differ-3.branch [
      | then-differ-3 w ↦ told_as p r (More p r) _ _ w.value-is (more_differs p r c.if-differ-2.value ends w.if-differ-3.true)
      | else-differ-3+then-n-gt17 w ↦
          told_as p r (More p r) _ _ w.value-is
          (more-told p r c.if-differ-2.value ends w.if-differ-3.false w.differ-then-n-gt17.result w.differ-then-n-gt17.ensures)
      | else-differ-3+else-n-gt17 w ↦
          told_as p r (More p r) _ _ w.value-is (more_none p r c.if-differ-2.value ends w.if-differ-3.false w.if-n-gt17.false _ refl)
    ]

pub returns-then-differ-4 : goal.returns-then-differ-4
returns-then-differ-4 c =
    let h = c.if-differ-4.true in
    h ∙ (seen (goal.at.returns-then-differ-4 c).Joined-differ-3).yes' h

pub returns-then-n-gt25 : goal.returns-then-n-gt25
returns-then-n-gt25 c =
    let more = (seen (goal.at.returns-then-n-gt25 c).Joined-differ-3).no c.if-differ-4.false in
    last-told c.args.prev.now c.args.rec.now c.requires.long c.if-prev-rec.false more c.if-n-gt25.true c.requires.high
    c.differ-then-n-gt25.result c.differ-then-n-gt25.ensures

pub returns-else-n-gt25 : goal.returns-else-n-gt25
returns-else-n-gt25 c =
    let more = (seen (goal.at.returns-else-n-gt25 c).Joined-differ-3).no c.if-differ-4.false in
    all_same c.args.prev.now c.args.rec.now c.requires.long c.if-prev-rec.false more c.if-n-gt25.false _ refl
