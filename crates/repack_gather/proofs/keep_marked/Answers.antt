-- `repack_gather::keep_marked` meets its contract: two stores. Assumes nothing.
use mathlib.Core.Path.{sym, ◌∙◌}
use native.Mathlib.Omega.{arith}
use Rattle.repack_scratch.proofs.Marks.{mark_at, mark_set}
use Rattle.repack_gather.proofs.Marked.{mark_of, mark_small}
use Rattle.repack_gather.proofs.keep_marked.Goals as goal

pub add_mark-requires : goal.add_mark-requires
add_mark-requires c =
    let a = c.args in
    let p = c.requires in
    (omega arith, mark_small a.keep a.strb, sym (mark_at a.marks.now a.n p.1) ∙ p.2)

pub returns-clause-marks_after : goal.returns-clause-marks_after
returns-clause-marks_after c =
    let a = c.args in
    let p = c.requires in
    rw c.add_mark.ensures (mark_set a.marks.now a.n (mark_of a.keep a.strb) p.1 (mark_small a.keep a.strb) p.2)
