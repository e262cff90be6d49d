-- `axi3::put_bursts` meets its contract: after each turn one description more stands in the row. Assumes nothing.
use mathlib.Core.Path.{ap, ◌∙◌}
use mathlib.Core.List.{List}
use Prim.Native.Nat.{ℕ, ◌*◌, ◌+◌, ◌-◌}
use native.Mathlib.Nat.{le_antisymm}
use borrow.Rule.Slice.PartMut.{put_mid}
use Rattle.axi3_spec.specs.Answers.{numbers_each}
use Rattle.axi3.specs.Rows.{laid}
use Rattle.axi3.proofs.Numbers.{placed, laid_none, laid_next}
use Rattle.axi3.proofs.put_bursts.Goals as goal

pub loop-j-init : goal.loop-j-init
loop-j-init c = laid_none c.args.bursts.now c.args.row.now

pub loop-j-preserved : goal.loop-j-preserved
loop-j-preserved c =
    let j : ℕ = c.loop-j.j in
    ap (λ (l : List ℕ). put_mid (numbers_each * j) (numbers_each * j + numbers_each - numbers_each * j) l c.copy_from_slice.new.self) c.loop-j.invariant
    ∙ placed (laid c.args.bursts.now j c.args.row.now) (numbers_each * j) _ _ (c.copy_from_slice.ensures.after ∙ c.numbers_of.ensures)
    ∙ laid_next c.args.bursts.now c.args.row.now j _ c.loop-j-test.true

pub returns : goal.returns
returns c = c.loop-j.invariant ∙ ap (λ k. laid c.args.bursts.now k c.args.row.now) (le_antisymm c.loop-j.auto.j-end c.loop-j-test.false)
