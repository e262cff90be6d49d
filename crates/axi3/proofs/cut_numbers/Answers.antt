-- `axi3::cut_numbers` meets its contract: what a cut with a row of its own used of it is laid into the lent row, five numbers a
-- description. Assumes nothing.
use Rattle.std.proofs.lemmas.Result.{err_from_is_err_and}
use mathlib.Core.Path.{◌≡◌, refl, sym, ap, subst, ◌∙◌}
use Prim.Native.Nat.{ℕ, ◌/◌}
use native.Mathlib.Omega.{arith}
use lib.ListN.{length}
use Rattle.axi3_spec.specs.Answers.{numbers_each, Answered}
use Rattle.axi3.specs.Rows.{used_of, laid}
use Rattle.axi3.proofs.Numbers.{row-length, used_most, laid-front, laid-all, numbers_kept}
use Rattle.axi3.proofs.cut_numbers.Goals as goal

pub returns-in_err-count : goal.returns-in_err-count
returns-in_err-count c =
    let p = err_from_is_err_and c.from_residual.result c.from_residual.ensures.1 in
    let row = c.args.row.now in
    let answers = subst (Answered c.args.b (length row / numbers_each)) c.in_err-count.was c.cut_row-cut.ensures.answers in
    rw (p.1, p.2) (record { answers = answers; leaves = numbers_kept c.args.b row _ answers })

pub shared_ref_as_front-put_bursts : goal.shared_ref_as_front-put_bursts
shared_ref_as_front-put_bursts c =
    omega (arith, used_most c.args.b (length c.args.row.now / numbers_each) c.cut_row-cut.result c.cut_row-cut.ensures, ap used_of c.in_ok-count.was)

pub returns : goal.returns
returns c =
    let x = c.args.b in
    let row = c.args.row.now in
    let room : ℕ = length row / numbers_each in
    let cut = c.cut_row-cut in
    let used : used_of cut.result.answer ≡ c.in_ok-count.count = ap used_of c.in_ok-count.was in
    record {
      answers = subst (Answered x room) c.in_ok-count.was cut.ensures.answers;
      leaves =
          c.put_bursts.ensures
          ∙ laid-front cut.result.bursts row c.in_ok-count.count
          (omega (arith, used, used_most x room cut.result cut.ensures, row-length x room cut.result cut.ensures))
          ∙ ap (λ n. laid cut.result.bursts n row) (sym used)
          ∙ laid-all x room cut.result cut.ensures row refl;
    }
