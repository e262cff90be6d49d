-- `axi3::cut` meets its contract: each turn stores one burst of the cut more in the row. Assumes nothing.
use Rattle.std.proofs.Common.{Ok}
use Rattle.std.proofs.lemmas.Result.{err_from_is_err_and}
use mathlib.Core.Path.{◌≡◌, sym, ap, subst, ◌∙◌}
use mathlib.Core.List.{List}
use Prim.Native.Nat.{ℕ, ◌≤◌, ◌<◌}
use native.Mathlib.Omega.{arith}
use lib.ListN.{set, take, length}
use lib.Seq.{length-take-le}
use Rattle.refusal.specs.declared.Refusal.TheVariants.{Room}
use Rattle.burst_spec.specs.declared.Burst.{Burst}
use Rattle.burst_spec.specs.Legal.{Accepted}
use Rattle.burst_spec.proofs.Answers.{accepted_exactly}
use Rattle.axi3_spec.proofs.Answers.{answer_judged, answer-room, answer-bursts}
use Rattle.axi3_spec.specs.Cut.{piece_count}
use Rattle.axi3_spec.specs.Answers.{Answered}
use Rattle.axi3.specs.Rows.{filled}
use Rattle.axi3.proofs.Rows.{row_kept, filled_none, filled_next, filled-front, filled-all}
use Rattle.axi3.proofs.cut.Goals as goal

pub returns-in_err-accepted : goal.returns-in_err-accepted
returns-in_err-accepted c =
    let p = err_from_is_err_and c.from_residual.result c.from_residual.ensures.1 in
    let row = c.args.row.now in
    rw (p.1, p.2) (row_kept c.args.b row _ (answer_judged c.args.b (length row) _ c.in_err-accepted.ensures.refused))

pub returns-then-row-count : goal.returns-then-row-count
returns-then-row-count c =
    let x : Burst = c.in_ok-accepted.accepted.burst in
    let same : x ≡ c.args.b = c.in_ok-accepted.ensures.accepted in
    let row = c.args.row.now in
    let a : Accepted c.args.b = subst Accepted same c.in_ok-accepted.accepted.accepted in
    let short : length row < piece_count c.args.b = omega (arith, c.piece_count-count.ensures, ap piece_count same) in
    row_kept c.args.b row Room (answer-room c.args.b (length row) ((accepted_exactly c.args.b).1 a) short)

pub loop-j-init : goal.loop-j-init
loop-j-init c = sym (filled_none c.in_ok-accepted.accepted.burst (take c.piece_count-count.result c.args.row.now))

pub loop-j-preserved : goal.loop-j-preserved
loop-j-preserved c =
    let x = c.in_ok-accepted.accepted.burst in
    let part : List Burst = take c.piece_count-count.result c.args.row.now in
    let turn = c.loop-j in
    ap (λ (l : List Burst). set l turn.j c.piece.result) turn.invariant
    ∙ ap (λ (y : Burst). set (filled x turn.j part) turn.j y) c.piece.ensures
    ∙ filled_next x part turn.j c.loop-j-test.true

pub returns : goal.returns
returns c =
    let x : Burst = c.in_ok-accepted.accepted.burst in
    let same : x ≡ c.args.b = c.in_ok-accepted.ensures.accepted in
    let row = c.args.row.now in
    let n : ℕ = c.piece_count-count.result in
    let within : n ≤ length row = omega arith in
    let all : c.loop-j.j ≡ n = omega (arith, length-take-le n row within) in
    let a : Accepted c.args.b = subst Accepted same c.in_ok-accepted.accepted.accepted in
    let answers : Answered c.args.b (length row) (Ok n) =
    answer-bursts c.args.b (length row) ((accepted_exactly c.args.b).1 a) n (c.piece_count-count.ensures ∙ ap piece_count same) within
    in
    record {
      answers = answers;
      leaves =
          filled-front x row n within c.loop-j.place-items (c.loop-j.invariant ∙ ap (λ k. filled x k (take n row)) all)
          ∙ ap (λ y. filled y n row) same
          ∙ filled-all c.args.b row (Ok n) answers;
    }
