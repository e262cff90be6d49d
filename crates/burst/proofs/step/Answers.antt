-- `burst::step` meets its contract: what is refused keeps its refusal, and the step is the difference of two addresses of one
-- block. Assumes nothing.
use Rattle.std.proofs.Common.{Ok}
use Rattle.std.proofs.lemmas.Result.{err_from_is_err_and}
use mathlib.Core.Bool.{false}
use mathlib.Core.Path.{◌≡◌, sym, subst, ◌∙◌}
use Prim.Native.Nat.{ℕ, ◌+◌, ◌/◌, ◌<◌}
use native.Mathlib.Omega.{arith}
use borrow.Author.Tests.{lt-leb}
use lib.Dec.{leb}
use lib.IntN.{sub_ℕ}
use mir.Facts.{to_z-of_z}
use mir.Syntax.{w32}
use mir.Val.{to_z, of_z}
use Rattle.refusal.specs.Checks.{first}
use Rattle.burst_spec.specs.declared.Burst.{Burst}
use Rattle.burst_spec.specs.Address.{beats, beat_step}
use Rattle.burst_spec.specs.Answers.{judgement_for}
use Rattle.burst_spec.specs.Checks.{block, checks_of_step}
use Rattle.burst_spec.specs.Legal.{Accepted}
use Rattle.burst_spec.proofs.Answers.{accepted_exactly, refused-first, index_last, refused-step, given_step}
use Rattle.burst_spec.proofs.Block.{address-block}
use Rattle.burst_spec.proofs.Step.{step_difference}
use Rattle.burst.proofs.step.Goals as goal

pub returns-in_err-accepted : goal.returns-in_err-accepted
returns-in_err-accepted c =
    let p = err_from_is_err_and c.from_residual.result c.from_residual.ensures.1 in
    let b = c.args.b in
    rw (p.1, p.2) (refused-step b c.args.k _ (sym (refused-first b (leb (beats b) (c.args.k + 1)) _ c.in_err-accepted.ensures.refused)))

pub distance-requires : goal.distance-requires
distance-requires c =
    let a = c.in_ok-accepted.accepted in
    let few : c.args.k + 1 < beats a.burst = rw c.in_ok-accepted.ensures.accepted (omega arith) in
    let from : c.address_inside-from.result / block ≡ a.burst.start / block =
    rw c.address_inside-from.ensures (address-block a.burst a.accepted c.args.k (omega arith))
    in
    let to : c.address_inside-to.result / block ≡ a.burst.start / block =
    rw c.address_inside-to.ensures (address-block a.burst a.accepted (c.args.k + 1) few)
    in
    cc

pub returns : goal.returns
returns c =
    let b : Burst = c.args.b in
    let k : ℕ = c.args.k in
    let same : c.in_ok-accepted.accepted.burst ≡ b = c.in_ok-accepted.ensures.accepted in
    let accepted : judgement_for (first (checks_of_step b k)) ≡ Ok tt =
    sym
    (index_last b (leb (beats b) (k + 1)) false ((accepted_exactly b).1 (subst Accepted same c.in_ok-accepted.accepted.accepted))
    (lt-leb (beats b) (k + 1) (omega arith)))
    in
    let moved : sub_ℕ c.address_inside-to.result c.address_inside-from.result ≡ beat_step b k =
    rw (c.address_inside-to.ensures, c.address_inside-from.ensures, same) (sym (step_difference b k))
    in
    given_step b k accepted (to_z w32 (of_z w32 c.distance.result))
    (to_z-of_z {w = w32} {z = c.distance.result} (record { sfits = c.distance.type_inv }) ∙ c.distance.ensures ∙ moved)
