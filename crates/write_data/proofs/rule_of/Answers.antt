-- `write_data::rule_of` meets its contract: one test after the other. Assumes nothing.
use Rattle.std.proofs.Common.{rules}
use mathlib.Core.Path.{◌≡◌, sym, subst, ap, ◌∙◌}
use Prim.Native.Nat.{ℕ, ◌≤◌, ◌<◌, min}
use native.Mathlib.Omega.{arith}
use Rattle.burst_spec.specs.declared.Beat.{Beat}
use Rattle.burst_spec.specs.declared.Burst.{Burst}
use Rattle.burst_spec.specs.Address.{beat_of}
use Rattle.burst_spec.specs.Checks.{bus_most}
use Rattle.burst_spec.proofs.Lanes.{lanes_ordered}
use Rattle.write_data.proofs.Fields.{bus-fits, size_is}
use Rattle.write_data.proofs.Lanes.{stray-told}
use Rattle.write_data.proofs.Rules.{rule_past, rule_stray, rule_early, rule-waits, rule-ends, rule_missing}
use Rattle.write_data.proofs.rule_of.Goals as goal

-- a beat that is not past the last is the beat itself
beat-is : (b : Burst) (k : ℕ) (y : Beat) → y ≡ beat_of b (min k b.len) → k ≤ b.len → y ≡ beat_of b k
beat-is b k y e h = e ∙ ap (beat_of b) (omega arith)

pub returns-then-last-k : goal.returns-then-last-k
returns-then-last-k c =
    rule_past c.args.accepted.burst c.args.k c.args.rec.now c.if-last-k.true

pub any_outside-requires : goal.any_outside-requires
any_outside-requires c =
    let a = c.args.accepted in
    let r = c.requires in
    let most = (bus-fits a.burst.bus r.allowed).most in
    let inside = (lanes_ordered a.burst a.accepted.legal c.args.k).1 in (
      omega (arith, r.long, size_is a.burst.bus),
      omega (arith, r.long, size_is a.burst.bus, most),
      subst (λ (y : Beat). y.upper < bus_most) (sym (beat-is c.args.accepted.burst c.args.k _ c.beat-beat.ensures c.if-last-k.false)) (omega (arith, inside, most)),
    )

pub returns-then-any_outside : goal.returns-then-any_outside
returns-then-any_outside c =
    let b = c.args.accepted.burst in
    let told = stray-told b c.args.k c.args.rec.now c.requires c.beat-beat.result (beat-is c.args.accepted.burst c.args.k _ c.beat-beat.ensures c.if-last-k.false) c.any_outside.result c.any_outside.ensures in
    rule_stray b c.args.k c.args.rec.now c.if-last-k.false c.any_outside.result told c.if-any_outside.true

pub wlast-requires : goal.wlast-requires
wlast-requires c =
    omega (arith, c.requires.long, size_is c.args.accepted.burst.bus)

pub returns-in-true-false : goal.returns-in-true-false
returns-in-true-false c =
    let b = c.args.accepted.burst in
    let told = stray-told b c.args.k c.args.rec.now c.requires c.beat-beat.result (beat-is c.args.accepted.burst c.args.k _ c.beat-beat.ensures c.if-last-k.false) c.any_outside.result c.any_outside.ensures in
    rule_missing b c.args.k c.args.rec.now c.if-last-k.false c.any_outside.result told
    c.if-any_outside.false c.wlast.result c.wlast.ensures (omega arith) (search rules)

pub returns-in-false-true : goal.returns-in-false-true
returns-in-false-true c =
    let b = c.args.accepted.burst in
    let told = stray-told b c.args.k c.args.rec.now c.requires c.beat-beat.result (beat-is c.args.accepted.burst c.args.k _ c.beat-beat.ensures c.if-last-k.false) c.any_outside.result c.any_outside.ensures in
    rule_early b c.args.k c.args.rec.now c.if-last-k.false c.any_outside.result told
    c.if-any_outside.false c.wlast.result c.wlast.ensures (omega arith) (search rules)

pub returns-in_default : goal.returns-in_default
returns-in_default c =
    let b = c.args.accepted.burst in
    let told = stray-told b c.args.k c.args.rec.now c.requires c.beat-beat.result (beat-is c.args.accepted.burst c.args.k _ c.beat-beat.ensures c.if-last-k.false) c.any_outside.result c.any_outside.ensures in
    rule-ends b c.args.k c.args.rec.now c.if-last-k.false c.any_outside.result told
    c.if-any_outside.false c.wlast.result c.wlast.ensures (omega arith) (search rules)

pub returns-in_default-2 : goal.returns-in_default-2
returns-in_default-2 c =
    let b = c.args.accepted.burst in
    let told = stray-told b c.args.k c.args.rec.now c.requires c.beat-beat.result (beat-is c.args.accepted.burst c.args.k _ c.beat-beat.ensures c.if-last-k.false) c.any_outside.result c.any_outside.ensures in
    rule-waits b c.args.k c.args.rec.now c.if-last-k.false c.any_outside.result told
    c.if-any_outside.false c.wlast.result c.wlast.ensures (omega arith) (search rules)
