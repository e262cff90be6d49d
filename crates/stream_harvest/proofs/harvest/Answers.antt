-- `stream_harvest::harvest` meets its contract: each verdict of judge, and the test of the room after a clean one. Assumes nothing.
use native.Mathlib.Omega.{arith}
use Rattle.std.proofs.Common.{Ok, ap, ◌∙◌}
use Rattle.std.proofs.lemmas.Result.{err_from_is_err_and}
use Rattle.stream_harvest.proofs.Answer.{harvest-refused, harvest-broken, tests, clean_narrow, clean-short, harvest-room, harvest-fits, harvest-written}
use Rattle.stream_harvest.proofs.harvest.Goals as goal

pub returns-in_err-cycle : goal.returns-in_err-cycle
returns-in_err-cycle c =
    let a = c.args in
    let p = err_from_is_err_and c.from_residual.result c.from_residual.ensures.1 in
    rw (p.1, p.2) (harvest-refused a.s a.capture.now c.judge.result c.judge.ensures.is a.out.now _ c.in_err-cycle.was)

pub record_size-requires : goal.record_size-requires
record_size-requires c =
    clean_narrow c.args.s c.args.capture.now c.judge.result c.judge.ensures.is c.in-Clean.count (c.in_ok-cycle.was ∙ ap Ok c.in-Clean.is)

pub overflow_mul-count : goal.overflow_mul-count
overflow_mul-count c =
    let short = clean-short c.args.s c.args.capture.now c.judge.result c.judge.ensures.is c.in-Clean.count (c.in_ok-cycle.was ∙ ap Ok c.in-Clean.is)
    c.record_size.result c.record_size.ensures in
    omega (arith, short)

pub returns-then-out-count : goal.returns-then-out-count
returns-then-out-count c =
    let a = c.args in
    let z = c.record_size in
    harvest-room a.s a.capture.now c.judge.result c.judge.ensures.is c.in-Clean.count (c.in_ok-cycle.was ∙ ap Ok c.in-Clean.is) z.result z.ensures
    a.out.now c.if-out-count.true

pub invariant_of-take : goal.invariant_of-take
invariant_of-take c =
    record { passed = tests c.args.s c.args.capture.now c.judge.result c.judge.ensures.is c.in-Clean.count (c.in_ok-cycle.was ∙ ap Ok c.in-Clean.is) }

pub put_cycles-requires : goal.put_cycles-requires
put_cycles-requires c =
    let a = c.args in
    let z = c.record_size in
    harvest-fits a.s a.capture.now c.judge.result c.judge.ensures.is c.in-Clean.count (c.in_ok-cycle.was ∙ ap Ok c.in-Clean.is) z.result z.ensures
    a.out.now c.if-out-count.false

pub returns-in-Broken : goal.returns-in-Broken
returns-in-Broken c =
    let a = c.args in
    let b = c.in-Broken in
    harvest-broken a.s a.capture.now c.judge.result c.judge.ensures.is a.out.now b.cycle b.rule (c.in_ok-cycle.was ∙ ap Ok b.is)

pub returns-else-out-count : goal.returns-else-out-count
returns-else-out-count c =
    let a = c.args in
    let z = c.record_size in
    harvest-written a.s a.capture.now c.judge.result c.judge.ensures.is c.in-Clean.count (c.in_ok-cycle.was ∙ ap Ok c.in-Clean.is) z.result z.ensures
    a.out.now c.if-out-count.false c.put_cycles.new.out c.put_cycles.ensures
