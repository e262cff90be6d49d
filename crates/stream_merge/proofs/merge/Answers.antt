-- `stream_merge::merge` meets its contract: the tests in the paper's order, each with what those before it have passed, then both lists.
-- Assumes nothing.
use Rattle.std.proofs.Common.{rules, Err, ◌≡◌}
use Rattle.stream_spec.proofs.Size.{size_pos}
use Rattle.stream_merge.proofs.Answer.{taken, bad-take, bad-other, bad-first, bad-second, no_room, all-written}
use Rattle.stream_merge.proofs.merge.Goals as goal

pub returns-in_err-take0 : goal.returns-in_err-take0
returns-in_err-take0 c =
    let e = c.in_err-take0 in
    let given : c.from_residual.result ≡ Err e.field-0.0 = search rules in
    rw given (bad-take _ _ _ _ _ c.new.ensures.refused _ e.ensures.refused)

pub returns-in_err-take1 : goal.returns-in_err-take1
returns-in_err-take1 c =
    let e = c.in_err-take1 in
    let given : c.from_residual-in_err-take1.result ≡ Err e.field-0.0 = search rules in
    rw given (bad-other _ _ _ _ _ c.new.ensures.refused c.in_ok-take0.ensures.refused _ c.new-2.ensures.refused _ e.ensures.refused)

pub returns-in_err-at_port : goal.returns-in_err-at_port
returns-in_err-at_port c =
    let e = c.in_err-at_port in
    let given : c.from_residual-in_err-at_port.result ≡ Err e.field-0.0 = search rules in
    let t0 = taken _ _ _ _ c.in_ok-take0.ensures.passed c.new.ensures.taken in
    rw given
    (bad-first _ _ _ _ _ c.new.ensures.refused c.in_ok-take0.ensures.refused _ c.new-2.ensures.refused c.in_ok-take1.ensures.refused
    _ (rw (t0.shape, t0.octets) at c.find_port_fault.ensures) _ e.ensures.refused)

pub returns-in_err-at_port-2 : goal.returns-in_err-at_port-2
returns-in_err-at_port-2 c =
    let e = c.in_err-at_port-2 in
    let given : c.from_residual-in_err-at_port-2.result ≡ Err e.field-0.0 = search rules in
    let t0 = taken _ _ _ _ c.in_ok-take0.ensures.passed c.new.ensures.taken in
    let t1 = taken _ _ _ _ c.in_ok-take1.ensures.passed c.new-2.ensures.taken in
    rw given
    (bad-second _ _ _ _ _ c.new.ensures.refused c.in_ok-take0.ensures.refused _ c.new-2.ensures.refused c.in_ok-take1.ensures.refused
    _ (rw (t0.shape, t0.octets) at c.find_port_fault.ensures) c.in_ok-at_port.ensures.refused
    _ (rw (t1.shape, t1.octets) at c.find_port_fault-2.ensures) _ e.ensures.refused)

pub returns-then-out-total : goal.returns-then-out-total
returns-then-out-total c =
    let t0 = taken _ _ _ _ c.in_ok-take0.ensures.passed c.new.ensures.taken in
    let t1 = taken _ _ _ _ c.in_ok-take1.ensures.passed c.new-2.ensures.taken in
    no_room _ _ _ _ _ c.new.ensures.refused c.in_ok-take0.ensures.refused _ c.new-2.ensures.refused c.in_ok-take1.ensures.refused
    _ (rw (t0.shape, t0.octets) at c.find_port_fault.ensures) c.in_ok-at_port.ensures.refused
    _ (rw (t1.shape, t1.octets) at c.find_port_fault-2.ensures) c.in_ok-at_port-2.ensures.refused c.if-out-total.true

pub nonzero_div-result : goal.nonzero_div-result
nonzero_div-result c = rw c.record_size.ensures (size_pos c.args.s)

pub returns : goal.returns
returns c =
    let t0 = taken _ _ _ _ c.in_ok-take0.ensures.passed c.new.ensures.taken in
    let t1 = taken _ _ _ _ c.in_ok-take1.ensures.passed c.new-2.ensures.taken in
    all-written _ _ _ _ _ c.new.ensures.refused c.in_ok-take0.ensures.refused _ c.new-2.ensures.refused c.in_ok-take1.ensures.refused
    _ (rw (t0.shape, t0.octets) at c.find_port_fault.ensures) c.in_ok-at_port.ensures.refused
    _ (rw (t1.shape, t1.octets) at c.find_port_fault-2.ensures) c.in_ok-at_port-2.ensures.refused c.if-out-total.false _ c.record_size.ensures
    _ (rw (t0.shape, t0.octets, t1.octets) at c.put_all.ensures)
