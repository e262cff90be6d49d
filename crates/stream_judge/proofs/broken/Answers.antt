-- `stream_judge::broken` meets its contract: the first bad field behind the cycle, or the finding. Assumes nothing.
use Prim.Native.Nat.{◌+◌}
use native.Mathlib.Omega.{arith}
use Rattle.std.proofs.lemmas.Result.{err_from_is_err_and}
use Rattle.stream_spec.proofs.Size.{size_holds}
use Rattle.stream_judge.specs.Scan.{head_faults}
use Rattle.stream_judge.proofs.Turns.{few_records, behind-refused, behind-broken}
use Rattle.stream_judge.proofs.broken.Goals as goal

pub first_fault-requires : goal.first_fault-requires
first_fault-requires c =
    let t = c.args.take.now in
    let r = c.behind.result in
    let all = few_records t.shape t.octets.now t.passed in
    let rest = few_records r.shape r.octets.now r.passed in
    λ k rec l e. (omega (arith, size_holds r.shape), omega (arith, c.requires.within))

pub returns-in_err-first_fault : goal.returns-in_err-first_fault
returns-in_err-first_fault c =
    let t = c.args.take.now in
    let b = c.behind.ensures in
    let p = err_from_is_err_and c.from_residual.result c.from_residual.ensures.1 in
    let told = c.first_fault.ensures (λ k. head_faults t.shape (c.args.cycle + 1 + k)) (λ k rec r l e h. h t.shape t.passed.high c.requires.zeros) in
    rw (p.1, p.2)
    (behind-refused t.shape t.octets.now c.args.z c.args.cycle c.args.rule c.requires c.first_fault.result
    (rw (b.shape, b.octets) at told) _ c.in_err-first_fault.was)

pub returns : goal.returns
returns c =
    let t = c.args.take.now in
    let b = c.behind.ensures in
    let told = c.first_fault.ensures (λ k. head_faults t.shape (c.args.cycle + 1 + k)) (λ k rec r l e h. h t.shape t.passed.high c.requires.zeros) in
    behind-broken t.shape t.octets.now c.args.z c.args.cycle c.args.rule c.requires c.first_fault.result
    (rw (b.shape, b.octets) at told) _ c.in_ok-first_fault.was
