-- `stream_judge::cycle_fault` meets its contract: the head, then the padding. Assumes nothing.
use native.Mathlib.Omega.{arith}
use Rattle.stream_spec.proofs.Size.{size_holds}
use Rattle.stream_judge.proofs.Turns.{sound_record}
use Rattle.stream_judge.proofs.cycle_fault.Goals as goal

pub head_fault-requires : goal.head_fault-requires
head_fault-requires c = omega (arith, c.requires.1, size_holds c.args.s)

pub returns : goal.returns
returns c =
    let a = c.args in
    sound_record a.s a.z a.k a.rec.now c.head_fault.result c.requires.0.width c.requires.2 (c.bad_padding.ensures) c.if-bad_padding.false
    c.head_fault.ensures c.in_ok-head_fault.was
