-- Each statement of specs/Promises, from the laws below it. Assumes nothing.
use Rattle.std.specs.Prelude.{None, Some, Ok}
use mathlib.Core.List.{List}
use mathlib.Core.Logic.{◌↔◌}
use mathlib.Core.Path.{◌≡◌, refl}
use Prim.Native.Nat.{ℕ}
use Rattle.burst_spec.specs.declared.Burst.{Burst}
use Rattle.write_data_spec.specs.declared.WriteVerdict.TheVariants.{Broken}
use Rattle.write_data_spec.specs.Layout.{write_beats}
use Rattle.write_data_spec.specs.Rules.{finding, first_finding}
use Rattle.write_data_spec.specs.Answers.{write_refusal, write_answer}
use Rattle.write_data_spec.specs.Promises.{LastBit, StrobeBits, StrayExactly, BrokenExactly, CleanSound, CleanExactly, TooManyExactly, TooFewExactly}
use Rattle.write_data_spec.specs.Promises.{NothingRefused, RefusedAsJudged, LengthExactly, FieldExactly, FieldBits}
use Rattle.write_data_spec.proofs.Strobes.{strobe-bits, stray-exactly, bits_exactly}
use Rattle.write_data_spec.proofs.Findings.{earliest_exactly}
use Rattle.write_data_spec.proofs.Answers.{clean-answer, broken-answer, refused-answer, refusal_judged}
use Rattle.write_data_spec.proofs.Refusals.{nothing-refused, length-exactly, field-exactly}
use Rattle.write_data_spec.proofs.Takes.{sound_exactly, clean-exactly, too-many-exactly, too-few-exactly}

-- ---- octets and findings

pub last_bit : LastBit
last_bit octet wstrb = refl

pub strobe_bits : StrobeBits
strobe_bits = strobe-bits

pub stray_exactly : StrayExactly
stray_exactly = stray-exactly

-- ---- the answers

pub broken_exactly : BrokenExactly
broken_exactly b xs p n =
    let first = earliest_exactly b (write_beats b.bus xs) (finding p n) in
    let answer = broken-answer b xs p n in
    (λ e. let h = answer.0 e in (h.0, first.0 h.1), λ h. answer.1 (h.0, first.1 h.1))

pub clean_sound : CleanSound
clean_sound b xs n =
    let take = sound_exactly b (write_beats b.bus xs) in
    let answer = clean-answer b xs n in
    (λ e. let h = answer.0 e in let t = take.0 h.1 in (h.0, t.0, t.1, h.2), λ h. answer.1 (h.0, take.1 (h.1, h.2), h.3))

pub clean_exactly : CleanExactly
clean_exactly b xs n =
    let take = clean-exactly b (write_beats b.bus xs) in
    let answer = clean-answer b xs n in
    (λ e. let h = answer.0 e in (h.0, take.0 h.1, h.2), λ h. answer.1 (h.0, take.1 h.1, h.2))

-- a finding in plain words is an answer in the same words, where nothing is refused
as_broken : (b : Burst) (xs : List ℕ) (p n : ℕ) {A B C : Type 0}
    → (first_finding b (write_beats b.bus xs) ≡ Some (finding p n)) ↔ (A × B × C)
    → (write_answer b xs ≡ Ok (Broken p n)) ↔ ((write_refusal b xs ≡ None) × A × B × C)
as_broken b xs p n take =
    let answer = broken-answer b xs p n in (
      λ e. let h = answer.0 e in let t = take.0 h.1 in (h.0, t.0, t.1, t.2),
      λ h. answer.1 (h.0, take.1 (h.1, h.2, h.3)),
    )

pub too_many_exactly : TooManyExactly
too_many_exactly b xs p = as_broken b xs p 4 (too-many-exactly b (write_beats b.bus xs) p)

pub too_few_exactly : TooFewExactly
too_few_exactly b xs p = as_broken b xs p 5 (too-few-exactly b (write_beats b.bus xs) p)

-- ---- the refusals

pub nothing_refused : NothingRefused
nothing_refused = nothing-refused

pub refused_as_judged : RefusedAsJudged
refused_as_judged b xs r e = (refused-answer b xs r).1 (refusal_judged b xs r e)

pub length_exactly : LengthExactly
length_exactly = length-exactly

pub field_exactly : FieldExactly
field_exactly = field-exactly

pub field_bits : FieldBits
field_bits = bits_exactly
