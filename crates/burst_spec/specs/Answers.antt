-- What each burst call answers, over all its arguments; and the numbers of paper 01 that each answer shows.
use Rattle.std.specs.Prelude.{ℕ, zero, suc, ℤ, pos, ◌≡◌, Option, None, Some, Result, Ok, Err}
use Rattle.refusal.specs.declared.Refusal.{Refusal}
use Rattle.refusal.specs.Checks.{first}
use Rattle.refusal.specs.Code.{code_of}
use Rattle.burst_spec.specs.declared.Beat.{Beat}
use Rattle.burst_spec.specs.declared.Burst.{Burst}
use Rattle.burst_spec.specs.declared.Kind.{Kind}
use Rattle.burst_spec.specs.declared.Kind.TheVariants.{Fixed, Incr, Wrap, Reserved}
use Rattle.burst_spec.specs.Address.{bytes, beat_address, lower_lane, upper_lane, beat_of, beat_step}
use Rattle.burst_spec.specs.Checks.{checks, checks_of_beat, checks_of_step}

-- "a kind that is FIXED 0, INCR 1 or WRAP 2", and every other number is the reserved kind
abbrev pub kind_of : ℕ → Kind
kind_of zero = Fixed
kind_of (suc zero) = Incr
kind_of (suc (suc zero)) = Wrap
kind_of (suc (suc (suc n))) = Reserved

-- AxBURST of a kind: FIXED 0, INCR 1, WRAP 2. No accepted burst has another.
abbrev pub kind_number : Kind → ℕ
kind_number Fixed = 0
kind_number Incr = 1
kind_number Wrap = 2
kind_number Reserved = 3

-- the burst of five plain numbers
abbrev pub burst_of : ℕ → ℕ → ℕ → ℕ → ℕ → Burst
burst_of start len size kind bus =
    record { start = start; len = len; size = size; kind = kind_of kind; bus = bus }

-- ---- how an answer is made of the first refusal, if there is one

abbrev pub judgement_for : Option Refusal → Result (Unit {0}) Refusal
judgement_for (Some r) = Err r
judgement_for None = Ok tt

abbrev pub beat_for : Option Refusal → Beat → Result Beat Refusal
beat_for (Some r) y = Err r
beat_for None y = Ok y

abbrev pub step_for : Option Refusal → ℤ → Result ℤ Refusal
step_for (Some r) d = Err r
step_for None d = Ok d

-- ---- the calls

abbrev pub judgement : Burst → Result (Unit {0}) Refusal
judgement x = judgement_for (first (checks x))

abbrev pub beat_answer : Burst → ℕ → Result Beat Refusal
beat_answer x k = beat_for (first (checks_of_beat x k)) (beat_of x k)

abbrev pub step_answer : Burst → ℕ → Result ℤ Refusal
step_answer x k = step_for (first (checks_of_step x k)) (beat_step x k)

-- ---- the paper's numbers for each answer: the refusal's number, its place and its rule, the beat's address and lanes, and
-- the step. "Its other numbers are 0."

pub record Values : Type 0 where
  pub refusal : ℕ
  pub place : ℕ
  pub rule : ℕ
  pub address : ℕ
  pub lower : ℕ
  pub upper : ℕ
  pub step : ℤ

-- the numbers of an accepted answer: a beat's address and lanes, or a step
abbrev pub values : ℕ → ℕ → ℕ → ℤ → Values
values address lower upper step =
    record { refusal = 0; place = 0; rule = 0; address = address; lower = lower; upper = upper; step = step }

abbrev pub refusal_values : Refusal → Values
refusal_values r =
    record { refusal = (code_of r).0; place = (code_of r).1; rule = (code_of r).2; address = 0; lower = 0; upper = 0; step = pos 0 }

abbrev pub judgement_values : Result (Unit {0}) Refusal → Values
judgement_values (Ok u) = values 0 0 0 (pos 0)
judgement_values (Err r) = refusal_values r

abbrev pub beat_values : Result Beat Refusal → Values
beat_values (Ok y) = values y.address y.lower y.upper (pos 0)
beat_values (Err r) = refusal_values r

abbrev pub step_values : Result ℤ Refusal → Values
step_values (Ok d) = values 0 0 0 d
step_values (Err r) = refusal_values r

-- ---- the contracts of the calls: the answer is the definition's, with 01's numbers for it. The numbers are said through the
-- checks and not through the answer, so that a wrong line of `beat_values` and its like breaks the contract itself.

abbrev pub values_for : Option Refusal → Values → Values
values_for (Some r) accepted = refusal_values r
values_for None accepted = accepted

pub record Judged (x : Burst) (r : Result (Unit {0}) Refusal) : Type 0 where
  pub is : r ≡ judgement x
  pub shows : judgement_values r ≡ values_for (first (checks x)) (values 0 0 0 (pos 0))

abbrev pub beat_numbers : Burst → ℕ → Values
beat_numbers x a = values a (lower_lane a x.bus) (upper_lane a (bytes x) x.bus) (pos 0)

pub record BeatGiven (x : Burst) (k : ℕ) (r : Result Beat Refusal) : Type 0 where
  pub is : r ≡ beat_answer x k
  pub shows : beat_values r ≡ values_for (first (checks_of_beat x k)) (beat_numbers x (beat_address x k))

pub record StepGiven (x : Burst) (k : ℕ) (r : Result ℤ Refusal) : Type 0 where
  pub is : r ≡ step_answer x k
  pub shows : step_values r ≡ values_for (first (checks_of_step x k)) (values 0 0 0 (beat_step x k))
