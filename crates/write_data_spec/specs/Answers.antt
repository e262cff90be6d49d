-- What judging write beats answers, over all its arguments; and the numbers that each answer shows (paper 02, T-05; paper 01,
-- 'How much each answer must say'). The contract of the call cites these definitions.
use Rattle.std.specs.Prelude.{Bool, ◌||◌, List, [], ◌∷◌, ◌++◌, ◌≡◌, ℕ, ◌+◌, ◌-◌, ◌*◌, leb, Option, None, Some, Result, Ok, Err}
use Rattle.refusal.specs.Checks.{Check, check, first}
use Rattle.refusal.specs.Code.{code_of}
use Rattle.refusal.specs.declared.Refusal.{Refusal}
use Rattle.refusal.specs.declared.Refusal.TheVariants.{Length, Field}
use Rattle.stream_spec.specs.Checks as streams
use Rattle.stream_spec.specs.Checks.{each}
use Rattle.burst_spec.specs.declared.Burst.{Burst}
use Rattle.burst_spec.specs.Checks.{some_below, checks}
use Rattle.write_data_spec.specs.declared.WriteVerdict.{WriteVerdict}
use Rattle.write_data_spec.specs.declared.WriteVerdict.TheVariants.{Clean, Broken}
use Rattle.write_data_spec.specs.Layout.{lanes_each, strobe_octets, beat_size, write_beats, flags, strobe, all_strobes}
use Rattle.write_data_spec.specs.Rules.{Finding, first_finding}

-- ---- refusals: "the burst's own, then LENGTH, then FIELD at the first record with a bit set that must be zero"

-- 2: "input is over 65,536 octets or no whole number of records", as 01's table has it
abbrev pub length_fault : ℕ → List ℕ → Bool
length_fault bus xs = streams.length_fault (beat_size bus) xs

-- the strobe bits of a beat "at or above the bus": of a bus of 1, 2 or 4 bytes the others of its octet, else none
abbrev pub strobe_fault : ℕ → List ℕ → Bool
strobe_fault bus r = some_below (lanes_each * strobe_octets bus - bus) (λ x. strobe r (bus + x))

-- 3: "a bit set that must be zero": "bit 0 WLAST and the other bits zero", "strobe bits at or above the bus included"
unfoldable pub field_fault : ℕ → List ℕ → Bool
field_fault bus r = leb 2 (flags r) || strobe_fault bus r

-- one record at place k
abbrev pub field_checks : ℕ → ℕ → List ℕ → List (Check Refusal)
field_checks bus k r = check (field_fault bus r) (Field k) ∷ []

-- the checks of a take, once its burst is accepted
abbrev pub take_checks : ℕ → List ℕ → List (Check Refusal)
take_checks bus xs = check (length_fault bus xs) Length ∷ each (field_checks bus) 0 (write_beats bus xs)

abbrev pub write_refusal : Burst → List ℕ → Option Refusal
write_refusal b xs = first (checks b ++ take_checks b.bus xs)

-- ---- the answer

abbrev pub verdict : Option Refusal → Option Finding → ℕ → Result WriteVerdict Refusal
verdict (Some r) f n = Err r
verdict None (Some f) n = Ok (Broken f.place f.rule)
verdict None None n = Ok (Clean n)

abbrev pub write_answer : Burst → List ℕ → Result WriteVerdict Refusal
write_answer b xs =
    verdict (write_refusal b xs) (first_finding b (write_beats b.bus xs)) (all_strobes b.bus (write_beats b.bus xs))

-- ---- the numbers for each answer: the refusal's number, its place (or the beat that breaks a rule, or of W5 the count given), the rule
-- 1 to 5, and the number of high strobes. "Its other numbers are 0."

pub record Values : Type 0 where
  pub refusal : ℕ
  pub place : ℕ
  pub rule : ℕ
  pub strobes : ℕ

abbrev pub values : ℕ → ℕ → ℕ → ℕ → Values
values refusal place rule strobes = record { refusal = refusal; place = place; rule = rule; strobes = strobes }

abbrev pub refusal_values : Refusal → Values
refusal_values r = values (code_of r).0 (code_of r).1 (code_of r).2 0

abbrev pub write_values : Result WriteVerdict Refusal → Values
write_values (Ok (Clean n)) = values 0 0 0 n
write_values (Ok (Broken place rule)) = values 0 place rule 0
write_values (Err r) = refusal_values r

-- the same of the first refusal and the first finding
abbrev pub values_for : Option Refusal → Option Finding → ℕ → Values
values_for (Some r) f n = refusal_values r
values_for None (Some f) n = values 0 f.place f.rule 0
values_for None None n = values 0 0 0 n

-- ---- the contract of the call: the answer is the definition's, with these numbers. They are said through the checks and not through
-- the answer, so that a wrong line of `write_values` breaks the contract itself.

pub record WritesJudged (b : Burst) (xs : List ℕ) (r : Result WriteVerdict Refusal) : Type 0 where
  pub is : r ≡ write_answer b xs
  pub shows :
      write_values r
      ≡ values_for (write_refusal b xs) (first_finding b (write_beats b.bus xs)) (all_strobes b.bus (write_beats b.bus xs))
