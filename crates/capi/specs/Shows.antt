-- The numbers of a burst's, a cut's, a write verdict's, a merge's and a stream's answer as C sees them, against paper 01's numbers that the
-- calls' definitions give, and how a number that C hands over stands for a bool. The report is in Reports.
use Rattle.std.specs.Prelude.{◌≡◌, Bool, not, List, ℕ, eqb, length}
use Rattle.axi3_spec.specs.Answers as axi3
use Rattle.burst_spec.specs.Answers as burst
use Rattle.merge_spec.specs.Answers as merge
use Rattle.write_data_spec.specs.Answers as writes
use Rattle.stream_spec.specs.declared.Shape.{Shape}
use Rattle.stream_spec.specs.Answers.{Values, lookup_values, data_answer, data_start, data_part}
use Rattle.capi.specs.declared.stream_calls.PartAnswer.{PartAnswer}
use Rattle.capi.specs.declared.stream_calls.StreamAnswer.{StreamAnswer}
use Rattle.capi.specs.declared.burst_calls.BurstAnswer.{BurstAnswer}
use Rattle.capi.specs.declared.axi3_calls.CutAnswer.{CutAnswer}
use Rattle.capi.specs.declared.merge_calls.MergeAnswer.{MergeAnswer}
use Rattle.capi.specs.declared.write_calls.WriteAnswer.{WriteAnswer}

-- No bool crosses the border: 0 is false, any other number is true.
abbrev pub flag : ℕ → Bool
flag n = not (eqb n 0)

-- A burst refusal's place and rule are always 0, so the struct has no field for them.
pub record ShowsBurst (a : BurstAnswer) (values : burst.Values) : Type 0 where
  pub refusal : a.refusal ≡ values.refusal
  pub lower : a.lower ≡ values.lower
  pub upper : a.upper ≡ values.upper
  pub step : a.step ≡ values.step
  pub address : a.address ≡ values.address

-- The place and the rule of a cut's refusals are always 0 too.
pub record ShowsCut (a : CutAnswer) (values : axi3.Values) : Type 0 where
  pub refusal : a.refusal ≡ values.refusal
  pub count : a.count ≡ values.count

pub record ShowsWrite (a : WriteAnswer) (values : writes.Values) : Type 0 where
  pub refusal : a.refusal ≡ values.refusal
  pub place : a.place ≡ values.place
  pub rule : a.rule ≡ values.rule
  pub strobes : a.strobes ≡ values.strobes

-- The rule of a merge's refusals is always 0.
pub record ShowsMerge (a : MergeAnswer) (values : merge.Values) : Type 0 where
  pub refusal : a.refusal ≡ values.refusal
  pub port : a.port ≡ values.port
  pub place : a.place ≡ values.place
  pub count : a.count ≡ values.count

pub record ShowsStream (a : StreamAnswer) (values : Values) : Type 0 where
  pub refusal : a.refusal ≡ values.refusal
  pub place : a.place ≡ values.place
  pub rule : a.rule ≡ values.rule
  pub count : a.count ≡ values.count

-- A refusal of data octets has place and rule 0, so the struct has no field for them.
pub record ShowsPart (a : PartAnswer) (s : Shape) (capture : List ℕ) (k : ℕ) : Type 0 where
  pub refusal : a.refusal ≡ (lookup_values (data_answer s capture k)).refusal
  pub start : a.start ≡ data_start s capture k
  pub octets : a.length ≡ length (data_part s capture k)
