-- The contracts of the C calls leave no choice: two answers that meet one of them on the same arguments are equal in each
-- number, and so is the memory lent to a report; that lent to a cut or a stream call is an equation in the contract itself. A
-- field that says nothing breaks one of these proofs. Assumes nothing.
use Rattle.std.specs.Prelude.{Result}
use mathlib.Core.Path.{◌≡◌}
use mathlib.Core.List.{List}
use Prim.Native.Nat.{ℕ}
use Rattle.refusal.specs.declared.Refusal.{Refusal}
use Rattle.axi3_spec.specs.Answers as axi3
use Rattle.burst_spec.specs.Answers as burst
use Rattle.merge_spec.specs.Answers as merge
use Rattle.write_data_spec.specs.Answers as writes
use Rattle.stream_spec.specs.declared.Shape.{Shape}
use Rattle.stream_spec.specs.Answers.{Values}
use Rattle.report_spec.specs.declared.Verdict.{Verdict}
use Rattle.report_spec.specs.Report.{Whole}
use Rattle.report_spec.proofs.Once.{both}
use Rattle.capi.specs.declared.axi3_calls.CutAnswer.{CutAnswer}
use Rattle.capi.specs.declared.burst_calls.BurstAnswer.{BurstAnswer}
use Rattle.capi.specs.declared.stream_calls.PartAnswer.{PartAnswer}
use Rattle.capi.specs.declared.stream_calls.StreamAnswer.{StreamAnswer}
use Rattle.capi.specs.declared.report_calls.ReportAnswer.{ReportAnswer}
use Rattle.capi.specs.declared.merge_calls.MergeAnswer.{MergeAnswer}
use Rattle.capi.specs.declared.write_calls.WriteAnswer.{WriteAnswer}
use Rattle.capi.specs.Shows.{ShowsBurst, ShowsCut, ShowsWrite, ShowsMerge, ShowsStream, ShowsPart}
use Rattle.capi.specs.Reports.{ShowsVerdict, ShowsWhole}

pub burst_once : {a b : BurstAnswer} {values : burst.Values} → ShowsBurst a values → ShowsBurst b values → a ≡ b
burst_once p q = λ i. record {
  refusal = both p.refusal q.refusal i;
  lower = both p.lower q.lower i;
  upper = both p.upper q.upper i;
  step = both p.step q.step i;
  address = both p.address q.address i;
}

pub cut_once : {a b : CutAnswer} {values : axi3.Values} → ShowsCut a values → ShowsCut b values → a ≡ b
cut_once p q = λ i. record { refusal = both p.refusal q.refusal i; count = both p.count q.count i }

pub write_once : {a b : WriteAnswer} {values : writes.Values} → ShowsWrite a values → ShowsWrite b values → a ≡ b
write_once p q = λ i. record {
  refusal = both p.refusal q.refusal i;
  rule = both p.rule q.rule i;
  place = both p.place q.place i;
  strobes = both p.strobes q.strobes i;
}

pub merge_once : {a b : MergeAnswer} {values : merge.Values} → ShowsMerge a values → ShowsMerge b values → a ≡ b
merge_once p q = λ i. record {
  refusal = both p.refusal q.refusal i;
  port = both p.port q.port i;
  place = both p.place q.place i;
  count = both p.count q.count i;
}

pub stream_once : {a b : StreamAnswer} {values : Values} → ShowsStream a values → ShowsStream b values → a ≡ b
stream_once p q = λ i. record {
  refusal = both p.refusal q.refusal i;
  rule = both p.rule q.rule i;
  place = both p.place q.place i;
  count = both p.count q.count i;
}

pub part_once : {a b : PartAnswer} {s : Shape} {capture : List ℕ} {k : ℕ} → ShowsPart a s capture k → ShowsPart b s capture k → a ≡ b
part_once p q = λ i. record {
  refusal = both p.refusal q.refusal i;
  start = both p.start q.start i;
  length = both p.octets q.octets i;
}

pub verdict_once : {a b : ReportAnswer} {v : Result Verdict Refusal} {text octets : ℕ} → ShowsVerdict a v text octets → ShowsVerdict b v text octets → a ≡ b
verdict_once p q = λ i. record {
  verdict = both p.verdict q.verdict i;
  refusal = both p.refusal q.refusal i;
  rule = both p.rule q.rule i;
  place = both p.place q.place i;
  transfers = both p.transfers q.transfers i;
  packets = both p.packets q.packets i;
  records = both p.records q.records i;
  text = both p.told q.told i;
  octets = both p.long q.long i;
}

-- o and t are the output and the text as the first call leaves them, o' and t' as the second does
pub report_once : {a b : ReportAnswer} {w : Whole} {out o o' text t t' : List ℕ} → ShowsWhole a w out o text t → ShowsWhole b w out o' text t'
    → (a ≡ b) × (o ≡ o') × (t ≡ t')
report_once p q = (verdict_once p.numbers q.numbers, both p.leaves q.leaves, both p.told q.told)
