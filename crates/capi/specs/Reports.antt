-- The report as C sees it: paper 01's numbers of a report, the verdict first. What the report is of is report_spec's
-- `report_of`, and a verdict's numbers are report_spec's `verdict_values`; here is only how a number stands for a verdict's word.
use Rattle.std.specs.Prelude.{◌≡◌, List, ℕ, length, Result}
use Rattle.refusal.specs.declared.Refusal.{Refusal}
use Rattle.stream_spec.specs.Memory.{in_front}
use Rattle.report_spec.specs.declared.Verdict.{Verdict}
use Rattle.report_spec.specs.Report.{Word, says_clean, says_broken, says_refused, verdict_values, Whole, contents, report_of, fitting}
use Rattle.capi.specs.declared.report_calls.ReportAnswer.{ReportAnswer}
use Rattle.capi.specs.Shows.{flag}

-- ---- what C hands over: 0 says that a file can't be read, any other number that it was read whole

abbrev pub report_asked : ℕ → List ℕ → ℕ → List ℕ → List ℕ → Whole
report_asked sheetRead sheet captureRead capture out =
    report_of (contents (flag sheetRead) sheet) (contents (flag captureRead) capture) (length out)

-- ---- what C is shown

abbrev pub word_number : Word → ℕ
word_number says_clean = 0
word_number says_broken = 1
word_number says_refused = 2

-- a verdict, with how long the text and the result are
pub record ShowsVerdict (a : ReportAnswer) (v : Result Verdict Refusal) (text octets : ℕ) : Type 0 where
  pub verdict : a.verdict ≡ word_number (verdict_values v).word
  pub refusal : a.refusal ≡ (verdict_values v).refusal
  pub rule : a.rule ≡ (verdict_values v).rule
  pub place : a.place ≡ (verdict_values v).place
  pub transfers : a.transfers ≡ (verdict_values v).transfers
  pub packets : a.packets ≡ (verdict_values v).packets
  pub records : a.records ≡ (verdict_values v).records
  pub told : a.text ≡ text
  pub long : a.octets ≡ octets

-- the whole answer: its numbers, and the result and the text at the front of lent memory; out and text as they were, out'
-- and text' as they are left. A text that does not fit is not written, and counts no octet.
pub record ShowsWhole (a : ReportAnswer) (w : Whole) (out out' text text' : List ℕ) : Type 0 where
  pub numbers : ShowsVerdict a w.verdict (length (fitting w.text text)) (length w.result)
  pub leaves : out' ≡ in_front w.result out
  pub told : text' ≡ in_front (fitting w.text text) text

-- the same of what C hands over
abbrev pub ShowsReport : ReportAnswer → ℕ → List ℕ → ℕ → List ℕ → (out out' text text' : List ℕ) → Type 0
ShowsReport a sheetRead sheet captureRead capture out out' text text' =
    ShowsWhole a (report_asked sheetRead sheet captureRead capture out) out out' text text'
