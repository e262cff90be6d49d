-- The report (paper 01, 'The report program'): from a setup sheet and a take of cycle records to a verdict, the text that is
-- printed and the octets of the result. Words in quotes are 01's or, where it is said, those of T-03 or T-06 (paper 02). What a sheet says is
-- report_setup_spec's `sheet_of`; what judging, harvesting, fill-in, repacking and downsizing answer is stream_spec's.
use Rattle.std.specs.Prelude.{◌≡◌, Bool, true, false, cond, List, [], ◌∷◌, ◌++◌, ℕ, ◌+◌, ◌≤◌, ltb, length, Option, None, Some, Result, Ok, Err}
use Rattle.refusal.specs.Code.{code_of}
use Rattle.refusal.specs.declared.Refusal.{Refusal}
use Rattle.refusal.specs.declared.Refusal.TheVariants.{Length, Setup as BadSheet}
use Rattle.stream_spec.specs.declared.Shape.{Shape}
use Rattle.stream_spec.specs.declared.Verdict.{Verdict as Judgement}
use Rattle.stream_spec.specs.declared.Verdict.TheVariants.{Clean as Sound, Broken as Breaks}
use Rattle.stream_spec.specs.Layout.{shaped, at_width, bit_of, tlast, records, packed, sliced}
use Rattle.refusal.specs.Checks.{Check, first}
use Rattle.stream_spec.specs.Checks.{shape_checks, ratio_check}
use Rattle.stream_spec.specs.Memory.{in_front}
use Rattle.stream_spec.specs.Handshake.{low, high, harvested}
use Rattle.stream_spec.specs.Answers.{judge_answer, fill_after, repack_answer, downsize_answer}
use Rattle.report_setup_spec.specs.declared.Setup.{Setup}
use Rattle.report_setup_spec.specs.declared.Mode.{Mode}
use Rattle.report_setup_spec.specs.declared.Mode.TheVariants.{Pack, Lanes}
use Rattle.report_setup_spec.specs.declared.Tlast.{Tlast}
use Rattle.report_setup_spec.specs.declared.Tlast.TheVariants.{Wired, Absent, Low}
use Rattle.report_setup_spec.specs.Grammar.{sheet_of, text as ascii}
use Rattle.text.specs.Text.{line}
use Rattle.report_spec.specs.declared.Tally.{Tally}
use Rattle.report_spec.specs.declared.Verdict.{Verdict}
use Rattle.report_spec.specs.declared.Verdict.TheVariants.{Clean, Broken}
use Rattle.report_spec.specs.declared.Summary.{Summary}

-- What is known of a file: its octets, or nothing where it could not be read whole.
abbrev pub contents : Bool → List ℕ → Option (List ℕ)
contents true octets = Some octets
contents false octets = None

-- ---- the verdict and the result

-- a verdict, with the octets of `out.bin`: none unless it is clean
pub record Outcome : Type 0 where
  pub verdict : Result Verdict Refusal
  pub result : List ℕ

abbrev pub refused : Refusal → Outcome
refused r = record { verdict = Err r; result = [] }

-- the records of the take, and those of the result: T-06: "m being one fixed number in all the calls"
abbrev pub shape_of : Setup → Shape
shape_of u = shaped u.width_in u.user

abbrev pub out_shape : Setup → Shape
out_shape u = at_width (shape_of u) u.width_out

-- "`tlast=wired` or `tlast=none` (fill-in first)"; T-03: "`tlast=none` now fills in high", "the new word `tlast=low`" low
abbrev pub prepared : Tlast → Shape → List ℕ → List ℕ
prepared Wired s capture = capture
prepared Absent s capture = fill_after high s capture
prepared Low s capture = fill_after low s capture

-- the cycles that are judged, filled in where the sheet says so, and the transfers that are harvested from them
abbrev pub cycles_of : Setup → List ℕ → List ℕ
cycles_of u capture = prepared u.tlast (shape_of u) capture

abbrev pub transfers_of : Setup → List ℕ → List ℕ
transfers_of u capture = harvested (shape_of u) (cycles_of u capture)

-- "`packets` harvested TLASTs": the records that have TLAST. T-03: "the packet count of the report reads the filled take".
abbrev pub lasts : List (List ℕ) → ℕ
lasts [] = 0
lasts (r ∷ rs) = bit_of (tlast r) + lasts rs

abbrev pub packet_count : Shape → List ℕ → ℕ
packet_count s transfers = lasts (records s transfers)

-- `mode=pack`: repacking; `mode=lanes`: lane-keeping downsizing
abbrev pub convert_answer : Mode → Shape → ℕ → List ℕ → ℕ → Result ℕ Refusal
convert_answer Pack s v transfers room = repack_answer s v transfers room
convert_answer Lanes s v transfers room = downsize_answer s v transfers room

abbrev pub convert_result : Mode → Shape → ℕ → List ℕ → List ℕ
convert_result Pack s v transfers = packed s v transfers
convert_result Lanes s v transfers = sliced s v transfers

abbrev pub tally : ℕ → ℕ → ℕ → Tally
tally transfers packets written = record { transfers = transfers; packets = packets; records = written }

-- ".. and ROOM last": `transfers` counts harvested records; `records` counts those written to `out.bin`
abbrev pub converted : Result ℕ Refusal → ℕ → ℕ → List ℕ → Outcome
converted (Err r) transfers packets result = refused r
converted (Ok n) transfers packets result = record { verdict = Ok (Clean (tally transfers packets n)); result = result }

abbrev pub converted_transfers : Setup → List ℕ → ℕ → ℕ → Outcome
converted_transfers u transfers room count =
    converted (convert_answer u.mode (shape_of u) u.width_out transfers room) count (packet_count (shape_of u) transfers)
    (convert_result u.mode (shape_of u) u.width_out transfers)

-- ".. LENGTH, FIELD, a broken verdict ..": what judging answers, and for a clean take what follows
abbrev pub after_judging : Result Judgement Refusal → (ℕ → Outcome) → Outcome
after_judging (Err r) next = refused r
after_judging (Ok (Breaks cycle rule)) next = record { verdict = Ok (Broken cycle rule); result = [] }
after_judging (Ok (Sound count)) next = next count

-- "A `take.bin` that can't be read counts as over-long."
abbrev pub capture_outcome : Setup → Option (List ℕ) → ℕ → Outcome
capture_outcome u None room = refused Length
capture_outcome u (Some capture) room =
    after_judging (judge_answer (shape_of u) (cycles_of u capture)) (converted_transfers u (transfers_of u capture) room)

-- ".. then WIDTH of either width, RATIO in lanes mode .."; T-06: USERBITS "straight after WIDTH"
abbrev pub ratio_checks : Mode → Shape → ℕ → List (Check Refusal)
ratio_checks Pack s v = []
ratio_checks Lanes s v = ratio_check s v ∷ []

abbrev pub setup_checks : Setup → List (Check Refusal)
setup_checks u = shape_checks (shape_of u) (u.width_out ∷ []) ++ ratio_checks u.mode (shape_of u) u.width_out

-- the sheet's widths, its user bits and its ratio pass their tests
abbrev pub Passes : Setup → Type 0
Passes u = first (setup_checks u) ≡ None

abbrev pub unless : Option Refusal → Outcome → Outcome
unless (Some r) next = refused r
unless None next = next

abbrev pub setup_outcome : Setup → Option (List ℕ) → ℕ → Outcome
setup_outcome u capture room = unless (first (setup_checks u)) (capture_outcome u capture room)

-- "SHEET comes first of all, also for a sheet that can't be read .."
abbrev pub sheet_outcome : Option Setup → Option (List ℕ) → ℕ → Outcome
sheet_outcome None capture room = refused BadSheet
sheet_outcome (Some u) capture room = setup_outcome u capture room

-- `room` is the length of the lent output
abbrev pub outcome_of : Option (List ℕ) → Option (List ℕ) → ℕ → Outcome
outcome_of None capture room = refused BadSheet
outcome_of (Some sheet) capture room = sheet_outcome (sheet_of sheet) capture room

-- ---- the numbers and the text of a verdict

-- which lines are printed
pub data Word : Type 0 where
  says_clean : Word
  says_broken : Word
  says_refused : Word

-- 01's numbers for each verdict, the one list that its text, its contract and C's answer are read from: the refusal's
-- number, its place (or the broken cycle), the rule, and the counts of a clean take. What a verdict does not have is 0.
pub record Values : Type 0 where
  pub refusal : ℕ
  pub place : ℕ
  pub rule : ℕ
  pub word : Word
  pub transfers : ℕ
  pub packets : ℕ
  pub records : ℕ

abbrev pub verdict_values : Result Verdict Refusal → Values
verdict_values (Ok (Clean t)) =
    record { refusal = 0; place = 0; rule = 0; word = says_clean; transfers = t.transfers; packets = t.packets; records = t.records }
verdict_values (Ok (Broken cycle rule)) =
    record { refusal = 0; place = cycle; rule = rule; word = says_broken; transfers = 0; packets = 0; records = 0 }
verdict_values (Err r) =
    record { refusal = (code_of r).0; place = (code_of r).1; rule = 0; word = says_refused; transfers = 0; packets = 0; records = 0 }

-- "It prints key=value lines: for clean the four below; for broken `verdict`, `cycle`, `rule`; for refused `verdict`,
-- `refusal`, `at`."
abbrev pub clean_text : ℕ → ℕ → ℕ → List ℕ
clean_text transfers packets written =
    ascii "verdict=clean\n" ++ line (ascii "transfers=") transfers ++ line (ascii "packets=") packets ++ line (ascii "records=") written

abbrev pub broken_text : ℕ → ℕ → List ℕ
broken_text cycle rule = ascii "verdict=broken\n" ++ line (ascii "cycle=") cycle ++ line (ascii "rule=") rule

abbrev pub refused_text : ℕ → ℕ → List ℕ
refused_text number place = ascii "verdict=refused\n" ++ line (ascii "refusal=") number ++ line (ascii "at=") place

abbrev pub lines_of : Word → Values → List ℕ
lines_of says_clean v = clean_text v.transfers v.packets v.records
lines_of says_broken v = broken_text v.place v.rule
lines_of says_refused v = refused_text v.refusal v.place

abbrev pub text_of : Result Verdict Refusal → List ℕ
text_of v = lines_of (verdict_values v).word (verdict_values v)

-- ---- the report: verdict, text and result

pub record Whole : Type 0 where
  pub verdict : Result Verdict Refusal
  pub text : List ℕ
  pub result : List ℕ

abbrev pub whole : Outcome → Whole
whole o = record { verdict = o.verdict; text = text_of o.verdict; result = o.result }

-- from the sheet's octets and the take's, each none where it can't be read, and the room of the lent output
unfoldable pub report_of : Option (List ℕ) → Option (List ℕ) → ℕ → Whole
report_of sheet capture room = whole (outcome_of sheet capture room)

-- ---- lent memory

-- a text that does not fit is not written, and no octet of it is counted
abbrev pub fitting : List ℕ → List ℕ → List ℕ
fitting told lent = cond (ltb (length lent) (length told)) [] told

-- no text is longer, whatever its numbers: the program's buffer for it has this length
abbrev pub text_most : ℕ
text_most = 128

-- ---- the contract of the report: its answer, with 01's numbers for it; the text and the result at the front of lent memory,
-- how long they are, and that a buffer of `text_most` octets holds the text
pub record Reported (w : Whole) (out out' text text' : List ℕ) (r : Summary) : Type 0 where
  pub is : r.verdict ≡ w.verdict
  pub shows : verdict_values r.verdict ≡ verdict_values w.verdict
  pub tells : text' ≡ in_front (fitting w.text text) text
  pub text_length : r.text ≡ length (fitting w.text text)
  pub leaves : out' ≡ in_front w.result out
  pub result_length : r.octets ≡ length w.result
  pub short : length w.text ≤ text_most

-- the same, on what the call is handed: the octets of either file, or nothing
abbrev pub ReportedOn : Option (List ℕ) → Option (List ℕ) → List ℕ → List ℕ → List ℕ → List ℕ → Summary → Type 0
ReportedOn sheet capture out out' text text' r = Reported (report_of sheet capture (length out)) out out' text text' r
