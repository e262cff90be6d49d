-- Judging as one pass over the cycles, against stream_spec's Handshake: what is known of a cycle where it is judged, and what
-- is known between two cycles. Each is said by what is left: the verdict on the cycles left is the verdict on all.
use Rattle.std.specs.Prelude.{Bool, false, not, ◌&&◌, cond, List, [], ◌∷◌, ℕ, ◌+◌, ◌*◌, ◌^◌, ◌≤◌, ◌<◌, ◌≡◌, length, drop, Option, None, Some, Result}
use Rattle.std.specs.Result.{result_err}
use Rattle.refusal.specs.declared.Refusal.{Refusal}
use Rattle.refusal.specs.declared.Refusal.TheVariants.{Field}
use Rattle.refusal.specs.Checks.{Check, check, first}
use Rattle.stream_spec.specs.declared.Shape.{Shape}
use Rattle.stream_spec.specs.declared.Verdict.{Verdict}
use Rattle.stream_spec.specs.Layout.{bit, tvalid_bit, tready_bit, aresetn_bit, flags, width_most, user_most, size, size_least, size_most, record_count, records}
use Rattle.stream_spec.specs.Checks.{user_fault, field_fault, cycle_flags, cycle_checks}
use Rattle.stream_spec.specs.Handshake.{r1, r2, r3, r4, handshakes, Finding, findings}
use Rattle.stream_spec.specs.Answers.{verdict}
use Rattle.stream_record.specs.declared.Header.{Header}
use Rattle.stream_head.specs.declared.Zeros.{Zeros}
use Rattle.stream_record.specs.Header.{header_of, header_fault}
use Rattle.stream_head.specs.Zeros.{zeros_of}

-- ---- padding

-- no record of these has a bit of its padding set: FIELD is then told by the head alone
abbrev pub Unpadded : Shape → List (List ℕ) → Type 0
Unpadded s [] = Unit {0}
Unpadded s (r ∷ rs) = (user_fault s r ≡ false) × Unpadded s rs

-- FIELD of cycle record k by its head alone, and an answer that tells it wherever these are the bits that must be zero
abbrev pub head_faults : Shape → ℕ → List ℕ → List (Check Refusal)
head_faults s k r = check (header_fault cycle_flags s (header_of r)) (Field k) ∷ []

abbrev pub TellsHead : Zeros → ℕ → List ℕ → Result (Unit {0}) Refusal → Type 0
TellsHead z k rec r = (s : Shape) → s.width ≤ width_most → z ≡ zeros_of cycle_flags s → result_err r ≡ first (head_faults s k rec)

-- ---- one cycle

-- two records that can be compared: of one length, and neither too short nor too long
pub record Alike (prev rec : List ℕ) : Type 0 where
  pub long : length prev ≡ length rec
  pub low : size_least ≤ length rec
  pub high : length rec ≤ size_most

-- whether a cycle with these flags waits, and whether it is a transfer
abbrev pub waits_by : ℕ → Bool
waits_by f = bit aresetn_bit f && bit tvalid_bit f && not (bit tready_bit f)

abbrev pub transfers_by : ℕ → Bool
transfers_by f = bit aresetn_bit f && bit tvalid_bit f && bit tready_bit f

-- the cycle before, whose record is `prev`, or none where that is empty
abbrev pub before_of : List ℕ → Option (List ℕ)
before_of [] = None
before_of (f ∷ r) = Some (f ∷ r)

-- the flags of the cycle before. Where there is none they are those of an idle cycle, ARESETn alone: it neither waits nor is
-- in reset, and no rule reads more of it.
abbrev pub flags_before : Option (List ℕ) → ℕ
flags_before None = 2 ^ aresetn_bit
flags_before (Some b) = flags b

-- the lowest rule that a cycle breaks, if it breaks one
abbrev pub lowest_rule : Shape → Option (List ℕ) → List ℕ → Option ℕ
lowest_rule s b c = cond (r1 b c) (Some 1) (cond (r2 b c) (Some 2) (cond (r3 b c) (Some 3) (cond (r4 s c) (Some 4) None)))

-- what is known where a cycle is judged: its record is whole with no bad field, the header is its, `prev` is the record
-- before it, whole too, or empty, and `prevFlags` are its flags, or an idle cycle's
pub record CycleAt (s : Shape) (h : Header) (prevFlags : ℕ) (prev rec : List ℕ) : Type 0 where
  pub low : 1 ≤ s.width
  pub high : s.width ≤ width_most
  pub user : s.user ≤ user_most
  pub header : h ≡ header_of rec
  pub sound : field_fault cycle_flags s rec ≡ false
  pub whole : length rec ≡ size s
  pub prev_whole : 0 < length prev → length prev ≡ size s
  pub flagged : prevFlags ≡ flags_before (before_of prev)

-- ---- the pass

-- the verdict on the cycles from cycle k on, where `b` is before them and n transfers are counted so far
abbrev pub verdict_from : Shape → Option (List ℕ) → ℕ → List (List ℕ) → ℕ → Result Verdict Refusal
verdict_from s b k cs n = verdict (first (cycle_checks s k cs)) (first (findings s k b cs)) (n + length (handshakes cs))

-- what is known at the start of each turn, with no finding yet: `rest` is left behind k cycles, of which `prev` is the last, or
-- empty, and `prevFlags` are that one's flags, or an idle cycle's
pub record Turning (s : Shape) (xs rest prev : List ℕ) (k count prevFlags : ℕ) : Type 0 where
  pub prev_whole : 0 < length prev → length prev ≡ size s
  pub counted : count ≤ k
  pub flagged : prevFlags ≡ flags_before (before_of prev)
  pub clear : Unpadded s (records s rest)
  pub same : verdict_from s (before_of prev) k (records s rest) count ≡ verdict_from s None 0 (records s xs) 0

-- ---- behind a finding

-- the records behind a cycle
abbrev pub cycles_behind : Shape → List ℕ → ℕ → List (List ℕ)
cycles_behind s xs cycle = records s (drop ((cycle + 1) * size s) xs)

-- the verdict where a finding stands: of the cycles from cycle k on only a bad field counts
abbrev pub verdict_behind : Shape → ℕ → List (List ℕ) → Finding → Result Verdict Refusal
verdict_behind s k cs f = verdict (first (cycle_checks s k cs)) (Some f) 0

-- what is asked there: it is a cycle of the take, these bits must be zero, and no padding is set behind it
pub record Behind (s : Shape) (xs : List ℕ) (z : Zeros) (cycle : ℕ) : Type 0 where
  pub within : cycle < record_count s xs
  pub zeros : z ≡ zeros_of cycle_flags s
  pub clear : Unpadded s (cycles_behind s xs cycle)
