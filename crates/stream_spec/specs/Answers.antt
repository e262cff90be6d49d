-- What each stream call answers, over all its arguments, and every octet of lent memory afterwards (paper 01, 'Refusal
-- numbers', 'How much each answer must say'). Order on streams: 1, 6, 2, 13, then records in order with 3 before 4 in
-- each, then 14, 5; T-06's 16 is straight after 1. Each call has its list of checks in that order; the contracts of the calls
-- cite these definitions.
use Rattle.std.specs.Prelude.{◌≡◌, Bool, List, [], ◌∷◌, ◌++◌, map, ℕ, ◌+◌, ◌*◌, length, drop, Option, None, Some, Result, Ok, Err}
use Rattle.refusal.specs.Code.{code_of}
use Rattle.refusal.specs.declared.Refusal.{Refusal}
use Rattle.refusal.specs.declared.Refusal.TheVariants.{Unclean}
use Rattle.stream_spec.specs.declared.Shape.{Shape}
use Rattle.stream_spec.specs.declared.Verdict.{Verdict}
use Rattle.stream_spec.specs.declared.Verdict.TheVariants.{Clean, Broken}
use Rattle.stream_spec.specs.Layout.{size, head_octets, records, record_count, data_octets, packed_transfers, packed, sliced_transfers, sliced}
use Rattle.refusal.specs.Checks.{Check, check, first}
use Rattle.stream_spec.specs.Checks.{shape_checks, ratio_check, length_check, take_checks, index_check, transfer_checks, cycle_checks, room_check}
use Rattle.stream_spec.specs.Memory.{in_front}
use Rattle.stream_spec.specs.Handshake.{Finding, findings, first_finding, transfer_count, harvested, filled_in}

-- ---- how an answer is made of the first refusal, if there is one

abbrev pub verdict : Option Refusal → Option Finding → ℕ → Result Verdict Refusal
verdict (Some r) f n = Err r
verdict None (Some f) n = Ok (Broken f.cycle f.rule)
verdict None None n = Ok (Clean n)

-- "An accepted writing call answers the number of records .."
abbrev pub written : Option Refusal → ℕ → Result ℕ Refusal
written (Some r) n = Err r
written None n = Ok n

-- ".. and leaves the output after them unchanged"; refused, "lent memory keeps its content"
abbrev pub lent_after : Option Refusal → List ℕ → List ℕ → List ℕ
lent_after (Some r) result lent = lent
lent_after None result lent = in_front result lent

abbrev pub lookup : Option Refusal → Result (Unit {0}) Refusal
lookup (Some r) = Err r
lookup None = Ok tt

-- "a part handed out is empty" where the call is refused
abbrev pub part_for : Option Refusal → List ℕ → List ℕ
part_for (Some r) part = []
part_for None part = part

-- ---- judge: 1, 16, 2, 3

abbrev pub judge_checks : Shape → List ℕ → List (Check Refusal)
judge_checks s capture = take_checks s capture ++ cycle_checks s 0 (records s capture)

unfoldable pub judge_answer : Shape → List ℕ → Result Verdict Refusal
judge_answer s capture = verdict (first (judge_checks s capture)) (first_finding s capture) (transfer_count s capture)

-- ---- harvest: 1, 16, 2, 3, 14, 5

-- 14: "harvest of a broken take", with the cycle and rule of its verdict
abbrev pub unclean_check : Check Finding → Check Refusal
unclean_check c = check c.found (Unclean c.gives.cycle c.gives.rule)

abbrev pub harvest_refusal : Shape → List ℕ → ℕ → Option Refusal
harvest_refusal s capture room =
    first
    (judge_checks s capture
    ++ (map unclean_check (findings s 0 None (records s capture)) ++ room_check (harvested s capture) room ∷ []))

unfoldable pub harvest_answer : Shape → List ℕ → ℕ → Result ℕ Refusal
harvest_answer s capture room = written (harvest_refusal s capture room) (transfer_count s capture)

unfoldable pub harvest_after : Shape → List ℕ → List ℕ → List ℕ
harvest_after s capture out = lent_after (harvest_refusal s capture (length out)) (harvested s capture) out

-- ---- fill-in: 1, 16, 2. The lent take is input and output; `level` is what TLAST becomes (T-03).

abbrev pub fill_refusal : Shape → List ℕ → Option Refusal
fill_refusal s capture = first (take_checks s capture)

unfoldable pub fill_answer : Shape → List ℕ → Result ℕ Refusal
fill_answer s capture = written (fill_refusal s capture) (record_count s capture)

unfoldable pub fill_after : Bool → Shape → List ℕ → List ℕ
fill_after level s capture = lent_after (fill_refusal s capture) (filled_in level s capture) capture

-- ---- data octets of record k: 1, 16, 2, 13

abbrev pub data_refusal : Shape → List ℕ → ℕ → Option Refusal
data_refusal s capture k = first (take_checks s capture ++ index_check s capture k ∷ [])

unfoldable pub data_answer : Shape → List ℕ → ℕ → Result (Unit {0}) Refusal
data_answer s capture k = lookup (data_refusal s capture k)

unfoldable pub data_part : Shape → List ℕ → ℕ → List ℕ
data_part s capture k = part_for (data_refusal s capture k) (data_octets s (drop (k * size s) capture))

-- where that part starts in the take, for callers who cannot be handed a part; 0 where the call is refused
abbrev pub start_for : Option Refusal → ℕ → ℕ
start_for (Some r) start = 0
start_for None start = start

unfoldable pub data_start : Shape → List ℕ → ℕ → ℕ
data_start s capture k = start_for (data_refusal s capture k) (k * size s + head_octets)

-- ---- repack to width v: 1, 16, 2, records with 3 before 4, 5

abbrev pub repack_refusal : Shape → ℕ → List ℕ → ℕ → Option Refusal
repack_refusal s v transfers room =
    first
    (shape_checks s (v ∷ [])
    ++ length_check s transfers ∷ (transfer_checks s 0 (records s transfers) ++ room_check (packed s v transfers) room ∷ []))

unfoldable pub repack_answer : Shape → ℕ → List ℕ → ℕ → Result ℕ Refusal
repack_answer s v transfers room = written (repack_refusal s v transfers room) (length (packed_transfers s v transfers))

unfoldable pub repack_after : Shape → ℕ → List ℕ → List ℕ → List ℕ
repack_after s v transfers out = lent_after (repack_refusal s v transfers (length out)) (packed s v transfers) out

-- ---- lane-keeping downsizing to width v: 1, 16, 6, 2, records with 3 before 4, 5

abbrev pub downsize_refusal : Shape → ℕ → List ℕ → ℕ → Option Refusal
downsize_refusal s v transfers room =
    first
    (shape_checks s (v ∷ [])
    ++ ratio_check s v ∷ length_check s transfers
    ∷ (transfer_checks s 0 (records s transfers) ++ room_check (sliced s v transfers) room ∷ []))

unfoldable pub downsize_answer : Shape → ℕ → List ℕ → ℕ → Result ℕ Refusal
downsize_answer s v transfers room = written (downsize_refusal s v transfers room) (length (sliced_transfers s v transfers))

unfoldable pub downsize_after : Shape → ℕ → List ℕ → List ℕ → List ℕ
downsize_after s v transfers out = lent_after (downsize_refusal s v transfers (length out)) (sliced s v transfers) out

-- ---- the paper's numbers for each answer: the refusal's number, its place (or the broken cycle), the rule, and the count
-- of transfers or records. "Its other numbers are 0." The contracts of the calls use these lists.

pub record Values : Type 0 where
  pub refusal : ℕ
  pub place : ℕ
  pub rule : ℕ
  pub count : ℕ

abbrev pub values : ℕ → ℕ → ℕ → ℕ → Values
values refusal place rule count = record { refusal = refusal; place = place; rule = rule; count = count }

abbrev pub refusal_values : Refusal → Values
refusal_values r = values (code_of r).0 (code_of r).1 (code_of r).2 0

abbrev pub verdict_values : Result Verdict Refusal → Values
verdict_values (Ok (Clean n)) = values 0 0 0 n
verdict_values (Ok (Broken cycle rule)) = values 0 cycle rule 0
verdict_values (Err r) = refusal_values r

abbrev pub written_values : Result ℕ Refusal → Values
written_values (Ok n) = values 0 0 0 n
written_values (Err r) = refusal_values r

abbrev pub lookup_values : Result (Unit {0}) Refusal → Values
lookup_values (Ok u) = values 0 0 0 0
lookup_values (Err r) = refusal_values r

-- ---- the contracts of the calls: the answer is the definition's, with 01's numbers for it, and so is every octet of lent
-- memory afterwards

pub record Judged (s : Shape) (capture : List ℕ) (r : Result Verdict Refusal) : Type 0 where
  pub is : r ≡ judge_answer s capture
  pub shows : verdict_values r ≡ verdict_values (judge_answer s capture)

pub record LookedUp (s : Shape) (capture : List ℕ) (k : ℕ) (r : Result (Unit {0}) Refusal) : Type 0 where
  pub is : r ≡ data_answer s capture k
  pub shows : lookup_values r ≡ lookup_values (data_answer s capture k)

pub record Harvested (s : Shape) (capture before after : List ℕ) (r : Result ℕ Refusal) : Type 0 where
  pub is : r ≡ harvest_answer s capture (length before)
  pub shows : written_values r ≡ written_values (harvest_answer s capture (length before))
  pub leaves : after ≡ harvest_after s capture before

pub record FilledIn (level : Bool) (s : Shape) (before after : List ℕ) (r : Result ℕ Refusal) : Type 0 where
  pub is : r ≡ fill_answer s before
  pub shows : written_values r ≡ written_values (fill_answer s before)
  pub leaves : after ≡ fill_after level s before

pub record Repacked (s : Shape) (v : ℕ) (transfers before after : List ℕ) (r : Result ℕ Refusal) : Type 0 where
  pub is : r ≡ repack_answer s v transfers (length before)
  pub shows : written_values r ≡ written_values (repack_answer s v transfers (length before))
  pub leaves : after ≡ repack_after s v transfers before

pub record Downsized (s : Shape) (v : ℕ) (transfers before after : List ℕ) (r : Result ℕ Refusal) : Type 0 where
  pub is : r ≡ downsize_answer s v transfers (length before)
  pub shows : written_values r ≡ written_values (downsize_answer s v transfers (length before))
  pub leaves : after ≡ downsize_after s v transfers before
