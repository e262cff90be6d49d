-- What is proved of the report, a statement each. Words in quotes are paper 01's or, where it is said, a request's of paper 02.
-- The proofs are in proofs/Promises.
use Rattle.std.specs.Prelude.{◌≡◌, Bool, true, false, ◌||◌, List, [], ◌∷◌, ◌++◌, map, ◌≢◌, ℕ, ◌*◌, ◌%◌, ◌^◌, ◌≤◌, ◌<◌, eqb, length, Option, None, Some, Ok, Result, Err}
use Rattle.refusal.specs.Code.{code_of}
use Rattle.refusal.specs.declared.Refusal.{Refusal}
use Rattle.stream_spec.specs.Layout.{size, at_width, records, joined, stream_items, sliced}
use Rattle.refusal.specs.Checks.{Check, first}
use Rattle.stream_spec.specs.Checks.{length_check, cycle_checks, room_check}
use Rattle.stream_spec.specs.Handshake.{Finding, first_finding, handshakes, transfer_count, low, high, as_filled}
use Rattle.stream_spec.specs.Answers.{repack_answer, repack_after}
use Rattle.stream_spec.specs.Memory.{in_front}
use Rattle.stream_spec.specs.Legal.{Octets, Legal}
use Rattle.stream_spec.specs.Promises.{Width}
use Rattle.report_setup_spec.specs.declared.Setup.{Setup}
use Rattle.report_setup_spec.specs.declared.Mode.{Mode}
use Rattle.report_setup_spec.specs.declared.Mode.TheVariants.{Pack, Lanes}
use Rattle.report_setup_spec.specs.declared.Tlast.TheVariants.{Absent, Low}
use Rattle.report_setup_spec.specs.Grammar.{sheet_of}
use Rattle.report_spec.specs.declared.Tally.{Tally}
use Rattle.report_spec.specs.declared.Verdict.{Verdict}
use Rattle.report_spec.specs.declared.Verdict.TheVariants.{Clean, Broken}
use Rattle.report_spec.specs.Report.{Word, says_clean, says_broken, says_refused, verdict_values, shape_of, out_shape, cycles_of, transfers_of, packet_count, convert_result, tally, setup_checks, setup_outcome, text_of, whole, report_of}

-- every number of a take that could be read is an octet
abbrev pub OctetsOf : Option (List ℕ) → Type 0
OctetsOf None = Unit {0}
OctetsOf (Some octets) = Octets octets

-- what is reported of a sheet that was read
abbrev pub ReportsSetup : Type 0
ReportsSetup =
    (sheet : List ℕ) (u : Setup) → sheet_of sheet ≡ Some u → (capture : Option (List ℕ)) (room : ℕ)
    → report_of (Some sheet) capture room ≡ whole (setup_outcome u capture room)

-- ---- "`out.bin` is written only when the verdict is clean."

abbrev pub clean_word : Word → Bool
clean_word says_clean = true
clean_word says_broken = false
clean_word says_refused = false

abbrev pub is_clean : Result Verdict Refusal → Bool
is_clean v = clean_word (verdict_values v).word

-- unless the verdict is clean there is no result, and lent memory keeps its content
pub record WritesNothing (result : List ℕ) : Type 0 where
  pub nothing : result ≡ []
  pub kept : (out : List ℕ) → in_front result out ≡ out

abbrev pub OnlyWhenClean : Type 0
OnlyWhenClean =
    (sheet capture : Option (List ℕ)) (room : ℕ) → is_clean (report_of sheet capture room).verdict ≡ false
    → WritesNothing (report_of sheet capture room).result

-- ---- a clean verdict: its numbers are counts of the records harvested and of those in the result, which is a legal stream
-- with the harvested transfers' items, and fits into the lent output. `packets` counts "harvested TLASTs"; the result has as
-- many, in either mode and with each word of `tlast=`.

pub record CleanTally (u : Setup) (capture : List ℕ) (room : ℕ) (result : List ℕ) (t : Tally) : Type 0 where
  pub transfers : t.transfers ≡ length (records (shape_of u) (transfers_of u capture))
  pub packets : t.packets ≡ packet_count (shape_of u) (transfers_of u capture)
  pub packets_out : t.packets ≡ packet_count (out_shape u) result
  pub written : t.records ≡ length (records (out_shape u) result)
  pub long : length result ≡ t.records * size (out_shape u)
  pub fits : length result ≤ room
  pub legal : Legal (out_shape u) result
  pub items : stream_items (out_shape u) result ≡ stream_items (shape_of u) (transfers_of u capture)

abbrev pub CleanTallies : Type 0
CleanTallies =
    (u : Setup) (capture : List ℕ) (room : ℕ) (t : Tally) → Octets capture → (setup_outcome u (Some capture) room).verdict ≡ Ok (Clean t)
    → CleanTally u capture room (setup_outcome u (Some capture) room).result t

-- ---- T-03: ports without a TLAST wire

-- the transfers that were sampled, as records with this level as their TLAST
abbrev pub sampled_at : Bool → Setup → List ℕ → List (List ℕ)
sampled_at level u capture = map (as_filled level) (handshakes (records (shape_of u) capture))

-- what these transfer records become by the sheet: with `mode=pack` their packed form, with `mode=lanes` their slices
abbrev pub result_by : Setup → List ℕ → List ℕ
result_by u transfers = convert_result u.mode (shape_of u) u.width_out transfers

-- "`tlast=none` now fills in high, each transfer its own packet": the transfers are those that were sampled, there are as many
-- packets, and the result is what each transfer becomes by itself, joined record by record. So one that is all-null does not vanish.
pub record OnePacketEach (u : Setup) (capture result : List ℕ) (t : Tally) : Type 0 where
  pub transfers : t.transfers ≡ transfer_count (shape_of u) capture
  pub packets : t.packets ≡ t.transfers
  pub apart : result ≡ joined (map (result_by u) (sampled_at high u capture))

abbrev pub TlastNone : Type 0
TlastNone =
    (u : Setup) (capture : List ℕ) (room : ℕ) (t : Tally) → u.tlast ≡ Absent → (setup_outcome u (Some capture) room).verdict ≡ Ok (Clean t)
    → OnePacketEach u capture (setup_outcome u (Some capture) room).result t

-- ".. count on low and pack across the whole take; they change to the new word `tlast=low`": the transfers are those that were
-- sampled, no packet ends, and the result is what all transfers become together
pub record NoPacketEnds (u : Setup) (capture result : List ℕ) (t : Tally) : Type 0 where
  pub transfers : t.transfers ≡ transfer_count (shape_of u) capture
  pub packets : t.packets ≡ 0
  pub across : result ≡ result_by u (joined (sampled_at low u capture))

abbrev pub TlastLow : Type 0
TlastLow =
    (u : Setup) (capture : List ℕ) (room : ℕ) (t : Tally) → u.tlast ≡ Low → (setup_outcome u (Some capture) room).verdict ≡ Ok (Clean t)
    → NoPacketEnds u capture (setup_outcome u (Some capture) room).result t

-- ---- T-07: no shorter stream. With `mode=pack` the number that a report shows as `records` is at most that of every legal stream of
-- the result's width and user bits which carries the items of the harvested transfers, in their order.

abbrev pub LeastRecords : Type 0
LeastRecords =
    (u : Setup) (capture : List ℕ) (room : ℕ) (t : Tally) → u.mode ≡ Pack → (setup_outcome u (Some capture) room).verdict ≡ Ok (Clean t)
    → (ys : List ℕ) → Legal (out_shape u) ys → stream_items (out_shape u) ys ≡ stream_items (shape_of u) (transfers_of u capture)
    → t.records ≤ length (records (out_shape u) ys)

-- ---- archived files. What `mode=lanes` writes of a take are the slices of its transfers. "repacking them gives what repacking their
-- original takes gave": u is the old sheet with `mode=pack` and any output width put in, v the old output width. Where the report by u on the
-- take is clean, repacking the slices to u's output width answers its `records`, and leaves its result in front of what the call is lent.
-- The slices have to be as short as a take, since what is longer is refused with 2.

pub record AsReported (u : Setup) (v : ℕ) (archived : List ℕ) (room : ℕ) (result : List ℕ) (t : Tally) : Type 0 where
  pub answers : repack_answer (at_width (shape_of u) v) u.width_out archived room ≡ Ok t.records
  pub leaves : (lent : List ℕ) → length lent ≡ room → repack_after (at_width (shape_of u) v) u.width_out archived lent ≡ in_front result lent

abbrev pub ArchivesReported : Type 0
ArchivesReported =
    (u : Setup) (capture : List ℕ) (room : ℕ) (t : Tally) → u.mode ≡ Pack → Octets capture → (setup_outcome u (Some capture) room).verdict ≡ Ok (Clean t)
    → (v : ℕ) → Width v → u.width_in % v ≡ 0 → length (sliced (shape_of u) v (transfers_of u capture)) ≤ 65536
    → AsReported u v (sliced (shape_of u) v (transfers_of u capture)) room (setup_outcome u (Some capture) room).result t

-- ---- which refusals show once the sheet is read, by their numbers: 1, 2, 3, 5, since T-06 16, and 6 in lanes mode. So 4 and 14
-- never do: a reserved lane is R4, and a broken take is a verdict of its own.

abbrev pub ratio_number : Mode → List ℕ
ratio_number Pack = []
ratio_number Lanes = 6 ∷ []

abbrev pub shown : Mode → List ℕ
shown m = 1 ∷ 16 ∷ 2 ∷ 3 ∷ 5 ∷ ratio_number m

abbrev pub listed : ℕ → List ℕ → Bool
listed n [] = false
listed n (k ∷ ks) = eqb n k || listed n ks

abbrev pub may_show : Mode → ℕ → Bool
may_show m number = listed number (shown m)

abbrev pub RefusalsShown : Type 0
RefusalsShown =
    (u : Setup) (capture : Option (List ℕ)) (room : ℕ) (r : Refusal) → OctetsOf capture
    → (setup_outcome u capture room).verdict ≡ Err r → may_show u.mode (code_of r).0 ≡ true

abbrev pub NeverReservedNorUnclean : Type 0
NeverReservedNorUnclean =
    (sheet capture : Option (List ℕ)) (room : ℕ) (r : Refusal) → OctetsOf capture → (report_of sheet capture room).verdict ≡ Err r
    → ((code_of r).0 ≢ 4) × ((code_of r).0 ≢ 14)

abbrev pub PackNeverRatio : Type 0
PackNeverRatio =
    (sheet : List ℕ) (u : Setup) → sheet_of sheet ≡ Some u → u.mode ≡ Pack
    → (capture : Option (List ℕ)) (room : ℕ) (r : Refusal) → OctetsOf capture → (report_of (Some sheet) capture room).verdict ≡ Err r → (code_of r).0 ≢ 6

-- ---- 01's order as one list: "WIDTH of either width, RATIO in lanes mode, LENGTH, FIELD, a broken verdict, and ROOM last",
-- and T-06's USERBITS "straight after WIDTH". For a sheet and a take that were read, the verdict is the first of these that is there, or else clean.

abbrev pub ordered_checks : Setup → List ℕ → List (Check Refusal)
ordered_checks u cycles = setup_checks u ++ length_check (shape_of u) cycles ∷ cycle_checks (shape_of u) 0 (records (shape_of u) cycles)

abbrev pub converted_of : Setup → List ℕ → List ℕ
converted_of u capture = result_by u (transfers_of u capture)

-- the numbers of a clean verdict
abbrev pub tally_of : Setup → List ℕ → Tally
tally_of u capture =
    tally (transfer_count (shape_of u) (cycles_of u capture)) (packet_count (shape_of u) (transfers_of u capture))
    (length (records (out_shape u) (converted_of u capture)))

abbrev pub in_order : Option Refusal → Option Finding → Option Refusal → Tally → Result Verdict Refusal
in_order (Some r) finding room t = Err r
in_order None (Some f) room t = Ok (Broken f.cycle f.rule)
in_order None None (Some r) t = Err r
in_order None None None t = Ok (Clean t)

abbrev pub ReportInOrder : Type 0
ReportInOrder =
    (u : Setup) (capture : List ℕ) (room : ℕ) → Octets capture
    → (setup_outcome u (Some capture) room).verdict
    ≡ in_order (first (ordered_checks u (cycles_of u capture))) (first_finding (shape_of u) (cycles_of u capture))
    (first (room_check (converted_of u capture) room ∷ [])) (tally_of u capture)

-- ---- a text with numbers of 64 bits has at most 103 octets

abbrev pub Fits64 : Result Verdict Refusal → Type 0
Fits64 (Ok (Clean t)) = (t.transfers < 2 ^ 64) × (t.packets < 2 ^ 64) × (t.records < 2 ^ 64)
Fits64 (Ok (Broken cycle rule)) = (cycle < 2 ^ 64) × (rule < 2 ^ 64)
Fits64 (Err r) = ((code_of r).0 < 2 ^ 64) × ((code_of r).1 < 2 ^ 64)

abbrev pub TextShort : Type 0
TextShort = (v : Result Verdict Refusal) → Fits64 v → length (text_of v) ≤ 103
