-- The statements of specs/Promises put to use: truth tables of what they ask, each promise at its widest with its premises
-- written out, and at examples typed by hand. A premise that is narrowed, or a conclusion that says less, breaks one.
-- Assumes nothing.
use Rattle.std.specs.Prelude.{Option, None, Some, Result, Ok, Err}
use mathlib.Core.Path.{◌≡◌, refl, sym, ap, ◌∙◌}
use mathlib.Core.Bool.{Bool, true, false}
use mathlib.Core.List.{List, [], ◌∷◌, ◌++◌, map}
use mathlib.Core.Logic.{◌≢◌}
use Prim.Native.Nat.{ℕ, ◌%◌, ◌≤◌}
use native.Mathlib.Omega.{arith}
use lib.Dec.{lit≤}
use lib.ListN.{length, replicate}
use Rattle.refusal.specs.Code.{code_of}
use Rattle.refusal.specs.declared.Refusal.{Refusal}
use Rattle.refusal.specs.declared.Refusal.TheVariants.{Field, Reserved, Room, Ratio, Unclean}
use Rattle.stream_spec.specs.Layout.{size, shaped, at_width, records, stream_items, sliced as cut}
use Rattle.refusal.specs.Checks.{first}
use Rattle.stream_spec.specs.Checks.{capture_most, room_check}
use Rattle.stream_spec.specs.Handshake.{Finding, first_finding, transfer_count}
use Rattle.stream_spec.specs.Answers.{judge_answer, fill_after, repack_answer, repack_after, downsize_answer, Repacked}
use Rattle.stream_spec.specs.Memory.{in_front}
use Rattle.stream_spec.specs.Legal.{Octets, Legal}
use Rattle.stream_spec.specs.Promises.{Width}
use Rattle.stream_spec.proofs.Tables.{width_tested, octets_tested, legal_tested}
use Rattle.report_setup_spec.specs.declared.Setup.{Setup}
use Rattle.report_setup_spec.specs.declared.Mode.{Mode}
use Rattle.report_setup_spec.specs.declared.Mode.TheVariants.{Pack, Lanes}
use Rattle.report_setup_spec.specs.declared.Tlast.{Tlast}
use Rattle.report_setup_spec.specs.declared.Tlast.TheVariants.{Wired, Absent, Low}
use Rattle.report_setup_spec.specs.Grammar.{sheet_of}
use Rattle.report_setup_spec.specs.Answers.{sheet_values}
use Rattle.report_spec.specs.declared.Tally.{Tally}
use Rattle.report_spec.specs.declared.Verdict.TheVariants.{Clean, Broken}
use Rattle.report_spec.specs.Report.{shape_of, out_shape, cycles_of, transfers_of, tally, setup_outcome, sheet_outcome, verdict_values, text_of, whole, report_of}
use Rattle.report_spec.specs.Promises.{OctetsOf, is_clean, CleanTally, OnePacketEach, NoPacketEnds, may_show, ordered_checks, converted_of, tally_of, in_order}
use Rattle.report_spec.specs.Cases.{says, p1_sheet, p1_take, p1_result, p1_tagged, p1_tagged_result, p1_low, p1_slices, cycle}
use Rattle.report_spec.proofs.Promises.{reports_setup, only_when_clean, clean_tallies, tlast_none, tlast_low, least_records, archives_reported, refusals_shown, never_reserved_nor_unclean, pack_never_ratio, report_in_order, text_short, no}

-- ---- what the promises ask

pub clean-table : (t : Tally) (cycle rule : ℕ) (r : Refusal)
    → map is_clean (Ok (Clean t) ∷ Ok (Broken cycle rule) ∷ Err r ∷ []) ≡ true ∷ false ∷ false ∷ []
clean-table t cycle rule r = refl

-- 1 to 20, as far as paper 01 and the requests count; 6 is the one that the mode decides
abbrev numbers : List ℕ
numbers = 1 ∷ 2 ∷ 3 ∷ 4 ∷ 5 ∷ 6 ∷ 7 ∷ 8 ∷ 9 ∷ 10 ∷ 11 ∷ 12 ∷ 13 ∷ 14 ∷ 15 ∷ 16 ∷ 17 ∷ 18 ∷ 19 ∷ 20 ∷ []

abbrev shown_table : Bool → List Bool
shown_table six =
    true ∷ true ∷ true ∷ false ∷ true ∷ six ∷ false ∷ false ∷ false ∷ false ∷ false ∷ false ∷ false ∷ false ∷ false ∷ true ∷ false ∷ false ∷ false ∷ false ∷ []

pub pack-table : map (may_show Pack) numbers ≡ shown_table false
pack-table = refl

pub lanes-table : map (may_show Lanes) numbers ≡ shown_table true
lanes-table = refl

pub unread_octets : OctetsOf None
unread_octets = tt

pub read-octets : (capture : List ℕ) → Octets capture → OctetsOf (Some capture)
read-octets capture o = o

-- a sheet that is refused shows the number that the report shows for it
pub sheet-number : (capture : Option (List ℕ)) (room : ℕ)
    → (verdict_values (sheet_outcome None capture room).verdict).refusal ≡ (sheet_values None).refusal
sheet-number capture room = refl

-- ---- at their widest

module _ (sheet capture : Option (List ℕ)) (room : ℕ) where
  pub broken_keeps : (cycle rule : ℕ) → (report_of sheet capture room).verdict ≡ Ok (Broken cycle rule)
      → (out : List ℕ) → in_front (report_of sheet capture room).result out ≡ out
  broken_keeps cycle rule e = (only_when_clean sheet capture room (ap is_clean e)).kept

  pub refused-nothing : (r : Refusal) → (report_of sheet capture room).verdict ≡ Err r → (report_of sheet capture room).result ≡ []
  refused-nothing r e = (only_when_clean sheet capture room (ap is_clean e)).nothing

  module _ (o : OctetsOf capture) where
    pub never_reserved : (k : ℕ) → (report_of sheet capture room).verdict ≡ Err (Reserved k) → ⊥
    never_reserved k e = (never_reserved_nor_unclean sheet capture room (Reserved k) o e).0 refl

    pub never_unclean : (k rule : ℕ) → (report_of sheet capture room).verdict ≡ Err (Unclean k rule) → ⊥
    never_unclean k rule e = (never_reserved_nor_unclean sheet capture room (Unclean k rule) o e).1 refl

pub never_hidden : (u : Setup) (capture : Option (List ℕ)) (room : ℕ) (r : Refusal) → OctetsOf capture → may_show u.mode (code_of r).0 ≡ false
    → (setup_outcome u capture room).verdict ≡ Err r → ⊥
never_hidden u capture room r o h e = no (sym h ∙ refusals_shown u capture room r o e)

module _ (sheet : List ℕ) (u : Setup) (e : sheet_of sheet ≡ Some u) (capture : Option (List ℕ)) (room : ℕ) where
  pub reads_setup : report_of (Some sheet) capture room ≡ whole (setup_outcome u capture room)
  reads_setup = reports_setup sheet u e capture room

  pub pack-no-ratio : u.mode ≡ Pack → OctetsOf capture → (report_of (Some sheet) capture room).verdict ≡ Err Ratio → ⊥
  pack-no-ratio m o h = pack_never_ratio sheet u e m capture room Ratio o h refl

-- without a TLAST wire the transfers are those of the take as it was sampled, whatever level is filled in
module _ (u : Setup) (capture : List ℕ) (room : ℕ) (t : Tally) (clean : (setup_outcome u (Some capture) room).verdict ≡ Ok (Clean t)) where
  pub none_sampled : u.tlast ≡ Absent → t.packets ≡ transfer_count (shape_of u) capture
  none_sampled e = let p = tlast_none u capture room t e clean in p.packets ∙ p.transfers

  pub low_sampled : u.tlast ≡ Low → t.transfers ≡ transfer_count (shape_of u) capture
  low_sampled e = (tlast_low u capture room t e clean).transfers

-- ".. LENGTH, FIELD, a broken verdict, and ROOM last": each kind of verdict, where those before it are not there
module _ (u : Setup) (capture : List ℕ) (room : ℕ) (o : Octets capture) where
  abbrev tests : Option Refusal
  tests = first (ordered_checks u (cycles_of u capture))

  abbrev finding : Option Finding
  finding = first_finding (shape_of u) (cycles_of u capture)

  abbrev roomy : Option Refusal
  roomy = first (room_check (converted_of u capture) room ∷ [])

  pub tests_first : (r : Refusal) → tests ≡ Some r → (setup_outcome u (Some capture) room).verdict ≡ Err r
  tests_first r e = report_in_order u capture room o ∙ ap (λ (x : Option Refusal). in_order x finding roomy (tally_of u capture)) e

  module _ (e : tests ≡ None) where
    passed : (setup_outcome u (Some capture) room).verdict ≡ in_order None finding roomy (tally_of u capture)
    passed = report_in_order u capture room o ∙ ap (λ (x : Option Refusal). in_order x finding roomy (tally_of u capture)) e

    pub then_broken : (f : Finding) → finding ≡ Some f → (setup_outcome u (Some capture) room).verdict ≡ Ok (Broken f.cycle f.rule)
    then_broken f h = passed ∙ ap (λ (x : Option Finding). in_order None x roomy (tally_of u capture)) h

    module _ (h : finding ≡ None) where
      sound : (setup_outcome u (Some capture) room).verdict ≡ in_order None None roomy (tally_of u capture)
      sound = passed ∙ ap (λ (x : Option Finding). in_order None x roomy (tally_of u capture)) h

      pub room-last : (r : Refusal) → roomy ≡ Some r → (setup_outcome u (Some capture) room).verdict ≡ Err r
      room-last r k = sound ∙ ap (λ (x : Option Refusal). in_order None None x (tally_of u capture)) k

      pub else_clean : roomy ≡ None → (setup_outcome u (Some capture) room).verdict ≡ Ok (Clean (tally_of u capture))
      else_clean k = sound ∙ ap (λ (x : Option Refusal). in_order None None x (tally_of u capture)) k

-- ---- at examples: P1, a port without a TLAST wire, a take with a reserved lane, the longest text

abbrev p1 : Setup
p1 = record { width_in = 4; width_out = 2; mode = Pack; tlast = Wired; user = 0 }

pub p1_tallied : CleanTally p1 p1_take 18 p1_result (tally 1 1 2)
unfolding size judge_answer repack_answer
p1_tallied = clean_tallies p1 p1_take 18 (tally 1 1 2) ((octets_tested p1_take).1 refl) refl

-- T-06: the same with two user bits to a byte
abbrev p1_user : Setup
p1_user = record { width_in = 4; width_out = 2; mode = Pack; tlast = Wired; user = 2 }

pub tagged_tallied : CleanTally p1_user p1_tagged 20 p1_tagged_result (tally 1 1 2)
unfolding size judge_answer repack_answer
tagged_tallied = clean_tallies p1_user p1_tagged 20 (tally 1 1 2) ((octets_tested p1_tagged).1 refl) refl

-- a data byte and an all-null transfer, sampled without TLAST and with it; at width 2 a record each, or one record for both
abbrev unwired : Tlast → Setup
unwired wire = record { width_in = 1; width_out = 2; mode = Pack; tlast = wire; user = 0 }

abbrev unwired_take : List ℕ
unwired_take = cycle 0x0E 0 1 1 ++ cycle 0x0F 0 0 0

abbrev apart_result : List ℕ
apart_result = 0x01 ∷ 0x00 ∷ 0x00 ∷ 0x01 ∷ 0x00 ∷ 0x01 ∷ 0x00 ∷ 0x07 ∷ 0x00 ∷ 0x01 ∷ 0x00 ∷ 0x00 ∷ 0x00 ∷ 0x00 ∷ 0x00 ∷ 0x00 ∷ 0x00 ∷ 0x00 ∷ []

abbrev across_result : List ℕ
across_result = 0x00 ∷ 0x00 ∷ 0x00 ∷ 0x01 ∷ 0x00 ∷ 0x01 ∷ 0x00 ∷ 0x07 ∷ 0x00 ∷ []

pub none-ends-each : OnePacketEach (unwired Absent) unwired_take apart_result (tally 2 2 2)
unfolding size judge_answer fill_after repack_answer
none-ends-each = tlast_none (unwired Absent) unwired_take 18 (tally 2 2 2) refl refl

pub low-ends-none : NoPacketEnds (unwired Low) unwired_take across_result (tally 2 0 1)
unfolding size judge_answer fill_after repack_answer
low-ends-none = tlast_low (unwired Low) unwired_take 9 (tally 2 0 1) refl refl

-- in lanes mode too there are as many TLASTs in the result: P1's transfer sampled without TLAST, and its two slices
abbrev sliced : Setup
sliced = record { width_in = 4; width_out = 2; mode = Lanes; tlast = Absent; user = 0 }

pub sliced_tallied : CleanTally sliced p1_low 18 p1_slices (tally 1 1 2)
unfolding size judge_answer fill_after downsize_answer
sliced_tallied = clean_tallies sliced p1_low 18 (tally 1 1 2) ((octets_tested p1_low).1 refl) refl

pub sliced-each : OnePacketEach sliced p1_low p1_slices (tally 1 1 2)
unfolding size judge_answer fill_after downsize_answer
sliced-each = tlast_none sliced p1_low 18 (tally 1 1 2) refl refl

-- T-07: P1's slices carry the same items in as many records as its packed form, and none has fewer
pub p1-least : 2 ≤ 2
unfolding size judge_answer repack_answer
p1-least = least_records p1 p1_take 18 (tally 1 1 2) refl refl p1_slices ((legal_tested (shaped 2 0) p1_slices).1 refl) refl

-- `LeastRecords` is this statement of `mode=pack`
abbrev LeastIn : Mode → Type 0
LeastIn m =
    (u : Setup) (capture : List ℕ) (room : ℕ) (t : Tally) → u.mode ≡ m → (setup_outcome u (Some capture) room).verdict ≡ Ok (Clean t)
    → (ys : List ℕ) → Legal (out_shape u) ys → stream_items (out_shape u) ys ≡ stream_items (shape_of u) (transfers_of u capture)
    → t.records ≤ length (records (out_shape u) ys)

pub in_pack-mode : LeastIn Pack
in_pack-mode = least_records

-- Of `mode=lanes` it is false: P1's transfer has four slices of one lane, one of them all-null, where these three records carry it.
abbrev to_one : Setup
to_one = record { width_in = 4; width_out = 1; mode = Lanes; tlast = Wired; user = 0 }

abbrev p1_ones : List ℕ
p1_ones =
    0x00 ∷ 0x01 ∷ 0x02 ∷ 0x01 ∷ 0x00 ∷ 0x01 ∷ 0x00 ∷ 0x11 ∷ 0x00 ∷ 0x01 ∷ 0x02 ∷ 0x01 ∷ 0x00 ∷ 0x00 ∷ 0x00 ∷ 0x00
    ∷ 0x01 ∷ 0x01 ∷ 0x02 ∷ 0x01 ∷ 0x00 ∷ 0x01 ∷ 0x00 ∷ 0x44 ∷ []

pub not_in_lanes-mode : LeastIn Lanes → ⊥
unfolding size judge_answer downsize_answer
not_in_lanes-mode least =
    let few : 4 ≤ 3 =
    least to_one p1_take 32 (tally 1 1 4) refl refl p1_ones ((legal_tested (shaped 1 0) p1_ones).1 refl) refl in
    omega arith

-- P1's slices, an archived file, repacked to width 2: P1's records and its result, and the octet after it stays
pub p1_archived : (repack_answer (shaped 2 0) 2 p1_slices 19 ≡ Ok 2) × (repack_after (shaped 2 0) 2 p1_slices (replicate {A = ℕ} 19 0xEE) ≡ p1_result ++ (0xEE ∷ []))
unfolding size judge_answer repack_answer repack_after
p1_archived =
    let k = archives_reported p1 p1_take 19 (tally 1 1 2) refl ((octets_tested p1_take).1 refl) refl 2 ((width_tested 2).1 refl) refl (lit≤ tt) in
    (k.answers, k.leaves (replicate {A = ℕ} 19 0xEE) refl)

-- the same with two user bits to a byte
abbrev p1_tagged_slices : List ℕ
p1_tagged_slices =
    0x00 ∷ 0x01 ∷ 0x02 ∷ 0x01 ∷ 0x00 ∷ 0x01 ∷ 0x00 ∷ 0x11 ∷ 0x00 ∷ 0x01
    ∷ 0x01 ∷ 0x01 ∷ 0x02 ∷ 0x03 ∷ 0x00 ∷ 0x02 ∷ 0x00 ∷ 0x00 ∷ 0x44 ∷ 0x0E ∷ []

pub tagged_archived : (repack_answer (shaped 2 2) 2 p1_tagged_slices 20 ≡ Ok 2) × (repack_after (shaped 2 2) 2 p1_tagged_slices (replicate {A = ℕ} 20 0xEE) ≡ p1_tagged_result)
unfolding size judge_answer repack_answer repack_after
tagged_archived =
    let k = archives_reported p1_user p1_tagged 20 (tally 1 1 2) refl ((octets_tested p1_tagged).1 refl) refl 2 ((width_tested 2).1 refl) refl (lit≤ tt) in
    (k.answers, k.leaves (replicate {A = ℕ} 20 0xEE) refl)

-- at its widest, of the contract of the call: whatever it answers and leaves for the slices are the `records` and the result of the report
pub as_reported : (u : Setup) (capture : List ℕ) (room : ℕ) (t : Tally) → u.mode ≡ Pack → Octets capture → (setup_outcome u (Some capture) room).verdict ≡ Ok (Clean t)
    → (v : ℕ) → Width v → u.width_in % v ≡ 0 → length (cut (shape_of u) v (transfers_of u capture)) ≤ capture_most
    → (before after : List ℕ) (r : Result ℕ Refusal) → length before ≡ room
    → Repacked (at_width (shape_of u) v) u.width_out (cut (shape_of u) v (transfers_of u capture)) before after r
    → (r ≡ Ok t.records) × (after ≡ in_front (setup_outcome u (Some capture) room).result before)
as_reported u capture room t m o e v w d a before after r n p =
    let k = archives_reported u capture room t m o e v w d a in
    (p.is ∙ ap (repack_answer (at_width (shape_of u) v) u.width_out (cut (shape_of u) v (transfers_of u capture))) n ∙ k.answers, p.leaves ∙ k.leaves before n)

-- one octet short
pub p1_unwritten : (out : List ℕ) → in_front (report_of p1_sheet (Some p1_take) 17).result out ≡ out
unfolding report_of sheet_of size judge_answer repack_answer
p1_unwritten = (only_when_clean p1_sheet (Some p1_take) 17 refl).kept

pub p1-room : (◌≢◌ {A = ℕ} 5 4) × (◌≢◌ {A = ℕ} 5 14)
unfolding report_of sheet_of size judge_answer repack_answer
p1-room = never_reserved_nor_unclean p1_sheet (Some p1_take) 17 Room ((octets_tested p1_take).1 refl) refl

-- the same, of a broken take
abbrev narrow : Option (List ℕ)
narrow = says "width_in=1\nwidth_out=1\nmode=pack\ntlast=wired\nuser=0\n"

pub broken_unwritten : (out : List ℕ) → in_front (report_of narrow (Some (cycle 0x0E 0 0 1)) 65536).result out ≡ out
unfolding report_of sheet_of size judge_answer
broken_unwritten = (only_when_clean narrow (Some (cycle 0x0E 0 0 1)) 65536 refl).kept

abbrev most : ℕ
most = 18446744073709551615

pub longest : length (text_of (Ok (Clean (tally most most most)))) ≤ 103
longest = text_short (Ok (Clean (tally most most most))) (omega arith, omega arith, omega arith)

pub longest-broken : length (text_of (Ok (Broken most most))) ≤ 103
longest-broken = text_short (Ok (Broken most most)) (omega arith, omega arith)

pub longest-refused : length (text_of (Err (Field most))) ≤ 103
longest-refused = text_short (Err (Field most)) (omega arith, omega arith)
