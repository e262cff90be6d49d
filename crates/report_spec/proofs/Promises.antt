-- Every statement of specs/Promises, proved. Assumes nothing.
use Rattle.std.specs.Prelude.{Option, None, Some, Result, Ok, Err}
use mathlib.Core.Path.{◌≡◌, refl, sym, ap, ◌∙◌, subst}
use mathlib.Core.Bool.{Bool, true, false, cond}
use mathlib.Core.Logic.{◌≢◌}
use mathlib.Core.List.{List, [], ◌∷◌}
use Prim.Native.Nat.{ℕ, suc, ◌*◌, ◌/◌, ◌%◌, ◌≤◌}
use native.Mathlib.Nat.{le_trans, zero-mul, one-mul, mul-div_cancel}
use native.Mathlib.Omega.{arith}
use borrow.Author.Tests.{eqb-true, eqb-false, not-false}
use lib.Dec.{eqb, ltb}
use lib.ListN.{length, length-map, replicate, length-replicate}
use Rattle.refusal.specs.Code.{code_of}
use Rattle.refusal.specs.declared.Refusal.{Refusal}
use Rattle.refusal.specs.declared.Refusal.TheVariants.{Length, Room, Setup as BadSheet}
use Rattle.stream_spec.specs.declared.Shape.{Shape}
use Rattle.stream_spec.specs.declared.Verdict.{Verdict as Judgement}
use Rattle.stream_spec.specs.declared.Verdict.TheVariants.{Clean as Sound, Broken as Breaks}
use Rattle.stream_spec.specs.Layout.{bit_of, size, at_width, records, record_count, joined, stream_items, packed, sliced}
use Rattle.refusal.specs.Checks.{Check, first}
use Rattle.stream_spec.specs.Checks.{capture_most, ratio_check, length_check, cycle_checks, transfer_checks, room_check}
use Rattle.stream_spec.specs.Handshake.{Finding, first_finding, handshakes, transfer_count, low, high, harvested, as_filled}
use Rattle.stream_spec.specs.Answers.{verdict, written, lent_after, judge_checks, judge_answer, harvest_refusal, fill_after, repack_refusal, repack_answer, repack_after}
use Rattle.stream_spec.specs.Memory.{in_front}
use Rattle.stream_spec.specs.Legal.{Octets, Legal}
use Rattle.refusal.proofs.First.{first-none, append-found, append-passed}
use Rattle.stream_spec.proofs.Passed.{fits-length}
use Rattle.stream_spec.proofs.Size.{size_pos}
use Rattle.stream_spec.proofs.Records.{length-pieces, records_sized}
use Rattle.stream_spec.proofs.Harvest.{harvested-count}
use Rattle.stream_spec.proofs.Fill.{clean-filled, filled-octets, sized_filled, harvest-records, all-last}
use Rattle.stream_spec.proofs.Clean.{clean-count, clean-passed, clean-harvested}
use Rattle.stream_spec.proofs.Promises.{repacking_keeps, no_shorter, lane_keeping, archives_repack, harvest_legal, harvest_repacks, packed_legal, filled_harvest}
use Rattle.report_setup_spec.specs.declared.Setup.{Setup}
use Rattle.report_setup_spec.specs.declared.Mode.{Mode}
use Rattle.report_setup_spec.specs.declared.Mode.TheVariants.{Pack, Lanes}
use Rattle.report_setup_spec.specs.declared.Tlast.{Tlast}
use Rattle.report_setup_spec.specs.declared.Tlast.TheVariants.{Wired, Absent, Low}
use Rattle.report_setup_spec.specs.Grammar.{sheet_of, text as ascii}
use Rattle.report_spec.specs.declared.Tally.{Tally}
use Rattle.report_spec.specs.declared.Verdict.{Verdict}
use Rattle.report_spec.specs.declared.Verdict.TheVariants.{Clean, Broken}
use Rattle.report_spec.specs.Report.{Outcome, shape_of, out_shape, prepared, cycles_of, transfers_of, lasts, packet_count, convert_answer, convert_result, tally, converted, converted_transfers, after_judging, capture_outcome, ratio_checks, setup_checks, Passes, unless, setup_outcome, sheet_outcome, outcome_of, Whole, whole, report_of}
use Rattle.report_spec.specs.Promises.{OctetsOf, ReportsSetup, is_clean, OnlyWhenClean, CleanTally, CleanTallies, sampled_at, result_by, TlastNone, TlastLow, LeastRecords, ArchivesReported, may_show, RefusalsShown, NeverReservedNorUnclean, PackNeverRatio, ordered_checks, converted_of, tally_of, in_order, ReportInOrder, TextShort}
use Rattle.report_spec.proofs.Passes.{sound_in, sound_out, sound-user, sound-ratio, fits_out}
use Rattle.report_spec.proofs.Convert.{convert_refusal, convert_count, answer-is, result-long, result_fits, each-converted, not_written, IsWritten, is-written}
use Rattle.report_spec.proofs.Ends.{lasts-filled, same_ends}
use Rattle.report_spec.proofs.Short.{two-short, three_short}

pub reports_setup : ReportsSetup
unfolding report_of
reports_setup sheet u e capture room = ap (λ (s : Option Setup). whole (sheet_outcome s capture room)) e

-- ---- nothing is written unless the verdict is clean

abbrev Quiet : Outcome → Type 0
Quiet o = is_clean o.verdict ≡ false → o.result ≡ []

quiet_converted : (w : Result ℕ Refusal) (n p : ℕ) (result : List ℕ) → Quiet (converted w n p result)
quiet_converted (Err r) n p result e = refl
quiet_converted (Ok m) n p result e = let z : ◌≡◌ {A = ℕ} 0 1 = cc in absurd (omega arith)

quiet_judged : (j : Result Judgement Refusal) (next : ℕ → Outcome) → ((n : ℕ) → Quiet (next n)) → Quiet (after_judging j next)
quiet_judged (Err r) next h e = refl
quiet_judged (Ok (Breaks cycle rule)) next h e = refl
quiet_judged (Ok (Sound n)) next h e = h n e

quiet_capture : (u : Setup) (capture : Option (List ℕ)) (room : ℕ) → Quiet (capture_outcome u capture room)
quiet_capture u None room e = refl
quiet_capture u (Some capture) room e =
    quiet_judged (judge_answer (shape_of u) (cycles_of u capture)) (converted_transfers u (transfers_of u capture) room)
    (λ n. quiet_converted (convert_answer u.mode (shape_of u) u.width_out (transfers_of u capture) room) n (packet_count (shape_of u) (transfers_of u capture))
    (convert_result u.mode (shape_of u) u.width_out (transfers_of u capture)))
    e

quiet_unless : (o : Option Refusal) (next : Outcome) → Quiet next → Quiet (unless o next)
quiet_unless (Some r) next h e = refl
quiet_unless None next h e = h e

quiet_sheet : (s : Option Setup) (capture : Option (List ℕ)) (room : ℕ) → Quiet (sheet_outcome s capture room)
quiet_sheet None capture room e = refl
quiet_sheet (Some u) capture room e = quiet_unless (first (setup_checks u)) (capture_outcome u capture room) (quiet_capture u capture room) e

quiet : (sheet capture : Option (List ℕ)) (room : ℕ) → Quiet (outcome_of sheet capture room)
quiet None capture room e = refl
quiet (Some sheet) capture room e = quiet_sheet (sheet_of sheet) capture room e

pub only_when_clean : OnlyWhenClean
unfolding report_of
only_when_clean sheet capture room e =
    let no = quiet sheet capture room e in
    record { nothing = no; kept = λ out. ap (λ (xs : List ℕ). in_front xs out) no }

-- octets stay octets when TLAST is filled in
prepared-octets : (wire : Tlast) (s : Shape) (xs : List ℕ) → Octets xs → Octets (prepared wire s xs)
prepared-octets Wired s xs h = h
prepared-octets Absent s xs h = filled-octets high s xs h
prepared-octets Low s xs h = filled-octets low s xs h

-- ---- a clean take's transfers: converting them is refused for want of room, and for nothing else

module _ (u : Setup) (p : Passes u) (capture : List ℕ) (o : Octets capture) (n : ℕ) (clean : judge_answer (shape_of u) (cycles_of u capture) ≡ Ok (Sound n)) where
  abbrev s : Shape
  s = shape_of u

  abbrev v : ℕ
  v = u.width_out

  abbrev ts : List ℕ
  ts = transfers_of u capture

  octets_in : Octets (cycles_of u capture)
  octets_in = prepared-octets u.tlast s capture o

  -- in a room that is just long enough
  taken : harvest_refusal s (cycles_of u capture) (length ts) ≡ None
  taken = clean-harvested s (cycles_of u capture) n clean (length ts) (omega arith)

  harvest : Legal s ts × (length ts ≤ length (cycles_of u capture))
  harvest = harvest_legal s (cycles_of u capture) (length ts) octets_in taken

  legal : Legal s ts
  legal = harvest.0

  short : length ts ≤ capture_most
  short = omega (arith, harvest.1, (clean-passed s (cycles_of u capture) n clean).short)

  transfers_are : n ≡ length (records s ts)
  transfers_are = clean-count s (cycles_of u capture) n clean ∙ sym (harvested-count s (cycles_of u capture))

  fits-take : (length_check s ts).found ≡ false
  fits-take = fits-length s ts short legal.whole

  width_out : (1 ≤ v) × (v ≤ 16)
  width_out = ((fits_out u p).low, (fits_out u p).high)

  -- in either mode
  only-room : (m : Mode) → first (ratio_checks m s v) ≡ None → (room : ℕ)
      → convert_refusal m s v ts room ≡ cond (ltb room (length (convert_result m s v ts))) (Some Room) None
  only-room Pack h room = harvest_repacks s (cycles_of u capture) (length ts) v room octets_in taken width_out
  only-room Lanes h room =
      let ratio = (first-none (ratio_check s v) [] h).0 in
      rw (sound_in u p, sound_out u p, sound-user u p, ratio, fits-take)
      (append-passed (transfer_checks s 0 (records s ts)) (room_check (sliced s v ts) room ∷ []) legal.faultless)

  divides : first (ratio_checks Lanes s v) ≡ None → s.width % v ≡ 0
  divides h =
      eqb-true (s.width % v) 0 (not-false (eqb (s.width % v) 0) (first-none (ratio_check s v) [] h).0)

  items_kept : (m : Mode) → first (ratio_checks m s v) ≡ None → stream_items (out_shape u) (convert_result m s v ts) ≡ stream_items s ts
  items_kept Pack h = repacking_keeps s v ts width_out
  items_kept Lanes h = (lane_keeping s v ts width_out (divides h) legal).same

  legal_out : (m : Mode) → first (ratio_checks m s v) ≡ None → Legal (out_shape u) (convert_result m s v ts)
  legal_out Pack h = packed_legal s v ts width_out legal
  legal_out Lanes h = (lane_keeping s v ts width_out (divides h) legal).legal

-- ---- which refusals show

abbrev AllShow : Mode → List (Check Refusal) → Type 0
AllShow m [] = Unit {0}
AllShow m (c ∷ cs) = (may_show m (code_of c.gives).0 ≡ true) × AllShow m cs

same-refusal : (m : Mode) (q r : Refusal) → ◌≡◌ {A = Result Verdict Refusal} (Err q) (Err r) → may_show m (code_of q).0 ≡ true → may_show m (code_of r).0 ≡ true
same-refusal m q r e h = let same : q ≡ r = cc in subst (λ (x : Refusal). may_show m (code_of x).0 ≡ true) same h

first-shows : (m : Mode) (cs : List (Check Refusal)) → AllShow m cs → (r : Refusal) → first cs ≡ Some r → may_show m (code_of r).0 ≡ true
first-shows m [] h r e = let z : ◌≡◌ {A = ℕ} 0 1 = cc in absurd (omega arith)
first-shows m (c ∷ cs) h r e = go c.found refl (first-shows m cs h.1 r)
  where
    go : (b : Bool) → c.found ≡ b → (first cs ≡ Some r → may_show m (code_of r).0 ≡ true) → may_show m (code_of r).0 ≡ true
    go true k later =
        let found : Some c.gives ≡ Some r = rw k at e in
        let same : c.gives ≡ r = cc in
        subst (λ (x : Refusal). may_show m (code_of x).0 ≡ true) same h.0
    go false k later = later (rw k at e)

setup_shows : (u : Setup) → AllShow u.mode (setup_checks u)
setup_shows u = (refl, (refl, (refl, go u.mode)))
  where
    go : (m : Mode) → AllShow m (ratio_checks m (shape_of u) u.width_out)
    go Pack = tt
    go Lanes = (refl, tt)

cycles_show : (m : Mode) (s : Shape) (k : ℕ) (rs : List (List ℕ)) → AllShow m (cycle_checks s k rs)
cycles_show m s k [] = tt
cycles_show m s k (r ∷ rs) = (refl, cycles_show m s (suc k) rs)

not_judged : (o : Option Refusal) (f : Option Finding) (n : ℕ) (r : Refusal) → verdict o f n ≡ Err r → o ≡ Some r
not_judged (Some q) f n r e = cc
not_judged None (Some f) n r e = let z : ◌≡◌ {A = ℕ} 0 1 = cc in absurd (omega arith)
not_judged None None n r e = let z : ◌≡◌ {A = ℕ} 0 1 = cc in absurd (omega arith)

judge-shows : (m : Mode) (s : Shape) (xs : List ℕ) (r : Refusal) → judge_answer s xs ≡ Err r → may_show m (code_of r).0 ≡ true
unfolding judge_answer
judge-shows m s xs r e =
    first-shows m (judge_checks s xs) (refl, (refl, (refl, cycles_show m s 0 (records s xs)))) r
    (not_judged (first (judge_checks s xs)) (first_finding s xs) (transfer_count s xs) r e)

room-shows : (m : Mode) (b : Bool) (r : Refusal) → cond b (Some Room) None ≡ Some r → may_show m (code_of r).0 ≡ true
room-shows m true r e = let same : Room ≡ r = cc in subst (λ (x : Refusal). may_show m (code_of x).0 ≡ true) same refl
room-shows m false r e = let z : ◌≡◌ {A = ℕ} 0 1 = cc in absurd (omega arith)

module _ (u : Setup) (p : Passes u) (capture : List ℕ) (o : Octets capture) (room : ℕ) (r : Refusal) where
  shown-converted : (n : ℕ) → judge_answer (shape_of u) (cycles_of u capture) ≡ Ok (Sound n)
      → (w : Result ℕ Refusal) → convert_answer u.mode (shape_of u) u.width_out (transfers_of u capture) room ≡ w
      → (converted w n (packet_count (shape_of u) (transfers_of u capture)) (convert_result u.mode (shape_of u) u.width_out (transfers_of u capture))).verdict ≡ Err r
      → may_show u.mode (code_of r).0 ≡ true
  shown-converted n clean (Ok m) e h = let z : ◌≡◌ {A = ℕ} 0 1 = cc in absurd (omega arith)
  shown-converted n clean (Err q) e h =
      let m = u.mode in
      let ts = transfers_of u capture in
      let found =
      not_written (convert_refusal m (shape_of u) u.width_out ts room) (convert_count m (shape_of u) u.width_out ts) q
      (sym e ∙ answer-is m (shape_of u) u.width_out ts room) in
      same-refusal m q r h
      (room-shows m (ltb room (length (convert_result m (shape_of u) u.width_out ts))) q
      (sym (only-room u p capture o n clean m (sound-ratio u p) room) ∙ found))

  shown_judged : (j : Result Judgement Refusal) → judge_answer (shape_of u) (cycles_of u capture) ≡ j
      → (after_judging j (converted_transfers u (transfers_of u capture) room)).verdict ≡ Err r → may_show u.mode (code_of r).0 ≡ true
  shown_judged (Err q) e h = same-refusal u.mode q r h (judge-shows u.mode (shape_of u) (cycles_of u capture) q e)
  shown_judged (Ok (Breaks cycle rule)) e h = let z : ◌≡◌ {A = ℕ} 0 1 = cc in absurd (omega arith)
  shown_judged (Ok (Sound n)) e h =
      shown-converted n e (convert_answer u.mode (shape_of u) u.width_out (transfers_of u capture) room) refl h

shown-capture : (u : Setup) → Passes u → (capture : Option (List ℕ)) (room : ℕ) (r : Refusal) → OctetsOf capture
    → (capture_outcome u capture room).verdict ≡ Err r → may_show u.mode (code_of r).0 ≡ true
shown-capture u p None room r o e = same-refusal u.mode Length r e refl
shown-capture u p (Some capture) room r o e =
    shown_judged u p capture o room r (judge_answer (shape_of u) (cycles_of u capture)) refl e

pub refusals_shown : RefusalsShown
refusals_shown u capture room r o e = go (first (setup_checks u)) refl e
  where
    go : (f : Option Refusal) → first (setup_checks u) ≡ f → (unless f (capture_outcome u capture room)).verdict ≡ Err r → may_show u.mode (code_of r).0 ≡ true
    go None k h = shown-capture u k capture room r o h
    go (Some q) k h = same-refusal u.mode q r h (first-shows u.mode (setup_checks u) (setup_shows u) q k)

-- ---- the numbers that show

pub no : false ≡ true → ⊥
no e = let z : ◌≡◌ {A = ℕ} 0 1 = cc in absurd (omega arith)

-- a number that may show is none of those that may not
hidden : (m : Mode) (n k : ℕ) → may_show m k ≡ false → may_show m n ≡ true → n ≢ k
hidden m n k h e same = no (sym h ∙ ap (may_show m) (sym same) ∙ e)

never_4 : (m : Mode) → may_show m 4 ≡ false
never_4 Pack = refl
never_4 Lanes = refl

never_14 : (m : Mode) → may_show m 14 ≡ false
never_14 Pack = refl
never_14 Lanes = refl

bad-sheet : (r : Refusal) → ◌≡◌ {A = Result Verdict Refusal} (Err BadSheet) (Err r) → ((code_of r).0 ≢ 4) × ((code_of r).0 ≢ 14)
bad-sheet r e =
    let same : BadSheet ≡ r = cc in
    subst (λ (x : Refusal). ((code_of x).0 ≢ 4) × ((code_of x).0 ≢ 14)) same (eqb-false 15 4 refl, eqb-false 15 14 refl)

never : (s : Option Setup) (capture : Option (List ℕ)) (room : ℕ) (r : Refusal) → OctetsOf capture → (sheet_outcome s capture room).verdict ≡ Err r
    → ((code_of r).0 ≢ 4) × ((code_of r).0 ≢ 14)
never None capture room r o e = bad-sheet r e
never (Some u) capture room r o e =
    let shown = refusals_shown u capture room r o e in
    (hidden u.mode (code_of r).0 4 (never_4 u.mode) shown, hidden u.mode (code_of r).0 14 (never_14 u.mode) shown)

pub never_reserved_nor_unclean : NeverReservedNorUnclean
unfolding report_of
never_reserved_nor_unclean None capture room r o e = bad-sheet r e
never_reserved_nor_unclean (Some sheet) capture room r o e = never (sheet_of sheet) capture room r o e

pub pack_never_ratio : PackNeverRatio
pack_never_ratio sheet u e m capture room r o h =
    let shown = refusals_shown u capture room r o (sym (ap (λ (w : Whole). w.verdict) (reports_setup sheet u e capture room)) ∙ h) in
    hidden u.mode (code_of r).0 6 (ap (λ (k : Mode). may_show k 6) m) shown

-- ---- a clean verdict

-- how a clean verdict was reached
record Reached (u : Setup) (capture : List ℕ) (room : ℕ) (t : Tally) : Type 0 where
  passes : Passes u
  count : ℕ
  clean : judge_answer (shape_of u) (cycles_of u capture) ≡ Ok (Sound count)
  number : ℕ
  wrote : convert_answer u.mode (shape_of u) u.width_out (transfers_of u capture) room ≡ Ok number
  is : t ≡ tally count (packet_count (shape_of u) (transfers_of u capture)) number

module _ (u : Setup) (capture : List ℕ) (room : ℕ) (t : Tally) (p : Passes u) where
  reached_converted : (n : ℕ) → judge_answer (shape_of u) (cycles_of u capture) ≡ Ok (Sound n)
      → (w : Result ℕ Refusal) → convert_answer u.mode (shape_of u) u.width_out (transfers_of u capture) room ≡ w
      → (converted w n (packet_count (shape_of u) (transfers_of u capture)) (convert_result u.mode (shape_of u) u.width_out (transfers_of u capture))).verdict ≡ Ok (Clean t)
      → Reached u capture room t
  reached_converted n clean (Err q) e h = let z : ◌≡◌ {A = ℕ} 0 1 = cc in absurd (omega arith)
  reached_converted n clean (Ok m) e h =
      record { passes = p; count = n; clean = clean; number = m; wrote = e; is = cc }

  reached_judged : (j : Result Judgement Refusal) → judge_answer (shape_of u) (cycles_of u capture) ≡ j
      → (after_judging j (converted_transfers u (transfers_of u capture) room)).verdict ≡ Ok (Clean t) → Reached u capture room t
  reached_judged (Err q) e h = let z : ◌≡◌ {A = ℕ} 0 1 = cc in absurd (omega arith)
  reached_judged (Ok (Breaks cycle rule)) e h = let z : ◌≡◌ {A = ℕ} 0 1 = cc in absurd (omega arith)
  reached_judged (Ok (Sound n)) e h =
      reached_converted n e (convert_answer u.mode (shape_of u) u.width_out (transfers_of u capture) room) refl h

reached : (u : Setup) (capture : List ℕ) (room : ℕ) (t : Tally) → (setup_outcome u (Some capture) room).verdict ≡ Ok (Clean t) → Reached u capture room t
reached u capture room t e = go (first (setup_checks u)) refl e
  where
    go : (f : Option Refusal) → first (setup_checks u) ≡ f → (unless f (capture_outcome u (Some capture) room)).verdict ≡ Ok (Clean t) → Reached u capture room t
    go None k h = reached_judged u capture room t k (judge_answer (shape_of u) (cycles_of u capture)) refl h
    go (Some q) k h = let z : ◌≡◌ {A = ℕ} 0 1 = cc in absurd (omega arith)

module _ (u : Setup) (capture : List ℕ) (room : ℕ) (t : Tally) (r : Reached u capture room t) where
  abbrev result : List ℕ
  result = convert_result u.mode (shape_of u) u.width_out (transfers_of u capture)

  result-is : (setup_outcome u (Some capture) room).result ≡ result
  result-is =
      ap (λ (f : Option Refusal). (unless f (capture_outcome u (Some capture) room)).result) r.passes
      ∙ ap (λ (j : Result Judgement Refusal). (after_judging j (converted_transfers u (transfers_of u capture) room)).result) r.clean
      ∙ ap (λ (w : Result ℕ Refusal). (converted w r.count (packet_count (shape_of u) (transfers_of u capture)) result).result) r.wrote

  wrote_is : IsWritten (convert_refusal u.mode (shape_of u) u.width_out (transfers_of u capture) room) r.number
      (convert_count u.mode (shape_of u) u.width_out (transfers_of u capture))
  wrote_is =
      is-written (convert_refusal u.mode (shape_of u) u.width_out (transfers_of u capture) room)
      (convert_count u.mode (shape_of u) u.width_out (transfers_of u capture)) r.number
      (sym r.wrote ∙ answer-is u.mode (shape_of u) u.width_out (transfers_of u capture) room)

  long-is : length result ≡ r.number * size (out_shape u)
  long-is =
      result-long u.mode (shape_of u) u.width_out (transfers_of u capture)
      ∙ ap (λ (n : ℕ). n * size (out_shape u)) (sym wrote_is.count)

  written_is : r.number ≡ length (records (out_shape u) result)
  written_is =
      sym
      (length-pieces (size (out_shape u)) (record_count (out_shape u) result) result
      ∙ ap (λ (n : ℕ). n / size (out_shape u)) long-is
      ∙ mul-div_cancel r.number (size_pos (out_shape u)))

  module _ (o : Octets capture) where
    tallied : CleanTally u capture room result (tally r.count (packet_count (shape_of u) (transfers_of u capture)) r.number)
    tallied =
        let kept = items_kept u r.passes capture o r.count r.clean u.mode (sound-ratio u r.passes) in
        record {
          transfers = transfers_are u r.passes capture o r.count r.clean;
          packets = refl;
          packets_out = same_ends (shape_of u) (out_shape u) (transfers_of u capture) result (sym kept);
          written = written_is;
          long = long-is;
          fits = result_fits u.mode (shape_of u) u.width_out (transfers_of u capture) room wrote_is.accepted;
          legal = legal_out u r.passes capture o r.count r.clean u.mode (sound-ratio u r.passes);
          items = kept;
        }

pub clean_tallies : CleanTallies
clean_tallies u capture room t o e =
    let r = reached u capture room t e in
    subst (λ (x : Tally). CleanTally u capture room (setup_outcome u (Some capture) room).result x) (sym r.is)
    (subst (λ (xs : List ℕ). CleanTally u capture room xs (tally r.count (packet_count (shape_of u) (transfers_of u capture)) r.number))
    (sym (result-is u capture room t r)) (tallied u capture room t r o))

-- ---- ports without a TLAST wire: a clean take of a sheet whose word fills in with this level

module _ (u : Setup) (capture : List ℕ) (room : ℕ) (t : Tally) (level : Bool) (word : cycles_of u capture ≡ fill_after level (shape_of u) capture)
    (r : Reached u capture room t) where
  abbrev sampled : List (List ℕ)
  sampled = sampled_at level u capture

  harvest-is : transfers_of u capture ≡ joined sampled
  harvest-is =
      ap (harvested (shape_of u)) (word ∙ clean-filled level (shape_of u) capture r.count (sym (ap (judge_answer (shape_of u)) word) ∙ r.clean))
      ∙ filled_harvest level (shape_of u) capture

  records_are : records (shape_of u) (transfers_of u capture) ≡ sampled
  records_are = ap (records (shape_of u)) harvest-is ∙ harvest-records level (shape_of u) capture

  sampled_count : t.transfers ≡ transfer_count (shape_of u) capture
  sampled_count =
      ap (λ (x : Tally). x.transfers) r.is ∙ clean-count (shape_of u) (cycles_of u capture) r.count r.clean
      ∙ sym (harvested-count (shape_of u) (cycles_of u capture)) ∙ ap length records_are
      ∙ length-map (handshakes (records (shape_of u) capture)) (as_filled level)

  sampled_ends : t.packets ≡ bit_of level * transfer_count (shape_of u) capture
  sampled_ends =
      ap (λ (x : Tally). x.packets) r.is ∙ ap lasts records_are ∙ lasts-filled level (handshakes (records (shape_of u) capture))

  sampled_result : (setup_outcome u (Some capture) room).result ≡ result_by u (joined sampled)
  sampled_result = result-is u capture room t r ∙ ap (result_by u) harvest-is

pub tlast_none : TlastNone
tlast_none u capture room t w e =
    let word : cycles_of u capture ≡ fill_after high (shape_of u) capture = ap (λ (x : Tlast). prepared x (shape_of u) capture) w in
    let r = reached u capture room t e in
    let cs = records (shape_of u) capture in
    let count = sampled_count u capture room t high word r in
    record {
      transfers = count;
      packets = sampled_ends u capture room t high word r ∙ one-mul (transfer_count (shape_of u) capture) ∙ sym count;
      apart =
          sampled_result u capture room t high word r
          ∙ each-converted u.mode (shape_of u) u.width_out (sampled_at high u capture)
          (sized_filled high (size (shape_of u)) cs (size_pos (shape_of u)) (records_sized (shape_of u) capture)) (all-last (handshakes cs));
    }

pub tlast_low : TlastLow
tlast_low u capture room t w e =
    let word : cycles_of u capture ≡ fill_after low (shape_of u) capture = ap (λ (x : Tlast). prepared x (shape_of u) capture) w in
    let r = reached u capture room t e in
    record {
      transfers = sampled_count u capture room t low word r;
      packets = sampled_ends u capture room t low word r ∙ zero-mul (transfer_count (shape_of u) capture);
      across = sampled_result u capture room t low word r;
    }

-- ---- no shorter stream

pub least_records : LeastRecords
least_records u capture room t m e ys l same =
    let r = reached u capture room t e in
    let packs : repack_answer (shape_of u) u.width_out (transfers_of u capture) room ≡ Ok r.number =
    sym (ap (λ (x : Mode). convert_answer x (shape_of u) u.width_out (transfers_of u capture) room) m) ∙ r.wrote in
    omega (
      arith,
      ap (λ (x : Tally). x.records) r.is,
      no_shorter (shape_of u) u.width_out (transfers_of u capture) room r.number packs ys l same,
    )

-- ---- archived files

-- an accepted repacking call leaves its result in front
accepted_front : (s : Shape) (v : ℕ) (xs lent : List ℕ) → repack_refusal s v xs (length lent) ≡ None → repack_after s v xs lent ≡ in_front (packed s v xs) lent
unfolding repack_after
accepted_front s v xs lent e = ap (λ (o : Option Refusal). lent_after o (packed s v xs) lent) e

pub archives_reported : ArchivesReported
archives_reported u capture room t m o e v w d a =
    let r = reached u capture room t e in
    let ts = transfers_of u capture in
    let alike = archives_repack (shape_of u) v ts w d (legal u r.passes capture o r.count r.clean) (short u r.passes capture o r.count r.clean) a u.width_out in
    let long : length (replicate {A = ℕ} room 0) ≡ room = length-replicate {A = ℕ} room 0 in
    let packs : repack_answer (shape_of u) u.width_out ts room ≡ Ok r.number =
    sym (ap (λ (x : Mode). convert_answer x (shape_of u) u.width_out ts room) m) ∙ r.wrote in
    let accepted : repack_refusal (shape_of u) u.width_out ts room ≡ None =
    sym (ap (λ (x : Mode). convert_refusal x (shape_of u) u.width_out ts room) m) ∙ (wrote_is u capture room t r).accepted in
    let result-packed : (setup_outcome u (Some capture) room).result ≡ packed (shape_of u) u.width_out ts =
    result-is u capture room t r ∙ ap (λ (x : Mode). convert_result x (shape_of u) u.width_out ts) m in
    record {
      answers =
          sym (ap (repack_answer (at_width (shape_of u) v) u.width_out (sliced (shape_of u) v ts)) long)
          ∙ (alike (replicate {A = ℕ} room 0)).answers
          ∙ ap (repack_answer (shape_of u) u.width_out ts) long
          ∙ packs ∙ ap (λ (x : Tally). Ok x.records) (sym r.is);
      leaves = λ lent k.
          (alike lent).leaves
          ∙ accepted_front (shape_of u) u.width_out ts lent (ap (repack_refusal (shape_of u) u.width_out ts) k ∙ accepted)
          ∙ ap (λ (xs : List ℕ). in_front xs lent) (sym result-packed);
    }

-- ---- 01's order

-- what judging leaves to be seen
settles : (l : Option Refusal) (f : Option Finding) (n : ℕ) (next : ℕ → Outcome) (o : Option Refusal) (t : Tally)
    → (l ≡ None → f ≡ None → (next n).verdict ≡ in_order None None o t) → (after_judging (verdict l f n) next).verdict ≡ in_order l f o t
settles (Some r) f n next o t h = refl
settles None (Some f) n next o t h = refl
settles None None n next o t h = h refl refl

-- what converting leaves to be seen
ends_in : (o : Option Refusal) (n p m k : ℕ) (result : List ℕ) → m ≡ k → (converted (written o m) n p result).verdict ≡ in_order None None o (tally n p k)
ends_in (Some r) n p m k result e = refl
ends_in None n p m k result e = ap (λ (x : ℕ). Ok (Clean (tally n p x))) e

result_count : (m : Mode) (s : Shape) (v : ℕ) (xs : List ℕ) → convert_count m s v xs ≡ length (records (at_width s v) (convert_result m s v xs))
result_count m s v xs =
    sym
    (length-pieces (size (at_width s v)) (record_count (at_width s v) (convert_result m s v xs)) (convert_result m s v xs)
    ∙ ap (λ (n : ℕ). n / size (at_width s v)) (result-long m s v xs)
    ∙ mul-div_cancel (convert_count m s v xs) (size_pos (at_width s v)))

module _ (u : Setup) (capture : List ℕ) (o : Octets capture) (room : ℕ) where
  abbrev cycles : List ℕ
  cycles = cycles_of u capture

  abbrev roomy : Option Refusal
  roomy = first (room_check (converted_of u capture) room ∷ [])

  abbrev left : List (Check Refusal)
  left = length_check (shape_of u) cycles ∷ cycle_checks (shape_of u) 0 (records (shape_of u) cycles)

  judge-is : Passes u → judge_answer (shape_of u) cycles ≡ verdict (first left) (first_finding (shape_of u) cycles) (transfer_count (shape_of u) cycles)
  unfolding judge_answer
  judge-is p = rw (sound_in u p, sound-user u p) refl

  room-last : Passes u → (n : ℕ) → judge_answer (shape_of u) cycles ≡ Ok (Sound n)
      → (converted_transfers u (transfers_of u capture) room n).verdict ≡ in_order None None roomy (tally n (packet_count (shape_of u) (transfers_of u capture)) (length (records (out_shape u) (converted_of u capture))))
  room-last p n clean =
      let ts = transfers_of u capture in
      ap (λ (w : Result ℕ Refusal). (converted w n (packet_count (shape_of u) ts) (converted_of u capture)).verdict)
      (answer-is u.mode (shape_of u) u.width_out ts room
      ∙ ap (λ (x : Option Refusal). written x (convert_count u.mode (shape_of u) u.width_out ts)) (only-room u p capture o n clean u.mode (sound-ratio u p) room))
      ∙ ends_in roomy n (packet_count (shape_of u) ts) (convert_count u.mode (shape_of u) u.width_out ts) (length (records (out_shape u) (converted_of u capture)))
      (converted_of u capture) (result_count u.mode (shape_of u) u.width_out ts)

  in_order_lem : (f : Option Refusal) → first (setup_checks u) ≡ f
      → (unless f (capture_outcome u (Some capture) room)).verdict ≡ in_order (first (ordered_checks u cycles)) (first_finding (shape_of u) cycles) roomy (tally_of u capture)
  in_order_lem (Some r) k = ap (λ (x : Option Refusal). in_order x (first_finding (shape_of u) cycles) roomy (tally_of u capture)) (sym (append-found (setup_checks u) left r k))
  in_order_lem None k =
      ap (λ (j : Result Judgement Refusal). (after_judging j (converted_transfers u (transfers_of u capture) room)).verdict) (judge-is k)
      ∙ settles (first left) (first_finding (shape_of u) cycles) (transfer_count (shape_of u) cycles) (converted_transfers u (transfers_of u capture) room) roomy (tally_of u capture)
      (λ a b. room-last k (transfer_count (shape_of u) cycles)
      (judge-is k ∙ ap (λ (x : Option Refusal). verdict x (first_finding (shape_of u) cycles) (transfer_count (shape_of u) cycles)) a
      ∙ ap (λ (x : Option Finding). verdict None x (transfer_count (shape_of u) cycles)) b))
      ∙ ap (λ (x : Option Refusal). in_order x (first_finding (shape_of u) cycles) roomy (tally_of u capture)) (sym (append-passed (setup_checks u) left k))

pub report_in_order : ReportInOrder
report_in_order u capture room o = in_order_lem u capture o room (first (setup_checks u)) refl

-- ---- the longest text

pub text_short : TextShort
text_short (Ok (Clean t)) h =
    three_short (ascii "verdict=clean\n") (ascii "transfers=") (ascii "packets=") (ascii "records=") t.transfers t.packets t.records h.0 h.1 h.2
text_short (Ok (Broken cycle rule)) h =
    le_trans (two-short (ascii "verdict=broken\n") (ascii "cycle=") (ascii "rule=") cycle rule h.0 h.1) (omega arith)
text_short (Err r) h =
    le_trans (two-short (ascii "verdict=refused\n") (ascii "refusal=") (ascii "at=") (code_of r).0 (code_of r).1 h.0 h.1) (omega arith)
