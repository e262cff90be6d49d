-- Every promise that has a premise, applied to the worked data of specs/Witnesses: all its premises hold there, and what it
-- says is what was typed by hand. Assumes nothing.
use Rattle.std.specs.Prelude.{None, Some, Ok, Result, Err}
use mathlib.Core.Path.{◌≡◌, refl, ap, ◌∙◌}
use mathlib.Core.Bool.{true, false}
use mathlib.Core.List.{List, [], ◌∷◌, ◌++◌}
use mathlib.Core.Logic.{◌⊎◌}
use Prim.Native.Nat.{ℕ, ◌*◌, ◌/◌, ◌%◌, ◌≤◌, ◌<◌}
use native.Mathlib.Omega.{arith}
use lib.Dec.{lit<, lit≤}
use lib.ListN.{length, get_or}
use Rattle.refusal.specs.declared.Refusal.{Refusal}
use Rattle.refusal.specs.declared.Refusal.TheVariants.{Width as BadWidth, Room, Index}
use Rattle.stream_spec.specs.declared.Shape.{Shape}
use Rattle.stream_spec.specs.declared.Verdict.TheVariants.{Clean}
use Rattle.stream_spec.specs.Packed.{pack}
use Rattle.stream_spec.specs.Layout.{bit, size, shaped, at_width, position, transfer_of, data_lane, null_lane, lane_types, records, stream_items, packed_transfers, packed, sliced_transfers, sliced}
use Rattle.stream_spec.specs.Checks.{capture_most, width_check, user_fault}
use Rattle.stream_spec.specs.Handshake.{low, high, harvested, filled_in}
use Rattle.stream_spec.specs.Answers.{judge_answer, fill_after, repack_refusal, repack_answer, repack_after, data_part, written_values, Repacked}
use Rattle.stream_spec.specs.Legal.{Octets, Legal}
use Rattle.stream_spec.specs.Promises.{Width, SetAbove, lane_bits, PaddingSet, Packs, breaks, IsEarliest, Quiet}
use Rattle.stream_spec.specs.Demand3.{accepted_at, next, after_calls, whole}
use Rattle.stream_spec.specs.Tables.{lanes, stream, tagged, is_legal}
use Rattle.stream_spec.specs.Cases.{p1, straddled}
use Rattle.stream_spec.specs.Witnesses.{first, first_items, at_one, at_two, at_four, at_sixteen, endless, endless_items, lends, refused_calls, mixed_calls, some_parts, some_numbers, some_joined, packed_ones, ones_bytes, ones_ends, ones_items, spread_out, Compared, p1_slices, p1_items, p1_packed, twelve, wide, broken_take, clean_take, reset_take, early_take, loud_take, harvest, harvest_low, harvest_high, last_ones, last_twos, tags, tags_items, tags_at_one, tags_at_two, tags_at_three, tags_slices, tags_calls, tags_parts, tags_joined, padded, two_tags, tags_take, tags_harvest}
use Rattle.stream_spec.proofs.Bools.{no_such}
use Rattle.stream_spec.proofs.Promises.{field_bits, user_exactly, lane_user_bits, padding_exactly, null_lanes_zero, byte_types, data_handed_out, repacking_keeps, packed_legal, packed_full, packed_only, holds, joins, canonical, no_shorter, least_reached, lane_keeping, archives_repack, findings, reset_quiet, harvest_legal, harvest_repacks, filled_harvest, judged_alike, each_its_packet}
use Rattle.stream_spec.proofs.Demand3.{calls, parts}
use Rattle.stream_spec.proofs.Tables.{width_tested, octets_tested, legal_tested, divides_tested}

-- ---- legal streams and widths, by their tests

legal : (w : ℕ) (xs : List ℕ) → is_legal (lanes w) xs ≡ true → Legal (lanes w) xs
legal w xs e = (legal_tested (lanes w) xs).1 e

width : (v : ℕ) → (width_check v).found ≡ false → Width v
width v e = (width_tested v).1 e

legal-first : Legal first.shape first.octets
unfolding size
legal-first = legal 2 first.octets refl

-- ---- demand 3

-- after accepted and refused calls, and after refused ones only
pub mixed : after_calls first mixed_calls ≡ stream 1 at_one
unfolding size repack_answer repack_after
mixed = (calls first legal-first mixed_calls).stands

pub refused : after_calls first refused_calls ≡ first
unfolding size repack_answer repack_after
refused = (calls first legal-first refused_calls).stands

-- one call straight there, with exactly the room it needs
pub straight : (accepted_at first (lends 1 24) ≡ Some 3) × (next first (lends 1 24) ≡ stream 1 at_one)
unfolding size repack_answer repack_after
straight = (calls first legal-first mixed_calls).straight (lends 1 24) refl (lit≤ tt)

pub left-legal : Legal (lanes 1) at_one
unfolding size repack_answer repack_after
left-legal = (calls first legal-first mixed_calls).legal

-- parts divided in every way that the condition has, and no part at all
pub parts-joined : (some_joined ≡ packed (lanes 1) 2 (whole some_parts)) × (6 ≡ length (packed_transfers (lanes 1) 2 (whole some_parts)))
unfolding size repack_answer repack_after
parts-joined =
    let j = parts (lanes 1) 2 some_parts some_numbers (legal 1 (whole some_parts) refl) refl ((divides_tested (lanes 1) some_parts).1 refl) in
    (j.same, j.count)

pub no-parts : ([] ≡ packed (lanes 1) 2 []) × (0 ≡ length (packed_transfers (lanes 1) 2 []))
unfolding size repack_answer repack_after
no-parts = let j = parts (lanes 1) 2 [] [] (legal 1 [] refl) refl ((divides_tested (lanes 1) []).1 refl) in (j.same, j.count)

-- ---- refusals, byte types, data octets

-- bit 4 is the lowest that must be zero in octet 0 of a cycle record
pub bit_four : SetAbove 4 16 × (16 ≤ 16)
bit_four = ((field_bits 4 16).0 (lit≤ tt), (field_bits 4 16).1 (record { place = 4; above = lit≤ tt; high = refl }))

pub lane-fifteen : get_or (lane_types (lanes 16) wide) 15 null_lane ≡ data_lane
lane-fifteen = byte_types (lanes 16) wide 15 (lit< tt)

-- a record that is there, behind another, and one that is not
pub present : (length (data_part (lanes 2) first.octets 1) ≡ 2) × (0 < 2)
unfolding size data_part
present = (data_handed_out (lanes 2) first.octets 1).present refl

pub absent : data_part (lanes 2) first.octets 2 ≡ []
unfolding size
absent = (data_handed_out (lanes 2) first.octets 2).refused Index refl

-- ---- repacking

-- at the narrowest width and the widest
pub keeps_one : stream_items (lanes 1) at_one ≡ first_items
unfolding size
keeps_one = repacking_keeps (lanes 2) 1 first.octets (width 1 refl)

pub keeps_sixteen : stream_items (lanes 16) at_sixteen ≡ first_items
unfolding size
keeps_sixteen = repacking_keeps (lanes 2) 16 first.octets (width 16 refl)

pub legal-sixteen : Legal (lanes 16) at_sixteen
unfolding size
legal-sixteen = packed_legal (lanes 2) 16 first.octets (width 16 refl) legal-first

-- the properties of packed transfers, and that they leave no choice
pub packs : Packs 1 packed_ones
packs = packed_full 1 (lit< tt) ones_items

pub only : packed_ones ≡ pack 1 ones_items
only = packed_only 1 (lit< tt) packed_ones (refl, refl, refl, (refl, refl, refl, (refl, refl, refl, tt)))

-- the first record is certain, the second is held for the end that follows
pub held : pack 1 (ones_bytes ++ ones_ends) ≡ packed_ones
held = holds 1 (lit< tt) ones_bytes ones_ends

-- an end before the division
pub joined : pack 1 (ones_items ++ first_items) ≡ packed_ones ++ pack 1 first_items
joined = joins 1 ones_items first_items refl

-- two widths, one content: equal packed forms; without the end they are not equal
pub same_content : at_four ≡ packed (lanes 1) 4 at_one
unfolding size
same_content = (canonical (lanes 2) (lanes 1) 4 first.octets at_one refl (width 4 refl) legal-first (legal 1 at_one refl)).1 refl

pub other_content : at_four ≡ packed (lanes 1) 4 endless → ⊥
unfolding size
other_content e =
    let same : first_items ≡ endless_items =
    (canonical (lanes 2) (lanes 1) 4 first.octets endless refl (width 4 refl) legal-first (legal 1 endless refl)).0 e in
    let z : ◌≡◌ {A = ℕ} 0 1 = cc in omega arith

-- ---- no shorter stream

-- as many records with other octets, so the packed form is not the only one; and seven records, all-null ones among them
pub as_few : (2 ≤ 2) × (first.octets ≡ packed (lanes 1) 2 at_one → ⊥)
unfolding size repack_answer
as_few = (
  no_shorter (lanes 1) 2 at_one 18 2 refl first.octets legal-first refl,
  λ e. let z : ◌≡◌ {A = ℕ} 2 1 = cc in omega arith,
)

pub more : 2 ≤ 7
unfolding size repack_answer
more = no_shorter (lanes 1) 2 at_one 18 2 refl spread_out (legal 2 spread_out refl) refl

-- the packed form has the two, and is legal
pub reached : Legal (lanes 2) at_two × (stream_items (lanes 2) at_two ≡ first_items) × (length (records (lanes 2) at_two) ≡ 2)
unfolding size repack_answer
reached = let r = least_reached (lanes 1) 2 at_one 18 2 ((octets_tested at_one).1 refl) refl in (r.legal, r.same, r.count)

-- `NoShorter` is `Compared` with 'at most' and the output's width; with 'below', or with the input's width, it is false.
pub at_most : Compared (λ (n k : ℕ). n ≤ k) (λ (s : Shape) (v : ℕ). at_width s v)
at_most = no_shorter

pub not_below : Compared (λ (n k : ℕ). n < k) (λ (s : Shape) (v : ℕ). at_width s v) → ⊥
unfolding size repack_answer
not_below below = let three : 3 < 3 = below (lanes 2) 1 first.octets 24 3 refl at_one (legal 1 at_one refl) refl in omega arith

pub not_at_the_input_width : Compared (λ (n k : ℕ). n ≤ k) (λ (s : Shape) (v : ℕ). s) → ⊥
unfolding size repack_answer
not_at_the_input_width least = let two : 3 ≤ 2 = least (lanes 2) 1 first.octets 24 3 refl first.octets legal-first refl in omega arith

-- ---- lane-keeping downsizing, P1's transfer from 4 to 2

pub slices : (stream_items (lanes 2) p1_slices ≡ p1_items) × Legal (lanes 2) p1_slices × (packed (lanes 2) 4 p1_slices ≡ p1_packed) × (length (sliced_transfers (lanes 4) 2 p1) ≡ 2)
unfolding size
slices =
    let k = lane_keeping (lanes 4) 2 p1 (width 2 refl) refl (legal 4 p1 refl) in
    (k.same, k.legal, k.packs 4, k.count)

-- and their octets: two records of nine
pub slices_long : length p1_slices ≡ 18
unfolding size
slices_long = (lane_keeping (lanes 4) 2 p1 (width 2 refl) refl (legal 4 p1 refl)).long

-- at its widest, field by field
module _ (s : Shape) (v : ℕ) (xs : List ℕ) (w : Width v) (d : s.width % v ≡ 0) (l : Legal s xs) where
  pub slices-keep : (stream_items (at_width s v) (sliced s v xs) ≡ stream_items s xs) × ((u : ℕ) → packed (at_width s v) u (sliced s v xs) ≡ packed s u xs)
  slices-keep = let k = lane_keeping s v xs w d l in (k.same, k.packs)

  pub slices-legal : Legal (at_width s v) (sliced s v xs)
  slices-legal = (lane_keeping s v xs w d l).legal

  pub slices-count : (length (sliced_transfers s v xs) ≡ length (records s xs) * (s.width / v)) × (length (sliced s v xs) ≡ length (records s xs) * (s.width / v) * size (at_width s v))
  slices-count = let k = lane_keeping s v xs w d l in (k.count, k.long)

-- "v divides w": where it does not, lanes are lost: of three lanes, cut at 2, the third, a position byte
pub not_undivided : ((s : Shape) (v : ℕ) (xs : List ℕ) → Width v → Legal s xs → stream_items (at_width s v) (sliced s v xs) ≡ stream_items s xs) → ⊥
unfolding size
not_undivided keeps =
    let three : ◌≡◌ {A = ℕ} 2 3 = ap length (keeps (shaped 3 3) 2 straddled (width 2 refl) ((legal_tested (shaped 3 3) straddled).1 refl)) in
    absurd (omega arith)

-- an archived file, S2's two records, repacked to width 4: S1, and the octet after it stays
pub archived : (repack_answer (lanes 2) 4 p1_slices 12 ≡ Ok 1) × (repack_after (lanes 2) 4 p1_slices twelve ≡ p1_packed ++ (0xEE ∷ []))
unfolding size repack_answer repack_after
archived =
    let k = archives_repack (lanes 4) 2 p1 (width 2 refl) refl (legal 4 p1 refl) (lit≤ tt) (lit≤ tt) 4 twelve in
    (k.answers, k.leaves)

-- it is refused alike too, here for its output's width and for want of room
pub archived_refused : (repack_answer (lanes 2) 17 p1_slices 12 ≡ Err BadWidth) × (repack_answer (lanes 2) 4 p1_slices 0 ≡ Err Room)
unfolding size repack_answer
archived_refused =
    let alike = archives_repack (lanes 4) 2 p1 (width 2 refl) refl (legal 4 p1 refl) (lit≤ tt) (lit≤ tt) in
    ((alike 17 twelve).answers, (alike 4 []).answers)

-- at its widest, of the contract: whatever a call answers and leaves for the slices meets the contract of the call for the original
pub as_the_original : (s : Shape) (v : ℕ) (xs : List ℕ) → Width v → s.width % v ≡ 0 → Legal s xs → length xs ≤ capture_most → length (sliced s v xs) ≤ capture_most
    → (u : ℕ) (before after : List ℕ) (r : Result ℕ Refusal) → Repacked (at_width s v) u (sliced s v xs) before after r → Repacked s u xs before after r
as_the_original s v xs w d l a b u before after r p =
    let k = archives_repack s v xs w d l a b u before in
    record { is = p.is ∙ k.answers; shows = p.shows ∙ ap written_values k.answers; leaves = p.leaves ∙ k.leaves }

-- ---- findings and harvest

-- the earliest cycle and its lowest rule, against a later rule of that cycle and against the last cycle
pub earliest : IsEarliest (lanes 1) (records (lanes 1) broken_take) (record { cycle = 1; rule = 3 })
unfolding size
earliest = (findings (lanes 1) broken_take).found (record { cycle = 1; rule = 3 }) refl

pub others : ((1 < 1) ⊎ (◌≡◌ {A = ℕ} 1 1 × (3 ≤ 4))) × ((1 < 2) ⊎ (◌≡◌ {A = ℕ} 1 2 × (3 ≤ 1)))
unfolding size
others = (earliest.others 1 4 (lit< tt) refl, earliest.others 2 1 (lit< tt) refl)

-- the last cycle of a clean take keeps R3
pub clean : breaks (lanes 1) (records (lanes 1) clean_take) 2 3 ≡ false
unfolding size
clean = (findings (lanes 1) clean_take).clean refl 2 3 (lit< tt)

-- quiet in reset and after it; and in a reset at the take's end, which no cycle follows
pub reset-quiet : Quiet (records (lanes 1) reset_take) 0 × Quiet (records (lanes 1) reset_take) 3
unfolding size judge_answer
reset-quiet = (reset_quiet (lanes 1) reset_take 1 0 refl (lit< tt) refl, reset_quiet (lanes 1) reset_take 1 3 refl (lit< tt) refl)

-- so a take that is not quiet there is never judged clean
pub early : (n : ℕ) → judge_answer (lanes 2) early_take ≡ Ok (Clean n) → ⊥
unfolding size
early n e = no_such ((reset_quiet (lanes 2) early_take n 0 e (lit< tt) refl).after_reset (lit< tt)) refl

pub loud : (n : ℕ) → judge_answer (lanes 1) loud_take ≡ Ok (Clean n) → ⊥
unfolding size
loud n e = no_such (reset_quiet (lanes 1) loud_take n 0 e (lit< tt) refl).in_reset refl

-- harvested with exactly the room it needs
pub harvests : Legal (lanes 1) harvest × (16 ≤ 24)
unfolding size
harvests = harvest_legal (lanes 1) clean_take 16 ((octets_tested clean_take).1 refl) refl

-- and repacked with one octet too few, and with exactly the room it needs
pub repacks : (repack_refusal (lanes 1) 2 harvest 17 ≡ Some Room) × (repack_refusal (lanes 1) 2 harvest 18 ≡ None)
unfolding size
repacks = (
  harvest_repacks (lanes 1) clean_take 16 2 17 ((octets_tested clean_take).1 refl) refl (width 2 refl),
  harvest_repacks (lanes 1) clean_take 16 2 18 ((octets_tested clean_take).1 refl) refl (width 2 refl),
)

-- ---- fill-in

pub filled-low : harvested (lanes 1) (filled_in low (lanes 1) clean_take) ≡ harvest_low
unfolding size
filled-low = filled_harvest low (lanes 1) clean_take

pub filled-high : harvested (lanes 1) (filled_in high (lanes 1) clean_take) ≡ harvest_high
unfolding size
filled-high = filled_harvest high (lanes 1) clean_take

-- what is judged clean at one level is so at the other, though TLAST was sampled high in one transfer and low in the other
pub judged-alike : judge_answer (lanes 1) (fill_after high (lanes 1) clean_take) ≡ Ok (Clean 2)
unfolding size judge_answer fill_after
judged-alike = judged_alike high low (lanes 1) clean_take

-- an all-null record with TLAST is a packet too
pub own-packets : packed (lanes 1) 2 last_ones ≡ last_twos
unfolding size
own-packets = each_its_packet (lanes 1) 2 last_ones (refl, (refl, tt))

-- ---- user bits (T-06)

octets-straddled : Octets straddled
octets-straddled = (octets_tested straddled).1 refl

legal-tags : Legal tags.shape tags.octets
unfolding size
legal-tags = (legal_tested (shaped 3 3) straddled).1 refl

-- 5 is above 4
pub five_refused : 4 < 5
five_refused = (user_exactly (shaped 1 5)).0 refl

-- lane 2's three bits are bits 6 and 7 of octet 10 and bit 0 of octet 11; the lane is a position item with 6
pub lane-two : (get_or (transfer_of (shaped 3 3) straddled).lanes 2 None ≡ Some (position 6)) × (bit 2 6 ≡ bit 0 0x01) × (bit 0 6 ≡ bit 6 0xBD)
lane-two = let l = lane_user_bits (shaped 3 3) straddled 2 octets-straddled (lit< tt) in (l.carries, l.bits 2 (lit< tt), l.bits 0 (lit< tt))

-- bit 9 is the lowest of the padding, and it is found both ways
pub padding_nine : PaddingSet (shaped 3 3) padded × (user_fault (shaped 3 3) padded ≡ true)
padding_nine =
    let o = (octets_tested padded).1 refl in (
      (padding_exactly (shaped 3 3) padded o).0 refl,
      (padding_exactly (shaped 3 3) padded o).1 (record { place = 9; above = lit≤ tt; within = lit< tt; high = refl }),
    )

-- 7 was sampled on the null lane; the null lane of the packed record has no bits, nor has that of the second slice
pub null_sampled : lane_bits (shaped 3 3) straddled 1 ≡ 7
null_sampled = refl

pub null_packed : lane_bits (shaped 3 3) (get_or (records (shaped 3 3) tags_at_three) 0 []) 2 ≡ 0
unfolding size
null_packed = (null_lanes_zero (shaped 3 3) 3 straddled).0 0 2 (lit< tt) (lit< tt) refl

pub null_slice : lane_bits (shaped 1 3) (get_or (records (shaped 1 3) tags_slices) 1 []) 0 ≡ 0
unfolding size
null_slice = (null_lanes_zero (shaped 3 3) 1 straddled).1 1 0 (lit< tt) (lit< tt) refl

-- the items keep their bits, in the packed form and in slices
pub tags-kept : stream_items (shaped 2 3) tags_at_two ≡ tags_items
unfolding size
tags-kept = repacking_keeps (shaped 3 3) 2 straddled (width 2 refl)

pub tags-legal : Legal (shaped 2 3) tags_at_two
unfolding size
tags-legal = packed_legal (shaped 3 3) 2 straddled (width 2 refl) legal-tags

pub tags-sliced : (stream_items (shaped 1 3) tags_slices ≡ tags_items) × Legal (shaped 1 3) tags_slices × (packed (shaped 1 3) 2 tags_slices ≡ tags_at_two)
unfolding size
tags-sliced = let k = lane_keeping (shaped 3 3) 1 straddled (width 1 refl) refl legal-tags in (k.same, k.legal, k.packs 2)

-- an archived file too: its slices repacked to width 2
pub tags_archived : (repack_answer (shaped 1 3) 2 tags_slices 12 ≡ Ok 1) × (repack_after (shaped 1 3) 2 tags_slices twelve ≡ tags_at_two ++ (0xEE ∷ 0xEE ∷ []))
unfolding size repack_answer repack_after
tags_archived =
    let k = archives_repack (shaped 3 3) 1 straddled (width 1 refl) refl legal-tags (lit≤ tt) (lit≤ tt) 2 twelve in
    (k.answers, k.leaves)

-- demand 3 with one m in all the calls, and straight there; and of parts
pub tags_stand : after_calls tags tags_calls ≡ tagged 2 3 tags_at_two
unfolding size repack_answer repack_after
tags_stand = (calls tags legal-tags tags_calls).stands

pub tags-straight : (accepted_at tags (lends 2 10) ≡ Some 1) × (next tags (lends 2 10) ≡ tagged 2 3 tags_at_two)
unfolding size repack_answer repack_after
tags-straight = (calls tags legal-tags tags_calls).straight (lends 2 10) refl (lit≤ tt)

pub tags-joined : (tags_joined ≡ packed (shaped 1 3) 2 (whole tags_parts)) × (2 ≡ length (packed_transfers (shaped 1 3) 2 (whole tags_parts)))
unfolding size repack_answer repack_after
tags-joined =
    let l = (legal_tested (shaped 1 3) (whole tags_parts)).1 refl in
    let j = parts (shaped 1 3) 2 tags_parts (1 ∷ 1 ∷ []) l refl ((divides_tested (shaped 1 3) tags_parts).1 refl) in
    (j.same, j.count)

-- two widths of one m
pub tags-same : tags_at_two ≡ packed (shaped 1 3) 2 tags_at_one
unfolding size
tags-same =
    (canonical (shaped 3 3) (shaped 1 3) 2 straddled tags_at_one refl (width 2 refl) legal-tags ((legal_tested (shaped 1 3) tags_at_one).1 refl)).1 refl

-- no shorter stream with user bits: two records at width 1, and the three slices
pub tags-least : 2 ≤ 3
unfolding size repack_answer
tags-least =
    no_shorter (shaped 3 3) 1 straddled 18 2 refl tags_slices ((legal_tested (shaped 1 3) tags_slices).1 refl) refl

-- Of two different m equal octets may carry other items, and other octets the same items: bits 1 and 1, or 3 and 0.
pub other_m : (packed (shaped 2 1) 2 (two_tags 3) ≡ packed (shaped 2 2) 2 (two_tags 3)) × (stream_items (shaped 2 1) (two_tags 3) ≡ stream_items (shaped 2 2) (two_tags 3) → ⊥)
unfolding size
other_m = (refl, λ e. let z : ◌≡◌ {A = ℕ} 1 3 = cc in omega arith)

-- All three are legal: it is the premise on m that keeps `Canonical` from them.
pub other-legal : Legal (shaped 2 1) (two_tags 3) × Legal (shaped 2 2) (two_tags 3) × Legal (shaped 2 2) (two_tags 5)
unfolding size
other-legal = (
  (legal_tested (shaped 2 1) (two_tags 3)).1 refl,
  (legal_tested (shaped 2 2) (two_tags 3)).1 refl,
  (legal_tested (shaped 2 2) (two_tags 5)).1 refl,
)

pub other-octets : (stream_items (shaped 2 1) (two_tags 3) ≡ stream_items (shaped 2 2) (two_tags 5)) × (packed (shaped 2 1) 2 (two_tags 3) ≡ packed (shaped 2 2) 2 (two_tags 5) → ⊥)
unfolding size
other-octets = (refl, λ e. let z : ◌≡◌ {A = ℕ} 3 5 = cc in omega arith)

-- harvested with its bits
pub tags-harvested : Legal (shaped 1 2) tags_harvest × (9 ≤ 18)
unfolding size
tags-harvested = harvest_legal (shaped 1 2) tags_take 9 ((octets_tested tags_take).1 refl) refl

-- and repacked with one octet too few, and with exactly the room it needs
pub tags_repacked : (repack_refusal (shaped 1 2) 2 tags_harvest 9 ≡ Some Room) × (repack_refusal (shaped 1 2) 2 tags_harvest 10 ≡ None)
unfolding size
tags_repacked = (
  harvest_repacks (shaped 1 2) tags_take 9 2 9 ((octets_tested tags_take).1 refl) refl (width 2 refl),
  harvest_repacks (shaped 1 2) tags_take 9 2 10 ((octets_tested tags_take).1 refl) refl (width 2 refl),
)
