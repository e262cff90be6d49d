-- Every promise of merging that has a premise, applied to worked lists: all its premises hold there, and what it says is what was typed by
-- hand. And two orders that the request does not allow, one list after the other and record by record, break a promise. Assumes nothing.
use Rattle.std.specs.Prelude.{Ok, Err}
use mathlib.Core.Bool.{true, false}
use mathlib.Core.List.{List, [], ◌∷◌, ◌++◌, map}
use mathlib.Core.Logic.{◌⊎◌, ◌≢◌}
use mathlib.Core.Path.{◌≡◌, refl, sym}
use Prim.Native.Nat.{ℕ, ◌+◌, ◌*◌, ◌≤◌}
use native.Mathlib.Omega.{arith}
use lib.ListN.{replicate, take, drop}
use Rattle.refusal.specs.declared.Refusal.{Refusal}
use Rattle.refusal.specs.declared.Refusal.TheVariants.{Length, Field, Room, Tags}
use Rattle.stream_spec.specs.Layout.{tlast, size, records}
use Rattle.stream_spec.specs.Answers.{repack_answer, repack_after}
use Rattle.stream_spec.specs.Demand3.{Call, after_calls, Part}
use Rattle.stream_spec.specs.Legal.{Octets, Legal}
use Rattle.stream_spec.specs.Tables.{lanes, one, stream}
use Rattle.stream_spec.proofs.Tables.{octets_tested, divides_tested}
use Rattle.merge_spec.specs.Turns.{those}
use Rattle.merge_spec.specs.Merge.{restored, high_tid, low_tid, merged_records}
use Rattle.merge_spec.specs.Answers.{named, merge_answer, merge_after}
use Rattle.merge_spec.specs.Promises.{sent_by, InTurns, cut_turns}
use Rattle.merge_spec.specs.Cases.{rec, flagged}
use Rattle.merge_spec.proofs.Promises.{nothing_refused, refused_in_order, tags_exactly, memory_kept, merge_writes, shares, takes_turns, merged_only, fair_turns, merged_legal, merged_calls, merged_parts, packed_shares, packed_turns}

-- ---- W01: two lists, and the merged one

abbrev xs : List ℕ
xs = rec 0 1 10 ++ rec 1 1 11 ++ rec 0 1 12

abbrev ys : List ℕ
ys = rec 1 2 20 ++ rec 1 2 21

abbrev link : List (List ℕ)
link = rec 0 1 10 ∷ rec 1 1 11 ∷ rec 1 130 20 ∷ rec 0 1 12 ∷ rec 1 130 21 ∷ []

abbrev link_octets : List ℕ
link_octets = rec 0 1 10 ++ (rec 1 1 11 ++ (rec 1 130 20 ++ (rec 0 1 12 ++ rec 1 130 21)))

accepted : merge_answer (lanes 1) xs ys 41 ≡ Ok 5
unfolding size merge_answer
accepted = refl

octets-xs : Octets xs
octets-xs = (octets_tested xs).1 refl

octets_ys : Octets ys
octets_ys = (octets_tested ys).1 refl

-- what is known of accepted lists lets the call accept them
pub accepted_again : merge_answer (lanes 1) xs ys 41 ≡ Ok 5
unfolding size
accepted_again = (nothing_refused (lanes 1) xs ys 41).1 ((nothing_refused (lanes 1) xs ys 41).0 accepted)

-- five records of forty octets in all, and the last octet of the memory as it was
abbrev memory : List ℕ
memory = replicate {A = ℕ} 41 0xEE

pub written : (take 40 (merge_after (lanes 1) xs ys memory) ≡ link_octets) × (drop 40 (merge_after (lanes 1) xs ys memory) ≡ 0xEE ∷ [])
unfolding size
written = let w = merge_writes (lanes 1) xs ys memory 5 accepted in (w.result, w.behind)

pub counted : (◌≡◌ {A = ℕ} 5 (3 + 2)) × (◌≡◌ {A = ℕ} (5 * 8) (24 + 16))
unfolding size
counted = let w = merge_writes (lanes 1) xs ys memory 5 accepted in (w.count, w.long)

-- ---- shares and turns

pub share_zero : those low_tid link ≡ rec 0 1 10 ∷ rec 1 1 11 ∷ rec 0 1 12 ∷ []
unfolding size
share_zero = (shares (lanes 1) xs ys 41 5 accepted).first

pub share_one : map restored (those high_tid link) ≡ rec 1 2 20 ∷ rec 1 2 21 ∷ []
unfolding size
share_one = (shares (lanes 1) xs ys 41 5 accepted).second

some : (r : List ℕ) (rs : List (List ℕ)) → r ∷ rs ≢ []
some r rs w = let u : ◌≡◌ {A = ℕ} 0 1 = cc in absurd (omega arith)

-- port 0 first; behind its record without TLAST it goes on, and behind the one with TLAST the other port comes
pub zero-first : high_tid (rec 0 1 10) ≡ false
unfolding size
zero-first = (takes_turns (lanes 1) xs ys 41 5 accepted).0 (some (rec 0 1 10) _)

pub turn_stays : high_tid (rec 1 1 11) ≡ false
unfolding size
turn_stays = (takes_turns (lanes 1) xs ys 41 5 accepted).1.0 (some (rec 1 1 11) _)

pub turn_goes : high_tid (rec 1 130 20) ≡ true
unfolding size
turn_goes = (takes_turns (lanes 1) xs ys 41 5 accepted).1.1.0 (some (rec 1 130 20) _)

pub only_link : link ≡ merged_records (lanes 1) xs ys
unfolding size
only_link =
    let t = takes_turns (lanes 1) xs ys 41 5 accepted in
    let s = shares (lanes 1) xs ys 41 5 accepted in
    merged_only (lanes 1) xs ys link t.0 t.1 s.first s.second

-- one list after the other has the same shares, and so has record by record; but they are not in turns
abbrev after_each_other : List (List ℕ)
after_each_other = rec 0 1 10 ∷ rec 1 1 11 ∷ rec 0 1 12 ∷ rec 1 130 20 ∷ rec 1 130 21 ∷ []

abbrev by_records : List (List ℕ)
by_records = rec 0 1 10 ∷ rec 1 130 20 ∷ rec 1 1 11 ∷ rec 1 130 21 ∷ rec 0 1 12 ∷ []

pub same_shares : (those low_tid after_each_other ≡ those low_tid link) × (those high_tid after_each_other ≡ those high_tid link)
    × (those low_tid by_records ≡ those low_tid link) × (those high_tid by_records ≡ those high_tid link)
same_shares = (refl, refl, refl, refl)

differ : {A : Type 0} → false ≡ true → A
differ w = let u : ◌≡◌ {A = ℕ} 0 1 = cc in absurd (omega arith)

pub not_after-each-other : InTurns after_each_other → ⊥
not_after-each-other h = differ (h.1.0 (some (rec 1 130 20) _))

pub not_by_records : InTurns by_records → ⊥
not_by_records h = differ (sym (h.0 (some (rec 1 1 11) _)))

-- its first turn is port 0's two records: of those before the last none has TLAST, and the last has it, or port 0 has nothing later
pub record FirstTurn : Type 0 where
  pub before : List (List ℕ)
  pub final : List ℕ
  pub is : rec 0 1 10 ∷ rec 1 1 11 ∷ [] ≡ before ++ final ∷ []
  pub own : sent_by true (rec 0 1 10 ∷ rec 1 1 11 ∷ []) ≡ []
  pub unended : those tlast before ≡ []
  pub ends : (tlast final ≡ true) ⊎ (sent_by false (rec 1 130 20 ∷ rec 0 1 12 ∷ rec 1 130 21 ∷ []) ≡ [])

pub first-turn : FirstTurn
unfolding size
first-turn =
    let f = (fair_turns (lanes 1) xs ys 41 5 accepted).fair.0 in
    record { before = f.before; final = f.final; is = f.is; own = f.own; unended = f.unended; ends = f.ends }

-- cut behind each TLAST and wherever the port changes, the merged list gives its turns
pub found_again : cut_turns link ≡ (rec 0 1 10 ∷ rec 1 1 11 ∷ []) ∷ (rec 1 130 20 ∷ []) ∷ (rec 0 1 12 ∷ []) ∷ (rec 1 130 21 ∷ []) ∷ []
unfolding size
found_again = (fair_turns (lanes 1) xs ys 41 5 accepted).found

-- W04: port 1 has two turns running, and port 0 has no record from the second of them on
pub running : sent_by false (rec 1 129 21 ∷ rec 0 129 22 ∷ []) ≡ []
unfolding size merge_answer
running = (fair_turns (lanes 1) (rec 1 1 10) (rec 1 1 20 ++ rec 1 1 21 ++ rec 0 1 22) 32 4 refl).fair.2.1 refl

-- W05: the first turn is port 1's, and port 0 has no record
pub one-first : sent_by false (rec 0 129 20 ∷ rec 1 129 21 ∷ []) ≡ []
unfolding size merge_answer
one-first = (fair_turns (lanes 1) [] (rec 0 1 20 ++ rec 1 1 21) 16 2 refl).starts refl

-- ---- demand 3

pub link_legal : Legal (lanes 1) link_octets
unfolding size
link_legal = merged_legal (lanes 1) xs ys 41 5 octets-xs octets_ys accepted

-- packed at width 2: TID 1 with 10 and 11 and its end, TID 130 with 20 and its end, TID 1 with 12, TID 130 with 21 and its end
abbrev full : ℕ → ℕ → ℕ → ℕ → List ℕ
full last tid a b = last ∷ tid ∷ 0 ∷ 3 ∷ 0 ∷ 3 ∷ 0 ∷ a ∷ b ∷ []

abbrev half : ℕ → ℕ → ℕ → List ℕ
half last tid a = last ∷ tid ∷ 0 ∷ 1 ∷ 0 ∷ 1 ∷ 0 ∷ a ∷ 0 ∷ []

abbrev packed_link : List ℕ
packed_link = full 1 1 10 11 ++ (half 1 130 20 ++ (half 0 1 12 ++ half 1 130 21))

abbrev lends : ℕ → ℕ → Call
lends v room = record { width = v; lent = replicate {A = ℕ} room 0xEE }

-- refused for want of an octet, then accepted: there stands the packed form of the merged list
pub calls_keep : after_calls (stream 1 link_octets) (lends 2 35 ∷ lends 2 36 ∷ []) ≡ stream 2 packed_link
unfolding size repack_answer repack_after
calls_keep = (merged_calls (lanes 1) xs ys 41 5 octets-xs octets_ys accepted (lends 2 35 ∷ lends 2 36 ∷ [])).stands

-- two parts, divided behind a TLAST
abbrev halves : List Part
halves =
    record { octets = rec 0 1 10 ++ (rec 1 1 11 ++ rec 1 130 20); lent = replicate {A = ℕ} 18 0xEE }
    ∷ record { octets = rec 0 1 12 ++ rec 1 130 21; lent = replicate {A = ℕ} 20 0xEE } ∷ []

pub parts_join : ((full 1 1 10 11 ++ half 1 130 20) ++ (half 0 1 12 ++ half 1 130 21) ≡ packed_link) × (◌≡◌ {A = ℕ} (2 + 2) 4)
unfolding size repack_answer repack_after
parts_join =
    let j = merged_parts (lanes 1) xs ys 41 5 octets-xs octets_ys accepted 2 halves (2 ∷ 2 ∷ []) refl refl ((divides_tested (lanes 1) halves).1 refl) in
    (j.same, j.count)

-- ---- the packed form

pub packed_zero : those low_tid (records (lanes 2) packed_link) ≡ full 1 1 10 11 ∷ half 0 1 12 ∷ []
unfolding size
packed_zero = (packed_shares (lanes 1) 2 xs ys 41 5 accepted).first

pub packed-one : map restored (those high_tid (records (lanes 2) packed_link)) ≡ half 1 2 20 ∷ half 1 2 21 ∷ []
unfolding size
packed-one = (packed_shares (lanes 1) 2 xs ys 41 5 accepted).second

-- two turns at a time
pub packed_groups : packed_link ≡ (full 1 1 10 11 ++ half 1 130 20) ++ ((half 0 1 12 ++ half 1 130 21) ++ [])
unfolding size
packed_groups =
    (packed_turns (lanes 1) 2 xs ys 41 5 accepted).same
    (((rec 0 1 10 ∷ rec 1 1 11 ∷ []) ∷ (rec 1 130 20 ∷ []) ∷ []) ∷ ((rec 0 1 12 ∷ []) ∷ (rec 1 130 21 ∷ []) ∷ []) ∷ []) refl

pub turn-short : 16 ≤ 65536
unfolding size
turn-short = (packed_turns (lanes 1) 2 xs ys 41 5 accepted).short 0

-- ---- 17, of port 0's record 1 before a fault of port 1, and of port 1's record 0

tags-zero : merge_answer (lanes 1) (rec 0 1 10 ++ rec 0 128 11) (flagged 1) 3 ≡ Err (named 0 (Tags 1))
unfolding size merge_answer
tags-zero = refl

pub tags-zero_again : merge_answer (lanes 1) (rec 0 1 10 ++ rec 0 128 11) (flagged 1) 3 ≡ Err (named 0 (Tags 1))
tags-zero_again =
    let t = tags_exactly (lanes 1) (rec 0 1 10 ++ rec 0 128 11) (flagged 1) 3 0 1 in
    t.1 (t.0 tags-zero)

-- a record without items
tags-one : merge_answer (lanes 1) (rec 0 1 10) (one 0 128 0 0 0 0) 16 ≡ Err (named 1 (Tags 0))
unfolding size merge_answer
tags-one = refl

pub tags-one_again : merge_answer (lanes 1) (rec 0 1 10) (one 0 128 0 0 0 0) 16 ≡ Err (named 1 (Tags 0))
tags-one_again = let t = tags_exactly (lanes 1) (rec 0 1 10) (one 0 128 0 0 0 0) 16 1 0 in t.1 (t.0 tags-one)

-- ---- each line of the refusals' order, both ways; and the memory afterwards

abbrev Again : List ℕ → List ℕ → ℕ → ℕ → Refusal → Type 0
Again xs ys room port r = merge_answer (lanes 1) xs ys room ≡ Err (named port r)

again : (xs ys : List ℕ) (room port : ℕ) (r : Refusal) → Again xs ys room port r → Again xs ys room port r
again xs ys room port r e = let t = refused_in_order (lanes 1) xs ys room port r in t.1 (t.0 e)

pub in_order : Again (1 ∷ []) (1 ∷ []) 3 0 Length × Again (flagged 128) (1 ∷ []) 3 1 Length × Again (flagged 128) (flagged 1) 3 0 (Field 0)
    × Again (rec 0 1 10) (flagged 128) 3 1 (Field 0) × Again (rec 0 1 10) (rec 0 1 20) 15 0 Room
unfolding size merge_answer
in_order = (
  again (1 ∷ []) (1 ∷ []) 3 0 Length refl,
  again (flagged 128) (1 ∷ []) 3 1 Length refl,
  again (flagged 128) (flagged 1) 3 0 (Field 0) refl,
  again (rec 0 1 10) (flagged 128) 3 1 (Field 0) refl,
  again (rec 0 1 10) (rec 0 1 20) 15 0 Room refl,
)

pub kept : merge_after (lanes 1) (rec 0 1 10) (rec 0 1 20) (replicate {A = ℕ} 15 0xEE) ≡ replicate {A = ℕ} 15 0xEE
unfolding size merge_answer
kept = memory_kept (lanes 1) (rec 0 1 10) (rec 0 1 20) (replicate {A = ℕ} 15 0xEE) 0 Room refl
