-- The statements of specs/Promises, proved: each by a law about what it speaks of. Assumes nothing.
use Rattle.std.specs.Prelude.{None, Ok}
use mathlib.Core.List.{List}
use mathlib.Core.Path.{◌≡◌, refl, sym, ap, ◌∙◌}
use Prim.Native.Nat.{ℕ, ◌+◌, ◌*◌}
use native.Mathlib.Omega.{arith}
use lib.ListN.{length, drop}
use lib.Seq.{take_at, drop_at}
use Rattle.refusal.specs.declared.Refusal.TheVariants.{Tags}
use Rattle.stream_spec.specs.declared.Shape.{Shape}
use Rattle.stream_spec.specs.Layout.{size, record_count}
use Rattle.stream_spec.proofs.Demand3.{calls, parts}
use Rattle.merge_spec.specs.Merge.{merged_records, merged}
use Rattle.merge_spec.specs.Answers.{merge_refusal, merge_answer, merge_after}
use Rattle.merge_spec.specs.Promises.{Mergeable, NothingRefused, RefusedInOrder, TagsExactly, MemoryKept, MergeWrites, Shares, TakesTurns, MergedOnly, FairTurns, MergedLegal, MergedCalls, MergedParts, PackedShares, PackedTurns}
use Rattle.merge_spec.proofs.Refusals.{Accepts, accepts_of, of_accepts, answer-taken, taken-answer, answer-refused}
use Rattle.merge_spec.proofs.Faults.{all_sound, sound-all, readable_of, take-readable, other-readable}
use Rattle.merge_spec.proofs.Merge.{Taken, taken-first, taken-second, merged-count, merged-long, merged_both, shares_kept, in_turns, turns-taken, merged-only, merged-legal}
use Rattle.merge_spec.proofs.Refused.{refused_there, refused_back, tags_there, tags_back}
use Rattle.merge_spec.proofs.Packed.{packed_split, turns-pack}

-- ---- what is accepted, and what is refused

module _ (s : Shape) (xs ys : List ℕ) (room : ℕ) where
  mergeable_of : Accepts s xs ys room → Mergeable s xs ys room
  mergeable_of a =
      let r = readable_of s xs ys a.take a.other in
      record {
        readable = r;
        first = all_sound s xs a.firsts;
        second = all_sound s ys a.seconds;
        fits = omega (arith, a.fits, merged_both s xs ys r.first.1 r.second.1);
      }

  of_mergeable : Mergeable s xs ys room → Accepts s xs ys room
  of_mergeable h =
      record {
        take = take-readable s xs ys h.readable;
        other = other-readable s xs ys h.readable;
        firsts = sound-all s xs h.first;
        seconds = sound-all s ys h.second;
        fits = omega (arith, h.fits, merged_both s xs ys h.readable.first.1 h.readable.second.1);
      }

pub nothing_refused : NothingRefused
nothing_refused s xs ys room = (
  λ e. mergeable_of s xs ys room (accepts_of s xs ys room (answer-taken s xs ys room (record_count s xs + record_count s ys) e).0),
  λ h. taken-answer s xs ys room (of_accepts s xs ys room (of_mergeable s xs ys room h)) ∙ ap Ok (merged-count s xs ys),
)

pub refused_in_order : RefusedInOrder
refused_in_order s xs ys room port r = (
  λ e. refused_there s xs ys room port r ((answer-refused s xs ys room port r).0 e),
  λ h. (answer-refused s xs ys room port r).1 (refused_back s xs ys room port r h),
)

pub memory_kept : MemoryKept
unfolding merge_after
memory_kept s xs ys out port r e = rw ((answer-refused s xs ys (length out) port r).0 e) refl

pub tags_exactly : TagsExactly
tags_exactly s xs ys room port k = (
  λ e. tags_there s xs ys room port k ((answer-refused s xs ys room port (Tags k)).0 e),
  λ h. (answer-refused s xs ys room port (Tags k)).1 (tags_back s xs ys room port k h.0 h.1),
)

-- ---- an accepted call

module _ (s : Shape) (xs ys : List ℕ) (room n : ℕ) (e : merge_answer s xs ys room ≡ Ok n) where
  none-refused : merge_refusal s xs ys room ≡ None
  none-refused = (answer-taken s xs ys room n e).0

  accepted : Accepts s xs ys room
  accepted = accepts_of s xs ys room none-refused

  list0 : Taken s xs
  list0 = taken-first s xs ys room accepted

  other : Taken s ys
  other = taken-second s xs ys room accepted

  counted : n ≡ length (merged_records s xs ys)
  counted = (answer-taken s xs ys room n e).1

  long : length (merged s xs ys) ≡ n * size s
  long = merged-long s xs ys ∙ ap (λ (k : ℕ). k * size s) (sym counted)

pub merge_writes : MergeWrites
unfolding merge_after
merge_writes s xs ys out n e =
    let z = list0 s xs ys (length out) n e in
    let o = other s xs ys (length out) n e in
    let l = long s xs ys (length out) n e in
    record {
      count = counted s xs ys (length out) n e ∙ merged-count s xs ys;
      long = sym l ∙ merged_both s xs ys z.passed.whole o.passed.whole;
      result = rw (none-refused s xs ys (length out) n e) (take_at (merged s xs ys) (drop (length (merged s xs ys)) out) (n * size s) l);
      behind =
          rw (none-refused s xs ys (length out) n e)
          (drop_at (merged s xs ys) (drop (length (merged s xs ys)) out) (n * size s) l ∙ ap (λ (k : ℕ). drop k out) l);
    }

pub shares : Shares
shares s xs ys room n e = shares_kept s xs ys (list0 s xs ys room n e).low

pub takes_turns : TakesTurns
takes_turns s xs ys room n e = in_turns s xs ys (list0 s xs ys room n e).low

pub merged_only : MergedOnly
merged_only = merged-only

pub fair_turns : FairTurns
fair_turns s xs ys room n e = turns-taken s xs ys (list0 s xs ys room n e).low

-- ---- demand 3

pub merged_legal : MergedLegal
merged_legal s xs ys room n o p e = merged-legal s xs ys o p (list0 s xs ys room n e) (other s xs ys room n e)

pub merged_calls : MergedCalls
merged_calls s xs ys room n o p e cs = calls (record { shape = s; octets = merged s xs ys }) (merged_legal s xs ys room n o p e) cs

pub merged_parts : MergedParts
merged_parts s xs ys room n o p e v ps ns w a d =
    let j = parts s v ps ns (rw w (merged_legal s xs ys room n o p e)) a d in
    record { same = j.same ∙ rw w refl; count = j.count ∙ rw w refl }

-- ---- the packed form

pub packed_shares : PackedShares
packed_shares s v xs ys room n e = packed_split s v xs ys (list0 s xs ys room n e).low

pub packed_turns : PackedTurns
packed_turns s v xs ys room n e = turns-pack s v xs ys (list0 s xs ys room n e) (other s xs ys room n e)
