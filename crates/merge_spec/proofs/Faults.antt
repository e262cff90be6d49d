-- The records of the two lists: what no fault in them means, both ways, and when exactly 17 is given. Assumes nothing.
use Rattle.std.specs.Prelude.{Option, None, Some}
use mathlib.Core.Bool.{Bool, true, false, cond}
use mathlib.Core.List.{List, [], ◌∷◌}
use mathlib.Core.Path.{◌≡◌, refl, ap, subst}
use Prim.Native.Nat.{ℕ, suc, ◌+◌}
use native.Mathlib.Nat.{zero-add}
use native.Mathlib.Omega.{arith}
use borrow.Author.Tests.{leb-true, leb-false, le-leb, lt-leb}
use lib.ListN.{length}
use Rattle.refusal.specs.Checks.{check, first}
use Rattle.refusal.specs.declared.Refusal.{Refusal}
use Rattle.refusal.specs.declared.Refusal.TheVariants.{Field, Reserved, Tags}
use Rattle.refusal.proofs.First.{first-none, none_first, append-none, none-append}
use Rattle.stream_spec.specs.declared.Shape.{Shape}
use Rattle.stream_spec.specs.Layout.{size, records, record_count}
use Rattle.stream_spec.specs.Checks.{length_check, take_checks, each, transfer_flags, field_fault, reserved_fault, transfer_faults, transfer_checks}
use Rattle.stream_spec.specs.Walk.{Passed}
use Rattle.stream_spec.proofs.Passed.{length-fits, fits-length, checks-passed, passed-checks}
use Rattle.stream_spec.proofs.Records.{length-pieces}
use Rattle.stream_spec.proofs.RecordChecks.{FoundIn, each_none, each_all, all-each, each_at, at_each}
use Rattle.merge_spec.specs.Merge.{tid_added, tid, high_tid}
use Rattle.merge_spec.specs.Answers.{port_faults, port_checks}
use Rattle.merge_spec.specs.Promises.{record_of, Sound, AllSound, Readable, HighAt}
use Rattle.merge_spec.proofs.Tags.{AllLow}
use Rattle.merge_spec.proofs.Refusals.{clash}

-- ---- one record

-- what the three checks of a record find
abbrev found : ℕ → Bool → Bool → Bool → Option Refusal
found k a b c = cond a (Some (Field k)) (cond b (Some (Reserved k)) (cond c (Some (Tags k)) None))

found_none : (k : ℕ) (a b c : Bool) → found k a b c ≡ None → (a ≡ false) × (b ≡ false) × (c ≡ false)
found_none k true b c e = clash cc
found_none k false true c e = clash cc
found_none k false false true e = clash cc
found_none k false false false e = (refl, refl, refl)

found-tags : (k j : ℕ) (a b c : Bool) → found k a b c ≡ Some (Tags j) → (a ≡ false) × (b ≡ false) × (c ≡ true) × (k ≡ j)
found-tags k j true b c e = clash cc
found-tags k j false true c e = clash cc
found-tags k j false false true e = (refl, refl, refl, cc)
found-tags k j false false false e = clash cc

module _ (s : Shape) (k : ℕ) (r : List ℕ) where
  sound_of : first (port_faults s k r) ≡ None → Sound s r
  sound_of e =
      let h = found_none k (field_fault transfer_flags s r) (reserved_fault s r) (high_tid r) e in
      record { field = h.0; reserved = h.1; low = leb-false tid_added (tid r) h.2 }

  of_sound : Sound s r → first (port_faults s k r) ≡ None
  of_sound h = rw (h.field, h.reserved, lt-leb tid_added (tid r) h.low) refl

-- ---- all records of a list

module _ (s : Shape) (xs : List ℕ) where
  counted : length (records s xs) ≡ record_count s xs
  counted = length-pieces (size s) (record_count s xs) xs

  pub all_sound : first (port_checks s xs) ≡ None → AllSound s xs
  all_sound e k l = sound_of s (0 + k) (record_of s xs k) (each_all (port_faults s) 0 (records s xs) e k (omega (arith, counted)))

  pub sound-all : AllSound s xs → first (port_checks s xs) ≡ None
  sound-all h = all-each (port_faults s) 0 (records s xs) (λ k l. of_sound s (0 + k) (record_of s xs k) (h k (omega (arith, counted))))

  pub high-at : (k : ℕ) → first (port_checks s xs) ≡ Some (Tags k) → HighAt s xs k
  high-at k e = go (each_at (port_faults s) 0 (records s xs) (Tags k) e)
    where
      go : FoundIn Refusal (port_faults s) 0 (records s xs) (Tags k) → HighAt s xs k
      go f =
          let r = record_of s xs f.place in
          let h = found-tags (0 + f.place) k (field_fault transfer_flags s r) (reserved_fault s r) (high_tid r) f.here in
          let same : f.place ≡ k = omega (arith, h.3) in
          subst (HighAt s xs) same
          (record {
            within = omega (arith, f.within, counted);
            field = h.0;
            reserved = h.1;
            high = leb-true tid_added (tid r) h.2;
            earlier = λ j l. sound_of s (0 + j) (record_of s xs j) (f.earlier j l);
          })

  pub at_high : (k : ℕ) → HighAt s xs k → first (port_checks s xs) ≡ Some (Tags k)
  at_high k h =
      at_each (port_faults s) 0 (records s xs) (Tags k)
      (record {
        place = k;
        within = omega (arith, h.within, counted);
        here =
            rw (h.field, h.reserved, le-leb tid_added (tid (record_of s xs k)) h.high) (ap (λ (j : ℕ). Some (Tags j)) (zero-add k));
        earlier = λ j l. of_sound s (0 + j) (record_of s xs j) (h.earlier j l);
      })

-- no fault of records, and every TID is low
pub faultless-low : (s : Shape) (k : ℕ) (rs : List (List ℕ)) → first (each (port_faults s) k rs) ≡ None
    → (first (transfer_checks s k rs) ≡ None) × AllLow rs
faultless-low s k [] e = (refl, tt)
faultless-low s k (r ∷ rs) e =
    let h = each_none (port_faults s) k r rs e in
    let f = append-none (transfer_faults s k r) (check (high_tid r) (Tags k) ∷ []) h.0 in
    let low = first-none (check (high_tid r) (Tags k)) [] f.1 in
    let ih = faultless-low s (suc k) rs h.1 in
    (none-append (transfer_faults s k r) (each (transfer_faults s) (suc k) rs) f.0 ih.0, (low.0, ih.1))

-- ---- the numbers of both lists

module _ (s : Shape) (xs ys : List ℕ) where
  pub readable_of : first (take_checks s xs) ≡ None → first (length_check s ys ∷ []) ≡ None → Readable s xs ys
  readable_of t o =
      let p = checks-passed s xs t in
      let q = length-fits s ys (first-none (length_check s ys) [] o).0 in
      record { width = (p.low, p.high); user = p.user; first = (p.short, p.whole); second = (q.0, q.1) }

  pub passed_first : Readable s xs ys → Passed s xs
  passed_first h = record { low = h.width.0; high = h.width.1; user = h.user; whole = h.first.1; short = h.first.0 }

  pub passed-second : Readable s xs ys → Passed s ys
  passed-second h = record { low = h.width.0; high = h.width.1; user = h.user; whole = h.second.1; short = h.second.0 }

  pub take-readable : Readable s xs ys → first (take_checks s xs) ≡ None
  take-readable h = passed-checks s xs (passed_first h)

  pub other-readable : Readable s xs ys → first (length_check s ys ∷ []) ≡ None
  other-readable h = none_first (length_check s ys) [] (fits-length s ys h.second.0 h.second.1) refl
