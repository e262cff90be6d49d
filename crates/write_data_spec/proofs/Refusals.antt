-- The refusals of a take in plain words: a burst's own come first, then LENGTH, then FIELD at the first bad record. Assumes nothing.
use Rattle.std.specs.Prelude.{Option, None, Some, Err}
use mathlib.Core.Bool.{Bool, true, false, not, cond, or-true}
use mathlib.Core.List.{List}
use mathlib.Core.Logic.{◌⊎◌, inl, inr, ◌≢◌}
use mathlib.Core.Path.{◌≡◌, refl, sym, ap, ◌∙◌, subst}
use Prim.Native.Nat.{ℕ, ◌+◌, ◌%◌, ◌≤◌, ◌<◌}
use native.Mathlib.Nat.{zero-add}
use native.Mathlib.Omega.{arith}
use lib.Dec.{eqb, ltb}
use lib.ListN.{length}
use borrow.Author.Tests.{ltb-true, ltb-false, eqb-true, eqb-false, not-true, not-false, lt-ltb, le-ltb, eq-eqb, ne_eqb}
use Rattle.refusal.specs.Checks.{first}
use Rattle.refusal.specs.Code.{code_of}
use Rattle.refusal.specs.declared.Refusal.{Refusal}
use Rattle.refusal.specs.declared.Refusal.TheVariants.{Length, Field}
use Rattle.refusal.proofs.First.{cond-none, append-none}
use Rattle.stream_spec.specs.Checks.{capture_most, each}
use Rattle.stream_spec.proofs.Bools.{neither, or_split}
use Rattle.stream_spec.proofs.RecordChecks.{FoundIn, each_all, all-each, each_at, at_each}
use Rattle.burst_spec.specs.declared.Burst.{Burst}
use Rattle.burst_spec.specs.Answers.{judgement_for}
use Rattle.burst_spec.specs.Checks.{checks}
use Rattle.burst_spec.proofs.Answers.{own-number}
use Rattle.burst_spec.proofs.Known.{clash}
use Rattle.write_data_spec.specs.Layout.{beat_size, write_beats}
use Rattle.write_data_spec.specs.Answers.{length_fault, field_fault, field_checks, take_checks, write_refusal, write_answer}
use Rattle.write_data_spec.specs.Promises.{IsAccepted, octets_each, beat, WellFormed, NothingRefused, LengthExactly, FirstBad, FieldExactly}
use Rattle.write_data_spec.proofs.Answers.{refused-answer, refusal_judged, refusal-accepted}

-- ---- a refusal below 7 is not the burst's own

after-own : (b : Burst) (xs : List ℕ) (r : Refusal) → (code_of r).0 < 7 → write_refusal b xs ≡ Some r
    → IsAccepted b × (first (take_checks b.bus xs) ≡ Some r)
after-own b xs r l e = go (first (checks b)) refl
  where
    go : (o : Option Refusal) → first (checks b) ≡ o → IsAccepted b × (first (take_checks b.bus xs) ≡ Some r)
    go (Some q) f =
        let same : Some q ≡ Some r = sym (refusal_judged b xs q (ap judgement_for f)) ∙ e in
        absurd (let h = own-number b r (f ∙ same) in omega arith)
    go None f = let a : IsAccepted b = ap judgement_for f in (a, sym (refusal-accepted b xs a) ∙ e)

-- ---- LENGTH

module _ (bus : ℕ) (xs : List ℕ) where
  -- over the bound, or no whole number of records
  abbrev BadLength : Type 0
  BadLength = (65536 < length xs) ⊎ (length xs % octets_each bus ≢ 0)

  length-bad : length_fault bus xs ≡ true → BadLength
  unfolding beat_size
  length-bad e = go (or_split (ltb capture_most (length xs)) (not (eqb (length xs % beat_size bus) 0)) e)
    where
      go : (ltb capture_most (length xs) ≡ true) ⊎ (not (eqb (length xs % octets_each bus) 0) ≡ true) → BadLength
      go (inl h) = inl (ltb-true capture_most (length xs) h)
      go (inr h) = inr (eqb-false (length xs % octets_each bus) 0 (not-true (eqb (length xs % octets_each bus) 0) h))

  bad-length : BadLength → length_fault bus xs ≡ true
  unfolding beat_size
  bad-length (inl h) = rw (lt-ltb capture_most (length xs) h) refl
  bad-length (inr h) = rw (ne_eqb (length xs % octets_each bus) 0 h) (or-true (ltb capture_most (length xs)))

  pub length_good : length_fault bus xs ≡ false → (length xs ≤ 65536) × (length xs % octets_each bus ≡ 0)
  unfolding beat_size
  length_good e =
      let h = neither (ltb capture_most (length xs)) (not (eqb (length xs % beat_size bus) 0)) e in (
        ltb-false capture_most (length xs) h.0,
        eqb-true (length xs % octets_each bus) 0 (not-false (eqb (length xs % octets_each bus) 0) h.1),
      )

  good_length : length xs ≤ 65536 → length xs % octets_each bus ≡ 0 → length_fault bus xs ≡ false
  unfolding beat_size
  good_length l h = rw (le-ltb capture_most (length xs) l, eq-eqb (length xs % octets_each bus) 0 h) refl

-- ---- FIELD

-- a record that is refused has the fault, and its place is told
field_found : (bus k : ℕ) (r : List ℕ) (q : Refusal) → first (field_checks bus k r) ≡ Some q → (field_fault bus r ≡ true) × (q ≡ Field k)
field_found bus k r q e = go (field_fault bus r) refl e
  where
    go : (t : Bool) → field_fault bus r ≡ t → cond t (Some (Field k)) None ≡ Some q → (field_fault bus r ≡ true) × (q ≡ Field k)
    go true h f = (h, cc)
    go false h f = absurd (clash cc)

module _ (b : Burst) (xs : List ℕ) where
  abbrev taken : List (List ℕ)
  taken = write_beats b.bus xs

  length_there : write_answer b xs ≡ Err Length → IsAccepted b × BadLength b.bus xs
  length_there e =
      let h = after-own b xs Length (omega arith) ((refused-answer b xs Length).0 e) in
      (h.0, go (length_fault b.bus xs) refl h.1)
    where
      go : (t : Bool) → length_fault b.bus xs ≡ t → cond t (Some Length) (first (each (field_checks b.bus) 0 taken)) ≡ Some Length
          → BadLength b.bus xs
      go true f h = length-bad b.bus xs f
      go false f h =
          let at = each_at (field_checks b.bus) 0 taken Length h in
          absurd (let g = (field_found b.bus (0 + at.place) (beat taken at.place) Length at.here).1 in clash cc)

  length_back : IsAccepted b → BadLength b.bus xs → write_answer b xs ≡ Err Length
  length_back a h = (refused-answer b xs Length).1 (refusal-accepted b xs a ∙ rw (bad-length b.bus xs h) refl)

  field_there : (k : ℕ) → write_answer b xs ≡ Err (Field k) → FirstBad b xs k
  field_there k e =
      let h = after-own b xs (Field k) (omega arith) ((refused-answer b xs (Field k)).0 e) in
      go h.0 (length_fault b.bus xs) refl h.1
    where
      at : IsAccepted b → length_fault b.bus xs ≡ false → (f : FoundIn Refusal (field_checks b.bus) 0 taken (Field k))
          → (field_fault b.bus (beat taken f.place) ≡ true) × (Field k ≡ Field (0 + f.place)) → FirstBad b xs k
      at a l f h =
          let counted : k ≡ 0 + f.place = cc in
          let same : k ≡ f.place = omega arith in
          let long = length_good b.bus xs l in
          record {
            accepted = a;
            short = long.0;
            whole = long.1;
            within = omega (arith, f.within);
            bad = subst (λ (j : ℕ). field_fault b.bus (beat taken j) ≡ true) (sym same) h.0;
            earlier = λ j m. (cond-none (field_fault b.bus (beat taken j)) (Field (0 + j)) None (f.earlier j (omega arith))).0;
          }

      go : IsAccepted b → (t : Bool) → length_fault b.bus xs ≡ t
          → cond t (Some Length) (first (each (field_checks b.bus) 0 taken)) ≡ Some (Field k) → FirstBad b xs k
      go a true l h = absurd (clash cc)
      go a false l h =
          let f = each_at (field_checks b.bus) 0 taken (Field k) h in
          at a l f (field_found b.bus (0 + f.place) (beat taken f.place) (Field k) f.here)

  field_back : (k : ℕ) → FirstBad b xs k → write_answer b xs ≡ Err (Field k)
  field_back k f =
      (refused-answer b xs (Field k)).1
      (refusal-accepted b xs f.accepted
      ∙ rw (good_length b.bus xs f.short f.whole)
      (at_each (field_checks b.bus) 0 taken (Field k)
      (record {
        place = k;
        within = f.within;
        here = rw f.bad (ap (λ (j : ℕ). Some (Field j)) (zero-add k));
        earlier = λ j l. rw (f.earlier j l) refl;
      })))

  refused_none : write_refusal b xs ≡ None → WellFormed b xs
  refused_none e =
      let h = append-none (checks b) (take_checks b.bus xs) e in
      let l = cond-none (length_fault b.bus xs) Length (first (each (field_checks b.bus) 0 taken)) h.1 in
      let long = length_good b.bus xs l.0 in
      record {
        accepted = ap judgement_for h.0;
        short = long.0;
        whole = long.1;
        sound = λ k m. (cond-none (field_fault b.bus (beat taken k)) (Field (0 + k)) None (each_all (field_checks b.bus) 0 taken l.1 k m)).0;
      }

  none-refused : WellFormed b xs → write_refusal b xs ≡ None
  none-refused w =
      refusal-accepted b xs w.accepted
      ∙ rw (good_length b.bus xs w.short w.whole) (all-each (field_checks b.bus) 0 taken (λ k m. rw (w.sound k m) refl))

pub nothing-refused : NothingRefused
nothing-refused b xs = (refused_none b xs, none-refused b xs)

pub length-exactly : LengthExactly
length-exactly b xs = (length_there b xs, λ h. length_back b xs h.0 h.1)

pub field-exactly : FieldExactly
field-exactly b xs k = (field_there b xs k, field_back b xs k)
