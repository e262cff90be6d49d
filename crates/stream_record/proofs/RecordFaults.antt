-- The faults of transfer records: what a header's fault says of the record's checks, and the first fault of a take by one
-- loop. Assumes nothing.
use Rattle.std.specs.Prelude.{Option, None, Some, Result, Ok, Err}
use mathlib.Core.Path.{◌≡◌, refl, sym, ap, ◌∙◌}
use mathlib.Core.Bool.{Bool, true, false, cond, or-true, or-false}
use mathlib.Core.List.{List, ◌∷◌, ◌++◌}
use Prim.Native.Nat.{ℕ, ◌+◌, ◌%◌, ◌<◌}
use native.Mathlib.Numerals.{add-one}
use native.Mathlib.Omega.{arith}
use lib.ListN.{length}
use Rattle.refusal.specs.declared.Refusal.{Refusal}
use Rattle.refusal.specs.declared.Refusal.TheVariants.{Field as FieldAt, Reserved as ReservedAt}
use Rattle.refusal.specs.Checks.{Check, first}
use Rattle.stream_spec.specs.declared.Shape.{Shape}
use Rattle.stream_spec.specs.Layout.{size, records}
use Rattle.stream_spec.specs.Checks.{Fields, transfer_flags, each, transfer_faults, user_fault, field_fault, reserved_fault}
use Rattle.stream_spec.proofs.Fields.{fields_of}
use Rattle.stream_spec.proofs.RecordChecks.{each-found, each-passed}
use Rattle.stream_spec.proofs.Walk.{records_front, records_behind, no_records_short}
use Rattle.stream_record.specs.declared.Header.{Header}
use Rattle.stream_record.specs.declared.faults.Fault.{Fault}
use Rattle.stream_record.specs.declared.faults.Fault.TheVariants.{Field, Reserved}
use Rattle.stream_record.specs.Header.{header_of, header_fault, fault_of, record_fault}

-- ---- what it says of the record's checks

module _ {X : Type 0} (x y : X) where
  abbrev verdict : Bool → Bool → Result (Unit {0}) Fault
  verdict a b = cond a (Err Field) (cond b (Err Reserved) (Ok tt))

  abbrev checks : Bool → Bool → Option X
  checks a b = cond a (Some x) (cond b (Some y) None)

  pick_field : (a b : Bool) → Err Field ≡ verdict a b → checks a b ≡ Some x
  pick_field true b e = refl
  pick_field false true e = let z : ◌≡◌ {A = ℕ} 0 1 = cc in absurd (omega arith)
  pick_field false false e = let z : ◌≡◌ {A = ℕ} 0 1 = cc in absurd (omega arith)

  pick_reserved : (a b : Bool) → Err Reserved ≡ verdict a b → checks a b ≡ Some y
  pick_reserved true b e = let z : ◌≡◌ {A = ℕ} 0 1 = cc in absurd (omega arith)
  pick_reserved false true e = refl
  pick_reserved false false e = let z : ◌≡◌ {A = ℕ} 0 1 = cc in absurd (omega arith)

  pick_sound : (a b : Bool) → Ok tt ≡ verdict a b → (a ≡ false) × (checks a b ≡ None)
  pick_sound true b e = let z : ◌≡◌ {A = ℕ} 0 1 = cc in absurd (omega arith)
  pick_sound false true e = let z : ◌≡◌ {A = ℕ} 0 1 = cc in absurd (omega arith)
  pick_sound false false e = (refl, refl)

module _ (s : Shape) (rec : List ℕ) (k : ℕ) where
  pub told-field : Err Field ≡ record_fault s rec → first (transfer_faults s k rec) ≡ Some (FieldAt k)
  told-field f = pick_field (FieldAt k) (ReservedAt k) (field_fault transfer_flags s rec) (reserved_fault s rec) f

  pub told-reserved : Err Reserved ≡ record_fault s rec → first (transfer_faults s k rec) ≡ Some (ReservedAt k)
  told-reserved f = pick_reserved (FieldAt k) (ReservedAt k) (field_fault transfer_flags s rec) (reserved_fault s rec) f

  pub told-sound : Ok tt ≡ record_fault s rec → first (transfer_faults s k rec) ≡ None
  told-sound f = (pick_sound (FieldAt k) (ReservedAt k) (field_fault transfer_flags s rec) (reserved_fault s rec) f).1

  -- a sound record's fields fit
  pub told_fields : Ok tt ≡ record_fault s rec → Fields transfer_flags s rec
  told_fields f =
      fields_of transfer_flags s rec (pick_sound (FieldAt k) (ReservedAt k) (field_fault transfer_flags s rec) (reserved_fault s rec) f).0

-- the padding first, then what the header tells
pub padding_tells : (s : Shape) (rec : List ℕ) → user_fault s rec ≡ true → Err Field ≡ record_fault s rec
padding_tells s rec u = rw (u, or-true (header_fault transfer_flags s (header_of rec))) refl

pub head-tells : (s : Shape) (rec : List ℕ) (h : Header) → h ≡ header_of rec → user_fault s rec ≡ false → fault_of s h ≡ record_fault s rec
head-tells s rec h e u = rw (e, u, or-false (header_fault transfer_flags s (header_of rec))) refl

-- ---- the first fault of a take, whatever is checked of each record

-- the records of xs before `rest`, k of them, have no fault
pub record Ahead (checks : ℕ → List ℕ → List (Check Refusal)) (s : Shape) (xs rest : List ℕ) (k : ℕ) : Type 0 where
  pub whole : length rest % size s ≡ 0
  pub faults : first (each checks 0 (records s xs)) ≡ first (each checks k (records s rest))

pub ahead_starts : (checks : ℕ → List ℕ → List (Check Refusal)) (s : Shape) (xs rest : List ℕ) (k : ℕ) → length xs % size s ≡ 0
    → rest ≡ xs → k ≡ 0 → Ahead checks s xs rest k
ahead_starts checks s xs rest k w e f = rw (e, f) (record { whole = w; faults = refl })

module _ (checks : ℕ → List ℕ → List (Check Refusal)) (s : Shape) (xs rest : List ℕ) (k : ℕ) (a : Ahead checks s xs rest k) where
  -- the record in front, which an iterator counts as j
  module _ (r after : List ℕ) (cut : rest ≡ r ++ after) (long : length r ≡ size s) (j : ℕ) (q : j ≡ k) where
    here : first (each checks 0 (records s xs)) ≡ first (each checks j (r ∷ records s after))
    here = a.faults ∙ rw (q, records_front s rest r after cut long a.whole) refl

    -- a record's fault is the take's
    pub ahead_found : (f : Refusal) → first (checks j r) ≡ Some f → Some f ≡ first (each checks 0 (records s xs))
    ahead_found f e = sym (here ∙ each-found checks j r (records s after) f e)

    pub ahead_next : (n : ℕ) → n ≡ k + 1 → first (checks j r) ≡ None → Ahead checks s xs after n
    ahead_next n m e =
        record {
          whole = records_behind s rest r after cut long a.whole;
          faults = here ∙ each-passed checks j r (records s after) e ∙ rw (m, q, add-one k) refl;
        }

  pub ahead_done : length rest < size s → None ≡ first (each checks 0 (records s xs))
  ahead_done h = sym (a.faults ∙ ap (λ (rs : List (List ℕ)). first (each checks k rs)) (no_records_short s rest h))
