-- One record with another TID: every other field stays, what it stands for gets the other TID, and the TID comes back. Assumes nothing.
use mathlib.Core.Bool.{Bool, true, false, not}
use mathlib.Core.List.{List, [], ◌∷◌, map}
use mathlib.Core.Path.{◌≡◌, refl, sym, ap, ap₂, ◌∙◌}
use Prim.Native.Nat.{ℕ, ◌+◌, ◌-◌, ◌<◌}
use native.Mathlib.Omega.{arith}
use borrow.Author.Tests.{le-leb}
use lib.ListN.{length, set, length-set}
use Rattle.stream_spec.specs.declared.Shape.{Shape}
use Rattle.stream_spec.specs.Items.{Transfer}
use Rattle.stream_spec.specs.Layout.{tid_at, size, Kept, tlast, user_number, transfer_of}
use Rattle.stream_spec.specs.Checks.{transfer_flags, field_fault, reserved_fault}
use Rattle.stream_spec.specs.Legal.{Octets}
use Rattle.stream_spec.proofs.Size.{size_holds}
use Rattle.stream_spec.proofs.Users.{users_behind}
use Rattle.stream_spec.proofs.Records.{Sized}
use Rattle.merge_spec.specs.Merge.{tid_added, tid, raised, restored, high_tid, low_tid}
use Rattle.merge_spec.proofs.Turns.{All}

-- ---- any octet 1 instead: the other fields are read as before

user-kept : (s : Shape) (t : ℕ) (r : List ℕ) → user_number s (set r tid_at t) ≡ user_number s r
user-kept s t [] = refl
user-kept s t (f ∷ []) = refl
user-kept s t (f ∷ u ∷ r) = users_behind s (f ∷ t ∷ r) ∙ sym (users_behind s (f ∷ u ∷ r))

field-kept : (s : Shape) (t : ℕ) (r : List ℕ) → field_fault transfer_flags s (set r tid_at t) ≡ field_fault transfer_flags s r
field-kept s t [] = refl
field-kept s t (f ∷ []) = refl
field-kept s t (f ∷ u ∷ r) = rw (user-kept s t (f ∷ u ∷ r)) refl

reserved-kept : (s : Shape) (t : ℕ) (r : List ℕ) → reserved_fault s (set r tid_at t) ≡ reserved_fault s r
reserved-kept s t [] = refl
reserved-kept s t (f ∷ []) = refl
reserved-kept s t (f ∷ u ∷ r) = refl

-- ---- a record of port 1 as it goes out

pub raised_long : (r : List ℕ) → length (raised r) ≡ length r
raised_long r = length-set r tid_at (tid r + tid_added)

pub raised-last : (r : List ℕ) → tlast (raised r) ≡ tlast r
raised-last [] = refl
raised-last (f ∷ []) = refl
raised-last (f ∷ t ∷ r) = refl

pub raised-field : (s : Shape) (r : List ℕ) → field_fault transfer_flags s (raised r) ≡ field_fault transfer_flags s r
raised-field s r = field-kept s (tid r + tid_added) r

pub raised-reserved : (s : Shape) (r : List ℕ) → reserved_fault s (raised r) ≡ reserved_fault s r
raised-reserved s r = reserved-kept s (tid r + tid_added) r

pub raised-octets : (r : List ℕ) → tid r < tid_added → Octets r → Octets (raised r)
raised-octets [] l h = tt
raised-octets (f ∷ []) l h = h
raised-octets (f ∷ t ∷ r) l h = (h.0, (omega arith, h.1.1))

-- the TID of a record of two octets or more, and how it comes back
pub raised-tid : (r : List ℕ) → 1 < length r → tid (raised r) ≡ tid r + tid_added
raised-tid [] h = absurd (omega arith)
raised-tid (f ∷ []) h = absurd (omega arith)
raised-tid (f ∷ t ∷ r) h = refl

pub raised_back : (r : List ℕ) → restored (raised r) ≡ r
raised_back [] = refl
raised_back (f ∷ []) = refl
raised_back (f ∷ t ∷ r) = let back : t + 128 - 128 ≡ t = omega arith in ap (λ (u : ℕ). f ∷ u ∷ r) back

-- ---- the transfer that it stands for

abbrev pub raise_transfer : Transfer Kept → Transfer Kept
raise_transfer t =
    record { pair = record { tid = t.pair.tid + tid_added; tdest = t.pair.tdest }; lanes = t.lanes; last = t.last }

pub transfer-raised : (s : Shape) (r : List ℕ) → 1 < length r → transfer_of s (raised r) ≡ raise_transfer (transfer_of s r)
transfer-raised s [] h = absurd (omega arith)
transfer-raised s (f ∷ []) h = absurd (omega arith)
transfer-raised s (f ∷ t ∷ r) h = rw (user-kept s (t + 128) (f ∷ t ∷ r)) refl

-- ---- lists of records

-- a record has two octets
pub sized_two : (s : Shape) (r : List ℕ) → length r ≡ size s → 1 < length r
sized_two s r h = omega (arith, size_holds s)

pub sized_raised : (n : ℕ) (rs : List (List ℕ)) → Sized n rs → Sized n (map raised rs)
sized_raised n [] h = tt
sized_raised n (r ∷ rs) h = (raised_long r ∙ h.0, sized_raised n rs h.1)

pub all_back : (rs : List (List ℕ)) → map restored (map raised rs) ≡ rs
all_back [] = refl
all_back (r ∷ rs) = ap₂ (λ (x : List ℕ) (xs : List (List ℕ)). x ∷ xs) (raised_back r) (all_back rs)

-- what goes out of port 0 is low, and what goes out of port 1 is high
abbrev pub AllLow : List (List ℕ) → Type 0
AllLow rs = All high_tid false rs

pub high-raised : (s : Shape) (rs : List (List ℕ)) → Sized (size s) rs → All high_tid true (map raised rs)
high-raised s [] h = tt
high-raised s (r ∷ rs) h =
    (le-leb tid_added (tid (raised r)) (rw (raised-tid r (sized_two s r h.0)) (omega arith)), high-raised s rs h.1)

-- the other way to say it
pub all_not : (b : Bool) (rs : List (List ℕ)) → All high_tid b rs → All low_tid (not b) rs
all_not b [] h = tt
all_not b (r ∷ rs) h = (ap not h.0, all_not b rs h.1)
