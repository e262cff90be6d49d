-- The merged list of two lists that a call accepts: its records, their number, each port's share, its order, and that it is a legal
-- stream. Assumes nothing.
use Rattle.std.specs.Prelude.{None}
use mathlib.Core.Bool.{Bool, true, false}
use mathlib.Core.List.{List, [], ◌∷◌, ◌++◌, map}
use mathlib.Core.Path.{◌≡◌, refl, sym, ap, ap₂, ◌∙◌}
use Prim.Native.Nat.{ℕ, ◌+◌, ◌-◌, ◌*◌, ◌%◌}
use native.Mathlib.Nat.{mul-mod_left, add-mul}
use native.Mathlib.Omega.{arith}
use borrow.Author.Tests.{leb-false, leb-true}
use lib.ListN.{length, length-append, length-map}
use Rattle.refusal.specs.Checks.{first}
use Rattle.stream_spec.specs.declared.Shape.{Shape}
use Rattle.stream_spec.specs.Layout.{tlast, size, records, record_count, joined}
use Rattle.stream_spec.specs.Checks.{transfer_flags, field_fault, reserved_fault, transfer_checks}
use Rattle.stream_spec.specs.Legal.{Octets, Legal}
use Rattle.stream_spec.specs.Walk.{Passed}
use Rattle.stream_spec.proofs.Legal.{octets-append, Faultless, faultless_of, of_faultless, EachOctets, pieces-octets}
use Rattle.stream_spec.proofs.Records.{Sized, length-joined, records-joined, records_sized, length-pieces, whole-count}
use Rattle.merge_spec.specs.Turns.{turns_of, alternate, passed, those}
use Rattle.merge_spec.specs.Merge.{tid_added, tid, raised, restored, high_tid, low_tid, turns, merged_records, merged}
use Rattle.merge_spec.specs.Promises.{SharesKept, Next, InTurns, Fair, cut_turns, TurnsTaken}
use Rattle.merge_spec.proofs.Turns.{EachIn, each-passed, each-alternate, each-turns, All, AllTurns, all-turns, those-first, those-second, turns_pass, turns-end}
use Rattle.merge_spec.proofs.Tags.{raised_long, raised-octets, raised-field, raised-reserved, sized_raised, all_back, AllLow, high-raised, all_not}
use Rattle.merge_spec.proofs.Refusals.{Accepts}
use Rattle.merge_spec.proofs.Faults.{readable_of, passed_first, passed-second, faultless-low}
use Rattle.merge_spec.proofs.Order.{goes, goes_only, over_both, fair_both, cut-fair}

-- what an accepted call knows of a list
pub record Taken (s : Shape) (xs : List ℕ) : Type 0 where
  pub passed : Passed s xs
  pub faultless : first (transfer_checks s 0 (records s xs)) ≡ None
  pub low : AllLow (records s xs)

pub taken-first : (s : Shape) (xs ys : List ℕ) (room : ℕ) → Accepts s xs ys room → Taken s xs
taken-first s xs ys room a =
    let f = faultless-low s 0 (records s xs) a.firsts in
    record { passed = passed_first s xs ys (readable_of s xs ys a.take a.other); faultless = f.0; low = f.1 }

pub taken-second : (s : Shape) (xs ys : List ℕ) (room : ℕ) → Accepts s xs ys room → Taken s ys
taken-second s xs ys room a =
    let f = faultless-low s 0 (records s ys) a.seconds in
    record { passed = passed-second s xs ys (readable_of s xs ys a.take a.other); faultless = f.0; low = f.1 }

-- ---- a record that may stand in a legal stream

pub record Stands (s : Shape) (r : List ℕ) : Type 0 where
  pub long : length r ≡ size s
  pub octets : Octets r
  pub field : field_fault transfer_flags s r ≡ false
  pub reserved : reserved_fault s r ≡ false

stands-raised : (s : Shape) (r : List ℕ) → high_tid r ≡ false → Stands s r → Stands s (raised r)
stands-raised s r e h =
    record {
      long = raised_long r ∙ h.long;
      octets = raised-octets r (leb-false tid_added (tid r) e) h.octets;
      field = raised-field s r ∙ h.field;
      reserved = raised-reserved s r ∙ h.reserved;
    }

module _ (s : Shape) where
  stands_of : (rs : List (List ℕ)) → Sized (size s) rs → EachOctets rs → Faultless s rs → EachIn (Stands s) rs
  stands_of [] a b c = tt
  stands_of (r ∷ rs) a b c =
      (record { long = a.0; octets = b.0; field = c.0; reserved = c.1 }, stands_of rs a.1 b.1 c.2)

  all-raised : (rs : List (List ℕ)) → AllLow rs → EachIn (Stands s) rs → EachIn (Stands s) (map raised rs)
  all-raised [] l h = tt
  all-raised (r ∷ rs) l h = (stands-raised s r l.0 h.0, all-raised rs l.1 h.1)

  stands-octets : (rs : List (List ℕ)) → EachIn (Stands s) rs → Octets (joined rs)
  stands-octets [] h = tt
  stands-octets (r ∷ rs) h = octets-append r (joined rs) h.0.octets (stands-octets rs h.1)

  stands-faultless : (rs : List (List ℕ)) → EachIn (Stands s) rs → Faultless s rs
  stands-faultless [] h = tt
  stands-faultless (r ∷ rs) h = (h.0.field, h.0.reserved, stands-faultless rs h.1)

  -- records of one size
  abbrev pub Long : List ℕ → Type 0
  Long r = length r ≡ size s

  pub sized_each : (rs : List (List ℕ)) → Sized (size s) rs → EachIn Long rs
  sized_each [] h = tt
  sized_each (r ∷ rs) h = (h.0, sized_each rs h.1)

  pub each_sized : (rs : List (List ℕ)) → EachIn Long rs → Sized (size s) rs
  each_sized [] h = tt
  each_sized (r ∷ rs) h = (h.0, each_sized rs h.1)

-- ---- the records of the merged list

-- what holds of each record of both lists, as they go out, holds of each of the merged list
each-merged : (P : List ℕ → Type 0) (s : Shape) (xs ys : List ℕ) → EachIn P (records s xs) → EachIn P (map raised (records s ys))
    → EachIn P (merged_records s xs ys)
each-merged P s xs ys h k =
    each-passed P (turns s xs ys)
    (each-alternate (EachIn P) (turns_of tlast (records s xs)) (turns_of tlast (map raised (records s ys))) (each-turns P tlast (records s xs) h)
    (each-turns P tlast (map raised (records s ys)) k))

module _ (s : Shape) (xs ys : List ℕ) where
  pub raised_sized : Sized (size s) (map raised (records s ys))
  raised_sized = sized_raised (size s) (records s ys) (records_sized s ys)

  pub merged_sized : Sized (size s) (merged_records s xs ys)
  merged_sized =
      each_sized s (merged_records s xs ys)
      (each-merged (Long s) s xs ys (sized_each s (records s xs) (records_sized s xs)) (sized_each s (map raised (records s ys)) raised_sized))

  pub merged-records : records s (merged s xs ys) ≡ merged_records s xs ys
  merged-records = records-joined s (merged_records s xs ys) merged_sized

-- ---- their number

passed-count : (ts us : List (List (List ℕ))) → length (passed (alternate ts us)) ≡ length (passed ts) + length (passed us)
passed-count [] us = omega arith
passed-count (t ∷ ts) [] = omega arith
passed-count (t ∷ ts) (u ∷ us) =
    omega
    (arith, passed-count ts us, length-append t (u ++ passed (alternate ts us)), length-append u (passed (alternate ts us)), length-append t (passed ts), length-append u (passed us))

module _ (s : Shape) (xs ys : List ℕ) where
  pub merged-count : length (merged_records s xs ys) ≡ record_count s xs + record_count s ys
  merged-count =
      passed-count (turns_of tlast (records s xs)) (turns_of tlast (map raised (records s ys)))
      ∙ ap₂ (λ (a b : List (List ℕ)). length a + length b) (turns_pass tlast (records s xs)) (turns_pass tlast (map raised (records s ys)))
      ∙ ap₂ (λ (a b : ℕ). a + b) (length-pieces (size s) (record_count s xs) xs)
      (length-map (records s ys) raised ∙ length-pieces (size s) (record_count s ys) ys)

  pub merged-long : length (merged s xs ys) ≡ length (merged_records s xs ys) * size s
  merged-long = length-joined (size s) (merged_records s xs ys) (merged_sized s xs ys)

  -- as long as both lists together
  pub merged_both : length xs % size s ≡ 0 → length ys % size s ≡ 0 → length (merged s xs ys) ≡ length xs + length ys
  merged_both h k =
      merged-long ∙ ap (λ (n : ℕ). n * size s) merged-count ∙ add-mul (record_count s xs) (record_count s ys) (size s)
      ∙ sym (ap₂ (λ (a b : ℕ). a + b) (whole-count s xs h) (whole-count s ys k))

-- ---- shares and order

module _ (s : Shape) (xs ys : List ℕ) (low : AllLow (records s xs)) where
  abbrev firsts : List (List (List ℕ))
  firsts = turns_of tlast (records s xs)

  abbrev seconds : List (List (List ℕ))
  seconds = turns_of tlast (map raised (records s ys))

  high : All high_tid true (map raised (records s ys))
  high = high-raised s (records s ys) (records_sized s ys)

  low-turns : AllTurns high_tid false firsts
  low-turns = all-turns high_tid tlast false (records s xs) low

  high-turns : AllTurns high_tid true seconds
  high-turns = all-turns high_tid tlast true (map raised (records s ys)) high

  pub share_first : those low_tid (merged_records s xs ys) ≡ records s xs
  share_first =
      those-first low_tid firsts seconds (all-turns low_tid tlast true (records s xs) (all_not false (records s xs) low))
      (all-turns low_tid tlast false (map raised (records s ys)) (all_not true (map raised (records s ys)) high))
      ∙ turns_pass tlast (records s xs)

  pub share_second : those high_tid (merged_records s xs ys) ≡ map raised (records s ys)
  share_second =
      those-second high_tid firsts seconds low-turns high-turns
      ∙ turns_pass tlast (map raised (records s ys))

  pub shares_kept : SharesKept s xs ys
  shares_kept =
      record {
        first = ap (those low_tid) (merged-records s xs ys) ∙ share_first;
        second = ap (λ (rs : List (List ℕ)). map restored (those high_tid rs)) (merged-records s xs ys)
            ∙ ap (map restored) share_second ∙ all_back (records s ys);
      }

  pub in_turns : Next false (records s (merged s xs ys)) × InTurns (records s (merged s xs ys))
  in_turns = rw (merged-records s xs ys) (goes false (records s xs) (map raised (records s ys)) low high)

  fair : Fair (turns s xs ys)
  fair = fair_both false firsts seconds (turns-end tlast (records s xs)) (turns-end tlast (map raised (records s ys))) low-turns high-turns

  pub turns-taken : TurnsTaken s xs ys
  turns-taken =
      record {
        starts = over_both true firsts seconds (turns-end tlast (records s xs)) low-turns high-turns;
        fair = fair;
        all = sym (merged-records s xs ys);
        found = ap cut_turns (merged-records s xs ys) ∙ cut-fair (turns s xs ys) fair;
      }

-- ---- no other list has these shares in this order

high_back : (rs : List (List ℕ)) → All high_tid true rs → map raised (map restored rs) ≡ rs
high_back [] h = refl
high_back (r ∷ rs) h = ap₂ (λ (x : List ℕ) (xs : List (List ℕ)). x ∷ xs) (back r h.0) (high_back rs h.1)
  where
    back : (r : List ℕ) → high_tid r ≡ true → raised (restored r) ≡ r
    back [] e = absurd (omega (arith, leb-true tid_added 0 e))
    back (f ∷ []) e = absurd (omega (arith, leb-true tid_added 0 e))
    back (f ∷ t ∷ r) e = let same : t - 128 + 128 ≡ t = omega (arith, leb-true tid_added t e) in ap (λ (u : ℕ). f ∷ u ∷ r) same

those-all : (rs : List (List ℕ)) → All high_tid true (those high_tid rs)
those-all [] = tt
those-all (r ∷ rs) = go (high_tid r) refl (those-all rs)
  where
    go : (b : Bool) → high_tid r ≡ b → All high_tid true (those high_tid rs) → All high_tid true (those high_tid (r ∷ rs))
    go true e ih = rw e (e, ih)
    go false e ih = rw e ih

pub merged-only : (s : Shape) (xs ys : List ℕ) (rs : List (List ℕ)) → Next false rs → InTurns rs
    → those low_tid rs ≡ records s xs → map restored (those high_tid rs) ≡ records s ys → rs ≡ merged_records s xs ys
merged-only s xs ys rs n g e f =
    goes_only false rs n g
    ∙ ap₂ (λ (a b : List (List ℕ)). passed (alternate (turns_of tlast a) (turns_of tlast b))) e
    (sym (high_back (those high_tid rs) (those-all rs)) ∙ ap (map raised) f)

-- ---- a legal stream

taken-stands : (s : Shape) (xs : List ℕ) → Octets xs → Taken s xs → EachIn (Stands s) (records s xs)
taken-stands s xs o t =
    stands_of s (records s xs) (records_sized s xs) (pieces-octets (record_count s xs) (size s) xs o) (faultless_of s 0 (records s xs) t.faultless)

pub merged-legal : (s : Shape) (xs ys : List ℕ) → Octets xs → Octets ys → Taken s xs → Taken s ys → Legal s (merged s xs ys)
merged-legal s xs ys o p t u =
    let stands = each-merged (Stands s) s xs ys (taken-stands s xs o t) (all-raised s (records s ys) u.low (taken-stands s ys p u)) in
    record {
      width_low = t.passed.low;
      width_high = t.passed.high;
      user_high = t.passed.user;
      octets = stands-octets s (merged_records s xs ys) stands;
      whole = rw (merged-long s xs ys) (mul-mod_left (length (merged_records s xs ys)) (size s));
      faultless = rw (merged-records s xs ys) (of_faultless s 0 (merged_records s xs ys) (stands-faultless s (merged_records s xs ys) stands));
    }
