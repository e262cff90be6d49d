-- The tests of specs/Tables say what the premises say, both ways, and the tables hold by computation. Assumes nothing.
use Rattle.std.specs.Prelude.{Option, None, Some}
use mathlib.Core.Path.{◌≡◌, refl, ap, ap₂}
use mathlib.Core.Bool.{Bool, true, ◌&&◌}
use mathlib.Core.List.{List, [], ◌∷◌, ◌++◌, map, append_assoc, append-nil}
use mathlib.Core.Logic.{◌↔◌}
use Prim.Native.Nat.{ℕ, ◌%◌}
use native.Mathlib.Omega.{arith}
use borrow.Author.Tests.{eqb-true, eq-eqb, ltb-true, lt-ltb, leb-true, le-leb}
use lib.Dec.{eqb, leb, ltb}
use lib.ListN.{length}
use Rattle.refusal.specs.declared.Refusal.{Refusal}
use Rattle.stream_spec.specs.declared.Shape.{Shape}
use Rattle.stream_spec.specs.Packed.{parted}
use Rattle.stream_spec.specs.Layout.{size, records, stream_items}
use Rattle.refusal.specs.Checks.{first}
use Rattle.stream_spec.specs.Checks.{transfer_checks}
use Rattle.stream_spec.specs.Answers.{repack_answer}
use Rattle.stream_spec.specs.Legal.{Octets, Legal}
use Rattle.stream_spec.specs.Demand3.{Part, whole, answer_to, accepted, part_call}
use Rattle.stream_spec.specs.Tables.{WidthTested, are_octets, is_none, is_legal, LegalTested, LegalTable, ApartTable, divides_from, DividesTested, DividesTable, AcceptedTable, numbers_are, AllAcceptedTested, AllAcceptedTable}
use Rattle.stream_spec.proofs.Bools.{and_left, and_right, no_such}
use Rattle.stream_spec.proofs.Passed.{width_fits, fits_width}

-- ---- widths

pub width_tested : WidthTested
width_tested v = ((λ w. fits_width v (record { low = omega arith; high = omega arith })), (λ e. let w = width_fits v e in (omega arith, omega arith)))

-- ---- legal streams

both : (a b : Bool) → (a && b) ≡ true → (a ≡ true) × (b ≡ true)
both a b e = (and_left a b e, and_right a b e)

pub octets_tested : (xs : List ℕ) → Octets xs ↔ (are_octets xs ≡ true)
octets_tested [] = ((λ h. refl), (λ e. tt))
octets_tested (x ∷ xs) = (
  (λ h. rw (lt-ltb x 256 h.0, (octets_tested xs).0 h.1) refl),
  (λ e. let h = both (ltb x 256) (are_octets xs) e in (ltb-true x 256 h.0, (octets_tested xs).1 h.1)),
)

none_tested : (r : Option Refusal) → is_none r ≡ true → r ≡ None
none_tested None e = refl
none_tested (Some r) e = no_such refl e

pub legal_tested : LegalTested
legal_tested s xs = (tested, legal)
  where
    low : Bool
    low = leb 1 s.width

    high : Bool
    high = leb s.width 16

    few : Bool
    few = leb s.user 4

    whole' : Bool
    whole' = eqb (length xs % size s) 0

    tested : Legal s xs → is_legal s xs ≡ true
    tested l =
        rw (
          le-leb 1 s.width l.width_low,
          le-leb s.width 16 l.width_high,
          le-leb s.user 4 l.user_high,
          (octets_tested xs).0 l.octets,
          eq-eqb (length xs % size s) 0 l.whole,
          l.faultless,
        ) refl

    legal : is_legal s xs ≡ true → Legal s xs
    legal e =
        let d = both (low && high && few && are_octets xs && whole') (is_none (first (transfer_checks s 0 (records s xs)))) e in
        let c = both (low && high && few && are_octets xs) whole' d.0 in
        let b = both (low && high && few) (are_octets xs) c.0 in
        let u = both (low && high) few b.0 in
        let a = both low high u.0 in
        record {
          width_low = leb-true 1 s.width a.0;
          width_high = leb-true s.width 16 a.1;
          user_high = leb-true s.user 4 u.1;
          octets = (octets_tested xs).1 b.1;
          whole = eqb-true (length xs % size s) 0 c.1;
          faultless = none_tested (first (transfer_checks s 0 (records s xs))) d.1;
        }

pub legal_table : LegalTable
unfolding size
legal_table = (refl, refl)

-- ---- divisions

pub apart_table : ApartTable
apart_table = refl

-- the condition at one division
abbrev At : Shape → List Part → List Part → Type 0
At s before after = parted (stream_items s (whole before)) (stream_items s (whole after)) ≡ true

-- the divisions behind the parts that are done with
abbrev Behind : Shape → List Part → List Part → Type 0
Behind s done ps = (before after : List Part) → before ++ after ≡ ps → At s (done ++ before) after

tested_from : (s : Shape) (done ps : List Part) → Behind s done ps → divides_from s done ps ≡ true
tested_from s done [] d = rw (append-nil done) at (d [] [] refl)
tested_from s done (p ∷ ps) d =
    let here : At s done (p ∷ ps) = rw (append-nil done) at (d [] (p ∷ ps) refl) in
    rw (here, tested_from s (done ++ p ∷ []) ps (λ before after q. rw (append_assoc done (p ∷ []) before) (d (p ∷ before) after (ap {B = List Part} (λ l. p ∷ l) q)))) refl

of_tested : (s : Shape) (done ps : List Part) → divides_from s done ps ≡ true → Behind s done ps
of_tested s done [] e [] after q = rw (append-nil done, q) e
of_tested s done (p ∷ ps) e [] after q =
    rw (append-nil done, q) (and_left (parted (stream_items s (whole done)) (stream_items s (whole (p ∷ ps)))) (divides_from s (done ++ p ∷ []) ps) e)
of_tested s done [] e (b ∷ before) after q = let z : ◌≡◌ {A = ℕ} 0 1 = cc in absurd (omega arith)
of_tested s done (p ∷ ps) e (b ∷ before) after q =
    let same : b ≡ p = cc in
    let others : before ++ after ≡ ps = cc in
    let rest = and_right (parted (stream_items s (whole done)) (stream_items s (whole (p ∷ ps)))) (divides_from s (done ++ p ∷ []) ps) e in
    rw same (rw (append_assoc done (p ∷ []) before) at (of_tested s (done ++ p ∷ []) ps rest before after others))

pub divides_tested : DividesTested
divides_tested s ps = (tested_from s [] ps, of_tested s [] ps)

pub divides_table : DividesTable
unfolding size
divides_table = (refl, refl)

-- ---- accepted calls

pub accepted_table : AcceptedTable
accepted_table = refl

numbers_tested : (os : List (Option ℕ)) (ns : List ℕ) → (os ≡ map Some ns) ↔ (numbers_are os ns ≡ true)
numbers_tested [] [] = ((λ e. refl), (λ e. refl))
numbers_tested [] (n ∷ ns) = ((λ e. let z : ◌≡◌ {A = ℕ} 0 1 = cc in absurd (omega arith)), (λ e. no_such refl e))
numbers_tested (o ∷ os) [] = ((λ e. let z : ◌≡◌ {A = ℕ} 0 1 = cc in absurd (omega arith)), (λ e. no_such refl e))
numbers_tested (None ∷ os) (n ∷ ns) = ((λ e. let z : ◌≡◌ {A = ℕ} 0 1 = cc in absurd (omega arith)), (λ e. no_such refl e))
numbers_tested (Some m ∷ os) (n ∷ ns) = (
  (λ e.
      let h : m ≡ n = cc in
      let t : os ≡ map Some ns = cc in
      rw (eq-eqb m n h) ((numbers_tested os ns).0 t)),
  (λ e.
      let h = both (eqb m n) (numbers_are os ns) e in
      ap₂ {C = List (Option ℕ)} (λ (k : ℕ) (l : List (Option ℕ)). Some k ∷ l) (eqb-true m n h.0) ((numbers_tested os ns).1 h.1)),
)

pub all_accepted_tested : AllAcceptedTested
all_accepted_tested s v ps ns = numbers_tested (map (λ (p : Part). accepted (answer_to s p.octets (part_call v p))) ps) ns

pub all_accepted_table : AllAcceptedTable
unfolding size repack_answer
all_accepted_table = (refl, refl)
