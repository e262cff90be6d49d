-- Harvest's answer from judge's verdict: a refused take is refused alike, a broken one is unclean, and of a clean one only
-- the room is left to be seen. Assumes nothing.
use Rattle.std.specs.Prelude.{Option, None, Some, Result, Ok, Err}
use mathlib.Core.Path.{◌≡◌, refl, sym, ap, ap₂, ◌∙◌}
use mathlib.Core.Bool.{Bool, true, false}
use mathlib.Core.List.{List, [], ◌∷◌, ◌++◌, map}
use Prim.Native.Nat.{ℕ, ◌*◌, ◌≤◌, ◌<◌}
use native.Mathlib.Omega.{arith}
use borrow.Author.Tests.{lt-ltb, le-ltb}
use lib.ListN.{length}
use Rattle.refusal.specs.declared.Refusal.{Refusal}
use Rattle.refusal.specs.declared.Refusal.TheVariants.{Unclean, Room}
use Rattle.stream_spec.specs.declared.Shape.{Shape}
use Rattle.stream_spec.specs.declared.Verdict.{Verdict}
use Rattle.stream_spec.specs.declared.Verdict.TheVariants.{Clean, Broken}
use Rattle.stream_spec.specs.Layout.{size, records}
use Rattle.refusal.specs.Checks.{Check, first}
use Rattle.stream_spec.specs.Checks.{capture_most, room_check}
use Rattle.stream_spec.specs.Handshake.{Finding, findings, first_finding, transfer_count, harvested}
use Rattle.stream_spec.specs.Answers.{verdict, written_values, judge_checks, judge_answer, unclean_check, harvest_refusal, harvest_answer, harvest_after, Harvested}
use Rattle.stream_spec.specs.Memory.{in_front}
use Rattle.stream_spec.specs.Walk.{Narrow, Passed}
use Rattle.stream_spec.proofs.Harvest.{harvested-long, harvested-short}
use Rattle.stream_spec.proofs.Passed.{passed_narrow}
use Rattle.stream_spec.proofs.Clean.{clean-count, clean-passed}

-- ---- the first refusal, from the verdict

abbrev or_else : Option Refusal → Option Refusal → Option Refusal
or_else (Some r) o = Some r
or_else None o = o

first-append : (cs ds : List (Check Refusal)) → first (cs ++ ds) ≡ or_else (first cs) (first ds)
first-append [] ds = refl
first-append (c ∷ cs) ds = go c.found refl (first-append cs ds)
  where
    go : (b : Bool) → c.found ≡ b → first (cs ++ ds) ≡ or_else (first cs) (first ds) → first (c ∷ cs ++ ds) ≡ or_else (first (c ∷ cs)) (first ds)
    go true e ih = rw e refl
    go false e ih = rw e ih

abbrev unclean_of : Option Finding → Option Refusal
unclean_of (Some f) = Some (Unclean f.cycle f.rule)
unclean_of None = None

unclean_first : (fs : List (Check Finding)) → first (map unclean_check fs) ≡ unclean_of (first fs)
unclean_first [] = refl
unclean_first (f ∷ fs) = go f.found refl (unclean_first fs)
  where
    go : (b : Bool) → f.found ≡ b → first (map unclean_check fs) ≡ unclean_of (first fs) → first (map unclean_check (f ∷ fs)) ≡ unclean_of (first (f ∷ fs))
    go true e ih = rw e refl
    go false e ih = rw e ih

-- what a verdict leaves: a refusal, or else what follows
abbrev refusal_of : Result Verdict Refusal → Option Refusal → Option Refusal
refusal_of (Err r) o = Some r
refusal_of (Ok (Broken cycle rule)) o = Some (Unclean cycle rule)
refusal_of (Ok (Clean n)) o = o

left_of : (j : Option Refusal) (f : Option Finding) (n : ℕ) (o : Option Refusal) → or_else j (or_else (unclean_of f) o) ≡ refusal_of (verdict j f n) o
left_of (Some r) f n o = refl
left_of None (Some f) n o = refl
left_of None None n o = refl

-- ---- the answers

module _ (s : Shape) (xs : List ℕ) (v : Result Verdict Refusal) (judged : v ≡ judge_answer s xs) where
  left : (room : ℕ) → harvest_refusal s xs room ≡ refusal_of v (first (room_check (harvested s xs) room ∷ []))
  unfolding judge_answer
  left room =
      let rules = map unclean_check (findings s 0 None (records s xs)) in
      let roomy = room_check (harvested s xs) room ∷ [] in
      first-append (judge_checks s xs) (rules ++ roomy)
      ∙ ap (or_else (first (judge_checks s xs)))
      (first-append rules roomy ∙ ap (λ (o : Option Refusal). or_else o (first roomy)) (unclean_first (findings s 0 None (records s xs))))
      ∙ left_of (first (judge_checks s xs)) (first_finding s xs) (transfer_count s xs) (first roomy)
      ∙ sym (ap (λ (x : Result Verdict Refusal). refusal_of x (first roomy)) judged)

  module _ (before : List ℕ) where
    refused_by : (r : Refusal) → harvest_refusal s xs (length before) ≡ Some r → Harvested s xs before before (Err r)
    unfolding harvest_answer harvest_after
    refused_by r e = record { is = rw e refl; shows = rw e refl; leaves = rw e refl }

    pub harvest-refused : (r : Refusal) → v ≡ Err r → Harvested s xs before before (Err r)
    harvest-refused r e = refused_by r (left (length before) ∙ ap (λ (x : Result Verdict Refusal). refusal_of x (first (room_check (harvested s xs) (length before) ∷ []))) e)

    pub harvest-broken : (cycle rule : ℕ) → v ≡ Ok (Broken cycle rule) → Harvested s xs before before (Err (Unclean cycle rule))
    harvest-broken cycle rule e =
        refused_by (Unclean cycle rule) (left (length before) ∙ ap (λ (x : Result Verdict Refusal). refusal_of x (first (room_check (harvested s xs) (length before) ∷ []))) e)

  module _ (n : ℕ) (clean : v ≡ Ok (Clean n)) where
    sound : judge_answer s xs ≡ Ok (Clean n)
    sound = sym judged ∙ clean

    pub tests : Passed s xs
    tests = clean-passed s xs n sound

    counted : n ≡ transfer_count s xs
    counted = clean-count s xs n sound

    pub clean_narrow : Narrow s
    clean_narrow = passed_narrow s xs tests

    -- the code has the record's size in z
    module _ (z : ℕ) (q : z ≡ size s) where
      long-is : n * z ≡ length (harvested s xs)
      long-is = ap₂ (λ (a b : ℕ). a * b) counted q ∙ sym (harvested-long s xs)

      pub clean-short : n * z ≤ capture_most
      clean-short = omega (arith, long-is, harvested-short s xs, tests.short)

      module _ (before : List ℕ) where
        by_room : harvest_refusal s xs (length before) ≡ first (room_check (harvested s xs) (length before) ∷ [])
        by_room = left (length before) ∙ ap (λ (x : Result Verdict Refusal). refusal_of x (first (room_check (harvested s xs) (length before) ∷ []))) clean

        pub harvest-room : length before < n * z → Harvested s xs before before (Err Room)
        harvest-room l =
            let short : length before < length (harvested s xs) = omega (arith, long-is) in
            refused_by before Room (by_room ∙ rw (lt-ltb (length before) (length (harvested s xs)) short) refl)

        pub harvest-fits : n * z ≤ length before → length (harvested s xs) ≤ length before
        harvest-fits l = omega (arith, long-is)

        pub harvest-written : n * z ≤ length before → (after : List ℕ) → after ≡ in_front (harvested s xs) before
            → Harvested s xs before after (Ok n)
        unfolding harvest_answer harvest_after
        harvest-written l after e =
            let fits : length (harvested s xs) ≤ length before = omega (arith, long-is) in
            let taken : harvest_refusal s xs (length before) ≡ None = by_room ∙ rw (le-ltb (length before) (length (harvested s xs)) fits) refl in
            let told = ap (λ (m : ℕ). Ok m) counted in
            record { is = rw taken told; shows = rw taken (ap written_values told); leaves = rw taken e }
