-- The list of merging's checks, part by part, and the answer that each gives. Which records have a fault is in Faults. Assumes nothing.
use Rattle.std.specs.Prelude.{Option, None, Some, Ok, Err}
use mathlib.Core.Bool.{Bool, true, false}
use mathlib.Core.List.{List, [], ◌∷◌, ◌++◌}
use mathlib.Core.Logic.{◌⊎◌, inl, inr, ◌↔◌}
use mathlib.Core.Path.{◌≡◌, refl, sym, ap, ◌∙◌}
use Prim.Native.Nat.{ℕ, ◌≤◌}
use native.Mathlib.Omega.{arith}
use borrow.Author.Tests.{ltb-false, le-ltb}
use lib.ListN.{length}
use Rattle.refusal.specs.Checks.{Check, first}
use Rattle.refusal.specs.declared.Refusal.{Refusal}
use Rattle.refusal.proofs.First.{first-none, append-none, append-found, append-passed}
use Rattle.stream_spec.specs.declared.Shape.{Shape}
use Rattle.stream_spec.specs.Checks.{length_check, take_checks, room_check}
use Rattle.merge_spec.specs.declared.PortRefusal.{PortRefusal}
use Rattle.merge_spec.specs.Merge.{merged_records, merged}
use Rattle.merge_spec.specs.Answers.{named, naming, port_checks, merge_refusal, merged_by, lent_by, merge_answer, merge_after, merged_values, values_for, PortsMerged}

pub clash : {A : Type 0} → ◌≡◌ {A = ℕ} 0 1 → A
clash e = absurd (omega arith)

-- ---- checks that name a port

abbrev pub named_by : ℕ → Option Refusal → Option PortRefusal
named_by port None = None
named_by port (Some r) = Some (named port r)

pub naming-first : (port : ℕ) (cs : List (Check Refusal)) → first (naming port cs) ≡ named_by port (first cs)
naming-first port [] = refl
naming-first port (c ∷ cs) = go c.found refl (naming-first port cs)
  where
    go : (b : Bool) → c.found ≡ b → first (naming port cs) ≡ named_by port (first cs)
        → first (naming port (c ∷ cs)) ≡ named_by port (first (c ∷ cs))
    go true e ih = rw e refl
    go false e ih = rw e ih

named_none : (port : ℕ) (o : Option Refusal) → named_by port o ≡ None → o ≡ None
named_none port None e = refl
named_none port (Some r) e = clash cc

pub named_some : (port q : ℕ) (r : Refusal) (o : Option Refusal) → named_by port o ≡ Some (named q r) → (q ≡ port) × (o ≡ Some r)
named_some port q r None e = clash cc
named_some port q r (Some p) e =
    let same : named port p ≡ named q r = cc in
    (sym (ap (λ (f : PortRefusal). f.port) same), ap (λ (f : PortRefusal). Some f.refusal) same)

pub naming-none : (port : ℕ) (cs : List (Check Refusal)) → first (naming port cs) ≡ None → first cs ≡ None
naming-none port cs e = named_none port (first cs) (sym (naming-first port cs) ∙ e)

none-naming : (port : ℕ) (cs : List (Check Refusal)) → first cs ≡ None → first (naming port cs) ≡ None
none-naming port cs e = naming-first port cs ∙ ap (named_by port) e

-- the first of two lists of checks
pub append-some : {X : Type 0} (cs ds : List (Check X)) (x : X) → first (cs ++ ds) ≡ Some x
    → (first cs ≡ Some x) ⊎ ((first cs ≡ None) × (first ds ≡ Some x))
append-some cs ds x e = go (first cs) refl
  where
    go : (o : Option _) → first cs ≡ o → (first cs ≡ Some x) ⊎ ((first cs ≡ None) × (first ds ≡ Some x))
    go (Some y) h = inl (h ∙ sym (append-found cs ds y h) ∙ e)
    go None h = inr (h, sym (append-passed cs ds h) ∙ e)

-- ---- the list of checks, part by part

-- what a call has passed where the parts in front find nothing, and what finds a fault
module _ (s : Shape) (xs ys : List ℕ) (room : ℕ) where
  abbrev pub roomed : List (Check PortRefusal)
  roomed = naming 0 (room_check (merged s xs ys) room ∷ [])

  abbrev pub fourth : List (Check PortRefusal)
  fourth = naming 1 (port_checks s ys) ++ roomed

  abbrev pub third : List (Check PortRefusal)
  third = naming 0 (port_checks s xs) ++ fourth

  abbrev pub second : List (Check PortRefusal)
  second = naming 1 (length_check s ys ∷ []) ++ third

  -- nothing is found
  pub record Accepts : Type 0 where
    pub take : first (take_checks s xs) ≡ None
    pub other : first (length_check s ys ∷ []) ≡ None
    pub firsts : first (port_checks s xs) ≡ None
    pub seconds : first (port_checks s ys) ≡ None
    pub fits : length (merged s xs ys) ≤ room

  pub accepts_of : merge_refusal s xs ys room ≡ None → Accepts
  accepts_of e =
      let a = append-none (naming 0 (take_checks s xs)) second e in
      let b = append-none (naming 1 (length_check s ys ∷ [])) third a.1 in
      let c = append-none (naming 0 (port_checks s xs)) fourth b.1 in
      let d = append-none (naming 1 (port_checks s ys)) roomed c.1 in
      let f = first-none (room_check (merged s xs ys) room) [] (naming-none 0 (room_check (merged s xs ys) room ∷ []) d.1) in
      record {
        take = naming-none 0 (take_checks s xs) a.0;
        other = naming-none 1 (length_check s ys ∷ []) b.0;
        firsts = naming-none 0 (port_checks s xs) c.0;
        seconds = naming-none 1 (port_checks s ys) d.0;
        fits = ltb-false room (length (merged s xs ys)) f.0;
      }

  -- so far the call is not refused
  module _ (take : first (take_checks s xs) ≡ None) where
    pub after-take : merge_refusal s xs ys room ≡ first second
    after-take = append-passed (naming 0 (take_checks s xs)) second (none-naming 0 (take_checks s xs) take)

    module _ (other : first (length_check s ys ∷ []) ≡ None) where
      pub after-other : merge_refusal s xs ys room ≡ first third
      after-other = after-take ∙ append-passed (naming 1 (length_check s ys ∷ [])) third (none-naming 1 (length_check s ys ∷ []) other)

      module _ (firsts : first (port_checks s xs) ≡ None) where
        pub after-firsts : merge_refusal s xs ys room ≡ first fourth
        after-firsts = after-other ∙ append-passed (naming 0 (port_checks s xs)) fourth (none-naming 0 (port_checks s xs) firsts)

        module _ (seconds : first (port_checks s ys) ≡ None) where
          pub after_seconds : merge_refusal s xs ys room ≡ first roomed
          after_seconds = after-firsts ∙ append-passed (naming 1 (port_checks s ys)) roomed (none-naming 1 (port_checks s ys) seconds)

          pub after-all : length (merged s xs ys) ≤ room → merge_refusal s xs ys room ≡ None
          after-all h = after_seconds ∙ rw (le-ltb room (length (merged s xs ys)) h) refl

  pub of_accepts : Accepts → merge_refusal s xs ys room ≡ None
  of_accepts a = after-all a.take a.other a.firsts a.seconds a.fits

-- ---- the answer

-- an accepted call answers the number of records
pub answer-taken : (s : Shape) (xs ys : List ℕ) (room n : ℕ) → merge_answer s xs ys room ≡ Ok n
    → (merge_refusal s xs ys room ≡ None) × (n ≡ length (merged_records s xs ys))
unfolding merge_answer
answer-taken s xs ys room n e = go (merge_refusal s xs ys room) refl e
  where
    go : (o : Option PortRefusal) → merge_refusal s xs ys room ≡ o → merged_by o (length (merged_records s xs ys)) ≡ Ok n
        → (merge_refusal s xs ys room ≡ None) × (n ≡ length (merged_records s xs ys))
    go (Some f) h k = clash cc
    go None h k = (h, cc)

pub taken-answer : (s : Shape) (xs ys : List ℕ) (room : ℕ) → merge_refusal s xs ys room ≡ None
    → merge_answer s xs ys room ≡ Ok (length (merged_records s xs ys))
unfolding merge_answer
taken-answer s xs ys room e = rw e refl

pub answer-refused : (s : Shape) (xs ys : List ℕ) (room port : ℕ) (r : Refusal)
    → (merge_answer s xs ys room ≡ Err (named port r)) ↔ (merge_refusal s xs ys room ≡ Some (named port r))
unfolding merge_answer
answer-refused s xs ys room port r = (λ e. go (merge_refusal s xs ys room) refl e, λ e. rw e refl)
  where
    go : (o : Option PortRefusal) → merge_refusal s xs ys room ≡ o → merged_by o (length (merged_records s xs ys)) ≡ Err (named port r)
        → merge_refusal s xs ys room ≡ Some (named port r)
    go None h k = clash cc
    go (Some f) h k =
        let p : f ≡ named port r = cc in
        h ∙ ap Some p

-- an answer that is the defined one shows the paper's numbers
shown : (o : Option PortRefusal) (n : ℕ) → merged_values (merged_by o n) ≡ values_for o n
shown (Some f) n = refl
shown None n = refl

module _ (s : Shape) (xs ys before : List ℕ) where
  pub merged-refused : (port : ℕ) (r : Refusal) → merge_refusal s xs ys (length before) ≡ Some (named port r)
      → PortsMerged s xs ys before before (Err (named port r))
  unfolding merge_answer merge_after
  merged-refused port r e = record { is = rw e refl; shows = rw e refl; leaves = rw e refl }

  pub merged-written : merge_refusal s xs ys (length before) ≡ None → (n : ℕ) → n ≡ length (merged_records s xs ys)
      → (after : List ℕ) → after ≡ lent_by None (merged s xs ys) before → PortsMerged s xs ys before after (Ok n)
  unfolding merge_answer merge_after
  merged-written e n q after f =
      record { is = rw (e, q) refl; shows = rw (e, q) refl; leaves = rw e f }
