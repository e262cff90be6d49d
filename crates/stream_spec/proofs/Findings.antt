-- The first finding of a take is at the earliest cycle that breaks a rule, with the lowest rule broken there; and there is
-- none only where no cycle breaks any rule. By induction on the cycles, with the cycle before them. Assumes nothing.
use Rattle.std.specs.Prelude.{Option, None, Some}
use mathlib.Core.Path.{◌≡◌, refl, sym, ap, ◌∙◌, subst}
use mathlib.Core.Logic.{◌⊎◌, inl, inr, ⊎_elim}
use mathlib.Core.Bool.{Bool, true, false}
use mathlib.Core.List.{List, [], ◌∷◌}
use Prim.Native.Nat.{ℕ, zero, suc, ◌+◌, ◌≤◌, ◌<◌}
use native.Mathlib.Nat.{add-zero, add-suc, suc-add, zero-add}
use native.Mathlib.Decide.{dec_le}
use native.Mathlib.Omega.{arith}
use lib.ListN.{length, get_or}
use Rattle.stream_spec.specs.declared.Shape.{Shape}
use Rattle.stream_spec.specs.Layout.{records}
use Rattle.refusal.specs.Checks.{check, first}
use Rattle.stream_spec.specs.Handshake.{r1, r2, r3, r4, Finding, finding, findings}
use Rattle.stream_spec.specs.Promises.{rule, breaks, IsEarliest, Findings}
use Rattle.stream_spec.proofs.Bools.{no_such}
use Rattle.refusal.proofs.First.{first-none}

-- the cycle before cycle k of cycles that follow a cycle, or none
abbrev before : Option (List ℕ) → List (List ℕ) → ℕ → Option (List ℕ)
before b cs zero = b
before b cs (suc k) = Some (get_or cs k [])

abbrev broken : Shape → Option (List ℕ) → List (List ℕ) → ℕ → ℕ → Bool
broken s b cs k n = rule s (before b cs k) (get_or cs k []) n

-- later cycles are judged as the cycles after the first one
broken-later : (s : Shape) (b : Option (List ℕ)) (c : List ℕ) (cs : List (List ℕ)) (k n : ℕ) → broken s b (c ∷ cs) (suc k) n ≡ broken s (Some c) cs k n
broken-later s b c cs zero n = refl
broken-later s b c cs (suc k) n = refl

record Earliest (s : Shape) (b : Option (List ℕ)) (cs : List (List ℕ)) (i : ℕ) (f : Finding) : Type 0 where
  place : ℕ
  cycle : f.cycle ≡ i + place
  within : place < length cs
  breaks : broken s b cs place f.rule ≡ true
  others : (k n : ℕ) → k < length cs → broken s b cs k n ≡ true → (place < k) ⊎ ((place ≡ k) × (f.rule ≤ n))

-- a rule is the lowest broken one where no lower one is broken
lowest : (s : Shape) (b : Option (List ℕ)) (c : List ℕ) (n : ℕ) → ((m : ℕ) → m < n → rule s b c m ≡ false)
    → (m : ℕ) → rule s b c m ≡ true → n ≤ m
lowest s b c n h m e = elim (dec_le n m) [ yes k ↦ k | no k ↦ no_such (h m (omega arith)) e ]

here : (s : Shape) (b : Option (List ℕ)) (c : List ℕ) (cs : List (List ℕ)) (i n : ℕ) → rule s b c n ≡ true
    → ((m : ℕ) → m < n → rule s b c m ≡ false) → Earliest s b (c ∷ cs) i (finding i n)
here s b c cs i n e h =
    record { place = 0; cycle = sym (add-zero i); within = omega arith; breaks = e; others = others }
  where
    others : (k m : ℕ) → k < length (c ∷ cs) → broken s b (c ∷ cs) k m ≡ true → (0 < k) ⊎ ((0 ≡ k) × (n ≤ m))
    others zero m l k = inr (refl, lowest s b c n h m k)
    others (suc j) m l k = inl (omega arith)

there : (s : Shape) (b : Option (List ℕ)) (c : List ℕ) (cs : List (List ℕ)) (i : ℕ) (f : Finding) → ((m : ℕ) → rule s b c m ≡ false)
    → Earliest s (Some c) cs (suc i) f → Earliest s b (c ∷ cs) i f
there s b c cs i f h r =
    record {
      place = suc r.place;
      cycle = r.cycle ∙ suc-add i r.place ∙ sym (add-suc i r.place);
      within = omega (arith, r.within);
      breaks = broken-later s b c cs r.place f.rule ∙ r.breaks;
      others = others;
    }
  where
    others : (k m : ℕ) → k < length (c ∷ cs) → broken s b (c ∷ cs) k m ≡ true → (suc r.place < k) ⊎ ((suc r.place ≡ k) × (f.rule ≤ m))
    others zero m l k = no_such (h m) k
    others (suc j) m l k =
        ⊎_elim (λ p. inl (omega arith)) (λ p. inr (ap suc p.0, p.1)) (r.others j m (omega arith) (sym (broken-later s b c cs j m) ∙ k))

-- ---- the four rules at one cycle

module _ (s : Shape) (b : Option (List ℕ)) (c : List ℕ) where
  -- no rule below n is broken
  abbrev Below : ℕ → Type 0
  Below n = (m : ℕ) → m < n → rule s b c m ≡ false

  one_more : (n : ℕ) → Below n → rule s b c n ≡ false → Below (suc n)
  one_more n h e m l =
      elim (dec_le (suc m) n) [
        | yes k ↦ h m k
        | no k ↦ let same : n ≡ m = omega arith in subst (λ (j : ℕ). rule s b c j ≡ false) same e
      ]

  below1 : Below 1
  below1 = one_more 0 (λ m l. absurd (omega arith)) refl

  -- rules are numbered up to 4
  all_rules : Below 5 → (m : ℕ) → rule s b c m ≡ false
  all_rules h zero = refl
  all_rules h (suc zero) = h 1 (omega arith)
  all_rules h (suc (suc zero)) = h 2 (omega arith)
  all_rules h (suc (suc (suc zero))) = h 3 (omega arith)
  all_rules h (suc (suc (suc (suc zero)))) = h 4 (omega arith)
  all_rules h (suc (suc (suc (suc (suc m))))) = refl

  -- the first finding of these cycles is at this one, or, where no rule is broken here, at the cycles after it
  found-cons : (cs : List (List ℕ)) (i : ℕ) (f : Finding)
      → (first (findings s (suc i) (Some c) cs) ≡ Some f → Earliest s (Some c) cs (suc i) f)
      → first (findings s i b (c ∷ cs)) ≡ Some f → Earliest s b (c ∷ cs) i f
  found-cons cs i f ih e = go (r1 b c) refl (r2 b c) refl (r3 b c) refl (r4 s c) refl
    where
      at : (n : ℕ) → Some (finding i n) ≡ Some f → rule s b c n ≡ true → Below n → Earliest s b (c ∷ cs) i f
      at n q t h = let same : finding i n ≡ f = cc in subst (Earliest s b (c ∷ cs) i) same (here s b c cs i n t h)

      go : (a1 : Bool) → r1 b c ≡ a1 → (a2 : Bool) → r2 b c ≡ a2 → (a3 : Bool) → r3 b c ≡ a3 → (a4 : Bool) → r4 s c ≡ a4 → Earliest s b (c ∷ cs) i f
      go true e1 a2 e2 a3 e3 a4 e4 = at 1 (rw e1 at e) e1 below1
      go false e1 true e2 a3 e3 a4 e4 = at 2 (rw (e1, e2) at e) e2 (one_more 1 below1 e1)
      go false e1 false e2 true e3 a4 e4 = at 3 (rw (e1, e2, e3) at e) e3 (one_more 2 (one_more 1 below1 e1) e2)
      go false e1 false e2 false e3 true e4 = at 4 (rw (e1, e2, e3, e4) at e) e4 (one_more 3 (one_more 2 (one_more 1 below1 e1) e2) e3)
      go false e1 false e2 false e3 false e4 =
          there s b c cs i f (all_rules (one_more 4 (one_more 3 (one_more 2 (one_more 1 below1 e1) e2) e3) e4)) (ih (rw (e1, e2, e3, e4) at e))

  pub none_here : (cs : List (List ℕ)) (i : ℕ) → first (findings s i b (c ∷ cs)) ≡ None
      → ((m : ℕ) → rule s b c m ≡ false) × (first (findings s (suc i) (Some c) cs) ≡ None)
  none_here cs i e =
      let rest = findings s (suc i) (Some c) cs in
      let c4 = check (r4 s c) (finding i 4) in
      let c3 = check (r3 b c) (finding i 3) in
      let c2 = check (r2 b c) (finding i 2) in
      let n1 = first-none (check (r1 b c) (finding i 1)) (c2 ∷ c3 ∷ c4 ∷ rest) e in
      let n2 = first-none c2 (c3 ∷ c4 ∷ rest) n1.1 in
      let n3 = first-none c3 (c4 ∷ rest) n2.1 in
      let n4 = first-none c4 rest n3.1 in
      (all_rules (one_more 4 (one_more 3 (one_more 2 (one_more 1 below1 n1.0) n2.0) n3.0) n4.0), n4.1)

-- ---- all cycles

earliest : (s : Shape) (b : Option (List ℕ)) (cs : List (List ℕ)) (i : ℕ) (f : Finding) → first (findings s i b cs) ≡ Some f → Earliest s b cs i f
earliest s b [] i f e = let z : ◌≡◌ {A = ℕ} 0 1 = cc in absurd (omega arith)
earliest s b (c ∷ cs) i f e = found-cons s b c cs i f (earliest s (Some c) cs (suc i) f) e

clean_all : (s : Shape) (b : Option (List ℕ)) (cs : List (List ℕ)) (i : ℕ) → first (findings s i b cs) ≡ None
    → (k n : ℕ) → k < length cs → broken s b cs k n ≡ false
clean_all s b [] i e k n l = absurd (omega arith)
clean_all s b (c ∷ cs) i e zero n l = (none_here s b c cs i e).0 n
clean_all s b (c ∷ cs) i e (suc k) n l =
    broken-later s b c cs k n ∙ clean_all s (Some c) cs (suc i) (none_here s b c cs i e).1 k n (omega arith)

-- from the start of a take, where no cycle stands before the first
as_breaks : (s : Shape) (cs : List (List ℕ)) (k n : ℕ) → breaks s cs k n ≡ broken s None cs k n
as_breaks s cs zero n = refl
as_breaks s cs (suc k) n = refl

is_earliest : (s : Shape) (cs : List (List ℕ)) (f : Finding) → Earliest s None cs 0 f → IsEarliest s cs f
is_earliest s cs f r =
    let same : r.place ≡ f.cycle = sym (r.cycle ∙ zero-add r.place) in
    record {
      within = subst (λ (k : ℕ). k < length cs) same r.within;
      broken = as_breaks s cs f.cycle f.rule ∙ subst (λ (k : ℕ). broken s None cs k f.rule ≡ true) same r.breaks;
      others = λ k n l h. subst (λ (j : ℕ). (j < k) ⊎ ((j ≡ k) × (f.rule ≤ n))) same (r.others k n l (sym (as_breaks s cs k n) ∙ h));
    }

pub judges : Findings
judges s xs =
    record {
      found = λ f e. is_earliest s (records s xs) f (earliest s None (records s xs) 0 f e);
      clean = λ e k n l. as_breaks s (records s xs) k n ∙ clean_all s None (records s xs) 0 e k n l;
    }
