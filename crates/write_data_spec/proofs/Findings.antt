-- The first finding of a take is at the earliest beat that breaks a rule, with the lowest rule broken there, and there is none exactly
-- where nothing breaks a rule. First the rules at one beat, then all beats and the count. Assumes nothing.
use Rattle.std.specs.Prelude.{Option, None, Some}
use mathlib.Core.Bool.{Bool, true, false, cond}
use mathlib.Core.List.{List, [], ◌∷◌}
use mathlib.Core.Logic.{◌⊎◌, inl, inr, ◌↔◌}
use mathlib.Core.Path.{◌≡◌, refl, sym, ap, ◌∙◌, subst}
use Prim.Native.Nat.{ℕ, suc, ◌+◌, ◌-◌, ◌≤◌, ◌<◌}
use native.Mathlib.Decide.{dec_le, dec_lt}
use native.Mathlib.Nat.{zero-add, le_antisymm}
use native.Mathlib.Omega.{arith}
use lib.ListN.{length}
use borrow.Author.Tests.{ltb-true, ltb-false}
use Rattle.refusal.specs.Checks.{Check, check, first}
use Rattle.refusal.proofs.First.{append-found, append-passed}
use Rattle.stream_spec.specs.Checks.{each}
use Rattle.stream_spec.proofs.Bools.{no_such}
use Rattle.stream_spec.proofs.RecordChecks.{FoundIn, each_all, each_at}
use Rattle.burst_spec.specs.declared.Burst.{Burst}
use Rattle.burst_spec.specs.Address.{beats}
use Rattle.write_data_spec.specs.Rules.{Finding, finding, rule_checks, count_check, w5, first_finding}
use Rattle.write_data_spec.specs.Promises.{beat, rule, Breaks, IsEarliest, Sound}

same-finding : (f g : Finding) → f.place ≡ g.place → f.rule ≡ g.rule → f ≡ g
same-finding f g p q = λ i. record { place = p i; rule = q i }

-- ---- the rules at one beat

-- a finding is the lowest rule that the beat breaks
pub record IsLowest (b : Burst) (k : ℕ) (r : List ℕ) (f : Finding) : Type 0 where
  pub place : f.place ≡ k
  pub broken : rule b k r f.rule ≡ true
  pub others : (n : ℕ) → rule b k r n ≡ true → f.rule ≤ n

module _ (b : Burst) (k : ℕ) (r : List ℕ) where
  -- what the first finding of the beat is, or that there is none
  abbrev AtBeat : Option Finding → Type 0
  AtBeat None = (n : ℕ) → rule b k r n ≡ false
  AtBeat (Some f) = IsLowest b k r f

  -- no rule below n is broken
  abbrev From : ℕ → Type 0
  From n = (m : ℕ) → rule b k r m ≡ true → n ≤ m

  from_next : (n : ℕ) → From n → rule b k r n ≡ false → From (suc n)
  from_next n h f m e =
      elim (dec_le (suc n) m) [
        | yes l ↦ l
        | no l ↦
            let same : n ≡ m = le_antisymm (h m e) (omega arith) in
            no_such (subst (λ (j : ℕ). rule b k r j ≡ false) same f) e
      ]

  -- rules are numbered up to 4
  from_five : From 5 → (n : ℕ) → rule b k r n ≡ false
  from_five h n = go (rule b k r n) refl
    where
      go : (t : Bool) → rule b k r n ≡ t → t ≡ false
      go true e =
          let past : suc (suc (suc (suc (suc (n - 5))))) ≡ n = omega (arith, h n e) in
          sym e ∙ sym (ap (rule b k r) past)
      go false e = refl

  abbrev rule_check : ℕ → Check Finding
  rule_check n = check (rule b k r n) (finding k n)

  -- rule n is the lowest, or it is left to the others
  at_next : (n : ℕ) (cs : List (Check Finding)) → From n → (From (suc n) → AtBeat (first cs)) → AtBeat (first (rule_check n ∷ cs))
  at_next n cs h rest = go (rule b k r n) refl
    where
      go : (t : Bool) → rule b k r n ≡ t → AtBeat (cond t (Some (finding k n)) (first cs))
      go true e = record { place = refl; broken = e; others = h }
      go false e = rest (from_next n h e)

  at-beat : AtBeat (first (rule_checks b k r))
  at-beat =
      at_next 1 (rule_check 2 ∷ rule_check 3 ∷ rule_check 4 ∷ []) (from_next 0 (λ m e. omega arith) refl)
      (λ h2. at_next 2 (rule_check 3 ∷ rule_check 4 ∷ []) h2 (λ h3. at_next 3 (rule_check 4 ∷ []) h3 (λ h4. at_next 4 [] h4 from_five)))

  -- the first finding of a beat is the lowest rule that it breaks, and the other way round
  pub lowest_exactly : (f : Finding) → (first (rule_checks b k r) ≡ Some f) ↔ IsLowest b k r f
  lowest_exactly f = (λ e. subst AtBeat e at-beat, λ h. go h (first (rule_checks b k r)) at-beat)
    where
      go : IsLowest b k r f → (o : Option Finding) → AtBeat o → o ≡ Some f
      go h None a = no_such (a f.rule) h.broken
      go h (Some g) a =
          ap Some
          (same-finding g f (a.place ∙ sym h.place)
          (le_antisymm (a.others f.rule h.broken) (h.others g.rule a.broken)))

  -- a beat without finding breaks no rule, and the other way round
  pub no-rule_exactly : (first (rule_checks b k r) ≡ None) ↔ ((n : ℕ) → rule b k r n ≡ false)
  no-rule_exactly = (λ e. subst AtBeat e at-beat, λ h. go h (first (rule_checks b k r)) at-beat)
    where
      go : ((n : ℕ) → rule b k r n ≡ false) → (o : Option Finding) → AtBeat o → o ≡ None
      go h None a = refl
      go h (Some f) a = no_such (h f.rule) a.broken

-- ---- all beats, and the count

module _ (b : Burst) (rs : List (List ℕ)) where
  -- what the first finding of the take is, or that there is none
  abbrev InTake : Option Finding → Type 0
  InTake None = (k n : ℕ) → Breaks b rs k n → ⊥
  InTake (Some f) = IsEarliest b rs f

  -- the lowest rule of a beat is the earliest where no beat before it breaks a rule
  pub at-beat-first : (k : ℕ) (f : Finding) → k < length rs → IsLowest b k (beat rs k) f → Sound b rs k → IsEarliest b rs f
  at-beat-first k f l h sound =
      record {
        broken = inl (omega (arith, h.place), subst (λ (j : ℕ). rule b j (beat rs j) f.rule ≡ true) (sym h.place) h.broken);
        others = others;
      }
    where
      others : (j n : ℕ) → Breaks b rs j n → (f.place < j) ⊎ ((f.place ≡ j) × (f.rule ≤ n))
      others j n (inr e) = inl (omega (arith, h.place, e.1))
      others j n (inl e) = go (dec_lt j k) (dec_lt k j)
        where
          go : Dec (j < k) → Dec (k < j) → (f.place < j) ⊎ ((f.place ≡ j) × (f.rule ≤ n))
          go (yes before) d = no_such (sound j before n) e.1
          go (no m) (yes after) = inl (omega (arith, h.place))
          go (no m) (no m') =
              let same : j ≡ k = omega arith in
              inr (h.place ∙ sym same, h.others n (subst (λ (i : ℕ). rule b i (beat rs i) n ≡ true) same e.1))

  -- too few beats is the earliest where no beat given breaks a rule
  pub at-count-first : length rs < beats b → Sound b rs (length rs) → IsEarliest b rs (finding (length rs) 5)
  at-count-first l sound = record { broken = inr (refl, refl, l); others = others }
    where
      others : (j n : ℕ) → Breaks b rs j n → (length rs < j) ⊎ ((length rs ≡ j) × (5 ≤ n))
      others j n (inl e) = no_such (sound j e.0 n) e.1
      others j n (inr e) = inr (sym e.1, omega (arith, e.0))

  -- the checks of beats are counted from 0
  counted : (k : ℕ) (o : Option Finding) → first (rule_checks b (0 + k) (beat rs k)) ≡ o → first (rule_checks b k (beat rs k)) ≡ o
  counted k o e = ap (λ (j : ℕ). first (rule_checks b j (beat rs k))) (sym (zero-add k)) ∙ e

  found_first : (f : Finding) → FoundIn Finding (rule_checks b) 0 rs f → IsEarliest b rs f
  found_first f h =
      at-beat-first h.place f h.within
      ((lowest_exactly b h.place (beat rs h.place) f).0 (counted h.place (Some f) h.here))
      (λ j l. (no-rule_exactly b j (beat rs j)).0 (counted j None (h.earlier j l)))

  -- with no finding at a beat the count decides
  count-last : Sound b rs (length rs) → InTake (first (count_check b (length rs) ∷ []))
  count-last sound = go (w5 b (length rs)) refl
    where
      nothing : beats b ≤ length rs → (k n : ℕ) → Breaks b rs k n → ⊥
      nothing l k n (inl e) = no_such (sound k e.0 n) e.1
      nothing l k n (inr e) = omega (arith, e.1, e.2)

      go : (t : Bool) → w5 b (length rs) ≡ t → InTake (cond t (Some (finding (length rs) 5)) None)
      go true e = at-count-first (ltb-true (length rs) (beats b) e) sound
      go false e = nothing (ltb-false (length rs) (beats b) e)

  in_take : InTake (first_finding b rs)
  in_take = go (first (each (rule_checks b) 0 rs)) refl
    where
      go : (o : Option Finding) → first (each (rule_checks b) 0 rs) ≡ o → InTake (first_finding b rs)
      go (Some f) e =
          subst InTake (sym (append-found (each (rule_checks b) 0 rs) (count_check b (length rs) ∷ []) f e))
          (found_first f (each_at (rule_checks b) 0 rs f e))
      go None e =
          subst InTake (sym (append-passed (each (rule_checks b) 0 rs) (count_check b (length rs) ∷ []) e))
          (count-last (λ j l. (no-rule_exactly b j (beat rs j)).0 (counted j None (each_all (rule_checks b) 0 rs e j l))))

  -- two findings that are both the earliest are the same
  one_earliest : (f g : Finding) → IsEarliest b rs f → IsEarliest b rs g → f ≡ g
  one_earliest f g h k = go (h.others g.place g.rule k.broken) (k.others f.place f.rule h.broken)
    where
      go : (f.place < g.place) ⊎ ((f.place ≡ g.place) × (f.rule ≤ g.rule))
          → (g.place < f.place) ⊎ ((g.place ≡ f.place) × (g.rule ≤ f.rule)) → f ≡ g
      go (inl p) (inl q) = absurd (omega arith)
      go (inl p) (inr q) = absurd (omega (arith, q.0))
      go (inr p) (inl q) = absurd (omega (arith, p.0))
      go (inr p) (inr q) = same-finding f g p.0 (le_antisymm p.1 q.1)

  -- no finding is nothing that breaks a rule, and the other way round
  pub no-finding_exactly : (first_finding b rs ≡ None) ↔ ((k n : ℕ) → Breaks b rs k n → ⊥)
  no-finding_exactly = (λ e. subst InTake e in_take, λ h. go h (first_finding b rs) in_take)
    where
      go : ((k n : ℕ) → Breaks b rs k n → ⊥) → (o : Option Finding) → InTake o → o ≡ None
      go h None a = refl
      go h (Some f) a = absurd (h f.place f.rule a.broken)

pub earliest_exactly : (b : Burst) (rs : List (List ℕ)) (f : Finding) → (first_finding b rs ≡ Some f) ↔ IsEarliest b rs f
earliest_exactly b rs f = (λ e. subst (InTake b rs) e (in_take b rs), λ h. go h (first_finding b rs) (in_take b rs))
  where
    go : IsEarliest b rs f → (o : Option Finding) → InTake b rs o → o ≡ Some f
    go h None a = absurd (a f.place f.rule h.broken)
    go h (Some g) a = ap Some (one_earliest b rs g f a h)
