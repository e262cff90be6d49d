-- Takes of which no beat that the burst has breaks a rule: clean ones, and those with beats too many or too few. Assumes nothing.
use Rattle.std.specs.Prelude.{None, Some}
use mathlib.Core.Bool.{Bool, true, false, not, ◌&&◌, and-not_self}
use mathlib.Core.List.{List}
use mathlib.Core.Logic.{◌⊎◌, inl, inr, ◌↔◌}
use mathlib.Core.Path.{◌≡◌, refl, sym, ◌∙◌, subst}
use Prim.Native.Nat.{ℕ, zero, suc, ◌+◌, ◌≤◌, ◌<◌}
use native.Mathlib.Decide.{dec_le, dec_lt}
use native.Mathlib.Omega.{arith}
use lib.Dec.{eqb, ltb}
use lib.ListN.{length}
use borrow.Author.Tests.{ltb-true, leb-true, eqb-true, lt-ltb, le-leb, eq-eqb, ne_eqb, not-false}
use Rattle.stream_spec.proofs.Bools.{no_such, and_left}
use Rattle.burst_spec.specs.declared.Burst.{Burst}
use Rattle.burst_spec.specs.Address.{beats, beat_of}
use Rattle.write_data_spec.specs.Layout.{wlast, strobe}
use Rattle.write_data_spec.specs.Rules.{w1, w2, w3, Finding, finding, first_finding}
use Rattle.write_data_spec.specs.Promises.{beat, rule, Breaks, IsEarliest, Sound, Stray, CleanTake}
use Rattle.write_data_spec.proofs.Strobes.{stray-exactly}
use Rattle.write_data_spec.proofs.Findings.{IsLowest, at-beat-first, at-count-first, no-finding_exactly, earliest_exactly}

-- a test that cannot be true is false
never : (t : Bool) → (t ≡ true → ⊥) → t ≡ false
never true h = absurd (h refl)
never false h = refl

-- no number is both below another and that other
not_both : (m n : ℕ) → (ltb m n && eqb m n) ≡ false
not_both m n = go (ltb m n) refl
  where
    go : (t : Bool) → ltb m n ≡ t → (t && eqb m n) ≡ false
    go true e = ne_eqb m n (λ f. omega (arith, ltb-true m n e))
    go false e = refl

-- ---- one beat

module _ (b : Burst) (k : ℕ) (r : List ℕ) where
  -- W2 and W3 together: WLAST exactly on the last beat
  marked : k < beats b → w2 b k r ≡ false → w3 b k r ≡ false → wlast r ≡ eqb (k + 1) (beats b)
  marked l e2 e3 = go (dec_lt (k + 1) (beats b))
    where
      go : Dec (k + 1 < beats b) → wlast r ≡ eqb (k + 1) (beats b)
      go (yes m) = (rw (lt-ltb (k + 1) (beats b) m) at e2) ∙ sym (ne_eqb (k + 1) (beats b) (λ f. omega arith))
      go (no m) =
          let last : eqb (k + 1) (beats b) ≡ true = eq-eqb (k + 1) (beats b) (omega arith) in
          not-false (wlast r) (rw last at e3) ∙ sym last

  marked_not_early : wlast r ≡ eqb (k + 1) (beats b) → w2 b k r ≡ false
  marked_not_early e = rw e (not_both (k + 1) (beats b))

  marked-last : wlast r ≡ eqb (k + 1) (beats b) → w3 b k r ≡ false
  marked-last e = rw e (and-not_self (eqb (k + 1) (beats b)))

  -- W1: every high strobe is on a lane of the beat
  laned : k < beats b → w1 b k r ≡ false → (x : ℕ) → x < b.bus → strobe r x ≡ true → ((beat_of b k).lower ≤ x) × (x ≤ (beat_of b k).upper)
  laned l e x m h = go (dec_le (beat_of b k).lower x) (dec_le x (beat_of b k).upper)
    where
      out : (x < (beat_of b k).lower) ⊎ ((beat_of b k).upper < x) → ⊥
      out o = no_such e ((stray-exactly b k r).1 (l, record { lane = x; within = m; high = h; outside = o }))

      go : Dec ((beat_of b k).lower ≤ x) → Dec (x ≤ (beat_of b k).upper) → ((beat_of b k).lower ≤ x) × (x ≤ (beat_of b k).upper)
      go (yes p) (yes q) = (p, q)
      go (yes p) (no q) = absurd (out (inr (omega arith)))
      go (no p) d = absurd (out (inl (omega arith)))

  laned_not_stray : ((x : ℕ) → x < b.bus → strobe r x ≡ true → ((beat_of b k).lower ≤ x) × (x ≤ (beat_of b k).upper)) → Stray b k r → ⊥
  laned_not_stray h s = go s.outside (h s.lane s.within s.high)
    where
      go : (s.lane < (beat_of b k).lower) ⊎ ((beat_of b k).upper < s.lane) → ((beat_of b k).lower ≤ s.lane) × (s.lane ≤ (beat_of b k).upper) → ⊥
      go (inl o) p = omega (arith, p.0)
      go (inr o) p = omega (arith, p.1)

  -- a beat past the last breaks W4 and no other rule
  past_last : beats b ≤ k → IsLowest b k r (finding k 4)
  past_last l = record { place = refl; broken = le-leb (beats b) k l; others = others }
    where
      others : (n : ℕ) → rule b k r n ≡ true → 4 ≤ n
      others zero e = no_such refl e
      others (suc zero) e = absurd (let h = ((stray-exactly b k r).0 e).0 in omega arith)
      others (suc (suc zero)) e = absurd (omega (arith, ltb-true (k + 1) (beats b) (and_left (ltb (k + 1) (beats b)) (wlast r) e)))
      others (suc (suc (suc zero))) e =
          absurd (omega (arith, eqb-true (k + 1) (beats b) (and_left (eqb (k + 1) (beats b)) (not (wlast r)) e)))
      others (suc (suc (suc (suc n)))) e = omega arith

-- ---- all beats

module _ (b : Burst) (rs : List (List ℕ)) where
  -- nothing breaks a rule: there are as many beats as the burst has, and none of them does
  sound_there : ((k n : ℕ) → Breaks b rs k n → ⊥) → (length rs ≡ beats b) × Sound b rs (beats b)
  sound_there h = let c = count (dec_lt (length rs) (beats b)) (dec_lt (beats b) (length rs)) in (c, sound c)
    where
      count : Dec (length rs < beats b) → Dec (beats b < length rs) → length rs ≡ beats b
      count (yes few) d = absurd (h (length rs) 5 (inr (refl, refl, few)))
      count (no n) (yes many) = absurd (h (beats b) 4 (inl (many, le-leb (beats b) (beats b) (omega arith))))
      count (no n) (no m) = omega arith

      sound : length rs ≡ beats b → Sound b rs (beats b)
      sound c k l n = never (rule b k (beat rs k) n) (λ e. h k n (inl (omega arith, e)))

  sound_back : length rs ≡ beats b → Sound b rs (beats b) → (k n : ℕ) → Breaks b rs k n → ⊥
  sound_back c s k n (inr e) = omega (arith, e.1, e.2)
  sound_back c s k n (inl e) = no_such (s k (omega (arith, e.0)) n) e.1

  -- no finding is so, and the other way round
  pub sound_exactly : (first_finding b rs ≡ None) ↔ ((length rs ≡ beats b) × Sound b rs (beats b))
  sound_exactly = (λ e. sound_there ((no-finding_exactly b rs).0 e), λ h. (no-finding_exactly b rs).1 (sound_back h.0 h.1))

  clean_there : (length rs ≡ beats b) × Sound b rs (beats b) → CleanTake b rs
  clean_there h =
      record {
        count = h.0;
        last = λ k l. marked b k (beat rs k) l (h.1 k l 2) (h.1 k l 3);
        lanes = λ k x l. laned b k (beat rs k) l (h.1 k l 1) x;
      }

  clean_back : CleanTake b rs → Sound b rs (beats b)
  clean_back c k within n = never (rule b k (beat rs k) n) (go n)
    where
      go : (n : ℕ) → rule b k (beat rs k) n ≡ true → ⊥
      go zero h = no_such refl h
      go (suc zero) h = laned_not_stray b k (beat rs k) (λ x. c.lanes k x within) ((stray-exactly b k (beat rs k)).0 h).1
      go (suc (suc zero)) h = no_such (marked_not_early b k (beat rs k) (c.last k within)) h
      go (suc (suc (suc zero))) h = no_such (marked-last b k (beat rs k) (c.last k within)) h
      go (suc (suc (suc (suc zero)))) h = omega (arith, within, leb-true (beats b) k h)
      go (suc (suc (suc (suc (suc n))))) h = no_such refl h

  -- no finding is a clean take, and the other way round
  pub clean-exactly : (first_finding b rs ≡ None) ↔ CleanTake b rs
  clean-exactly = (λ e. clean_there (sound_exactly.0 e), λ c. sound_exactly.1 (c.count, clean_back c))

  -- no beat before the earliest finding breaks a rule
  sound-before : (f : Finding) → IsEarliest b rs f → Sound b rs f.place
  sound-before f h k l n = never (rule b k (beat rs k) n) (λ e. apart (h.others k n (inl (omega (arith, given h.broken), e))))
    where
      given : Breaks b rs f.place f.rule → f.place ≤ length rs
      given (inl e) = omega (arith, e.0)
      given (inr e) = omega (arith, e.1)

      apart : (f.place < k) ⊎ ((f.place ≡ k) × (f.rule ≤ n)) → ⊥
      apart (inl p) = omega arith
      apart (inr p) = omega (arith, p.0)

  pub too-many-exactly : (p : ℕ) → (first_finding b rs ≡ Some (finding p 4)) ↔ ((p ≡ beats b) × (beats b < length rs) × Sound b rs (beats b))
  too-many-exactly p = (λ e. there ((earliest_exactly b rs (finding p 4)).0 e), back)
    where
      there : IsEarliest b rs (finding p 4) → (p ≡ beats b) × (beats b < length rs) × Sound b rs (beats b)
      there h = go h.broken
        where
          first : beats b < length rs → (p < beats b) ⊎ ((p ≡ beats b) × (4 ≤ 4))
          first l = h.others (beats b) 4 (inl (l, le-leb (beats b) (beats b) (omega arith)))

          at : beats b ≤ p → beats b < length rs → (p < beats b) ⊎ ((p ≡ beats b) × (4 ≤ 4))
              → (p ≡ beats b) × (beats b < length rs) × Sound b rs (beats b)
          at m l (inl q) = absurd (omega arith)
          at m l (inr q) = (q.0, l, subst (Sound b rs) q.0 (sound-before (finding p 4) h))

          go : Breaks b rs p 4 → (p ≡ beats b) × (beats b < length rs) × Sound b rs (beats b)
          go (inl e) =
              let m = leb-true (beats b) p e.1 in
              let l : beats b < length rs = omega (arith, e.0) in
              at m l (first l)
          go (inr e) = absurd (omega (arith, e.0))

      back : (p ≡ beats b) × (beats b < length rs) × Sound b rs (beats b) → first_finding b rs ≡ Some (finding p 4)
      back h =
          (earliest_exactly b rs (finding p 4)).1
          (subst (λ (q : ℕ). IsEarliest b rs (finding q 4)) (sym h.0)
          (at-beat-first b rs (beats b) (finding (beats b) 4) h.1 (past_last b (beats b) (beat rs (beats b)) (omega arith)) h.2))

  pub too-few-exactly : (p : ℕ) → (first_finding b rs ≡ Some (finding p 5)) ↔ ((p ≡ length rs) × (p < beats b) × Sound b rs p)
  too-few-exactly p = (λ e. there ((earliest_exactly b rs (finding p 5)).0 e), back)
    where
      there : IsEarliest b rs (finding p 5) → (p ≡ length rs) × (p < beats b) × Sound b rs p
      there h = go h.broken
        where
          go : Breaks b rs p 5 → (p ≡ length rs) × (p < beats b) × Sound b rs p
          go (inl e) = no_such refl e.1
          go (inr e) = (e.1, e.2, sound-before (finding p 5) h)

      back : (p ≡ length rs) × (p < beats b) × Sound b rs p → first_finding b rs ≡ Some (finding p 5)
      back h =
          (earliest_exactly b rs (finding p 5)).1
          (subst (λ (q : ℕ). IsEarliest b rs (finding q 5)) (sym h.0)
          (at-count-first b rs (omega (arith, h.0, h.1)) (subst (Sound b rs) h.0 h.2)))
