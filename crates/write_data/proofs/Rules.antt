-- The lowest rule that a beat breaks, as the code finds it, against the checks of the rules. Assumes nothing.
use Rattle.std.specs.Prelude.{Option, None, Some}
use mathlib.Core.Bool.{Bool, true, false, cond, and-false}
use mathlib.Core.List.{List, [], ◌∷◌}
use mathlib.Core.Path.{◌≡◌, refl, sym, ◌∙◌}
use Prim.Native.Nat.{ℕ, ◌+◌, ◌≤◌, ◌<◌}
use native.Mathlib.Omega.{arith}
use borrow.Author.Tests.{lt-ltb, le-ltb, eq-eqb, ne_eqb, le-leb, lt-leb}
use Rattle.refusal.specs.Checks.{check, first}
use Rattle.burst_spec.specs.declared.Burst.{Burst}
use Rattle.burst_spec.specs.Address.{beats, beat_of}
use Rattle.write_data_spec.specs.Layout.{wlast}
use Rattle.write_data_spec.specs.Rules.{w1, w2, w3, w4, finding, rule_checks}
use Rattle.write_data.specs.Scan.{stray_below, lowest_rule}

-- ---- which one it is

module _ (b : Burst) (k : ℕ) (r : List ℕ) where
  w1-is : k ≤ b.len → w1 b k r ≡ stray_below b.bus r (beat_of b k).lower (beat_of b k).upper
  unfolding w1
  w1-is h = rw (lt-ltb k (beats b) (omega arith)) refl

  w1_past : b.len < k → w1 b k r ≡ false
  unfolding w1
  w1_past h = rw (le-ltb k (beats b) (omega arith)) refl

  -- a beat past the last
  pub rule_past : b.len < k → Some 4 ≡ lowest_rule b k r
  rule_past h =
      rw (
        w1_past h,
        le-ltb (k + 1) (beats b) (omega arith),
        ne_eqb (k + 1) (beats b) (λ e. omega arith),
        le-leb (beats b) k (omega arith),
      ) refl

  module _ (h : k ≤ b.len) (s : Bool) (told : s ≡ stray_below b.bus r (beat_of b k).lower (beat_of b k).upper) where
    pub rule_stray : s ≡ true → Some 1 ≡ lowest_rule b k r
    rule_stray e = rw (w1-is h ∙ sym told ∙ e) refl

    module _ (e : s ≡ false) (last : Bool) (f : last ≡ wlast r) where
      first-passed : w1 b k r ≡ false
      first-passed = w1-is h ∙ sym told ∙ e

      -- before the last beat
      pub rule_early : k < b.len → last ≡ true → Some 2 ≡ lowest_rule b k r
      rule_early l t = rw (first-passed, lt-ltb (k + 1) (beats b) (omega arith), sym f ∙ t) refl

      pub rule-waits : k < b.len → last ≡ false → None ≡ lowest_rule b k r
      rule-waits l t =
          rw (
            first-passed,
            sym f ∙ t,
            and-false,
            ne_eqb (k + 1) (beats b) (λ q. omega arith),
            lt-leb (beats b) k (omega arith),
          ) refl

      -- at the last one
      pub rule-ends : b.len ≤ k → last ≡ true → None ≡ lowest_rule b k r
      rule-ends l t =
          rw (
            first-passed,
            le-ltb (k + 1) (beats b) (omega arith),
            sym f ∙ t,
            and-false,
            lt-leb (beats b) k (omega arith),
          ) refl

      pub rule_missing : b.len ≤ k → last ≡ false → Some 3 ≡ lowest_rule b k r
      rule_missing l t =
          rw (
            first-passed,
            le-ltb (k + 1) (beats b) (omega arith),
            eq-eqb (k + 1) (beats b) (omega arith),
            sym f ∙ t,
          ) refl

  -- ---- what it says of the checks

  pub lowest_found : (n : ℕ) → Some n ≡ lowest_rule b k r → first (rule_checks b k r) ≡ Some (finding k n)
  lowest_found n e = go (w1 b k r) (w2 b k r) (w3 b k r) (w4 b k) e
    where
      go : (a1 a2 a3 a4 : Bool) → Some n ≡ cond a1 (Some 1) (cond a2 (Some 2) (cond a3 (Some 3) (cond a4 (Some 4) None)))
          → first (check a1 (finding k 1) ∷ check a2 (finding k 2) ∷ check a3 (finding k 3) ∷ check a4 (finding k 4) ∷ []) ≡ Some (finding k n)
      go true a2 a3 a4 f = let one : n ≡ 1 = cc in rw one refl
      go false true a3 a4 f = let two : n ≡ 2 = cc in rw two refl
      go false false true a4 f = let three : n ≡ 3 = cc in rw three refl
      go false false false true f = let four : n ≡ 4 = cc in rw four refl
      go false false false false f = cc

  pub lowest_none : ◌≡◌ {A = Option ℕ} None (lowest_rule b k r) → first (rule_checks b k r) ≡ None
  lowest_none e = go (w1 b k r) (w2 b k r) (w3 b k r) (w4 b k) e
    where
      go : (a1 a2 a3 a4 : Bool) → ◌≡◌ {A = Option ℕ} None (cond a1 (Some 1) (cond a2 (Some 2) (cond a3 (Some 3) (cond a4 (Some 4) None))))
          → first (check a1 (finding k 1) ∷ check a2 (finding k 2) ∷ check a3 (finding k 3) ∷ check a4 (finding k 4) ∷ []) ≡ None
      go true a2 a3 a4 f = cc
      go false true a3 a4 f = cc
      go false false true a4 f = cc
      go false false false true f = cc
      go false false false false f = refl
