-- A record's kept lanes with their user bits, one lane after the other: what is left to keep gets shorter as the codes get more. Assumes nothing.
use mathlib.Core.Path.{◌≡◌, refl, sym, ap, ◌∙◌}
use mathlib.Core.Bool.{Bool, true, false}
use mathlib.Core.List.{List, [], ◌∷◌, ◌++◌, append_assoc, append-nil}
use Prim.Native.Nat.{ℕ, zero, suc, ◌+◌, ◌-◌, ◌*◌, ◌/◌, ◌%◌, ◌^◌, ◌≤◌, ◌<◌}
use native.Mathlib.Nat.{add-zero, one-mul, mod-lt, mod-eq_of_lt}
use native.Mathlib.Numerals.{add-one}
use native.Mathlib.Omega.{arith}
use borrow.Author.Tests.{eq-eqb, ne_eqb, eqb-true, eqb-false}
use lib.Dec.{eqb}
use lib.Pow.{pow_pos, pow_mono}
use lib.ListN.{length, get_or, take, drop, set, length-set}
use lib.Seq.{take-suc-set, take-set-le, get_or-drop, drop-drop}
use Rattle.repack_scratch.specs.Codes.{tagged_code, tagged}
use Rattle.repack_tags.specs.Tags.{GatheredTags}

-- ---- the user bits of a lane

-- a one shifted by at most 4 places, in 64 bits
pub shifted : (m : ℕ) → m ≤ 4 → 1 * 2 ^ m % 0x10000000000000000 ≡ 2 ^ m
shifted m h = rw (one-mul (2 ^ m)) (mod-eq_of_lt (omega (arith, pow_mono h)))

pub lane-bits : (m u : ℕ) → m ≤ 4 → u % 2 ^ m < 16
lane-bits m u h = omega (arith, mod-lt u (pow_pos m), pow_mono h)

-- ---- one lane of the codes

tagged-odd : (m w k t u : ℕ) (ds : List ℕ) → 0 < w → k % 2 ≡ 1
    → tagged m w k t u ds ≡ tagged_code t (u % 2 ^ m) (get_or ds 0 0) ∷ tagged m (w - 1) (k / 2) (t / 2) (u / 2 ^ m) (drop 1 ds)
tagged-odd m zero k t u ds h e = absurd (omega arith)
tagged-odd m (suc w) k t u ds h e =
    let one : suc w - 1 ≡ w = omega arith in
    rw (one, eq-eqb (k % 2) 1 e) refl

tagged_even : (m w k t u : ℕ) (ds : List ℕ) → 0 < w → k % 2 ≡ 0
    → tagged m w k t u ds ≡ tagged m (w - 1) (k / 2) (t / 2) (u / 2 ^ m) (drop 1 ds)
tagged_even m zero k t u ds h e = absurd (omega arith)
tagged_even m (suc w) k t u ds h e =
    let one : suc w - 1 ≡ w = omega arith in
    rw (one, ne_eqb (k % 2) 1 (λ z. omega arith)) refl

module _ (m : ℕ) (items lanes whole : List ℕ) (n k t u j : ℕ) (h : n < length items) (l : j < length lanes)
    (e : take n items ++ tagged m (length lanes - j) k t u (drop j lanes) ≡ whole) where
  left : length lanes - j - 1 ≡ length lanes - (j + 1)
  left = omega arith

  first_lane : get_or (drop j lanes) 0 0 ≡ get_or lanes j 0
  first_lane = get_or-drop j lanes 0 0 ∙ rw (add-zero j) refl

  abbrev rest : List ℕ
  rest = tagged m (length lanes - (j + 1)) (k / 2) (t / 2) (u / 2 ^ m) (drop (j + 1) lanes)

  abbrev code : ℕ
  code = tagged_code t (u % 2 ^ m) (get_or lanes j 0)

  kept_step : k % 2 ≡ 1 → take (n + k % 2) (set items n code) ++ rest ≡ whole
  kept_step o =
      rw (o, add-one n, take-suc-set items n code h)
      (append_assoc (take n items) (code ∷ []) rest
      ∙ (rw (tagged-odd m (length lanes - j) k t u (drop j lanes) (omega arith) o, first_lane, left, drop-drop 1 j lanes) at e))

  null_step : k % 2 ≡ 0 → take (n + k % 2) (set items n code) ++ rest ≡ whole
  null_step o =
      rw (o, add-zero n, take-set-le n items n code (omega arith))
      (rw (tagged_even m (length lanes - j) k t u (drop j lanes) (omega arith) o, left, drop-drop 1 j lanes) at e)

  sift_step : take (n + k % 2) (set items n code) ++ rest ≡ whole
  sift_step = go (eqb (k % 2) 1) refl
    where
      go : (b : Bool) → eqb (k % 2) 1 ≡ b → take (n + k % 2) (set items n code) ++ rest ≡ whole
      go true b = kept_step (eqb-true (k % 2) 1 b)
      go false b =
          let odd : k % 2 ≡ 1 → ⊥ = eqb-false (k % 2) 1 b in
          null_step (omega arith)

-- ---- the loop

-- j lanes are done, n is the place after their items, and k, t and u have the bits of the lanes that are left
pub record Sifting (m keep strb user : ℕ) (lanes before : List ℕ) (at : ℕ) (items : List ℕ) (n k t u j : ℕ) : Type 0 where
  pub done : j ≤ length lanes
  pub beyond : at ≤ n
  pub near : n ≤ at + j
  pub same : length items ≡ length before
  pub rest : take n items ++ tagged m (length lanes - j) k t u (drop j lanes)
      ≡ take at before ++ tagged m (length lanes) keep strb user lanes

module _ (m keep strb user : ℕ) (lanes before : List ℕ) (at : ℕ) where
  pub sifting_starts : Sifting m keep strb user lanes before at before at keep strb user 0
  sifting_starts =
      let all : length lanes - 0 ≡ length lanes = omega arith in
      record { done = omega arith; beyond = omega arith; near = omega arith; same = refl; rest = rw all refl }

  module _ (items : List ℕ) (n k t u j : ℕ) (s : Sifting m keep strb user lanes before at items n k t u j) where
    pub sifting_lane : at + length lanes ≤ length before → j < length lanes → (bits : ℕ) → bits ≡ u % 2 ^ m → (items' : List ℕ) (n' : ℕ)
        → n' ≡ n + k % 2 → items' ≡ set items n (tagged_code t bits (get_or lanes j 0))
        → Sifting m keep strb user lanes before at items' n' (k / 2) (t / 2) (u / 2 ^ m) (j + 1)
    sifting_lane room h bits eb items' n' en ei =
        record {
          done = omega arith;
          beyond = omega (arith, s.beyond);
          near = omega (arith, s.near);
          same = ap length ei ∙ length-set items n (tagged_code t bits (get_or lanes j 0)) ∙ s.same;
          rest =
              rw (en, ei, eb)
              (sift_step m items lanes (take at before ++ tagged m (length lanes) keep strb user lanes) n k t u j (omega (arith, s.near, s.same)) h s.rest);
        }

    -- no lane is left
    pub sifting_done : length lanes ≤ j → GatheredTags m keep strb user lanes before at items n
    sifting_done h =
        let none : length lanes - j ≡ 0 = omega arith in
        record {
          same = s.same;
          beyond = s.beyond;
          within = omega (arith, s.near, s.done);
          is = sym (append-nil (take n items)) ∙ (rw none at s.rest);
        }
