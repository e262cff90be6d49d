-- A record's kept lanes of any type, one lane after the other, as item codes that are held in octets and marks. Assumes
-- nothing.
use mathlib.Core.Path.{◌≡◌, refl, sym, ap, ◌∙◌}
use mathlib.Core.Bool.{Bool, true, false}
use mathlib.Core.List.{List, [], ◌∷◌, ◌++◌, append_assoc, append-nil}
use Prim.Native.Nat.{ℕ, zero, suc, ◌+◌, ◌-◌, ◌*◌, ◌/◌, ◌%◌, ◌^◌, ◌≤◌, ◌<◌}
use native.Mathlib.Nat.{add-zero, mul-one, mul-zero, one-mul}
use native.Mathlib.Numerals.{add-one}
use native.Mathlib.Omega.{arith}
use borrow.Author.Tests.{eq-eqb, ne_eqb, eqb-true, eqb-false}
use lib.Dec.{eqb}
use lib.Pow.{pow-lt}
use lib.ListN.{length, get_or, take, drop, set, length-set}
use lib.Seq.{take-suc-set, take-set-le, get_or-drop, drop-drop, get_or-set_same, get_or-set_other}
use Rattle.repack_scratch.specs.Codes.{item_code, held_code, held_codes, sifted}
use Rattle.repack_scratch.proofs.Held.{length-held, held-set}
use Rattle.repack_gather.specs.Gather.{Clear, Marks}

-- ---- a lane's mark

abbrev pub mark_of : ℕ → ℕ → ℕ
mark_of k t = (1 - t % 2) * (k % 2)

-- a lane that is not kept has no mark; a kept one is marked where TSTRB is low
mark_none : (k t : ℕ) → k % 2 ≡ 0 → mark_of k t ≡ 0
mark_none k t e = rw e (mul-zero (1 - t % 2))

mark_kept : (k t : ℕ) → k % 2 ≡ 1 → mark_of k t ≡ 1 - t % 2
mark_kept k t e = rw e (mul-one (1 - t % 2))

pub mark_small : (k t : ℕ) → mark_of k t ≤ 1
mark_small k t = go (eqb (k % 2) 1) refl
  where
    go : (b : Bool) → eqb (k % 2) 1 ≡ b → mark_of k t ≤ 1
    go true e = rw (mark_kept k t (eqb-true (k % 2) 1 e)) (omega arith)
    go false e = let odd : k % 2 ≡ 1 → ⊥ = eqb-false (k % 2) 1 e in rw (mark_none k t (omega arith)) (omega arith)

-- ---- where it stands in its octet

pub mark_shifted : (i m : ℕ) → i < 8 → m ≤ 1 → m * 2 ^ i < 256
mark_shifted i zero h l = omega arith
mark_shifted i (suc zero) h l = rw (one-mul (2 ^ i)) (pow-lt {j = 8} h)
mark_shifted i (suc (suc m)) h l = absurd (omega arith)

-- ---- one lane of the codes

sifted-odd : (w k t : ℕ) (ds : List ℕ) → 0 < w → k % 2 ≡ 1 → sifted w k t ds ≡ item_code t (get_or ds 0 0) ∷ sifted (w - 1) (k / 2) (t / 2) (drop 1 ds)
sifted-odd zero k t ds h e = absurd (omega arith)
sifted-odd (suc w) k t ds h e =
    let one : suc w - 1 ≡ w = omega arith in
    rw (one, eq-eqb (k % 2) 1 e) refl

sifted_even : (w k t : ℕ) (ds : List ℕ) → 0 < w → k % 2 ≡ 0 → sifted w k t ds ≡ sifted (w - 1) (k / 2) (t / 2) (drop 1 ds)
sifted_even zero k t ds h e = absurd (omega arith)
sifted_even (suc w) k t ds h e =
    let one : suc w - 1 ≡ w = omega arith in
    rw (one, ne_eqb (k % 2) 1 (λ z. omega arith)) refl

module _ (items lanes whole : List ℕ) (n k t j : ℕ) (h : n < length items) (l : j < length lanes)
    (e : take n items ++ sifted (length lanes - j) k t (drop j lanes) ≡ whole) where
  left : length lanes - j - 1 ≡ length lanes - (j + 1)
  left = omega arith

  first_lane : get_or (drop j lanes) 0 0 ≡ get_or lanes j 0
  first_lane = get_or-drop j lanes 0 0 ∙ rw (add-zero j) refl

  kept_step : (x : ℕ) → x ≡ item_code t (get_or lanes j 0) → k % 2 ≡ 1
      → take (n + k % 2) (set items n x) ++ sifted (length lanes - (j + 1)) (k / 2) (t / 2) (drop (j + 1) lanes) ≡ whole
  kept_step x f o =
      rw (o, add-one n, take-suc-set items n x h)
      (append_assoc (take n items) (x ∷ []) (sifted (length lanes - (j + 1)) (k / 2) (t / 2) (drop (j + 1) lanes))
      ∙ rw f
      (rw (sifted-odd (length lanes - j) k t (drop j lanes) (omega arith) o, first_lane, left, drop-drop 1 j lanes) at e))

  null_step : (x : ℕ) → k % 2 ≡ 0
      → take (n + k % 2) (set items n x) ++ sifted (length lanes - (j + 1)) (k / 2) (t / 2) (drop (j + 1) lanes) ≡ whole
  null_step x o =
      rw (o, add-zero n, take-set-le n items n x (omega arith))
      (rw (sifted_even (length lanes - j) k t (drop j lanes) (omega arith) o, left, drop-drop 1 j lanes) at e)

  sift_step : take (n + k % 2) (set items n (held_code (get_or lanes j 0) (mark_of k t))) ++ sifted (length lanes - (j + 1)) (k / 2) (t / 2) (drop (j + 1) lanes) ≡ whole
  sift_step = go (eqb (k % 2) 1) refl
    where
      go : (b : Bool) → eqb (k % 2) 1 ≡ b
          → take (n + k % 2) (set items n (held_code (get_or lanes j 0) (mark_of k t))) ++ sifted (length lanes - (j + 1)) (k / 2) (t / 2) (drop (j + 1) lanes) ≡ whole
      go true b =
          let one : k % 2 ≡ 1 = eqb-true (k % 2) 1 b in
          kept_step (held_code (get_or lanes j 0) (mark_of k t)) (rw (mark_kept k t one) (omega arith)) one
      go false b =
          let odd : k % 2 ≡ 1 → ⊥ = eqb-false (k % 2) 1 b in
          null_step (held_code (get_or lanes j 0) (mark_of k t)) (omega arith)

-- ---- the marks behind the kept lanes

clear_step : (marks : List ℕ) (n k t : ℕ) → n < length marks → Clear n marks → Clear (n + k % 2) (set marks n (mark_of k t))
clear_step marks n k t h c i b = go (eqb i n) refl
  where
    go : (q : Bool) → eqb i n ≡ q → get_or (set marks n (mark_of k t)) i 0 ≡ 0
    go true e =
        let here : i ≡ n = eqb-true i n e in
        rw (here, get_or-set_same marks n (mark_of k t) 0 h) (mark_none k t (omega arith))
    go false e = get_or-set_other marks n i (mark_of k t) 0 (eqb-false i n e) ∙ c i (omega arith)

-- ---- the loop

-- j lanes are done, n is the place after their items, and k and t have the bits of the lanes that are left
pub record Marking (keep strb : ℕ) (lanes octets₀ marks₀ : List ℕ) (at : ℕ) (octets marks : List ℕ) (n k t j : ℕ) : Type 0 where
  pub done : j ≤ length lanes
  pub beyond : at ≤ n
  pub near : n ≤ at + j
  pub same_octets : length octets ≡ length octets₀
  pub same_marks : length marks ≡ length octets₀
  pub clear : Clear at marks₀ → Clear n marks
  pub rest : take n (held_codes octets marks) ++ sifted (length lanes - j) k t (drop j lanes)
      ≡ take at (held_codes octets₀ marks₀) ++ sifted (length lanes) keep strb lanes

module _ (keep strb : ℕ) (lanes octets₀ marks₀ : List ℕ) (at : ℕ) (paired : length marks₀ ≡ length octets₀) where
  pub marking_starts : Marking keep strb lanes octets₀ marks₀ at octets₀ marks₀ at keep strb 0
  marking_starts =
      let all : length lanes - 0 ≡ length lanes = omega arith in
      record {
        done = omega arith;
        beyond = omega arith;
        near = omega arith;
        same_octets = refl;
        same_marks = paired;
        clear = λ c. c;
        rest = rw all refl;
      }

  module _ (octets marks : List ℕ) (n k t j : ℕ) (m : Marking keep strb lanes octets₀ marks₀ at octets marks n k t j) where
    pub marking_lane : at + length lanes ≤ length octets₀ → j < length lanes → (octets' marks' : List ℕ) (n' : ℕ) → n' ≡ n + k % 2
        → octets' ≡ set octets n (get_or lanes j 0) → marks' ≡ set marks n (mark_of k t)
        → Marking keep strb lanes octets₀ marks₀ at octets' marks' n' (k / 2) (t / 2) (j + 1)
    marking_lane room h octets' marks' n' en eo em =
        let inside : n < length (held_codes octets marks) =
        rw (length-held octets marks (m.same_octets ∙ sym m.same_marks)) (omega (arith, m.near, m.same_octets)) in
        record {
          done = omega arith;
          beyond = omega (arith, m.beyond);
          near = omega (arith, m.near);
          same_octets = ap length eo ∙ length-set octets n (get_or lanes j 0) ∙ m.same_octets;
          same_marks = ap length em ∙ length-set marks n (mark_of k t) ∙ m.same_marks;
          clear = λ c. rw (en, em) (clear_step marks n k t (omega (arith, m.near, m.same_marks)) (m.clear c));
          rest =
              rw (en, eo, em, held-set n (get_or lanes j 0) (mark_of k t) octets marks)
              (sift_step (held_codes octets marks) lanes (take at (held_codes octets₀ marks₀) ++ sifted (length lanes) keep strb lanes) n k t j inside h m.rest);
        }

    pub marking_done : length lanes ≤ j → Marks keep strb lanes octets₀ marks₀ at octets marks n
    marking_done h =
        let none : length lanes - j ≡ 0 = omega arith in
        record {
          gathered = record {
            same = length-held octets marks (m.same_octets ∙ sym m.same_marks) ∙ m.same_octets ∙ sym (length-held octets₀ marks₀ (sym paired));
            beyond = m.beyond;
            within = omega (arith, m.near, m.done);
            is = sym (append-nil (take n (held_codes octets marks))) ∙ (rw none at m.rest);
          };
          clear = m.clear;
        }
