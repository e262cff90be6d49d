-- A record's kept lanes where each is data: all in bulk; one after the other, where what is left
-- to keep gets shorter as the octets get more. Assumes nothing.
use mathlib.Core.Path.{◌≡◌, refl, sym, ap, ◌∙◌}
use mathlib.Core.Bool.{Bool, true, false}
use mathlib.Core.List.{List, [], ◌∷◌, ◌++◌, map, append_assoc, append-nil}
use Prim.Native.Nat.{ℕ, zero, suc, ◌+◌, ◌-◌, ◌/◌, ◌%◌, ◌^◌, ◌≤◌, ◌<◌}
use native.Mathlib.Nat.{pow-suc, add-zero}
use native.Mathlib.Omega.{arith}
use borrow.Author.Tests.{eqb-true}
use lib.Pow.{pow_pos}
use lib.ListN.{length, get_or, take, drop}
use lib.Seq.{get_or-drop, drop-drop}
use Rattle.stream_spec.specs.Layout.{odd}
use Rattle.words.specs.Splice.{splice}
use Rattle.words.specs.Words.{padded}
use Rattle.words.proofs.Words.{length-padded, take-padded}
use Rattle.repack_scratch.specs.Codes.{data_code, held_codes, sifted}
use Rattle.repack_scratch.specs.Stands.{Gathered}
use Rattle.repack_scratch.proofs.Held.{length-held, held_more}
use Rattle.repack_sieve.specs.Kept.{kept_octet, kept_octets, Collected}
use Rattle.repack_sieve.proofs.Kept.{kept_split, stored_kept}
use Rattle.repack_gather.specs.Gather.{Clear}

-- ---- all lanes

-- a mask of all ones keeps every lane
kept_full : (w : ℕ) (ds : List ℕ) → kept_octets w (2 ^ w - 1) ds ≡ padded w w ds
kept_full zero ds = refl
kept_full (suc w) ds =
    let low : (2 ^ suc w - 1) % 2 ≡ 1 = omega (arith, pow-suc 2 w, pow_pos w) in
    let high : (2 ^ suc w - 1) / 2 ≡ 2 ^ w - 1 = omega (arith, pow-suc 2 w, pow_pos w) in
    rw (low, high) (ap {B = List ℕ} (λ l. get_or ds 0 0 ∷ l) (kept_full w (drop 1 ds)))

-- a row of which as many octets are wanted as there are, or more
padded-enough : (k n : ℕ) (xs : List ℕ) → k ≤ n → padded k n xs ≡ padded k k xs
padded-enough zero n xs h = refl
padded-enough (suc k) zero xs h = absurd (omega arith)
padded-enough (suc k) (suc n) xs h = ap {B = List ℕ} (λ l. get_or xs 0 0 ∷ l) (padded-enough k n (drop 1 xs) (omega arith))

-- all w lanes in bulk, of m octets that were stored
pub all-kept : (w m : ℕ) (lanes octets after : List ℕ) (at : ℕ) → w ≤ m → at + m ≤ length octets
    → after ≡ splice at (padded m m lanes) octets → Collected w (2 ^ w - 1) lanes octets at after (at + w)
all-kept w m lanes octets after at l h e =
    let long = length-padded m m lanes in
    stored_kept w (2 ^ w - 1) at w lanes (padded m m lanes) octets after (omega (arith, long)) (omega (arith, long))
    (take-padded w m m lanes l ∙ padded-enough w m lanes l ∙ sym (kept_full w lanes)) e

-- ---- the lane loop

-- j lanes are done, n is the place after their octets, and k has the bits of the lanes that are left
pub record Sifting (keep : ℕ) (lanes before : List ℕ) (at : ℕ) (octets : List ℕ) (n k j : ℕ) : Type 0 where
  pub done : j ≤ length lanes
  pub beyond : at ≤ n
  pub near : n ≤ at + j
  pub same : length octets ≡ length before
  pub rest : take n octets ++ kept_octets (length lanes - j) k (drop j lanes) ≡ take at before ++ kept_octets (length lanes) keep lanes

pub sifting_starts : (keep : ℕ) (lanes before : List ℕ) (at : ℕ) → Sifting keep lanes before at before at keep 0
sifting_starts keep lanes before at =
    let all : length lanes - 0 ≡ length lanes = omega arith in
    record { done = omega arith; beyond = omega arith; near = omega arith; same = refl; rest = rw all refl }

module _ (keep : ℕ) (lanes before : List ℕ) (at : ℕ) (octets : List ℕ) (n k j : ℕ) (s : Sifting keep lanes before at octets n k j) where
  pub sifting_lane : (after : List ℕ) (r : ℕ) → j < length lanes → Collected 1 k (get_or lanes j 0 ∷ []) octets n after r
      → Sifting keep lanes before at after r (k / 2) (j + 1)
  sifting_lane after r h c =
      let first : get_or (drop j lanes) 0 0 ≡ get_or lanes j 0 = get_or-drop j lanes 0 0 ∙ rw (add-zero j) refl in
      let left : 1 + (length lanes - (j + 1)) ≡ length lanes - j = omega arith in
      let one : kept_octets (length lanes - j) k (drop j lanes)
      ≡ kept_octets 1 k (get_or lanes j 0 ∷ []) ++ kept_octets (length lanes - (j + 1)) (k / 2) (drop (j + 1) lanes) =
      rw (← left) (kept_split 1 (length lanes - (j + 1)) k (drop j lanes) ∙ rw (first, drop-drop 1 j lanes) refl) in
      record {
        done = omega arith;
        beyond = omega (arith, s.beyond, c.beyond);
        near = omega (arith, s.near, c.within);
        same = c.same ∙ s.same;
        rest = rw c.is
            (append_assoc (take n octets) (kept_octets 1 k (get_or lanes j 0 ∷ [])) (kept_octets (length lanes - (j + 1)) (k / 2) (drop (j + 1) lanes))
            ∙ rw (← one) s.rest);
      }

  -- no lane is left
  pub sifting_done : length lanes ≤ j → Collected (length lanes) keep lanes before at octets n
  sifting_done h =
      let none : length lanes - j ≡ 0 = omega arith in
      record {
        same = s.same;
        beyond = s.beyond;
        within = omega (arith, s.near, s.done);
        is = sym (append-nil (take n octets)) ∙ (rw none at s.rest);
      }

-- ---- as item codes

-- where TKEEP and TSTRB are one mask, the codes of the kept lanes are those of data
pub sifted_data : (w k : ℕ) (ds : List ℕ) → sifted w k k ds ≡ map data_code (kept_octets w k ds)
sifted_data zero k ds = refl
sifted_data (suc w) k ds = go (sifted_data w (k / 2) (drop 1 ds)) (odd k) refl
  where
    go : sifted w (k / 2) (k / 2) (drop 1 ds) ≡ map data_code (kept_octets w (k / 2) (drop 1 ds)) → (b : Bool) → odd k ≡ b
        → sifted (suc w) k k ds ≡ map data_code (kept_octet k (get_or ds 0 0) ++ kept_octets w (k / 2) (drop 1 ds))
    go ih true e =
        let bit : k % 2 ≡ 1 = eqb-true (k % 2) 1 e in
        rw bit (ap {B = List ℕ} (λ l. (get_or ds 0 0 + 256) ∷ l) ih)
    go ih false e = rw e ih

-- octets collected where no mark stands are codes gathered
pub collected_codes : (keep : ℕ) (lanes octets after marks : List ℕ) (at r : ℕ) → r ≤ length octets → length marks ≡ length octets → Clear at marks
    → Collected (length lanes) keep lanes octets at after r
    → Gathered (length lanes) (sifted (length lanes) keep keep lanes) (held_codes octets marks) at (held_codes after marks) r
collected_codes keep lanes octets after marks at r h l c g =
    record {
      same = length-held after marks (g.same ∙ sym l) ∙ g.same ∙ sym (length-held octets marks (sym l));
      beyond = g.beyond;
      within = g.within;
      is =
          held_more octets after marks (kept_octets (length lanes) keep lanes) at r (sym l) g.same g.beyond h c g.is
          ∙ rw (← sifted_data (length lanes) keep lanes) refl;
    }
