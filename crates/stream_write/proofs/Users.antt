-- User bits as they are written, from the lowest octet up: what is left to write gets shorter. Assumes nothing.
use mathlib.Core.Path.{◌≡◌, refl, sym, ap, ◌∙◌}
use mathlib.Core.List.{List, [], ◌∷◌, ◌++◌, append_assoc, append-nil}
use Prim.Native.Nat.{ℕ, zero, suc, ◌+◌, ◌-◌, ◌/◌, ◌%◌, ◌≤◌, ◌<◌}
use native.Mathlib.Omega.{arith}
use borrow.Rule.Slice.PartMut.{put_mid}
use lib.ListN.{length, take, set, length-set}
use lib.Seq.{drop-drop}
use Rattle.std.proofs.lemmas.List.{take_more_set, take_all}
use Rattle.words.specs.Splice.{splice}
use Rattle.words.specs.Words.{octets_of_word}

-- of k octets i are done, and u has those that are left
pub record Storing (user k : ℕ) (octets : List ℕ) (u i : ℕ) : Type 0 where
  pub long : length octets ≡ k
  pub within : i ≤ k
  pub rest : take i octets ++ octets_of_word (k - i) u ≡ octets_of_word k user

octets-first : (k u : ℕ) → 0 < k → octets_of_word k u ≡ u % 256 ∷ octets_of_word (k - 1) (u / 256)
octets-first zero u h = absurd (omega arith)
octets-first (suc k) u h = let one : suc k - 1 ≡ k = omega arith in rw one refl

module _ (user k : ℕ) (octets : List ℕ) where
  pub storing_starts : length octets ≡ k → Storing user k octets user 0
  storing_starts h = let all : k - 0 ≡ k = omega arith in record { long = h; within = omega arith; rest = rw all refl }

  module _ (u i : ℕ) (s : Storing user k octets u i) where
    pub storing_octet : i < k → Storing user k (set octets i (u % 256)) (u / 256) (i + 1)
    storing_octet h =
        let left : k - i - 1 ≡ k - (i + 1) = omega arith in
        let first : octets_of_word (k - i) u ≡ u % 256 ∷ octets_of_word (k - (i + 1)) (u / 256) = octets-first (k - i) u (omega arith) ∙ rw left refl in
        record {
          long = length-set octets i (u % 256) ∙ s.long;
          within = omega arith;
          rest =
              rw (take_more_set octets i (u % 256) (omega (arith, s.long)))
              (append_assoc (take i octets) (u % 256 ∷ []) (octets_of_word (k - (i + 1)) (u / 256))
              ∙ ap (λ (l : List ℕ). take i octets ++ l) (sym first) ∙ s.rest);
        }

    -- all are done: they stand in memory where they were lent
    pub storing_done : (at n : ℕ) (out : List ℕ) → k ≤ i → n ≡ k → put_mid at n out octets ≡ splice at (octets_of_word k user) out
    storing_done at n out h e =
        let none : k - i ≡ 0 = omega (arith, s.within) in
        let all : octets ≡ octets_of_word k user =
        sym (append-nil octets) ∙ ap (λ (l : List ℕ). l ++ []) (sym (take_all i octets (omega (arith, s.long)))) ∙ (rw none at s.rest) in
        rw (← all, s.long, e) (ap (λ (l : List ℕ). take at out ++ (octets ++ l)) (drop-drop k at out))
