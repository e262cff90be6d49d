-- One record copied as a transfer record, eight octets at a time: octet 0 is TLAST alone, and each other octet is the record's.
-- Assumes nothing.
use mathlib.Core.Path.{◌≡◌, refl, sym, ap, ap₂, ◌∙◌}
use mathlib.Core.List.{List, [], ◌∷◌, ◌++◌}
use Prim.Native.Nat.{ℕ, zero, suc, ◌+◌, ◌-◌, ◌/◌, ◌%◌, ◌≤◌, ◌<◌, min}
use native.Mathlib.Omega.{arith}
use lib.ListN.{length, get_or, take, drop, length-drop}
use lib.Seq.{take_all, take-add, take-take, length-take-le}
use Rattle.words.specs.Splice.{splice}
use Rattle.words.specs.Words.{word_at, octets_of_word}
use Rattle.words.proofs.Words.{word-take}
use Rattle.words.proofs.Splice.{splice_over}
use Rattle.stream_spec.specs.Handshake.{as_transfer}
use Rattle.stream_spec.specs.Memory.{in_front}
use Rattle.stream_spec.proofs.Bits.{low-number}

-- ---- the first word

-- a word with all of its low octet but bit 0 cleared
abbrev bit_alone : ℕ → ℕ
bit_alone w = w - w % 256 + w % 2

bit_alone_is : (w x : ℕ) (xs : List ℕ) → w % 256 ≡ x → octets_of_word 7 (w / 256) ≡ xs → octets_of_word 8 (bit_alone w) ≡ x % 2 ∷ xs
bit_alone_is w x xs low high =
    let zeroth : bit_alone w % 256 ≡ x % 2 = omega (arith, low) in
    let others : bit_alone w / 256 ≡ w / 256 = omega arith in
    ap₂ (λ (y : ℕ) (ys : List ℕ). y ∷ ys) zeroth (ap (octets_of_word 7) others ∙ high)

pub front_is : (rec : List ℕ) → ((j : ℕ) → get_or rec j 0 < 256) → 8 ≤ length rec → octets_of_word 8 (bit_alone (word_at 8 rec 0)) ≡ take 8 (as_transfer rec)
front_is [] octets h = absurd (omega arith)
front_is (x ∷ xs) octets h =
    let word = word-take 8 (x ∷ xs) 0 octets h in
    bit_alone_is (word_at 8 (x ∷ xs) 0) x (take 7 xs) (ap (λ (ys : List ℕ). get_or ys 0 0) word) (ap (drop 1) word)
    ∙ ap (λ (y : ℕ). y ∷ take 7 xs) (sym (low-number x))

-- ---- word by word

-- as long as the record, and behind octet 0 the same
long : (rec : List ℕ) → 1 ≤ length rec → length (as_transfer rec) ≡ length rec
long [] h = absurd (omega arith)
long (x ∷ xs) h = refl

behind : (a : ℕ) (rec : List ℕ) → 1 ≤ a → 1 ≤ length rec → drop a rec ≡ drop a (as_transfer rec)
behind a [] h l = absurd (omega arith)
behind zero (x ∷ xs) h l = absurd (omega arith)
behind (suc a) (x ∷ xs) h l = refl

-- the first j octets of the transfer record stand in the output
abbrev copied : List ℕ → List ℕ → ℕ → List ℕ
copied rec out j = splice 0 (take j (as_transfer rec)) out

-- The record is copied up to octet k, or as far as its last eight octets reach.
pub record Copying (rec out now : List ℕ) (k : ℕ) : Type 0 where
  pub done : ℕ
  pub is : now ≡ copied rec out done
  pub high : done ≤ k
  pub within : done ≤ length rec
  pub reach : min (length rec - 8) k ≤ done

module _ (rec out : List ℕ) (low : 8 ≤ length rec) (room : length rec ≤ length out) where
  same : length (as_transfer rec) ≡ length rec
  same = long rec (omega arith)

  -- eight octets more, from octet a on: those that stand there already are written once more
  copied_more : (a j : ℕ) → 1 ≤ a → a ≤ j → j ≤ a + 8 → a + 8 ≤ length rec
      → splice a (take 8 (drop a rec)) (copied rec out j) ≡ copied rec out (a + 8)
  copied_more a j b h k l =
      let t : List ℕ = as_transfer rec in
      let there : length (take j t) ≡ j = length-take-le j t (omega (arith, same)) in
      let more : length (take 8 (drop a t)) ≡ 8 = length-take-le 8 (drop a t) (omega (arith, same, length-drop a t)) in
      let place : a ≡ 0 + a = omega arith in
      ap (λ (xs : List ℕ). splice a (take 8 xs) (copied rec out j)) (behind a rec b (omega arith))
      ∙ ap (λ (i : ℕ). splice i (take 8 (drop a t)) (copied rec out j)) place
      ∙ splice_over 0 a (take j t) (take 8 (drop a t)) out (omega (arith, there)) (omega (arith, there, more)) (omega (arith, more))
      ∙ ap (λ (xs : List ℕ). splice 0 xs out)
      (ap (λ (xs : List ℕ). xs ++ take 8 (drop a t)) (take-take a j t h) ∙ sym (take-add a 8 t))

  -- all of them
  copied_all : (j : ℕ) → length rec ≤ j → copied rec out j ≡ in_front (as_transfer rec) out
  copied_all j h =
      let t : List ℕ = as_transfer rec in
      ap (λ (xs : List ℕ). splice 0 xs out) (take_all j t (omega (arith, same)))
      ∙ ap (λ (k : ℕ). t ++ drop k out) (let z : 0 + length t ≡ length t = omega arith in z)

  pub copying_starts : (now : List ℕ) → now ≡ copied rec out 8 → Copying rec out now 8
  copying_starts now e = record { done = 8; is = e; high = omega arith; within = low; reach = omega arith }

  module _ (now : List ℕ) (k : ℕ) (c : Copying rec out now k) where
    pub copying_more : (next : List ℕ) → 1 ≤ k → k + 8 < length rec → next ≡ splice k (take 8 (drop k rec)) now → Copying rec out next (k + 8)
    copying_more next b h e =
        record {
          done = k + 8;
          is = e ∙ ap (splice k (take 8 (drop k rec))) c.is ∙ copied_more k c.done b (omega (arith, c.reach)) (omega (arith, c.high)) (omega arith);
          high = omega arith;
          within = omega arith;
          reach = omega arith;
        }

    pub copying_enough : length rec ≤ k + 8 → Copying rec out now (k + 8)
    copying_enough h =
        record { done = c.done; is = c.is; high = omega (arith, c.high); within = c.within; reach = omega (arith, c.reach) }

    -- the last eight octets
    pub copying_ends : (next : List ℕ) → 8 < length rec → length rec ≤ k + 8 → next ≡ splice (length rec - 8) (take 8 (drop (length rec - 8) rec)) now
        → next ≡ in_front (as_transfer rec) out
    copying_ends next l h e =
        let from = length rec - 8 in
        e ∙ ap (splice from (take 8 (drop from rec))) c.is
        ∙ copied_more from c.done (omega arith) (omega (arith, c.reach)) (omega (arith, c.within)) (omega arith)
        ∙ copied_all (from + 8) (omega arith)
