-- One record copied, eight octets at a time. Assumes nothing.
use mathlib.Core.List.{List, ◌++◌}
use mathlib.Core.Path.{◌≡◌, sym, ap, ◌∙◌}
use Prim.Native.Nat.{ℕ, ◌+◌, ◌-◌, ◌≤◌, ◌<◌, min}
use native.Mathlib.Omega.{arith}
use lib.ListN.{length, take, drop, length-drop}
use lib.Seq.{take_all, take-add, take-take, length-take-le}
use Rattle.words.specs.Splice.{splice}
use Rattle.words.proofs.Splice.{splice_over}
use Rattle.stream_spec.specs.Memory.{in_front}

-- the first j octets of the record stand in the output
abbrev copied : List ℕ → List ℕ → ℕ → List ℕ
copied rec out j = splice 0 (take j rec) out

module _ (rec out : List ℕ) (room : length rec ≤ length out) where
  -- eight octets more, from octet a on: those that stand there already are written once more
  copied_more : (a j : ℕ) → a ≤ j → j ≤ a + 8 → a + 8 ≤ length rec
      → splice a (take 8 (drop a rec)) (copied rec out j) ≡ copied rec out (a + 8)
  copied_more a j h k l =
      let there : length (take j rec) ≡ j = length-take-le j rec (omega arith) in
      let more : length (take 8 (drop a rec)) ≡ 8 = length-take-le 8 (drop a rec) (omega (arith, length-drop a rec)) in
      let place : a ≡ 0 + a = omega arith in
      ap (λ (i : ℕ). splice i (take 8 (drop a rec)) (copied rec out j)) place
      ∙ splice_over 0 a (take j rec) (take 8 (drop a rec)) out (omega (arith, there)) (omega (arith, there, more)) (omega (arith, more))
      ∙ ap (λ (xs : List ℕ). splice 0 xs out)
      (ap (λ (xs : List ℕ). xs ++ take 8 (drop a rec)) (take-take a j rec h) ∙ sym (take-add a 8 rec))

  -- all of them
  copied_all : (j : ℕ) → length rec ≤ j → copied rec out j ≡ in_front rec out
  copied_all j h =
      ap (λ (xs : List ℕ). splice 0 xs out) (take_all j rec h)
      ∙ ap (λ (k : ℕ). rec ++ drop k out) (let z : 0 + length rec ≡ length rec = omega arith in z)

-- The record is copied up to place k, or as far as its last eight octets reach.
pub record Copying (rec out now : List ℕ) (k : ℕ) : Type 0 where
  pub done : ℕ
  pub is : now ≡ copied rec out done
  pub high : done ≤ k
  pub within : done ≤ length rec
  pub reach : min (length rec - 8) k ≤ done

module _ (rec out now : List ℕ) (room : length rec ≤ length out) where
  pub copying_starts : 8 ≤ length rec → now ≡ splice 0 (take 8 (drop 0 rec)) out → Copying rec out now 8
  copying_starts h e = record { done = 8; is = e; high = omega arith; within = h; reach = omega arith }

  module _ (k : ℕ) (c : Copying rec out now k) where
    pub copying_more : (next : List ℕ) → k + 8 < length rec → next ≡ splice k (take 8 (drop k rec)) now → Copying rec out next (k + 8)
    copying_more next h e =
        record {
          done = k + 8;
          is = e ∙ ap (splice k (take 8 (drop k rec))) c.is ∙ copied_more rec out room k c.done (omega (arith, c.reach)) (omega (arith, c.high)) (omega arith);
          high = omega arith;
          within = omega arith;
          reach = omega arith;
        }

    pub copying_enough : length rec ≤ k + 8 → Copying rec out now (k + 8)
    copying_enough h =
        record { done = c.done; is = c.is; high = omega (arith, c.high); within = c.within; reach = omega (arith, c.reach) }

    -- the last eight octets
    pub copying_ends : (next : List ℕ) → 8 ≤ length rec → length rec ≤ k + 8 → next ≡ splice (length rec - 8) (take 8 (drop (length rec - 8) rec)) now
        → next ≡ in_front rec out
    copying_ends next l h e =
        let from = length rec - 8 in
        e ∙ ap (splice from (take 8 (drop from rec))) c.is
        ∙ copied_more rec out room from c.done (omega (arith, c.reach)) (omega (arith, c.within)) (omega arith)
        ∙ copied_all rec out room (from + 8) (omega arith)
