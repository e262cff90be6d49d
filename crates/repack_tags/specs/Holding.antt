-- A law of `Items` for items with user bits: where some can be written, so can any part of them. It stands here since the
-- members of an impl name nothing of proofs/. Assumes nothing.
use mathlib.Core.List.{List}
use Prim.Native.Nat.{ℕ, ◌+◌, ◌≤◌}
use native.Mathlib.Omega.{arith}
use lib.ListN.{length}
use Rattle.repack_tags.specs.Tags.{PartFits}

pub tagged_part : (m : ℕ) (items : List ℕ) (from n i k : ℕ) → from ≤ i → i + k ≤ from + n → (from + n ≤ length items) × PartFits m items from n
    → (i + k ≤ length items) × PartFits m items i k
tagged_part m items from n i k low high h = (omega (arith, high, h.0), λ j a b. h.1 j (omega (arith, low, a)) (omega (arith, high, b)))
