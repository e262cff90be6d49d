-- The laws of `Items` for items each of which is data: what can be written is held, and any part of it can be written.
-- They stand here since the members of an impl name nothing of proofs/. Assumes nothing.
use mathlib.Core.List.{List, map}
use Prim.Native.Nat.{ℕ, ◌+◌, ◌≤◌}
use native.Mathlib.Omega.{arith}
use lib.ListN.{length, length-map}
use Rattle.repack_scratch.specs.Codes.{data_code}

pub plain_held : (octets : List ℕ) (n : ℕ) → n + 32 ≤ length octets → n ≤ length (map data_code octets)
plain_held octets n h = omega (arith, h, length-map octets data_code)

-- of whatever is held with 32 octets behind it
pub bare_part : (octets : List ℕ) (from n i k : ℕ) → i + k ≤ from + n → from + n + 32 ≤ length octets → i + k + 32 ≤ length octets
bare_part octets from n i k l h = omega (arith, l, h)
