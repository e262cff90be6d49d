-- A law of `Items` for items with marks: what can be written is held. It stands here since the members of an impl name
-- nothing of this crate's proofs/. Assumes nothing.
use mathlib.Core.Path.{◌≡◌, sym, ◌∙◌}
use mathlib.Core.List.{List}
use Prim.Native.Nat.{ℕ, ◌+◌, ◌*◌, ◌≤◌}
use native.Mathlib.Omega.{arith}
use lib.ListN.{length}
use Rattle.repack_scratch.specs.Codes.{codes_in, mark_bits}
use Rattle.repack_scratch.proofs.Held.{length-held}
use Rattle.repack_scratch.proofs.Marks.{length-marks}

pub marked_held : (octets marks : List ℕ) (n : ℕ) → length octets ≡ 8 * length marks → n + 32 ≤ length octets → n ≤ length (codes_in octets marks)
marked_held octets marks n same h = omega (arith, h, length-held octets (mark_bits marks) (same ∙ sym (length-marks marks)))
