-- `axi3::piece` meets its contract: beat 16*j is there, so its address and what is left from it are worked out without overflow.
-- Assumes nothing.
use mathlib.Core.Path.{◌≡◌, ap, ◌∙◌}
use Prim.Native.Nat.{ℕ, ◌+◌, ◌-◌, ◌*◌, ◌≤◌, ◌<◌, min}
use native.Mathlib.Omega.{arith}
use Rattle.burst_spec.specs.declared.Burst.{Burst}
use Rattle.burst_spec.specs.Address.{beats, beat_address}
use Rattle.burst_spec.specs.Legal.{Accepted}
use Rattle.axi3_spec.specs.Cut.{beats_most, piece_count, piece}
use Rattle.axi3_spec.proofs.Pieces.{first-beat, beats-most}
use Rattle.axi3.proofs.piece.Goals as goal

-- beat 16*j is there, and no burst has more than 256
there : (x : Burst) → Accepted x → (j : ℕ) → j < piece_count x → (beats_most * j < beats x) × (beats x ≤ 256)
there x a j h = (first-beat x a.legal j h, beats-most x a.legal)

-- a beat that the burst has is not past its last
inside : (x : Burst) (k : ℕ) → k < beats x → min k x.len ≡ k
inside x k h = omega arith

-- the beats from beat k on, of which 16 are taken, less one
left : (len k : ℕ) → k < len + 1 → min (len - k) 15 ≡ min 16 (len + 1 - k) - 1
left len k h = omega arith

pub overflow_cast-from : goal.overflow_cast-from
overflow_cast-from c = record { fits = omega (arith, there c.args.accepted.burst c.args.accepted.accepted c.args.j c.requires) }

pub overflow_mul-from : goal.overflow_mul-from
overflow_mul-from c = record { fits = omega (arith, there c.args.accepted.burst c.args.accepted.accepted c.args.j c.requires) }

pub overflow_sub-b : goal.overflow_sub-b
overflow_sub-b c = omega (arith, there c.args.accepted.burst c.args.accepted.accepted c.args.j c.requires)

pub returns : goal.returns
unfolding piece
returns c =
    let len = c.min.ensures ∙ left c.args.accepted.burst.len (beats_most * c.args.j) (there c.args.accepted.burst c.args.accepted.accepted c.args.j c.requires).0 in
    let x = c.args.accepted.burst in
    let start = c.address_of.ensures ∙ ap (beat_address x) (inside x (beats_most * c.args.j) (there x c.args.accepted.accepted c.args.j c.requires).0) in
    λ i. record {
      start = start i;
      len = len i;
      size = c.args.accepted.burst.size;
      kind = c.args.accepted.burst.kind;
      bus = c.args.accepted.burst.bus;
    }
