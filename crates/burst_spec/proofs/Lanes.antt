-- Byte lanes: a beat lies in one row of the bus, so its lower lane is at most its upper one. Assumes nothing.
use mathlib.Core.Path.{◌≡◌}
use Prim.Native.Nat.{ℕ, ◌+◌, ◌*◌, ◌/◌, ◌%◌, ◌^◌, ◌≤◌, ◌<◌}
use native.Mathlib.Nat.{div-add-mod', mod-lt}
use native.Mathlib.Omega.{arith}
use lib.Pow.{pow_pos}
use Rattle.burst_spec.specs.declared.Burst.{Burst}
use Rattle.burst_spec.specs.Address.{highest_byte, lower_lane, upper_lane, bytes, beat_address, beat_of}
use Rattle.burst_spec.specs.Legal.{Legal}
use Rattle.burst_spec.proofs.Known.{known, Known}
use Rattle.burst_spec.proofs.Rounding.{round_near, highest_quotient, coarser}

-- the two lanes of a beat, as the bytes' distance from the start of the bus row that the address is in
pub record InRow (a b bus : ℕ) : Type 0 where
  pub lower : lower_lane a bus + a / bus * bus ≡ a
  pub upper : upper_lane a b bus + a / bus * bus ≡ highest_byte a b
  pub order : lower_lane a bus ≤ upper_lane a b bus
  pub inside : upper_lane a b bus < bus

lanes : (a i j : ℕ) → i ≤ j → InRow a (2 ^ i) (2 ^ j)
lanes a i j h =
    let same : highest_byte a (2 ^ i) / 2 ^ j ≡ a / 2 ^ j = coarser (highest_byte a (2 ^ i)) a h (highest_quotient a (2 ^ i) (pow_pos i)) in
    let l : a % 2 ^ j + a / 2 ^ j * 2 ^ j ≡ a = omega (arith, div-add-mod' a (2 ^ j)) in
    let u : highest_byte a (2 ^ i) % 2 ^ j + a / 2 ^ j * 2 ^ j ≡ highest_byte a (2 ^ i) =
    omega (arith, rw same at (div-add-mod' (highest_byte a (2 ^ i)) (2 ^ j)))
    in
    record {
      lower = l;
      upper = u;
      order = omega (arith, round_near a (2 ^ i) (pow_pos i));
      inside = mod-lt (highest_byte a (2 ^ i)) (pow_pos j);
    }

pub in_row : (x : Burst) → Legal x → (a : ℕ) → InRow a (bytes x) x.bus
in_row x l a = go (known x l)
  where
    go : Known x → InRow a (bytes x) x.bus
    go y = rw y.bus.is (lanes a x.size y.bus.log y.narrow)

-- a beat's lanes go upwards, and are lanes of the bus
pub lanes_ordered : (x : Burst) → Legal x → (k : ℕ) → ((beat_of x k).lower ≤ (beat_of x k).upper) × ((beat_of x k).upper < x.bus)
lanes_ordered x l k = ((in_row x l (beat_address x k)).order, (in_row x l (beat_address x k)).inside)
