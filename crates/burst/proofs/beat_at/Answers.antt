-- `burst::beat_at` meets its contract: a beat's highest byte lies in the memory that its address lies in.
-- Assumes nothing.
use mathlib.Core.Path.{◌≡◌, ap, ◌∙◌}
use Prim.Native.Nat.{◌+◌, ◌-◌, ◌%◌, ◌≤◌}
use native.Mathlib.Omega.{arith}
use Rattle.burst_spec.specs.Address.{highest_byte, bytes}
use Rattle.burst_spec.specs.Legal.{Power}
use Rattle.burst_spec.proofs.Known.{size_small}
use Rattle.burst.proofs.Formulas.{address_bits, bus-is_power, lane-small, highest_fits, lt_by}
use Rattle.burst.proofs.beat_at.Goals as goal

pub overflow_add-highest : goal.overflow_add-highest
overflow_add-highest c =
    let highest-is : c.round_down-first.result + (c.bytes_of-bytes.result - 1) ≡ highest_byte c.args.address (bytes c.args.b) = rw (c.round_down-first.ensures, c.bytes_of-bytes.ensures) in
    let small : c.args.b.size ≤ address_bits = omega (arith, size_small c.args.b c.requires) in
    record { fits = lt_by highest-is (highest_fits address_bits c.args.b.size c.args.address small c.ranges.address.fits) }

pub low_part-requires : goal.low_part-requires
low_part-requires c =
    let bus : Power c.wide-bus.result = rw c.wide-bus.ensures (bus-is_power c.args.b c.requires) in
    bus

pub lane-requires : goal.lane-requires
lane-requires c =
    let lower-is : c.low_part.result ≡ c.args.address % c.args.b.bus = c.low_part.ensures ∙ ap (λ m. c.args.address % m) c.wide-bus.ensures in
    lt_by lower-is (lane-small c.args.b c.requires c.args.address)

pub low_part-requires-2 : goal.low_part-requires-2
low_part-requires-2 c =
    let bus : Power c.wide-bus.result = rw c.wide-bus.ensures (bus-is_power c.args.b c.requires) in
    bus

pub lane-requires-2 : goal.lane-requires-2
lane-requires-2 c =
    let highest-is : c.round_down-first.result + (c.bytes_of-bytes.result - 1) ≡ highest_byte c.args.address (bytes c.args.b) = rw (c.round_down-first.ensures, c.bytes_of-bytes.ensures) in
    let upper_is : c.low_part-2.result
    ≡ highest_byte c.args.address (bytes c.args.b) % c.args.b.bus = c.low_part-2.ensures
    ∙ ap (λ h. h % c.wide-bus.result) highest-is
    ∙ ap (λ m. highest_byte c.args.address (bytes c.args.b) % m) c.wide-bus.ensures in
    lt_by upper_is (lane-small c.args.b c.requires (highest_byte c.args.address (bytes c.args.b)))
