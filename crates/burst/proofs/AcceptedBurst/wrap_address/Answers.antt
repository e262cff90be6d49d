-- `AcceptedBurst::wrap_address` meets its contract: the offset goes round in a container that is a power of two.
-- Assumes nothing.
use mathlib.Core.Path.{◌≡◌}
use Prim.Native.Nat.{◌+◌, ◌*◌}
use native.Mathlib.Omega.{arith}
use Rattle.burst_spec.specs.Address.{beat_address}
use Rattle.burst_spec.specs.Legal.{Power}
use Rattle.burst.proofs.Formulas.{address_bits, container_power, offset_small, wrap_formula, address-fits, lt_by}
use Rattle.burst.proofs.AcceptedBurst.wrap_address.Goals as goal

pub low_part-requires : goal.low_part-requires
low_part-requires c =
    let container : Power (c.bytes_of-bytes.result * c.wide.result) = rw (c.wide.ensures, c.bytes_of-bytes.ensures) (container_power c.args.self.burst c.args.self.accepted.legal c.requires.0) in
    container

pub overflow_add-offset : goal.overflow_add-offset
overflow_add-offset c =
    rw (c.low_part.ensures, c.wide-2.ensures, c.wide.ensures, c.bytes_of-bytes.ensures)
    (omega (arith, offset_small c.args.self.burst c.args.self.accepted.legal c.requires.0 c.args.k (omega (arith, c.requires.1))))

pub round_down-boundary-requires : goal.round_down-boundary-requires
round_down-boundary-requires c =
    let container : Power (c.bytes_of-bytes.result * c.wide.result) = rw (c.wide.ensures, c.bytes_of-bytes.ensures) (container_power c.args.self.burst c.args.self.accepted.legal c.requires.0) in
    container

pub low_part-turned-requires : goal.low_part-turned-requires
low_part-turned-requires c =
    let container : Power (c.bytes_of-bytes.result * c.wide.result) = rw (c.wide.ensures, c.bytes_of-bytes.ensures) (container_power c.args.self.burst c.args.self.accepted.legal c.requires.0) in
    container

pub overflow_add-result : goal.overflow_add-result
overflow_add-result c =
    let sum_is : let s = c.args in
    c.round_down-boundary.result + c.low_part-turned.result ≡ beat_address s.self.burst s.k = rw (
      c.round_down-boundary.ensures,
      c.low_part-turned.ensures,
      c.low_part.ensures,
      c.wide-2.ensures,
      c.wide.ensures,
      c.bytes_of-bytes.ensures,
    )
    (wrap_formula c.args.self.burst c.args.k c.args.self.accepted.legal c.requires.0) in
    record { fits = lt_by sum_is (address-fits c.args.self.burst c.args.k address_bits (omega arith) (omega (arith, c.well_formed)) c.args.self.accepted c.requires.1) }

pub returns : goal.returns
returns c =
    let sum_is : let s = c.args in
    c.round_down-boundary.result + c.low_part-turned.result ≡ beat_address s.self.burst s.k = rw (
      c.round_down-boundary.ensures,
      c.low_part-turned.ensures,
      c.low_part.ensures,
      c.wide-2.ensures,
      c.wide.ensures,
      c.bytes_of-bytes.ensures,
    )
    (wrap_formula c.args.self.burst c.args.k c.args.self.accepted.legal c.requires.0) in
    sum_is
