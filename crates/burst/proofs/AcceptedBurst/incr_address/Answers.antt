-- `AcceptedBurst::incr_address` meets its contract: the formula of A3.4.1, whose result lies in the block that the start lies in.
-- Assumes nothing.
use mathlib.Core.Path.{◌≡◌}
use Prim.Native.Nat.{◌+◌, ◌*◌}
use native.Mathlib.Omega.{arith}
use Rattle.burst_spec.specs.Address.{beat_address}
use Rattle.burst.proofs.Formulas.{address_bits, incr_first, incr_later, address-fits, lt_by}
use Rattle.burst.proofs.AcceptedBurst.incr_address.Goals as goal

pub returns-then-k-eq0 : goal.returns-then-k-eq0
returns-then-k-eq0 c = incr_first c.args.self.burst c.args.k c.requires.0 c.if-k-eq0.true

pub overflow_add-result : goal.overflow_add-result
overflow_add-result c =
    let sum_is : c.round_down-aligned.result + c.wide.result * c.bytes_of-bytes.result ≡ beat_address c.args.self.burst c.args.k = rw (c.round_down-aligned.ensures, c.wide.ensures, c.bytes_of-bytes.ensures)
    (incr_later c.args.self.burst c.args.k c.requires.0 c.if-k-eq0.false) in
    record { fits = lt_by sum_is (address-fits c.args.self.burst c.args.k address_bits (omega arith) (omega (arith, c.well_formed)) c.args.self.accepted c.requires.1) }

pub returns : goal.returns
returns c =
    let sum_is : c.round_down-aligned.result + c.wide.result * c.bytes_of-bytes.result ≡ beat_address c.args.self.burst c.args.k = rw (c.round_down-aligned.ensures, c.wide.ensures, c.bytes_of-bytes.ensures)
    (incr_later c.args.self.burst c.args.k c.requires.0 c.if-k-eq0.false) in
    sum_is
