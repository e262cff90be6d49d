-- `burst::round_down` meets its contract: all bits but the mask's are the address rounded down. Assumes nothing.
use native.Mathlib.Omega.{arith}
use Rattle.burst.proofs.Formulas.{address_bits}
use Rattle.burst.proofs.Masks.{round_masked}
use Rattle.burst.proofs.round_down.Goals as goal

pub returns : goal.returns
returns c = round_masked address_bits c.args.address c.args.bytes c.requires (omega (arith, c.well_formed)) (omega (arith, c.well_formed))
