-- `text::put_decimal` meets its contract: what is put is std's text of the number. Assumes nothing.
use mathlib.Core.Path.{ap}
use native.Mathlib.Omega.{arith}
use lib.ListN.{length}
use Rattle.text.proofs.Laws.{decimal_std}
use Rattle.text.proofs.put_decimal.Goals as goal

pub put_octets-requires : goal.put_octets-requires
put_octets-requires c =
    omega (arith, c.requires, ap length (decimal_std c.args.n (omega arith)), ap length c.format.ensures.text, ap length c.as_bytes.ensures.value)

pub returns : goal.returns
returns c = rw (decimal_std c.args.n (omega arith)) (rw (c.as_bytes.ensures.value, c.format.ensures.text) at c.put_octets.ensures)
