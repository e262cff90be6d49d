-- `AcceptedBurst::address_inside` meets its contract: each kind has its address. Assumes nothing.
use Rattle.burst_spec.specs.Address.{address_by}
use Rattle.burst_spec.specs.declared.Kind.TheVariants.{Fixed}
use Rattle.burst.proofs.Formulas.{at-kind}
use Rattle.burst.proofs.AcceptedBurst.address_inside.Goals as goal

pub returns-in-Fixed : goal.returns-in-Fixed
unfolding address_by
returns-in-Fixed c = at-kind c.args.self.burst c.args.k Fixed c.in-Fixed.is
