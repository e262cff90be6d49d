-- `burst::low_part` meets its contract: a mask of one less than a power of two leaves the remainder. Assumes nothing.
use Rattle.burst.proofs.Masks.{low_masked}
use Rattle.burst.proofs.low_part.Goals as goal

pub returns : goal.returns
returns c = low_masked c.args.address c.args.bytes c.requires
