-- `axi3::piece_count` meets its contract: for every kind that is accepted, it is the beats in sixteens, rounded up.
-- Assumes nothing.
use native.Mathlib.Omega.{arith}
use Rattle.axi3_spec.proofs.Pieces.{count-is}
use Rattle.axi3.proofs.piece_count.Goals as goal

pub returns : goal.returns
returns c = omega (arith, count-is c.args.accepted.burst c.args.accepted.accepted.legal)
