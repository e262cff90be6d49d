-- `stream_record::user_bits` meets its contract: sixteen lanes of four bits at most. Assumes nothing.
use mathlib.Core.Path.{refl}
use native.Mathlib.Omega.{arith}
use Rattle.stream_spec.proofs.Size.{users_most}
use Rattle.stream_record.proofs.user_bits.Goals as goal

pub overflow_mul-result : goal.overflow_mul-result
overflow_mul-result c = omega (arith, users_most c.args.s c.requires.width c.requires.user)

pub returns : goal.returns
returns c = (refl, users_most c.args.s c.requires.width c.requires.user)
