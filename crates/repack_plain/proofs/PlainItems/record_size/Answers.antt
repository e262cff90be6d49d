-- A record's size without user bits. Assumes nothing.
use native.Mathlib.Omega.{arith}
use Rattle.stream_spec.specs.Layout.{shaped}
use Rattle.stream_spec.proofs.Size.{size-most}
use Rattle.repack_plain.proofs.PlainItems.record_size.Goals as goal

pub returns : goal.returns
returns c =
    let most = size-most (shaped c.args.v 0) c.requires (omega arith) in
    (c.record_size.ensures, omega (arith, c.record_size.ensures, most))
