-- A record's size with user bits. Assumes nothing.
use mathlib.Core.Path.{ap, ◌∙◌}
use native.Mathlib.Omega.{arith}
use Rattle.stream_spec.specs.Layout.{size, shaped}
use Rattle.stream_spec.proofs.Size.{size-most}
use Rattle.repack_tags.proofs.TaggedItems.record_size.Goals as goal

pub returns : goal.returns
returns c =
    let is = c.record_size.ensures ∙ ap size c.shape_of.ensures in
    (is, omega (arith, is, size-most (shaped c.args.v c.args.self.now.user) c.requires c.args.self.now.narrow))
