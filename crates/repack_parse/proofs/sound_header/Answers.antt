-- `repack_parse::sound_header` meets its contract: without user bits the header tells all. Assumes nothing.
use native.Mathlib.Omega.{arith}
use Rattle.stream_spec.specs.Layout.{of_width}
use Rattle.stream_spec.proofs.Size.{size_holds}
use Rattle.repack_parse.proofs.sound_header.Goals as goal

pub read_header-h-requires : goal.read_header-h-requires
read_header-h-requires c = omega (arith, c.requires, size_holds (of_width c.args.lanes.width))
