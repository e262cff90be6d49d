-- `burst::leaves_block` meets its contract: the test of INCR is the 4KB rule, and no other kind can break it.
-- Assumes nothing.
use mathlib.Core.Bool.{true, false, not}
use mathlib.Core.Path.{◌≡◌, refl}
use denote.Enum.Bare.{sameb}
use Rattle.burst_spec.specs.contracts.Kind.{the_type}
use Rattle.burst_spec.specs.declared.Kind.{Kind}
use Rattle.burst_spec.specs.declared.Kind.TheVariants.{Fixed, Incr, Wrap, Reserved}
use Rattle.burst_spec.proofs.Block.{block_bits}
use Rattle.burst_spec.proofs.Known.{clash}
use Rattle.burst.proofs.Formulas.{power, other-kind-inside, incr_test}
use Rattle.burst.proofs.leaves_block.Goals as goal

other-kind : (m : Kind) → true ≡ not (sameb the_type m Incr) → m ≡ Incr → ⊥
other-kind Fixed e f = clash cc
other-kind Incr e f = clash cc
other-kind Wrap e f = clash cc
other-kind Reserved e f = clash cc

incr : (m : Kind) → false ≡ not (sameb the_type m Incr) → m ≡ Incr
incr Fixed e = absurd (clash cc)
incr Incr e = refl
incr Wrap e = absurd (clash cc)
incr Reserved e = absurd (clash cc)

pub returns-then-ne : goal.returns-then-ne
returns-then-ne c =
    other-kind-inside c.args.b c.requires c.args.b.kind refl (other-kind c.args.b.kind c.if-ne.ensures)

pub low_part-offset-requires : goal.low_part-offset-requires
low_part-offset-requires c = power block_bits

pub returns : goal.returns
returns c =
    rw (c.low_part-offset.ensures, c.wide-beats.ensures)
    (incr_test c.args.b c.requires (incr c.args.b.kind c.if-ne.ensures)
    c.round_down-aligned.result c.bytes_of-bytes.result
    c.round_down-aligned.ensures c.bytes_of-bytes.ensures)
