-- `burst::start_refused` meets its contract: only WRAP asks for an aligned start. Assumes nothing.
use mathlib.Core.Bool.{true, false, not}
use mathlib.Core.Path.{◌≡◌, refl, ◌∙◌}
use Prim.Native.Nat.{ℕ, ◌%◌, ◌^◌}
use lib.Dec.{eqb}
use denote.Enum.Bare.{sameb}
use Rattle.burst_spec.specs.contracts.Kind.{the_type}
use Rattle.burst_spec.specs.declared.Kind.{Kind}
use Rattle.burst_spec.specs.declared.Kind.TheVariants.{Fixed, Incr, Wrap, Reserved}
use Rattle.burst_spec.specs.Checks.{misaligned}
use Rattle.burst_spec.proofs.Known.{clash}
use Rattle.burst.proofs.start_refused.Goals as goal

at-wrap : (m : Kind) (s b : ℕ) → true ≡ sameb the_type m Wrap → not (eqb (s % b) 0) ≡ misaligned m s b
unfolding misaligned
at-wrap Fixed s b e = absurd (clash cc)
at-wrap Incr s b e = absurd (clash cc)
at-wrap Wrap s b e = refl
at-wrap Reserved s b e = absurd (clash cc)

at-other : (m : Kind) (s b : ℕ) → false ≡ sameb the_type m Wrap → false ≡ misaligned m s b
unfolding misaligned
at-other Fixed s b e = refl
at-other Incr s b e = refl
at-other Wrap s b e = absurd (clash cc)
at-other Reserved s b e = refl

pub returns-then-eq : goal.returns-then-eq
returns-then-eq c =
    rw (c.low_part.ensures, c.bytes_of.ensures) (at-wrap c.args.b.kind c.args.b.start (2 ^ c.args.b.size) c.if-eq.ensures)

pub returns-else-eq : goal.returns-else-eq
returns-else-eq c = c.if-eq.false ∙ at-other c.args.b.kind c.args.b.start (2 ^ c.args.b.size) c.if-eq.ensures
