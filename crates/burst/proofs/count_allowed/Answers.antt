-- `burst::count_allowed` meets its contract: each arm is the line of its kind. Assumes nothing.
use mathlib.Core.Bool.{false}
use mathlib.Core.List.{List, [], ◌∷◌}
use mathlib.Core.Path.{refl, sym}
use Prim.Native.Nat.{ℕ}
use native.Mathlib.Omega.{arith}
use Rattle.burst_spec.specs.Checks.{count_allowed}
use Rattle.burst.proofs.Tests.{among-yes, none-among, between-yes, between_below, between-above}
use Rattle.burst.proofs.count_allowed.Goals as goal

-- how many beats WRAP may have
abbrev counts : List ℕ
counts = 2 ∷ 4 ∷ 8 ∷ 16 ∷ []

pub returns-in-1-to-16 : goal.returns-in-1-to-16
unfolding count_allowed
returns-in-1-to-16 c = rw c.in-Fixed.is (sym (between-yes 1 16 c.args.beats (omega arith) (omega arith)))

pub returns-in_default : goal.returns-in_default
unfolding count_allowed
returns-in_default c = rw c.in-Fixed.is (sym (between_below 1 16 c.args.beats (omega arith)))

pub returns-in_default-2 : goal.returns-in_default-2
unfolding count_allowed
returns-in_default-2 c = rw c.in-Fixed.is (sym (between-above 1 16 c.args.beats (omega arith) (omega arith)))

pub returns-in-1-to-256 : goal.returns-in-1-to-256
unfolding count_allowed
returns-in-1-to-256 c = rw c.in-Incr.is (sym (between-yes 1 256 c.args.beats (omega arith) (omega arith)))

pub returns-in_default-matches : goal.returns-in_default-matches
unfolding count_allowed
returns-in_default-matches c = rw c.in-Incr.is (sym (between_below 1 256 c.args.beats (omega arith)))

pub returns-in_default-matches-3 : goal.returns-in_default-matches-3
unfolding count_allowed
returns-in_default-matches-3 c = rw c.in-Incr.is (sym (between-above 1 256 c.args.beats (omega arith) (omega arith)))

pub returns-in-2 : goal.returns-in-2
unfolding count_allowed
returns-in-2 c =
    rw c.in-Wrap.is
    (sym (among-yes counts counts c.args.beats (refl, (refl, (refl, (refl, tt)))) c.in-2.is))

pub returns-in_default-matches-2 : goal.returns-in_default-matches-2
unfolding count_allowed
returns-in_default-matches-2 c =
    rw c.in-Wrap.is
    (sym (none-among counts counts (λ y. false) c.args.beats (tt, (tt, (tt, (tt, tt)))) c.in_default-matches-2.in_default-matches-2-own.rest.1 refl))

pub returns-in-Reserved : goal.returns-in-Reserved
unfolding count_allowed
returns-in-Reserved c = rw c.in-Reserved.is
