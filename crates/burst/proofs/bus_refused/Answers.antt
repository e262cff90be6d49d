-- `burst::bus_refused` meets its contract: the arms are the list of allowed widths. 1 | 2 is tested as a range. Assumes nothing.
use mathlib.Core.Bool.{false, not}
use mathlib.Core.List.{List, [], ◌∷◌}
use mathlib.Core.Path.{◌≡◌, refl, sym, ap, ◌∙◌}
use Prim.Native.Nat.{ℕ}
use native.Mathlib.Omega.{arith}
use types.Run.{OneOf}
use Rattle.burst_spec.specs.Checks.{bus_allowed, between}
use Rattle.burst.proofs.Tests.{among-yes, none-among, one_or_two, between_below, between-above}
use Rattle.burst.proofs.bus_refused.Goals as goal
use Rattle.burst.proofs.bus_refused.Goals.{in_default, in_default-2, in-1, in-1-2}

abbrev widths : List ℕ
widths = 1 ∷ 2 ∷ 4 ∷ 8 ∷ 16 ∷ 32 ∷ 64 ∷ 128 ∷ []

-- those that are keys of the arm
abbrev keys : List ℕ
keys = 4 ∷ 8 ∷ 16 ∷ 32 ∷ 64 ∷ 128 ∷ []

-- a bus that is no key, and neither 1 nor 2
refused : (bus : ℕ) → (OneOf keys bus → ⊥) → between 1 2 bus ≡ false → bus_allowed bus ≡ false
unfolding bus_allowed
refused bus none small =
    none-among keys widths (between 1 2) bus (tt, (tt, (tt, (tt, (tt, (tt, (tt, (tt, tt)))))))) none small

pub returns : goal.returns
unfolding bus_allowed
returns c =
    let bus = c.args.bus in
    elim c.match-matches.branch [
      | in_default w ↦ ap not (w.matches-is ∙ sym (refused bus w.in_default.in_default-own.rest.1 (between_below 1 2 bus (omega arith))))
      | in_default-2 w ↦ ap not (w.matches-is ∙ sym (refused bus w.in_default.in_default-own.rest.1 (between-above 1 2 bus (omega arith) (omega arith))))
      | in-1 w ↦ ap not (w.matches-is ∙ sym (among-yes keys widths bus (refl, (refl, (refl, (refl, (refl, (refl, tt)))))) w.in-1.is))
      | in-1-2 w ↦ ap not (w.matches-is ∙ sym (one_or_two widths bus (refl, (refl, tt)) (omega arith) (omega arith)))
    ]
