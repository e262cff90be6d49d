-- Every case of the list is answered as it says: by computing. The two cases that paper 01's 'Errors that look right' names
-- stand once more by themselves, so that what refuses the error has the case's name. Assumes nothing.
use mathlib.Core.List.{List, [], ◌∷◌, map}
use mathlib.Core.Path.{◌≡◌, refl}
use lib.ListN.{length}
use Rattle.burst_spec.specs.Address.{round_down, incr_address, wrap_address, address_by, incr_step, wrap_step, step_by}
use Rattle.burst_spec.specs.Checks.{some_below, bus_allowed, count_allowed, misaligned, crosses_by}
use Rattle.burst_spec.specs.Cases.{Case, b1, b2, b3, b4, burst_cases, computed}

abbrev pub Hold : List Case → Type 0
Hold cs = map computed cs ≡ cs

pub every_case : Hold burst_cases
unfolding round_down incr_address wrap_address address_by incr_step wrap_step step_by some_below bus_allowed count_allowed misaligned crosses_by
every_case = refl

pub case-b2 : Hold b2
unfolding round_down incr_address wrap_address address_by incr_step wrap_step step_by some_below bus_allowed count_allowed misaligned crosses_by
case-b2 = refl

pub case-b4 : Hold b4
unfolding round_down incr_address wrap_address address_by incr_step wrap_step step_by some_below bus_allowed count_allowed misaligned crosses_by
case-b4 = refl

-- no entry of a case has gone: accepted and three beats; and 16 beats; and four beats and three steps; two judgements
pub starred-whole : map (λ (cs : List Case). length cs) (b1 ∷ b2 ∷ b3 ∷ b4 ∷ []) ≡ 4 ∷ 17 ∷ 8 ∷ 2 ∷ []
starred-whole = refl
