-- Every worked case comes out as it says: by computing. Assumes nothing.
use mathlib.Core.List.{map}
use mathlib.Core.Path.{◌≡◌, refl}
use Rattle.burst_spec.specs.Address.{round_down, incr_address, wrap_address, address_by}
use Rattle.burst_spec.specs.Checks.{some_below, bus_allowed, count_allowed, misaligned, crosses_by}
use Rattle.axi3_spec.specs.Cut.{count_by, piece, run, joined}
use Rattle.axi3_spec.specs.Cases.{computed, cut_cases}

pub every_case : map computed cut_cases ≡ cut_cases
unfolding round_down incr_address wrap_address address_by some_below bus_allowed count_allowed misaligned crosses_by count_by piece run joined
every_case = refl
