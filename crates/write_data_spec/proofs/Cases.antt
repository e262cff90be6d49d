-- Every worked case comes out as it says: by computing. Assumes nothing.
use mathlib.Core.List.{map}
use mathlib.Core.Path.{◌≡◌, refl}
use Rattle.burst_spec.specs.Address.{round_down, incr_address, wrap_address, address_by}
use Rattle.burst_spec.specs.Checks.{some_below, bus_allowed, count_allowed, misaligned, crosses_by}
use Rattle.write_data_spec.specs.Layout.{beat_size, strobe, count_below}
use Rattle.write_data_spec.specs.Rules.{w1}
use Rattle.write_data_spec.specs.Answers.{field_fault}
use Rattle.write_data_spec.specs.Cases.{computed, write_cases}

pub every_case : map computed write_cases ≡ write_cases
unfolding round_down incr_address wrap_address address_by some_below bus_allowed count_allowed misaligned crosses_by beat_size strobe count_below w1 field_fault
every_case = refl
