-- Each law with a premise, applied to a burst of paper 01's cases or to one at the top of memory: so the premises can be met.
-- Which bursts meet `Legal` and `Accepted` is exact by Answers, accepted-exactly. Assumes nothing.
use Rattle.std.specs.Prelude.{Ok, Err}
use mathlib.Core.Path.{◌≡◌, refl}
use mathlib.Core.Bool.{false}
use Prim.Native.Nat.{◌<◌, ◌≤◌, ◌/◌, ◌^◌}
use native.Mathlib.Omega.{arith}
use lib.IntN.{pos, negsuc}
use lib.Signed.{◌≤ℤ◌}
use Rattle.burst_spec.specs.declared.Burst.{Burst}
use Rattle.burst_spec.specs.Address.{round_down, incr_address, wrap_address, address_by, wrap_step, step_by}
use Rattle.burst_spec.specs.Checks.{block as blockBytes, some_below, bus_allowed, count_allowed, misaligned, crosses, crosses_by}
use Rattle.burst_spec.specs.Transfer.{transfer}
use Rattle.burst_spec.specs.Legal.{Accepted}
use Rattle.burst_spec.specs.Answers.{burst_of, judgement}
use Rattle.burst_spec.proofs.Known.{clash}
use Rattle.burst_spec.proofs.Block.{only_incr, one_block, accepted_in_memory}
use Rattle.burst_spec.proofs.Lanes.{lanes_ordered}
use Rattle.burst_spec.proofs.Transfer.{transfer-is}
use Rattle.burst_spec.proofs.Step.{step_in_range}
use Rattle.burst_spec.proofs.Answers.{accepted_exactly}

-- B2, B3, B4's accepted burst, and the burst that ends at the very last address of 32-bit memory
abbrev fixed : Burst
fixed = burst_of 0x1002 15 2 0 4

abbrev wrapping : Burst
wrapping = burst_of 0x34 3 2 2 8

abbrev fenced : Burst
fenced = burst_of 0xFF2 3 2 1 4

abbrev top : Burst
top = burst_of 0xFFFF_FFF1 3 2 1 4

accepts : (x : Burst) → judgement x ≡ Ok tt → Accepted x
accepts x e = (accepted_exactly x).0 e

fixed_accepted : Accepted fixed
unfolding round_down incr_address wrap_address address_by some_below bus_allowed count_allowed misaligned crosses_by
fixed_accepted = accepts fixed refl

wrapping_accepted : Accepted wrapping
unfolding round_down incr_address wrap_address address_by some_below bus_allowed count_allowed misaligned crosses_by
wrapping_accepted = accepts wrapping refl

fenced_accepted : Accepted fenced
unfolding round_down incr_address wrap_address address_by some_below bus_allowed count_allowed misaligned crosses_by
fenced_accepted = accepts fenced refl

top_accepted : Accepted top
unfolding round_down incr_address wrap_address address_by some_below bus_allowed count_allowed misaligned crosses_by
top_accepted = accepts top refl

-- B2's last beat by A3.4.2: lanes 2 to 3
pub pseudo_code : transfer fixed 15 ≡ record { address = 0x1002; lower = 2; upper = 3 }
unfolding round_down address_by
pseudo_code = transfer-is fixed fixed_accepted.legal 15

-- B3's wrap lies in the range of a step
pub step : (negsuc 1919 ≤ℤ negsuc 11) × (negsuc 11 ≤ℤ pos 128)
unfolding round_down wrap_address wrap_step step_by
step = step_in_range wrapping wrapping_accepted.legal 2

pub lanes : (4 ≤ 7) × (7 < 8)
unfolding round_down wrap_address address_by
lanes = lanes_ordered wrapping wrapping_accepted.legal 2

-- a wrapping burst is not an incrementing one
pub never : crosses wrapping ≡ false
never = only_incr wrapping wrapping_accepted.legal (λ e. clash cc)

-- the last byte of B4's burst, 0xFFF, and the last byte of memory
pub block : 0xFFF / blockBytes ≡ 0xFF2 / blockBytes
unfolding round_down incr_address address_by
block = one_block fenced fenced_accepted 3 0xFFF (omega arith) (omega arith) (omega arith)

pub memory : 0xFFFF_FFFF < 2 ^ 32
unfolding round_down incr_address address_by
memory = accepted_in_memory 32 top (omega arith) (omega arith) top_accepted 3 0xFFFF_FFFF (omega arith) (omega arith) (omega arith)
