-- Where the beats of a burst lie (paper 01, 'Bursts'; source 004, A3.4.1), over natural numbers, so no address overflows.
-- Which bursts are allowed is in Checks; Arm's pseudo code, which decides, is in Transfer.
-- s, b and n are paper 01's S, B and N: the start address, the bytes in a beat, the beats; a is any address.
use Rattle.std.specs.Prelude.{Bool, cond, ℕ, zero, suc, ◌+◌, ◌-◌, ◌*◌, ◌/◌, ◌%◌, ◌^◌, eqb, ℤ, pos}
use Rattle.std.proofs.Math.IntN.{sub_ℕ}
use Rattle.burst_spec.specs.declared.Beat.{Beat}
use Rattle.burst_spec.specs.declared.Burst.{Burst}
use Rattle.burst_spec.specs.declared.Kind.{Kind}
use Rattle.burst_spec.specs.declared.Kind.TheVariants.{Fixed, Incr, Wrap, Reserved}

-- "AxLEN (beats less one)": Burst_Length = AxLEN + 1
abbrev pub beats : Burst → ℕ
beats x = x.len + 1

-- "a beat has 2 to the power AxSIZE bytes": Number_Bytes = 2 ^ AxSIZE
abbrev pub bytes : Burst → ℕ
bytes x = 2 ^ x.size

-- "rounded down to a multiple of b": INT(a / b) × b
unfoldable pub round_down : ℕ → ℕ → ℕ
round_down a b = a / b * b

-- Aligned_Address, paper 01's A: the start rounded down to a multiple of the beat's bytes
abbrev pub aligned : ℕ → ℕ → ℕ
aligned s b = round_down s b

-- Wrap_Boundary: "The lowest address is S rounded down to a multiple of B*N."
abbrev pub wrap_boundary : ℕ → ℕ → ℕ → ℕ
wrap_boundary s b n = round_down s (b * n)

-- "INCR: beat 0 is at S, beat k at A + k*B."
unfoldable pub incr_address : ℕ → ℕ → ℕ → ℕ
incr_address s b zero = s
incr_address s b (suc k) = aligned s b + suc k * b

-- "an address that reaches lowest + B*N becomes lowest": whether the address a does. A3.4.2 tests >= here; since 11
-- refuses an unaligned start, no address passes the boundary without reaching it, and the law of proofs/Transfer holds.
abbrev pub wraps : ℕ → ℕ → ℕ → ℕ → Bool
wraps s b n a = eqb a (wrap_boundary s b n + b * n)

-- WRAP: beat 0 is at S, and each next beat one beat further, but for the wrap
unfoldable pub wrap_address : ℕ → ℕ → ℕ → ℕ → ℕ
wrap_address s b n zero = s
wrap_address s b n (suc k) =
    cond (wraps s b n (wrap_address s b n k + b)) (wrap_boundary s b n) (wrap_address s b n k + b)

-- The address of beat k by kind. "FIXED: every beat at S, with the same lanes." A burst of the reserved kind is refused
-- before anything reads its line here.
unfoldable pub address_by : Kind → ℕ → ℕ → ℕ → ℕ → ℕ
address_by Fixed s b n k = s
address_by Incr s b n k = incr_address s b k
address_by Wrap s b n k = wrap_address s b n k
address_by Reserved s b n k = s

abbrev pub beat_address : Burst → ℕ → ℕ
beat_address x k = address_by x.kind x.start (bytes x) (beats x) k

-- The highest byte that a beat at this address has: "the address rounded down to a multiple of B, plus B - 1"
abbrev pub highest_byte : ℕ → ℕ → ℕ
highest_byte a b = round_down a b + (b - 1)

-- Lower_Byte_Lane: "lower is address mod bus"
abbrev pub lower_lane : ℕ → ℕ → ℕ
lower_lane a bus = a % bus

-- Upper_Byte_Lane: "(the address rounded down to a multiple of B, plus B - 1) mod bus"
abbrev pub upper_lane : ℕ → ℕ → ℕ → ℕ
upper_lane a b bus = highest_byte a b % bus

-- the beat at an address, and beat k of a burst
abbrev pub beat_at : Burst → ℕ → Beat
beat_at x a = record { address = a; lower = lower_lane a x.bus; upper = upper_lane a (bytes x) x.bus }

abbrev pub beat_of : Burst → ℕ → Beat
beat_of x k = beat_at x (beat_address x k)

-- "The step from beat k to beat k + 1 is a signed number: 0 for FIXED, B less (S - A) at first and then B for INCR, B for
-- WRAP but B - B*N at a wrap." That it is the difference of the two addresses is a law (proofs/Step).
unfoldable pub incr_step : ℕ → ℕ → ℕ → ℤ
incr_step s b zero = sub_ℕ b (s - aligned s b)
incr_step s b (suc k) = pos b

unfoldable pub wrap_step : ℕ → ℕ → ℕ → ℕ → ℤ
wrap_step s b n k = cond (wraps s b n (wrap_address s b n k + b)) (sub_ℕ b (b * n)) (pos b)

unfoldable pub step_by : Kind → ℕ → ℕ → ℕ → ℕ → ℤ
step_by Fixed s b n k = pos 0
step_by Incr s b n k = incr_step s b k
step_by Wrap s b n k = wrap_step s b n k
step_by Reserved s b n k = pos 0

abbrev pub beat_step : Burst → ℕ → ℤ
beat_step x k = step_by x.kind x.start (bytes x) (beats x) k
