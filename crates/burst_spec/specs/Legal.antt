-- What the code may count on once checks have passed: 7 to 11, and then 12 too. The refusals themselves are in Checks.
use Rattle.std.specs.Prelude.{true, false, ◌≡◌, ℕ, ◌^◌}
use Rattle.burst_spec.specs.declared.Burst.{Burst}
use Rattle.burst_spec.specs.Address.{bytes}
use Rattle.burst_spec.specs.Checks.{bus_allowed, too_wide, is_reserved, count_refused, misaligned, crosses}

-- A power of two: what an address is rounded to. A beat, a bus, a wrapping burst and a 4KB block each have a power of two of bytes.
pub record Power (x : ℕ) : Type 0 where
  pub log : ℕ
  pub is : x ≡ 2 ^ log

-- none of 7 to 11 holds
pub record Legal (x : Burst) : Type 0 where
  pub bus : bus_allowed x.bus ≡ true
  pub size : too_wide x ≡ false
  pub kind : is_reserved x.kind ≡ false
  pub count : count_refused x ≡ false
  pub start : misaligned x.kind x.start (bytes x) ≡ false

-- none of 7 to 12 holds: the bursts that are accepted
pub record Accepted (x : Burst) : Type 0 where
  pub legal : Legal x
  pub inside : crosses x ≡ false
