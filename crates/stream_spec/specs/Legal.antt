-- Legal streams (paper 01, "Demand 3's words").
use Rattle.std.specs.Prelude.{◌≡◌, List, [], ◌∷◌, ℕ, ◌≤◌, ◌<◌, ◌%◌, length, None}
use Rattle.stream_spec.specs.declared.Shape.{Shape}
use Rattle.stream_spec.specs.Layout.{octet_values, width_most, user_most, size, records}
use Rattle.refusal.specs.Checks.{first}
use Rattle.stream_spec.specs.Checks.{transfer_checks}

-- every number of the list is an octet
abbrev pub Octets : List ℕ → Type 0
Octets [] = Unit {0}
Octets (x ∷ xs) = (x < octet_values) × Octets xs

-- "A legal stream is any number of transfer records of one width from 1 to 16, none of which gives 3 or 4. It may be
-- empty, and may be longer than a take." T-06: of one number of user bits from 0 to 4, too.
pub record Legal (s : Shape) (xs : List ℕ) : Type 0 where
  pub width_low : 1 ≤ s.width
  pub width_high : s.width ≤ width_most
  pub user_high : s.user ≤ user_most
  pub octets : Octets xs
  pub whole : length xs % size s ≡ 0
  pub faultless : first (transfer_checks s 0 (records s xs)) ≡ None
