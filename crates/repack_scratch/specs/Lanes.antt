-- How many lanes a record has, and the mask of them all.
use Rattle.std.specs.Prelude.{◌≡◌, ℕ, ◌-◌, ◌^◌, ◌≤◌}

-- what the tests of a width leave: from 1 to 16 lanes, and the mask of them all
pub record Wide (width mask : ℕ) : Type 0 where
  pub low : 1 ≤ width
  pub high : width ≤ 16
  pub full : mask ≡ 2 ^ width - 1
