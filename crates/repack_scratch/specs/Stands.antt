-- What stands in the array of items once a record's lanes are kept.
use Rattle.std.specs.Prelude.{◌≡◌, List, ◌++◌, ℕ, ◌+◌, ◌≤◌, length, take}

-- A record's codes, of so many lanes, stand behind those before them, up to place r.
pub record Gathered (count : ℕ) (codes items : List ℕ) (at : ℕ) (after : List ℕ) (r : ℕ) : Type 0 where
  pub same : length after ≡ length items
  pub beyond : at ≤ r
  pub within : r ≤ at + count
  pub is : take r after ≡ take at items ++ codes
