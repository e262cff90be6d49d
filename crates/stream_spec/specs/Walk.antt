-- Walking over a take record by record: what has passed the tests in front, and what is known wherever a record starts or
-- the take ends. Every loop over records has `Left` in its invariant; its laws are in proofs/Walk.
use Rattle.std.specs.Prelude.{◌≡◌, List, ℕ, ◌+◌, ◌-◌, ◌%◌, ◌≤◌, length, take, drop}
use Rattle.stream_spec.specs.declared.Shape.{Shape}
use Rattle.stream_spec.specs.Layout.{width_most, user_most, size}
use Rattle.stream_spec.specs.Checks.{capture_most}

-- a shape whose records have a size that code can count: neither number is too large
pub record Narrow (s : Shape) : Type 0 where
  pub width : s.width ≤ width_most
  pub user : s.user ≤ user_most

-- the shape and the length have passed their tests
pub record Passed (s : Shape) (xs : List ℕ) : Type 0 where
  pub low : 1 ≤ s.width
  pub high : s.width ≤ width_most
  pub user : s.user ≤ user_most
  pub whole : length xs % size s ≡ 0
  pub short : length xs ≤ capture_most

-- from octet `at` on whole pieces of z octets are left, or none
pub record LeftBy (z : ℕ) (xs : List ℕ) (at : ℕ) : Type 0 where
  pub within : at ≤ length xs
  pub whole : length (drop at xs) % z ≡ 0

-- the same of records of a shape
abbrev pub Left : Shape → List ℕ → ℕ → Type 0
Left s xs at = LeftBy (size s) xs at

-- z octets from octet `at` on, as code lends them: the record there, where z is a record's size
abbrev pub record_at : List ℕ → ℕ → ℕ → List ℕ
record_at xs at z = take (at + z - at) (drop at xs)
