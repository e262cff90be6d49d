-- A row while a cut is written to it.
use Rattle.std.specs.Prelude.{List, ◌++◌, map, ℕ, ◌+◌, ◌*◌, take, drop, Result, Ok, Err}
use Rattle.burst_spec.specs.declared.Burst.{Burst}
use Rattle.refusal.specs.declared.Refusal.{Refusal}
use Rattle.axi3_spec.specs.Cut.{piece, run, joined}
use Rattle.axi3_spec.specs.Answers.{numbers_each, numbers_of}

-- how many descriptions an answer says are written
abbrev pub used_of : Result ℕ Refusal → ℕ
used_of (Ok n) = n
used_of (Err r) = 0

-- a row with the first n bursts of the cut in front
unfoldable pub filled : Burst → ℕ → List Burst → List Burst
filled x n row = run (piece x) 0 n ++ drop n row

-- a row of numbers with this description from number `at` on
unfoldable pub with_burst : ℕ → Burst → List ℕ → List ℕ
with_burst at x row = take at row ++ (numbers_of x ++ drop (at + numbers_each) row)

-- a row of numbers with the first n of these descriptions in front
unfoldable pub laid : List Burst → ℕ → List ℕ → List ℕ
laid ys n row = joined (map numbers_of (take n ys)) ++ drop (numbers_each * n) row
