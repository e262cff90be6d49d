-- Memory with octets written at a place.
use Rattle.std.specs.Prelude.{List, ◌++◌, ℕ, ◌+◌, length, take, drop}

-- `out` with xs from octet `at` on, the rest as before
abbrev pub splice : ℕ → List ℕ → List ℕ → List ℕ
splice at xs out = take at out ++ (xs ++ drop (at + length xs) out)
