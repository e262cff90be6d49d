-- The octets of the lanes that TKEEP keeps, and that they stand behind the octets that were there.
use Rattle.std.specs.Prelude.{◌≡◌, cond, List, [], ◌∷◌, ◌++◌, ℕ, zero, suc, ◌+◌, ◌/◌, ◌≤◌, length, get_or, take, drop}
use Rattle.stream_spec.specs.Layout.{odd}

-- the octet of a lane, if TKEEP's lowest bit keeps it
abbrev pub kept_octet : ℕ → ℕ → List ℕ
kept_octet keep d = cond (odd keep) (d ∷ []) []

-- the octets of the lanes that TKEEP keeps, of so many lanes: lane 0 has the lowest bit
abbrev pub kept_octets : ℕ → ℕ → List ℕ → List ℕ
kept_octets zero keep ds = []
kept_octets (suc w) keep ds = kept_octet keep (get_or ds 0 0) ++ kept_octets w (keep / 2) (drop 1 ds)

-- the octets of the kept lanes, of so many, stand behind those before them, up to place r
pub record Collected (count keep : ℕ) (lanes octets : List ℕ) (at : ℕ) (after : List ℕ) (r : ℕ) : Type 0 where
  pub same : length after ≡ length octets
  pub beyond : at ≤ r
  pub within : r ≤ at + count
  pub is : take r after ≡ take at octets ++ kept_octets count keep lanes
