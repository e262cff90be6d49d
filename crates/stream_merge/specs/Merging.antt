-- Merging record by record, against merge_spec: what one record adds to the output, whose turn comes behind it, and what is known between
-- two records.
use Rattle.std.specs.Prelude.{Bool, true, false, not, cond, List, map, ◌≡◌, ℕ, ◌+◌, ◌≤◌, ◌<◌, ltb, length, take, drop, None}
use Rattle.refusal.specs.Checks.{first}
use Rattle.stream_spec.specs.Layout.{size_least, size_most, tlast, pieces_of}
use Rattle.stream_spec.specs.Memory.{Writes}
use Rattle.stream_record.specs.declared.take.Take.{Take}
use Rattle.merge_spec.specs.Turns.{goes_out}
use Rattle.merge_spec.specs.Merge.{tid, raised}
use Rattle.merge_spec.specs.Answers.{port_checks}
use Rattle.stream_merge.specs.declared.Turn.{Turn}

-- ---- one record

-- a record whose octets find room at the front of `out`
pub record Copies (rec out : List ℕ) : Type 0 where
  pub low : size_least ≤ length rec
  pub high : length rec ≤ size_most
  pub room : length rec ≤ length out

-- as it goes out of port 1, or of port 0
abbrev pub sent_as : Bool → List ℕ → List ℕ
sent_as true r = raised r
sent_as false r = r

-- TLAST of a record; in the code that name is a function's
abbrev pub last_of : List ℕ → Bool
last_of r = tlast r

-- ---- whose turn it is

-- the port that has the turn has a record of z octets left
pub record TurnFits (z : ℕ) (t : Turn) : Type 0 where
  pub list0 : t.port1 ≡ false → z ≤ length t.left0.now
  pub list1 : t.port1 ≡ true → z ≤ length t.left1.now

-- that record
abbrev pub picked_from : ℕ → Turn → List ℕ
picked_from z t = cond t.port1 (take z t.left1.now) (take z t.left0.now)

-- "A port with nothing left is skipped."
abbrev pub whose_turn : Bool → Bool → Bool → Bool
whose_turn wanted left0 left1 = cond wanted left1 (not left0)

abbrev pub some : List ℕ → Bool
some xs = ltb 0 (length xs)

-- a turn with this left of the lists, where `wanted` says that it comes to port 1
pub record IsTurn (wanted : Bool) (xs ys : List ℕ) (t : Turn) : Type 0 where
  pub port : t.port1 ≡ whose_turn wanted (some xs) (some ys)
  pub left0 : t.left0.now ≡ xs
  pub left1 : t.left1.now ≡ ys

-- behind a record that is the last of its turn, or is not
abbrev pub IsTurnBehind : ℕ → Bool → Turn → Turn → Type 0
IsTurnBehind z last t r =
    IsTurn (cond t.port1 (not last) last) (cond t.port1 t.left0.now (drop z t.left0.now)) (cond t.port1 (drop z t.left1.now) t.left1.now) r

-- ---- one record more

pub record Ready (z : ℕ) (t : Turn) (out : List ℕ) (to : ℕ) : Type 0 where
  pub picks : TurnFits z t
  pub low : size_least ≤ z
  pub high : z ≤ size_most
  pub tag : t.port1 ≡ true → tid (picked_from z t) < 128
  pub room : to + z ≤ length out

-- it stands at its place, and the turn behind it is told
pub record Passes (z : ℕ) (t : Turn) (before : List ℕ) (to : ℕ) (after : List ℕ) (r : Turn) : Type 0 where
  pub turn : IsTurnBehind z (tlast (picked_from z t)) t r
  pub same : length after ≡ length before
  pub writes : Writes (sent_as t.port1 (picked_from z t)) before to after (to + z)

-- ---- all records

-- two takes of one shape, the TIDs of the second sound, and an output with room for both
pub record ListsFit (take0 take1 : Take) (out : List ℕ) : Type 0 where
  pub same : take1.shape ≡ take0.shape
  pub sound : first (port_checks take1.shape take1.octets.now) ≡ None
  pub room : length take0.octets.now + length take1.octets.now ≤ length out

-- the records, of z octets each, that are left where this is the turn
abbrev pub left_of : ℕ → Turn → List (List ℕ)
left_of z t = goes_out tlast t.port1 (pieces_of z t.left0.now) (map raised (pieces_of z t.left1.now))
