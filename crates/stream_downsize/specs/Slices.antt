-- The slices of a record as the code makes them: from a header whose masks lose the lanes that are done. What a slice is
-- stands in stream_spec's Packed; here is what the helpers' contracts say of them.
use Rattle.std.specs.Prelude.{◌≡◌, Bool, false, cond, List, [], ◌∷◌, map, ℕ, suc, ◌+◌, ◌*◌, ◌/◌, ◌%◌, ◌^◌, ◌≤◌, length, Option, None}
use Rattle.refusal.specs.Checks.{first}
use Rattle.stream_spec.specs.declared.Shape.{Shape}
use Rattle.stream_spec.specs.Items.{Pair, Transfer}
use Rattle.stream_spec.specs.Packed.{spread, slice_transfer}
use Rattle.stream_spec.specs.Layout.{width_most, user_most, size, odd, Kept, types_of, any_reserved, lanes_of, lane_octet, transfer_of, octets, records, sliced}
use Rattle.stream_spec.specs.Checks.{shape_checks, ratio_check, length_check, transfer_checks, reserved_fault}
use Rattle.stream_spec.specs.Memory.{Writes}
use Rattle.stream_spec.specs.Walk.{Passed}
use Rattle.stream_record.specs.declared.Header.{Header}

-- ---- what is known before anything is written

-- the tests in front have passed
pub record Tested (s : Shape) (v : ℕ) (xs : List ℕ) : Type 0 where
  pub shapes : first (shape_checks s (v ∷ [])) ≡ None
  pub ratio : (ratio_check s v).found ≡ false
  pub length : (length_check s xs).found ≡ false

-- no record of the take has a fault
abbrev pub NoFault : Shape → List ℕ → Type 0
NoFault s xs = first (transfer_checks s 0 (records s xs)) ≡ None

-- widths from 1 to 16 of which the second divides the first, and one number of user bits, at most 4
pub record Cuts (s t : Shape) : Type 0 where
  pub high : s.width ≤ width_most
  pub low : 1 ≤ s.width
  pub small : t.width ≤ width_most
  pub Some : 1 ≤ t.width
  pub whole : s.width % t.width ≡ 0
  pub user : s.user ≤ user_most
  pub same : t.user ≡ s.user

-- ---- one slice

abbrev pub pair_in : Header → Pair
pair_in h = record { tid = h.tid; tdest = h.tdest }

-- the n lowest lanes of a header's masks with these data octets, and m bits each of these user bits
abbrev pub lanes_in : ℕ → ℕ → Header → ℕ → List ℕ → List (Option Kept)
lanes_in m n h user ds = lanes_of m (types_of n h.keep h.strb) user ds

-- their data octets, which are the same whatever the user bits are
abbrev pub data_in : ℕ → Header → List ℕ → List ℕ
data_in n h ds = map lane_octet (lanes_in 0 n h 0 ds)

-- none of them is reserved
abbrev pub Unreserved : ℕ → Header → Type 0
Unreserved n h = any_reserved (types_of n h.keep h.strb) ≡ false

-- the slice of the lowest lanes, as many as the output has
abbrev pub slice_of : Shape → Header → ℕ → List ℕ → Bool → Transfer Kept
slice_of t h user ds last = record { pair = pair_in h; lanes = lanes_in t.user t.width h user ds; last = last }

-- the header without its v lowest lanes
abbrev pub above : ℕ → Header → Header
above v h = record { flags = h.flags; tid = h.tid; tdest = h.tdest; keep = h.keep / 2 ^ v; strb = h.strb / 2 ^ v }

-- the header of the slice from lane `from` on: TLAST is on the last one only
abbrev pub slice_header : ℕ → Bool → Header → Header
slice_header from last h = record { flags = cond last (h.flags % 2) 0; tid = h.tid; tdest = h.tdest; keep = h.keep / 2 ^ from; strb = h.strb / 2 ^ from }

-- the user bits without those of the lowest lanes, as many as the output has
abbrev pub user_above : Shape → ℕ → ℕ
user_above t user = user / 2 ^ (t.width * t.user)

-- the octets of k slices without TLAST and one more, which has the header's
abbrev pub slices_from : ℕ → Shape → Header → ℕ → List ℕ → List ℕ
slices_from k t h user ds =
    octets t.user (spread k t.width (pair_in h) (lanes_in t.user (suc k * t.width) h user ds) (odd h.flags))

-- ---- what is written

-- octets written at `to`, up to `next`
pub record Put (octets before : List ℕ) (to : ℕ) (after : List ℕ) (next : ℕ) : Type 0 where
  pub same : length after ≡ length before
  pub writes : Writes octets before to after next

-- the slices of one record
abbrev pub record_slices : Shape → Shape → List ℕ → List ℕ
record_slices s t rec = octets s.user (slice_transfer s.width t.width (transfer_of s rec))

-- a record whose slices find room from octet `at` on
pub record RecordFits (s t : Shape) (rec out : List ℕ) (at : ℕ) : Type 0 where
  pub cuts : Cuts s t
  pub whole : length rec ≡ size s
  pub sound : reserved_fault s rec ≡ false
  pub room : at + length (record_slices s t rec) ≤ length out

-- a take whose slices find room
pub record TakeFits (s t : Shape) (xs out : List ℕ) : Type 0 where
  pub cuts : Cuts s t
  pub passed : Passed s xs
  pub faultless : NoFault s xs
  pub room : length (sliced s t.width xs) ≤ length out
