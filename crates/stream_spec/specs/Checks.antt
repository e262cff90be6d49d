-- The faults that refuse a stream call (paper 01, 'Refusal numbers'), each as a check: whether the fault is there, and the
-- refusal it gives. A call lists its checks in 01's order, and the first fault that is there is what it answers.
use Rattle.std.specs.Prelude.{Bool, not, ◌||◌, List, [], ◌∷◌, ◌++◌, map, ℕ, suc, ◌*◌, ◌%◌, ◌^◌, ◌≤◌, ◌<◌, eqb, leb, ltb, length}
use Rattle.refusal.specs.Checks.{Check, check}
use Rattle.refusal.specs.declared.Refusal.{Refusal}
use Rattle.refusal.specs.declared.Refusal.TheVariants.{Width, UserBits, Length, Field, Reserved, Room, Ratio, Index}
use Rattle.stream_spec.specs.declared.Shape.{Shape}
use Rattle.stream_spec.specs.Layout.{width_most, user_most, tdest_most, size, flags, pair_of, tkeep, tstrb, user_number, lane_types, any_reserved, record_count}

-- 1: "a width is 0 or above 16". A call has the width of its input, and perhaps a width of its output.
abbrev pub width_check : ℕ → Check Refusal
width_check w = check (eqb w 0 || ltb width_most w) Width

-- 16 (T-06): "m above 4, straight after WIDTH in every call that gives WIDTH"
abbrev pub user_check : Shape → Check Refusal
user_check s = check (ltb user_most s.user) UserBits

abbrev pub shape_checks : Shape → List ℕ → List (Check Refusal)
shape_checks s outputs = map width_check (s.width ∷ outputs) ++ user_check s ∷ []

-- 6: "downsizing: v doesn't divide w"
abbrev pub ratio_check : Shape → ℕ → Check Refusal
ratio_check s v = check (not (eqb (s.width % v) 0)) Ratio

-- "A take holds at most 65,536 octets."
abbrev pub capture_most : ℕ
capture_most = 65536

-- 2: "input is over 65,536 octets or no whole number of records", which have so many octets each
abbrev pub length_fault : ℕ → List ℕ → Bool
length_fault octets xs = ltb capture_most (length xs) || not (eqb (length xs % octets) 0)

abbrev pub length_check : Shape → List ℕ → Check Refusal
length_check s xs = check (length_fault (size s) xs) Length

-- the checks in front of every call that reads a take and has no other width
abbrev pub take_checks : Shape → List ℕ → List (Check Refusal)
take_checks s xs = shape_checks s [] ++ length_check s xs ∷ []

-- 13: "no such record"
abbrev pub index_check : Shape → List ℕ → ℕ → Check Refusal
index_check s xs k = check (leb (record_count s xs) k) Index

-- 3: "a bit that must be zero is set, or TDEST is above 15". Of octet 0 a cycle record uses four flags and "a transfer
-- record has octet 0 equal to 0 or 1"; of TKEEP and TSTRB "bits at or above w" are zero. Told of the numbers in a record's
-- head, which are octet 0, TDEST, TKEEP and TSTRB.
abbrev pub head_fault : ℕ → Shape → ℕ → ℕ → ℕ → ℕ → Bool
head_fault used s f d k t = leb (2 ^ used) f || ltb tdest_most d || leb (2 ^ s.width) k || leb (2 ^ s.width) t

-- T-06: "FIELD covers the padding", which is the user bits at or above w*m, and no bit of a lane
abbrev pub user_fault : Shape → List ℕ → Bool
user_fault s r = leb (2 ^ (s.width * s.user)) (user_number s r)

abbrev pub field_fault : ℕ → Shape → List ℕ → Bool
field_fault used s r = head_fault used s (flags r) (pair_of r).tdest (tkeep r) (tstrb r) || user_fault s r

-- the same as facts: what numbers without that fault are. Both ways in proofs/Fields.
pub record HeadFits (used : ℕ) (s : Shape) (f d k t : ℕ) : Type 0 where
  pub flags : f < 2 ^ used
  pub tdest : d ≤ tdest_most
  pub keep : k < 2 ^ s.width
  pub strb : t < 2 ^ s.width

pub record Fields (used : ℕ) (s : Shape) (r : List ℕ) : Type 0 where
  pub head : HeadFits used s (flags r) (pair_of r).tdest (tkeep r) (tstrb r)
  pub user : user_number s r < 2 ^ (s.width * s.user)

abbrev pub cycle_flags : ℕ
cycle_flags = 4

abbrev pub transfer_flags : ℕ
transfer_flags = 1

-- 4: "a transfer record has a reserved lane"
abbrev pub reserved_fault : Shape → List ℕ → Bool
reserved_fault s r = any_reserved (lane_types s r)

-- the checks of each record, the records in order; the place is the record, counted from k. A fault that a later request
-- gives to records is one more check in the list of one record; the laws are in proofs/RecordChecks.
abbrev pub each : {X : Type 0} → (ℕ → List ℕ → List (Check X)) → ℕ → List (List ℕ) → List (Check X)
each checks k [] = []
each checks k (r ∷ rs) = checks k r ++ each checks (suc k) rs

-- one transfer record at place k, and all: "records in order with 3 before 4 in each"
abbrev pub transfer_faults : Shape → ℕ → List ℕ → List (Check Refusal)
transfer_faults s k r = check (field_fault transfer_flags s r) (Field k) ∷ check (reserved_fault s r) (Reserved k) ∷ []

abbrev pub transfer_checks : Shape → ℕ → List (List ℕ) → List (Check Refusal)
transfer_checks s k rs = each (transfer_faults s) k rs

-- one cycle record at place k, and all; only 3: "Judging and harvesting never give 4: that is R4."
abbrev pub cycle_faults : Shape → ℕ → List ℕ → List (Check Refusal)
cycle_faults s k r = check (field_fault cycle_flags s r) (Field k) ∷ []

abbrev pub cycle_checks : Shape → ℕ → List (List ℕ) → List (Check Refusal)
cycle_checks s k rs = each (cycle_faults s) k rs

-- 5: "the lent output is shorter than the answer"
abbrev pub room_check : List ℕ → ℕ → Check Refusal
room_check answer room = check (ltb room (length answer)) Room
