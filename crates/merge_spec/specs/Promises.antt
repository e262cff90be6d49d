-- What is proved of merging, a statement each. Words in quotes are T-08's (paper 02). The proofs are in proofs/Promises.
use Rattle.std.specs.Prelude.{Bool, true, false, not, ◌||◌, cond, List, [], ◌∷◌, ◌++◌, map, ◌⊎◌, ◌↔◌, ◌≢◌, ◌≡◌, ℕ, ◌+◌, ◌*◌, ◌%◌, ◌≤◌, ◌<◌, length, get_or, take, drop, None, Some, Ok, Err}
use Rattle.std.specs.Bool.{beq}
use Rattle.refusal.specs.Checks.{first}
use Rattle.refusal.specs.declared.Refusal.{Refusal}
use Rattle.refusal.specs.declared.Refusal.TheVariants.{Room, Tags}
use Rattle.stream_spec.specs.declared.Shape.{Shape}
use Rattle.stream_spec.specs.Layout.{tlast, size, at_width, records, record_count, joined, packed_transfers, packed}
use Rattle.stream_spec.specs.Checks.{length_check, take_checks, transfer_flags, field_fault, reserved_fault}
use Rattle.stream_spec.specs.Legal.{Octets, Legal}
use Rattle.stream_spec.specs.Demand3.{Call, CallsKeep, Part, whole, AllAccepted, results_joined, sum, Divides}
use Rattle.merge_spec.specs.Turns.{into_first, passed, those}
use Rattle.merge_spec.specs.Merge.{tid, restored, high_tid, low_tid, turns, merged_records, merged}
use Rattle.merge_spec.specs.Answers.{named, port_checks, merge_answer, merge_after}

-- ---- what is accepted, and what is refused

-- record k of a list
abbrev pub record_of : Shape → List ℕ → ℕ → List ℕ
record_of s xs k = get_or (records s xs) k []

-- a record without 3, 4 and 17
pub record Sound (s : Shape) (r : List ℕ) : Type 0 where
  pub field : field_fault transfer_flags s r ≡ false
  pub reserved : reserved_fault s r ≡ false
  pub low : tid r < 128

abbrev pub AllSound : Shape → List ℕ → Type 0
AllSound s xs = (k : ℕ) → k < record_count s xs → Sound s (record_of s xs k)

-- neither 1, nor 16, nor 2 for either list
pub record Readable (s : Shape) (xs ys : List ℕ) : Type 0 where
  pub width : (1 ≤ s.width) × (s.width ≤ 16)
  pub user : s.user ≤ 4
  pub first : (length xs ≤ 65536) × (length xs % size s ≡ 0)
  pub second : (length ys ≤ 65536) × (length ys % size s ≡ 0)

-- A call is accepted exactly where both lists are sound and the output has room for both; it answers the number of records of both.
pub record Mergeable (s : Shape) (xs ys : List ℕ) (room : ℕ) : Type 0 where
  pub readable : Readable s xs ys
  pub first : AllSound s xs
  pub second : AllSound s ys
  pub fits : length xs + length ys ≤ room

abbrev pub NothingRefused : Type 0
NothingRefused =
    (s : Shape) (xs ys : List ℕ) (room : ℕ)
    → (merge_answer s xs ys room ≡ Ok (record_count s xs + record_count s ys)) ↔ Mergeable s xs ys room

-- "1, 2 for port 0's list before port 1's, then port 0's records before port 1's with 3, 4, then 17 .., and ROOM last", each with the port
-- that it names. A line for each: the port, what has passed before it, and what gives the refusal.
abbrev pub RefusedBy : Shape → List ℕ → List ℕ → ℕ → ℕ → Refusal → Type 0
RefusedBy s xs ys room port r =
    ((port ≡ 0) × (first (take_checks s xs) ≡ Some r))
    ⊎ ((port ≡ 1) × (first (take_checks s xs) ≡ None) × (first (length_check s ys ∷ []) ≡ Some r))
    ⊎ ((port ≡ 0) × Readable s xs ys × (first (port_checks s xs) ≡ Some r))
    ⊎ ((port ≡ 1) × Readable s xs ys × AllSound s xs × (first (port_checks s ys) ≡ Some r))
    ⊎ ((port ≡ 0) × Readable s xs ys × AllSound s xs × AllSound s ys × (room < length xs + length ys) × (r ≡ Room))

abbrev pub RefusedInOrder : Type 0
RefusedInOrder =
    (s : Shape) (xs ys : List ℕ) (room port : ℕ) (r : Refusal)
    → (merge_answer s xs ys room ≡ Err (named port r)) ↔ RefusedBy s xs ys room port r

-- 17: "for a TID of 128 or more in that record", with items or without, and "the record in its own list"; it has neither 3 nor 4, and
-- nothing before it has a fault
pub record HighAt (s : Shape) (xs : List ℕ) (k : ℕ) : Type 0 where
  pub within : k < record_count s xs
  pub field : field_fault transfer_flags s (record_of s xs k) ≡ false
  pub reserved : reserved_fault s (record_of s xs k) ≡ false
  pub high : 128 ≤ tid (record_of s xs k)
  pub earlier : (j : ℕ) → j < k → Sound s (record_of s xs j)

abbrev pub HighBy : Shape → List ℕ → List ℕ → ℕ → ℕ → Type 0
HighBy s xs ys port k = ((port ≡ 0) × HighAt s xs k) ⊎ ((port ≡ 1) × AllSound s xs × HighAt s ys k)

abbrev pub TagsExactly : Type 0
TagsExactly =
    (s : Shape) (xs ys : List ℕ) (room port k : ℕ)
    → (merge_answer s xs ys room ≡ Err (named port (Tags k))) ↔ (Readable s xs ys × HighBy s xs ys port k)

-- "A refused call changes no octet of lent memory" (demand 1).
abbrev pub MemoryKept : Type 0
MemoryKept =
    (s : Shape) (xs ys out : List ℕ) (port : ℕ) (r : Refusal) → merge_answer s xs ys (length out) ≡ Err (named port r)
    → merge_after s xs ys out ≡ out

-- ---- what is written

-- An accepted call answers the number of records of both lists. So many records stand at the front of the lent memory, the merged list, and
-- the memory behind them is as it was.
pub record BothWritten (s : Shape) (xs ys out : List ℕ) (n : ℕ) : Type 0 where
  pub count : n ≡ record_count s xs + record_count s ys
  pub long : n * size s ≡ length xs + length ys
  pub result : take (n * size s) (merge_after s xs ys out) ≡ merged s xs ys
  pub behind : drop (n * size s) (merge_after s xs ys out) ≡ drop (n * size s) out

abbrev pub MergeWrites : Type 0
MergeWrites = (s : Shape) (xs ys out : List ℕ) (n : ℕ) → merge_answer s xs ys (length out) ≡ Ok n → BothWritten s xs ys out n

-- "Each port's records, its TIDs restored, are its share of the merged list in order": every octet of every record
pub record SharesKept (s : Shape) (xs ys : List ℕ) : Type 0 where
  pub first : those low_tid (records s (merged s xs ys)) ≡ records s xs
  pub second : map restored (those high_tid (records s (merged s xs ys))) ≡ records s ys

abbrev pub Shares : Type 0
Shares = (s : Shape) (xs ys : List ℕ) (room n : ℕ) → merge_answer s xs ys room ≡ Ok n → SharesKept s xs ys

-- ---- turns, told of a list of records alone: whose a record is shows in its TID. `true` is port 1.

-- the records of a port
abbrev pub sent_by : Bool → List (List ℕ) → List (List ℕ)
sent_by port rs = those (λ r. cond port (high_tid r) (low_tid r)) rs

-- a port that has a record left has the next one
abbrev pub Next : Bool → List (List ℕ) → Type 0
Next port [] = Unit {0}
Next port (r ∷ rs) = sent_by port (r ∷ rs) ≢ [] → high_tid r ≡ port

-- whose turn it is behind a record: its port's, and after TLAST the other's
abbrev pub turn_after : List ℕ → Bool
turn_after r = cond (tlast r) (low_tid r) (high_tid r)

-- "A turn passes on that port's transfers up to and including its next TLAST of any pair, or to the list's end; then the turn goes over":
-- behind each record
abbrev pub InTurns : List (List ℕ) → Type 0
InTurns [] = Unit {0}
InTurns (r ∷ rs) = Next (turn_after r) rs × InTurns rs

-- "Port 0 has the first turn", and all the others follow
abbrev pub TakesTurns : Type 0
TakesTurns =
    (s : Shape) (xs ys : List ℕ) (room n : ℕ) → merge_answer s xs ys room ≡ Ok n
    → Next false (records s (merged s xs ys)) × InTurns (records s (merged s xs ys))

-- And shares and turns leave no choice: records that have them are the merged list.
abbrev pub MergedOnly : Type 0
MergedOnly =
    (s : Shape) (xs ys : List ℕ) (rs : List (List ℕ)) → Next false rs → InTurns rs
    → those low_tid rs ≡ records s xs → map restored (those high_tid rs) ≡ records s ys → rs ≡ merged_records s xs ys

-- The same of the turns themselves. A turn: records of one port, of which none but the last has TLAST; and the last has it, or its port
-- has no record later.
pub record IsTurn (port : Bool) (t later : List (List ℕ)) : Type 0 where
  pub before : List (List ℕ)
  pub final : List ℕ
  pub is : t ≡ before ++ final ∷ []
  pub own : sent_by (not port) t ≡ []
  pub unended : those tlast before ≡ []
  pub ends : (tlast final ≡ true) ⊎ (sent_by port later ≡ [])

-- "while both have transfers, neither gets two turns running": where the next turn is the same port's, the other has no record from there on
abbrev pub GoesOver : Bool → List (List (List ℕ)) → Type 0
GoesOver port [] = Unit {0}
GoesOver port (t ∷ ts) = sent_by (not port) t ≡ [] → sent_by (not port) (passed (t ∷ ts)) ≡ []

-- whose turn it is shows in its first record
abbrev pub port_of : List (List ℕ) → Bool
port_of [] = false
port_of (r ∷ t) = high_tid r

abbrev pub Fair : List (List (List ℕ)) → Type 0
Fair [] = Unit {0}
Fair (t ∷ ts) = IsTurn (port_of t) t (passed ts) × GoesOver (port_of t) ts × Fair ts

-- whether a turn is over behind a record, seen in a merged list alone: at TLAST, and where the next record is the other port's
abbrev pub is_over : List ℕ → List (List ℕ) → Bool
is_over r [] = tlast r
is_over r (q ∷ rs) = tlast r || not (beq (high_tid r) (high_tid q))

-- a merged list cut there
abbrev pub cut_turns : List (List ℕ) → List (List (List ℕ))
cut_turns [] = []
cut_turns (r ∷ rs) = cond (is_over r rs) ((r ∷ []) ∷ cut_turns rs) (into_first r (cut_turns rs))

-- the turns of the merged list, one after the other: port 0 has the first one, unless it has no record, and so on; and whoever holds the
-- merged list alone finds them again
pub record TurnsTaken (s : Shape) (xs ys : List ℕ) : Type 0 where
  pub starts : GoesOver true (turns s xs ys)
  pub fair : Fair (turns s xs ys)
  pub all : passed (turns s xs ys) ≡ records s (merged s xs ys)
  pub found : cut_turns (records s (merged s xs ys)) ≡ turns s xs ys

abbrev pub FairTurns : Type 0
FairTurns = (s : Shape) (xs ys : List ℕ) (room n : ℕ) → merge_answer s xs ys room ≡ Ok n → TurnsTaken s xs ys

-- ---- "Demand 3 reads the merged list as one more legal stream."

-- the octets of a take are octets, as those of any slice
abbrev pub MergedLegal : Type 0
MergedLegal =
    (s : Shape) (xs ys : List ℕ) (room n : ℕ) → Octets xs → Octets ys → merge_answer s xs ys room ≡ Ok n → Legal s (merged s xs ys)

-- both statements of demand 3, at the merged list: after any list of repacking calls that starts from it ..
abbrev pub MergedCalls : Type 0
MergedCalls =
    (s : Shape) (xs ys : List ℕ) (room n : ℕ) → Octets xs → Octets ys → merge_answer s xs ys room ≡ Ok n
    → (cs : List Call) → CallsKeep (record { shape = s; octets = merged s xs ys }) cs

-- .. and over any list of parts of it
pub record MergedJoin (s : Shape) (v : ℕ) (xs ys : List ℕ) (ps : List Part) (ns : List ℕ) : Type 0 where
  pub same : results_joined s v ps ns ≡ packed s v (merged s xs ys)
  pub count : sum ns ≡ length (packed_transfers s v (merged s xs ys))

abbrev pub MergedParts : Type 0
MergedParts =
    (s : Shape) (xs ys : List ℕ) (room n : ℕ) → Octets xs → Octets ys → merge_answer s xs ys room ≡ Ok n
    → (v : ℕ) (ps : List Part) (ns : List ℕ) → whole ps ≡ merged s xs ys → AllAccepted s v ps ns → Divides s ps
    → MergedJoin s v xs ys ps ns

-- ---- the packed form of the merged list

-- split by port, TIDs restored, it is each port's own packed form, record by record
pub record PackedSplit (s : Shape) (v : ℕ) (xs ys : List ℕ) : Type 0 where
  pub first : those low_tid (records (at_width s v) (packed s v (merged s xs ys))) ≡ records (at_width s v) (packed s v xs)
  pub second : map restored (those high_tid (records (at_width s v) (packed s v (merged s xs ys)))) ≡ records (at_width s v) (packed s v ys)

abbrev pub PackedShares : Type 0
PackedShares =
    (s : Shape) (v : ℕ) (xs ys : List ℕ) (room n : ℕ) → merge_answer s xs ys room ≡ Ok n → PackedSplit s v xs ys

-- A merged list may be longer than a take, but no turn of it is. Turns, one or several at a time, packed apart and joined are its packed
-- form: gs are the turns in groups.
pub record TurnsPack (s : Shape) (v : ℕ) (xs ys : List ℕ) : Type 0 where
  pub short : (k : ℕ) → length (joined (get_or (turns s xs ys) k [])) ≤ 65536
  pub same :
      (gs : List (List (List (List ℕ)))) → passed gs ≡ turns s xs ys
      → packed s v (merged s xs ys) ≡ joined (map (λ g. packed s v (joined (passed g))) gs)

abbrev pub PackedTurns : Type 0
PackedTurns =
    (s : Shape) (v : ℕ) (xs ys : List ℕ) (room n : ℕ) → merge_answer s xs ys room ≡ Ok n → TurnsPack s v xs ys
