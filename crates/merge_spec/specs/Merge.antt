-- Two takes of transfer records merged onto one port (paper 02, T-08): what each record becomes, whose turn it is, and the octets.
use Rattle.std.specs.Prelude.{Bool, not, List, map, ℕ, ◌+◌, ◌-◌, leb, set}
use Rattle.stream_spec.specs.declared.Shape.{Shape}
use Rattle.stream_spec.specs.Layout.{tid_at, tlast, pair_of, records, joined}
use Rattle.merge_spec.specs.Turns.{turns_of, alternate, passed}

-- ---- records

-- "Port 1's TIDs go out with 128 added."
abbrev pub tid_added : ℕ
tid_added = 128

abbrev pub tid : List ℕ → ℕ
tid r = (pair_of r).tid

-- a record of port 1 as it goes out, and "its TIDs restored"
abbrev pub raised : List ℕ → List ℕ
raised r = set r tid_at (tid r + tid_added)

abbrev pub restored : List ℕ → List ℕ
restored r = set r tid_at (tid r - tid_added)

-- "a TID of 128 or more". A record of the merged list that has one is port 1's, and any other is port 0's.
abbrev pub high_tid : List ℕ → Bool
high_tid r = leb tid_added (tid r)

abbrev pub low_tid : List ℕ → Bool
low_tid r = not (high_tid r)

-- ---- lists

-- the turns on the one port: "Port 0 has the first turn." A turn ends at a "TLAST of any pair".
abbrev pub turns : Shape → List ℕ → List ℕ → List (List (List ℕ))
turns s first second = alternate (turns_of tlast (records s first)) (turns_of tlast (map raised (records s second)))

abbrev pub merged_records : Shape → List ℕ → List ℕ → List (List ℕ)
merged_records s first second = passed (turns s first second)

abbrev pub merged : Shape → List ℕ → List ℕ → List ℕ
merged s first second = joined (merged_records s first second)
