-- A record's header as it is written, against stream_spec's Layout.
use Rattle.std.specs.Prelude.{List, [], ◌∷◌, ◌++◌, ℕ, ◌+◌, ◌-◌, ◌/◌, ◌%◌, ◌^◌, take, drop, replicate}
use Rattle.stream_spec.specs.Layout.{head_octets}

-- the seven octets before a record's data: octet 0, TID, TDEST, TKEEP and TSTRB, low octets first
abbrev pub header_octets : ℕ → ℕ → ℕ → ℕ → ℕ → List ℕ
header_octets first tid tdest keep strb =
    first ∷ tid ∷ tdest ∷ keep % 256 ∷ keep / 256 ∷ strb % 256 ∷ strb / 256 ∷ []

-- the header of a record with data on its first n lanes; TID and TDEST are one number
abbrev pub data_header : ℕ → ℕ → ℕ → List ℕ
data_header last pair n = header_octets last (pair % 256) (pair / 256) (2 ^ n - 1) (2 ^ n - 1)

-- memory in which lanes n to v - 1 of the record at its front are null
abbrev pub null_lanes : ℕ → ℕ → List ℕ → List ℕ
null_lanes n v out = take (head_octets + n) out ++ (replicate {A = ℕ} (v - n) 0 ++ drop (head_octets + v) out)
