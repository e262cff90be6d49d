-- A record's header as the code holds it, against stream_spec's Layout and Checks.
use Rattle.std.specs.Prelude.{Bool, cond, List, ℕ, Result, Ok, Err}
use Rattle.refusal.specs.declared.Refusal.{Refusal}
use Rattle.refusal.specs.declared.Refusal.TheVariants.{Field as FieldAt, Reserved as ReservedAt}
use Rattle.stream_spec.specs.declared.Shape.{Shape}
use Rattle.stream_spec.specs.Layout.{flags, pair_of, tkeep, tstrb, types_of, any_reserved}
use Rattle.stream_spec.specs.Checks.{head_fault, field_fault, reserved_fault, transfer_flags}
use Rattle.stream_record.specs.declared.Header.{Header}
use Rattle.stream_record.specs.declared.faults.Fault.{Fault}
use Rattle.stream_record.specs.declared.faults.Fault.TheVariants.{Field, Reserved}

-- the header of a record
abbrev pub header_of : List ℕ → Header
header_of r = record { flags = flags r; tid = (pair_of r).tid; tdest = (pair_of r).tdest; keep = tkeep r; strb = tstrb r }

-- `Checks.head_fault` of a header
abbrev pub header_fault : ℕ → Shape → Header → Bool
header_fault used s h = head_fault used s h.flags h.tdest h.keep h.strb

-- the fault that a transfer record's header tells, FIELD before RESERVED, and the fault of the record
abbrev pub fault_of : Shape → Header → Result (Unit {0}) Fault
fault_of s h = cond (header_fault transfer_flags s h) (Err Field) (cond (any_reserved (types_of s.width h.keep h.strb)) (Err Reserved) (Ok tt))

abbrev pub record_fault : Shape → List ℕ → Result (Unit {0}) Fault
record_fault s r = cond (field_fault transfer_flags s r) (Err Field) (cond (reserved_fault s r) (Err Reserved) (Ok tt))

-- the refusal for a fault of record k
abbrev pub refusal_at : ℕ → Fault → Refusal
refusal_at k Field = FieldAt k
refusal_at k Reserved = ReservedAt k
