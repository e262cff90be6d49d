-- What merging two takes answers, over all its arguments, what it leaves in lent memory, and the numbers that it shows (paper 02, T-08;
-- paper 01, 'How much each answer must say'). The contract of the call cites these definitions.
use Rattle.std.specs.Prelude.{List, [], ◌∷◌, ◌++◌, map, ◌≡◌, ℕ, length, Option, None, Some, Result, Ok, Err}
use Rattle.refusal.specs.Checks.{Check, check, first}
use Rattle.refusal.specs.Code.{code_of}
use Rattle.refusal.specs.declared.Refusal.{Refusal}
use Rattle.refusal.specs.declared.Refusal.TheVariants.{Tags}
use Rattle.stream_spec.specs.declared.Shape.{Shape}
use Rattle.stream_spec.specs.Layout.{records}
use Rattle.stream_spec.specs.Checks.{length_check, take_checks, each, transfer_faults, room_check}
use Rattle.stream_spec.specs.Memory.{in_front}
use Rattle.merge_spec.specs.declared.PortRefusal.{PortRefusal}
use Rattle.merge_spec.specs.Merge.{high_tid, merged_records, merged}

-- ---- refusals

-- "the refusal names the port"
abbrev pub named : ℕ → Refusal → PortRefusal
named port r = record { port = port; refusal = r }

abbrev pub naming : ℕ → List (Check Refusal) → List (Check PortRefusal)
naming port cs = map (λ (c : Check Refusal). check c.found (record { port = port; refusal = c.gives })) cs

-- one record at place k of its own list: "3, 4, then 17 TAGS for a TID of 128 or more in that record"
abbrev pub port_faults : Shape → ℕ → List ℕ → List (Check Refusal)
port_faults s k r = transfer_faults s k r ++ check (high_tid r) (Tags k) ∷ []

abbrev pub port_checks : Shape → List ℕ → List (Check Refusal)
port_checks s xs = each (port_faults s) 0 (records s xs)

-- "1, 2 for port 0's list before port 1's, then port 0's records before port 1's .., and ROOM last"; 16 stands straight after 1
-- (T-06). "0 for 1, 16 and ROOM".
abbrev pub merge_refusal : Shape → List ℕ → List ℕ → ℕ → Option PortRefusal
merge_refusal s xs ys room =
    first
    (naming 0 (take_checks s xs)
    ++ (naming 1 (length_check s ys ∷ [])
    ++ (naming 0 (port_checks s xs) ++ (naming 1 (port_checks s ys) ++ naming 0 (room_check (merged s xs ys) room ∷ [])))))

-- ---- the answer, and lent memory afterwards

-- "An accepted writing call answers the number of records and leaves the output after them unchanged"; refused, "lent memory keeps its
-- content" (01).
abbrev pub merged_by : Option PortRefusal → ℕ → Result ℕ PortRefusal
merged_by (Some f) n = Err f
merged_by None n = Ok n

abbrev pub lent_by : Option PortRefusal → List ℕ → List ℕ → List ℕ
lent_by (Some f) result lent = lent
lent_by None result lent = in_front result lent

unfoldable pub merge_answer : Shape → List ℕ → List ℕ → ℕ → Result ℕ PortRefusal
merge_answer s xs ys room = merged_by (merge_refusal s xs ys room) (length (merged_records s xs ys))

unfoldable pub merge_after : Shape → List ℕ → List ℕ → List ℕ → List ℕ
merge_after s xs ys out = lent_by (merge_refusal s xs ys (length out)) (merged s xs ys) out

-- ---- the numbers for each answer: the refusal's number, the port it names, its place, and the count of records. "Its other numbers
-- are 0."

pub record Values : Type 0 where
  pub refusal : ℕ
  pub port : ℕ
  pub place : ℕ
  pub count : ℕ

abbrev pub values : ℕ → ℕ → ℕ → ℕ → Values
values refusal port place count = record { refusal = refusal; port = port; place = place; count = count }

abbrev pub merged_values : Result ℕ PortRefusal → Values
merged_values (Ok n) = values 0 0 0 n
merged_values (Err f) = values (code_of f.refusal).0 f.port (code_of f.refusal).1 0

-- the same of the first refusal
abbrev pub values_for : Option PortRefusal → ℕ → Values
values_for (Some f) n = values (code_of f.refusal).0 f.port (code_of f.refusal).1 0
values_for None n = values 0 0 0 n

-- ---- the contract of the call: the answer is the definition's, with these numbers, and so is every octet of lent memory afterwards. The
-- numbers are said through the checks and not through the answer, so that a wrong line of `merged_values` breaks the contract itself.

pub record PortsMerged (s : Shape) (xs ys before after : List ℕ) (r : Result ℕ PortRefusal) : Type 0 where
  pub is : r ≡ merge_answer s xs ys (length before)
  pub shows : merged_values r ≡ values_for (merge_refusal s xs ys (length before)) (length (merged_records s xs ys))
  pub leaves : after ≡ merge_after s xs ys before
