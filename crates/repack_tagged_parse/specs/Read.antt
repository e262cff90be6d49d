-- What reading records with user bits gives, by what repack_parse's Read says of records of any shape and items held as codes.
use Rattle.std.specs.Prelude.{◌≡◌, List, ℕ, ◌+◌, ◌≤◌, length, take, None, Some, Result, Ok, Err}
use Rattle.refusal.specs.declared.Refusal.{Refusal}
use Rattle.refusal.specs.Checks.{first}
use Rattle.stream_spec.specs.declared.Shape.{Shape}
use Rattle.stream_spec.specs.Layout.{records}
use Rattle.stream_spec.specs.Checks.{transfer_faults, transfer_checks}
use Rattle.repack_parse.specs.declared.state.Open.{Open}
use Rattle.repack_scratch.specs.declared.Entry.{Entry}
use Rattle.repack_scratch.specs.Codes.{item_room, total}
use Rattle.repack_tags.specs.Tags.{TagsFit}
use Rattle.repack_parse.specs.Read.{Added, TakenAs}

-- what reading the record k gives: its first fault, or one record more
abbrev pub NextIs : Shape → List ℕ → ℕ → List ℕ → List Entry → Open → List ℕ → List Entry → Open → Result (Unit {0}) Refusal → Type 0
NextIs s rec k items table st itemsAfter tableAfter r (Err f) = first (transfer_faults s k rec) ≡ Some f
NextIs s rec k items table st itemsAfter tableAfter r (Ok u) =
    (first (transfer_faults s k rec) ≡ None) × Added s rec items table st itemsAfter tableAfter r

-- What a take without fault is read to: its stretches; a reader of 32 items from any item on stays in the array; and no item has
-- more user bits than the shape says, as a writer needs it.
pub record Taken (s : Shape) (transfers items : List ℕ) (table : List Entry) (n : ℕ) : Type 0 where
  pub taken : TakenAs s transfers items table n
  pub same_items : length items ≡ item_room
  pub room : total (take n table) + 32 ≤ length items
  pub fits : TagsFit s.user (take (total (take n table)) items)

-- what reading a take gives: the first fault of its records, or its stretches
abbrev pub ParsedIs : Shape → List ℕ → List ℕ → List Entry → Result ℕ Refusal → Type 0
ParsedIs s transfers items table (Err f) = first (transfer_checks s 0 (records s transfers)) ≡ Some f
ParsedIs s transfers items table (Ok n) = Taken s transfers items table n
