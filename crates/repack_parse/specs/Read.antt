-- What each step of reading a take does to the held items, to the table of stretches and to the state: for records of any shape
-- and items held as codes, and for the fast reader, which knows records without user bits by their width w and holds octets and marks.
use Rattle.std.specs.Prelude.{◌≡◌, Bool, true, false, cond, List, [], ◌∷◌, ◌++◌, ℕ, ◌+◌, ◌*◌, ◌/◌, ◌≤◌, ◌<◌, length, take, None, Some, Result, Ok, Err}
use Rattle.refusal.specs.declared.Refusal.{Refusal}
use Rattle.refusal.specs.Checks.{first}
use Rattle.stream_spec.specs.declared.Shape.{Shape}
use Rattle.stream_spec.specs.Items.{Item, end, item_pair, transfer_items}
use Rattle.stream_spec.specs.Packed.{Stretch, cut}
use Rattle.stream_spec.specs.Layout.{width_most, size, of_width, bit, Kept, transfer_of, records, stream_items}
use Rattle.stream_spec.specs.Checks.{HeadFits, transfer_flags, transfer_faults, transfer_checks}
use Rattle.stream_record.specs.declared.Header.{Header}
use Rattle.stream_record.specs.Header.{header_of, record_fault}
use Rattle.repack_parse.specs.declared.state.Open.{Open}
use Rattle.repack_scratch.specs.declared.Entry.{Entry}
use Rattle.repack_scratch.specs.Codes.{item_room, held_codes, codes_in, mark_bits, Unmarked, pair_from, pair_limit, stretches_of, total}
use Rattle.repack_parse.specs.Stands.{Stands}
use Rattle.repack_gather.specs.Gather.{Clear}
use Rattle.repack_parse.specs.declared.Parsed.{Parsed}

-- Room in the table: while k records are read there are at most k stretches, and fewer while bytes are open.
abbrev pub Few : Open → ℕ → ℕ → Type 0
Few st k more = 0x10000 * st.closed + st.items ≤ 0x10000 * k + more + st.start

-- the open stretch can be closed: the table has room for its entry, and an entry holds its numbers
pub record Closable (st : Open) (table : List Entry) : Type 0 where
  pub started : st.start ≤ st.items
  pub small : st.items < 0x10000
  pub lists : st.closed < length table
  pub pair : st.pair < pair_limit

-- before an item of this pair: the open stretch has the pair
pub record Turned (pair : ℕ) (table : List Entry) (st : Open) (after : List Entry) (r : Open) : Type 0 where
  pub same : length after ≡ length table
  pub items : r.items ≡ st.items
  pub paired : r.pair ≡ pair
  pub started : r.start ≤ r.items
  pub closed : r.closed ≤ st.closed + 1
  pub few : (k : ℕ) → Few st k 0 → Few r k 0
  pub stands :
      (codes : List ℕ) (i : Item Kept) (rest : List (Item Kept)) (all : List (Stretch Kept)) → item_pair i ≡ pair_from pair
      → Stands codes (take st.closed table) st (i ∷ rest) all → Stands codes (take r.closed after) r (i ∷ rest) all

-- after a record's lanes: its end, where it has TLAST, is behind the open bytes
pub record Ended (flags : ℕ) (table : List Entry) (st : Open) (after : List Entry) (r : Open) : Type 0 where
  pub same : length after ≡ length table
  pub items : r.items ≡ st.items
  pub pair : r.pair ≡ st.pair
  pub started : r.start ≤ r.items
  pub few : (k : ℕ) → Few st k 16 → Few r (k + 1) 0
  pub stands :
      (codes : List ℕ) (rest : List (Item Kept)) (all : List (Stretch Kept))
      → Stands codes (take st.closed table) st (cond (bit 0 flags) (end (pair_from st.pair) ∷ []) [] ++ rest) all
      → Stands codes (take r.closed after) r rest all

-- a record with its header: it has no bad field in it, and an item
pub record Carries (s : Shape) (rec : List ℕ) (h : Header) : Type 0 where
  pub header : h ≡ header_of rec
  pub long : length rec ≡ size s
  pub fits : HeadFits transfer_flags s h.flags h.tdest h.keep h.strb
  pub some : h.keep + h.flags ≡ 0 → ⊥

-- a state that another record can be read from: table and array of items (codes, or octets) have room for it
pub record Ready (s : Shape) (items : List ℕ) (table : List Entry) (st : Open) : Type 0 where
  pub low : 1 ≤ s.width
  pub high : s.width ≤ width_most
  pub started : st.start ≤ st.items
  pub pair : st.pair < pair_limit
  pub holds : st.items + 16 ≤ length items
  pub small : length items < 0x10000
  pub lists : st.closed + 1 < length table

-- one record more is read
pub record Added (s : Shape) (rec items : List ℕ) (table : List Entry) (st : Open) (itemsAfter : List ℕ) (tableAfter : List Entry) (r : Open) : Type 0 where
  pub same_table : length tableAfter ≡ length table
  pub beyond : st.items ≤ r.items
  pub kept : r.items ≤ st.items + s.width
  pub pair : r.pair < pair_limit
  pub started : r.start ≤ r.items
  pub few : (k : ℕ) → Few st k 0 → Few r (k + 1) 0
  pub stands :
      (rest : List (Item Kept)) (all : List (Stretch Kept))
      → Stands (take st.items items) (take st.closed table) st (transfer_items (transfer_of s rec) ++ rest) all
      → Stands (take r.items itemsAfter) (take r.closed tableAfter) r rest all

-- n stretches in the table, all that a take has
pub record Finished (n : ℕ) (items : List ℕ) (table : List Entry) (all : List (Stretch Kept)) : Type 0 where
  pub within : n ≤ length table
  pub held : total (take n table) ≤ length items
  pub is : stretches_of (take n table) items ≡ all

-- what closing the last stretch gives, whatever the items are: so many stretches, with all items that were kept
abbrev pub FinishIs : List Entry → Open → List Entry → ℕ → Type 0
FinishIs table st after r =
    (items : List ℕ) (all : List (Stretch Kept)) → Stands (take st.items items) (take st.closed table) st [] all
    → Finished r items after all × (total (take r after) ≡ st.items)

-- What a take without fault is read to: its stretches, with items of these codes.
pub record TakenAs (s : Shape) (transfers codes : List ℕ) (table : List Entry) (n : ℕ) : Type 0 where
  pub faultless : first (transfer_checks s 0 (records s transfers)) ≡ None
  pub finished : Finished n codes table (cut (stream_items s transfers))

-- ---- octets and marks

-- One record more, of which each kept lane is data: it needs no mark, where none stands yet.
pub record AddedData (w : ℕ) (rec octets : List ℕ) (table : List Entry) (st : Open) (octetsAfter : List ℕ) (tableAfter : List Entry) (r : Open) : Type 0 where
  pub same : length octetsAfter ≡ length octets
  pub added :
      (marks : List ℕ) → length marks ≡ length octets → Clear st.items marks
      → Added (of_width w) rec (held_codes octets marks) table st (held_codes octetsAfter marks) tableAfter r

-- one record more, with position lanes
pub record AddedMarked (w : ℕ) (rec octets marks : List ℕ) (table : List Entry) (st : Open) (octetsAfter marksAfter : List ℕ) (tableAfter : List Entry) (r : Open) : Type 0 where
  pub added : Added (of_width w) rec (held_codes octets marks) table st (held_codes octetsAfter marksAfter) tableAfter r
  pub clear : Clear r.items marksAfter

-- the same of marks that are held as bits
abbrev pub AddedBits : ℕ → List ℕ → List ℕ → List ℕ → List Entry → Open → List ℕ → List ℕ → List Entry → Open → Type 0
AddedBits w rec octets marks table st octetsAfter marksAfter tableAfter r =
    AddedMarked w rec octets (mark_bits marks) table st octetsAfter (mark_bits marksAfter) tableAfter r

-- a record without fault whose place is k, read
pub record Sounds (w : ℕ) (rec : List ℕ) (k : ℕ) (octets marks : List ℕ) (table : List Entry) (st : Open) (octetsAfter marksAfter : List ℕ) (tableAfter : List Entry) (r : Open) : Type 0 where
  pub faultless : first (transfer_faults (of_width w) k rec) ≡ None
  pub added : AddedMarked w rec octets marks table st octetsAfter marksAfter tableAfter r

-- the header of the record at octet `at`, which has no fault, or the first fault
abbrev pub HeaderIs : ℕ → List ℕ → ℕ → Result Header Refusal → Type 0
HeaderIs w rec at (Err f) = first (transfer_faults (of_width w) (at / size (of_width w)) rec) ≡ Some f
HeaderIs w rec at (Ok h) = (h ≡ header_of rec) × (Ok tt ≡ record_fault (of_width w) rec)

-- what reading the record at octet `at` gives; no mark is touched unless the answer says so
abbrev pub NextIs : ℕ → List ℕ → ℕ → List ℕ → List ℕ → List Entry → Open → List ℕ → List ℕ → List Entry → Open → Result Bool Refusal → Type 0
NextIs w rec at octets marks table st octetsAfter marksAfter tableAfter r (Err f) =
    first (transfer_faults (of_width w) (at / size (of_width w)) rec) ≡ Some f
NextIs w rec at octets marks table st octetsAfter marksAfter tableAfter r (Ok marked) =
    Sounds w rec (at / size (of_width w)) octets (mark_bits marks) table st octetsAfter (mark_bits marksAfter) tableAfter r
    × (marked ≡ false → mark_bits marksAfter ≡ mark_bits marks)

-- The same, held in octets and marks. A reader of 32 octets from any item on stays in the octets; and where `plain` is told, no
-- item is a position item.
pub record Taken (w : ℕ) (transfers octets marks : List ℕ) (table : List Entry) (n : ℕ) (plain : Bool) : Type 0 where
  pub taken : TakenAs (of_width w) transfers (codes_in octets marks) table n
  pub same_octets : length octets ≡ item_room
  pub same_marks : length (mark_bits marks) ≡ item_room
  pub room : total (take n table) + 32 ≤ length octets
  pub unmarked : plain ≡ true → Unmarked (mark_bits marks)

-- what reading a take gives: the first fault of its records, or its stretches
abbrev pub ParsedIs : ℕ → List ℕ → List ℕ → List ℕ → List Entry → Result Parsed Refusal → Type 0
ParsedIs w transfers octets marks table (Err f) = first (transfer_checks (of_width w) 0 (records (of_width w) transfers)) ≡ Some f
ParsedIs w transfers octets marks table (Ok p) = Taken w transfers octets marks table p.stretches p.plain
