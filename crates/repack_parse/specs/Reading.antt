-- What holds while a take is read, stated by what remains of it: up to octet `at` it is read without fault.
use Rattle.std.specs.Prelude.{◌≡◌, List, ℕ, ◌+◌, ◌*◌, ◌/◌, ◌≤◌, ◌<◌, length, take, drop}
use Rattle.refusal.specs.Checks.{first}
use Rattle.stream_spec.specs.declared.Shape.{Shape}
use Rattle.stream_spec.specs.Packed.{cut}
use Rattle.stream_spec.specs.Layout.{size, of_width, records, stream_items}
use Rattle.stream_spec.specs.Checks.{transfer_checks}
use Rattle.stream_spec.specs.Walk.{Passed, Left}
use Rattle.words.specs.Words.{word_at}
use Rattle.stream_record.specs.Header.{header_of}
use Rattle.stream_head.specs.Usual.{Usual}
use Rattle.repack_parse.specs.declared.state.Open.{Open}
use Rattle.repack_scratch.specs.declared.Entry.{Entry}
use Rattle.repack_scratch.specs.Codes.{item_room, stretch_room, pair_limit, held_codes}
use Rattle.repack_parse.specs.Stands.{Stands}
use Rattle.repack_gather.specs.Gather.{Clear}
use Rattle.repack_parse.specs.Read.{Few}

-- the record at octet `at`
abbrev pub record_from : Shape → List ℕ → ℕ → List ℕ
record_from s transfers at = take (size s) (drop at transfers)

-- the record at octet `at` is a usual one: as its two words tell its header
abbrev pub UsualAt : List ℕ → ℕ → ℕ → ℕ → Type 0
UsualAt transfers at pair full = Usual (word_at 4 transfers at) (word_at 4 transfers (at + 3)) pair full (header_of (drop at transfers))

-- Room and faults: the first fault of the take is the first one of the records that are left, and the table and the array of items
-- (codes, or octets) are large enough for them.
pub record Reading (s : Shape) (transfers items : List ℕ) (table : List Entry) (st : Open) (at : ℕ) : Type 0 where
  pub passed : Passed s transfers
  pub left : Left s transfers at
  pub faults :
      first (transfer_checks s 0 (records s transfers)) ≡ first (transfer_checks s (at / size s) (records s (drop at transfers)))
  pub same_items : length items ≡ item_room
  pub same_table : length table ≡ stretch_room
  pub started : st.start ≤ st.items
  pub pair : st.pair < pair_limit
  pub kept : 23 * st.items ≤ 16 * at
  pub many : 8 * (at / size s) ≤ at
  pub few : Few st (at / size s) 0

-- The items: those that are read have these codes.
abbrev pub StandsAt : Shape → List ℕ → List ℕ → List Entry → Open → ℕ → Type 0
StandsAt s transfers codes table st at =
    Stands (take st.items codes) (take st.closed table) st (stream_items s (drop at transfers)) (cut (stream_items s transfers))

-- those of the fast reader, held in octets and marks: no mark stands behind them
pub record Holding (w : ℕ) (transfers octets marks : List ℕ) (table : List Entry) (st : Open) (at : ℕ) : Type 0 where
  pub long : length marks ≡ length octets
  pub clear : Clear st.items marks
  pub stands : StandsAt (of_width w) transfers (held_codes octets marks) table st at

-- from octet `from` on some records more are read, and none of them has a mark
pub record Skimmed (w : ℕ) (transfers octets : List ℕ) (table : List Entry) (st : Open) (from : ℕ) (octetsAfter : List ℕ) (tableAfter : List Entry) (r : Open) (at : ℕ) : Type 0 where
  pub on : from ≤ at
  pub reading : Reading (of_width w) transfers octetsAfter tableAfter r at
  pub holding : (marks : List ℕ) → Holding w transfers octets marks table st from → Holding w transfers octetsAfter marks tableAfter r at
