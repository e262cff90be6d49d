-- What a stream carries (paper 01, 'What a stream carries'; Arm IHI 0051A 2.3.1, 2.3.2, 2.5), over any type A of what a
-- kept byte lane carries. No octet is known here: which octets make a record is in Layout.
use Rattle.std.specs.Prelude.{Bool, ◌&&◌, cond, List, [], ◌∷◌, ◌++◌, map, ℕ, eqb, Option, None, Some}

-- The pair (TID, TDEST). Transfers of one pair belong to one stream (2.6).
pub record Pair : Type 0 where
  pub tid : ℕ
  pub tdest : ℕ

abbrev pub same_pair : Pair → Pair → Bool
same_pair p q = eqb p.tid q.tid && eqb p.tdest q.tdest

-- A transfer: its pair, its byte lanes from lane 0 up, and TLAST. A lane that is `none` is null and carries nothing.
pub record Transfer (A : Type 0) : Type 0 where
  pub pair : Pair
  pub lanes : List (Option A)
  pub last : Bool

-- "Each item carries its record's (TID, TDEST) pair": a data or position item, and an end item, the end of a packet.
pub data Item (A : Type 0) : Type 0 where
  byte : Pair → A → Item A
  end : Pair → Item A

module _ {A : Type 0} where
  abbrev pub item_pair : Item A → Pair
  item_pair (byte p a) = p
  item_pair (end p) = p

  -- what the lanes that are not null carry, "read upwards"
  abbrev pub kept : List (Option A) → List A
  kept [] = []
  kept (None ∷ ls) = kept ls
  kept (Some a ∷ ls) = a ∷ kept ls

  -- items of one pair, with an end behind them where `last` says so
  abbrev pub items_of : Pair → List A → Bool → List (Item A)
  items_of p bytes last = map (byte p) bytes ++ cond last (end p ∷ []) []

  -- "After its lanes, a record with TLAST adds an end item."
  abbrev pub transfer_items : Transfer A → List (Item A)
  transfer_items t = items_of t.pair (kept t.lanes) t.last

  -- "Lanes are read upwards, records onwards." A record with no item adds nothing, whatever its pair: it vanishes.
  abbrev pub items : List (Transfer A) → List (Item A)
  items [] = []
  items (t ∷ ts) = transfer_items t ++ items ts
