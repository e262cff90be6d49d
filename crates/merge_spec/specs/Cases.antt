-- Worked merges: turns, what goes out, and each refusal alone and beside its neighbours in the order. One statement covers the whole list
-- (`every_case` of proofs/Cases). Each entry has an id (W01 and on) by which docs/PROMISES.md may cite it: a new one takes the next free id,
-- and none is given twice. All are worked by hand from the request (paper 02, T-08); in the entries only records,
-- shapes and lists are definitions.
use Rattle.std.specs.Prelude.{List, [], ◌∷◌, ◌++◌, ℕ, length, replicate}
use Rattle.stream_spec.specs.declared.Shape.{Shape}
use Rattle.stream_spec.specs.Layout.{shaped}
use Rattle.stream_spec.specs.Tables.{lanes, one}
use Rattle.merge_spec.specs.Answers.{Values, values, merged_values, merge_answer, merge_after}

-- both lists, the memory lent; the numbers that must be answered, and what must stand in the memory afterwards
pub record Case : Type 0 where
  pub shape : Shape
  pub first : List ℕ
  pub second : List ℕ
  pub lent : List ℕ
  pub told : Values
  pub left : List ℕ

abbrev pub computed : Case → Case
computed c =
    record {
      shape = c.shape;
      first = c.first;
      second = c.second;
      lent = c.lent;
      told = merged_values (merge_answer c.shape c.first c.second (length c.lent));
      left = merge_after c.shape c.first c.second c.lent;
    }

-- n octets of lent memory that nobody has written
abbrev lent : ℕ → List ℕ
lent n = replicate n 0xEE

module _ (s : Shape) (first second : List ℕ) where
  -- so many records, into a memory of n octets
  abbrev writes : ℕ → ℕ → List ℕ → Case
  writes count n left = record { shape = s; first = first; second = second; lent = lent n; told = values 0 0 0 count; left = left }

  -- refused with this number, port and place; the memory of n octets is as it was
  abbrev refuses : ℕ → ℕ → ℕ → ℕ → Case
  refuses number port place n =
      record { shape = s; first = first; second = second; lent = lent n; told = values number port place 0; left = lent n }

-- records of one lane with data: octet 0 is TLAST, then TID, TDEST 0 and the data octet
abbrev pub rec : ℕ → ℕ → ℕ → List ℕ
rec last tid octet = one last tid 0 1 1 octet

-- faults: a flag too much, and a reserved lane
abbrev pub flagged : ℕ → List ℕ
flagged tid = one 2 tid 0 1 1 7

abbrev reserved : ℕ → List ℕ
reserved tid = one 0 tid 0 0 1 7

abbrev pub turn_cases : List Case
turn_cases =
    -- W01: turns of two records, one, one and one; port 0 first. One list after the other, and record by record, are something else
    writes (lanes 1) (rec 0 1 10 ++ rec 1 1 11 ++ rec 0 1 12) (rec 1 2 20 ++ rec 1 2 21) 5 40
    (rec 0 1 10 ++ rec 1 1 11 ++ rec 1 130 20 ++ rec 0 1 12 ++ rec 1 130 21)
    -- W02: a TLAST of another pair, TID or TDEST, ends a turn too
    ∷ writes (lanes 1) (rec 0 1 10 ++ rec 1 2 11 ++ rec 0 1 12 ++ one 1 1 3 1 1 13 ++ rec 0 1 14) (rec 0 1 20 ++ rec 1 3 21 ++ rec 1 1 22) 8 64
    (rec 0 1 10 ++ rec 1 2 11 ++ rec 0 129 20 ++ rec 1 131 21 ++ rec 0 1 12 ++ one 1 1 3 1 1 13 ++ rec 1 129 22 ++ rec 0 1 14)
    -- W03: port 1 has nothing left and is skipped
    ∷ writes (lanes 1) (rec 1 1 10 ++ rec 1 1 11 ++ rec 1 1 12) (rec 1 1 20) 4 32 (rec 1 1 10 ++ rec 1 129 20 ++ rec 1 1 11 ++ rec 1 1 12)
    -- W04: port 0 has nothing left and is skipped
    ∷ writes (lanes 1) (rec 1 1 10) (rec 1 1 20 ++ rec 1 1 21 ++ rec 0 1 22) 4 32 (rec 1 1 10 ++ rec 1 129 20 ++ rec 1 129 21 ++ rec 0 129 22)
    -- W05: port 0's list is empty
    ∷ writes (lanes 1) [] (rec 0 1 20 ++ rec 1 1 21) 2 16 (rec 0 129 20 ++ rec 1 129 21)
    -- W06: port 1's list is empty
    ∷ writes (lanes 1) (rec 1 1 10 ++ rec 0 1 11) [] 2 16 (rec 1 1 10 ++ rec 0 1 11)
    -- W07: both are
    ∷ writes (lanes 1) [] [] 0 2 (lent 2)
    -- W08: no TLAST at all: a turn each
    ∷ writes (lanes 1) (rec 0 1 10 ++ rec 0 1 11) (rec 0 1 20 ++ rec 0 1 21) 4 32 (rec 0 1 10 ++ rec 0 1 11 ++ rec 0 129 20 ++ rec 0 129 21)
    -- W09: port 0's last turn ends with its list, and then port 1 goes on, turn after turn
    ∷ writes (lanes 1) (rec 1 1 10 ++ rec 0 1 11) (rec 1 1 20 ++ rec 1 1 21 ++ rec 1 1 22) 5 40
    (rec 1 1 10 ++ rec 1 129 20 ++ rec 0 1 11 ++ rec 1 129 21 ++ rec 1 129 22)
    -- W10: an all-null record with TLAST is a turn
    ∷ writes (lanes 1) (one 1 1 0 0 0 0 ++ rec 1 1 11) (one 1 2 0 0 0 0 ++ rec 1 2 21) 4 32
    (one 1 1 0 0 0 0 ++ one 1 130 0 0 0 0 ++ rec 1 1 11 ++ rec 1 130 21)
    -- W11: all-null records are passed on, with their idle data; position bytes keep theirs
    ∷ writes (lanes 1) (one 0 1 15 0 0 0x5A ++ one 1 1 0 1 0 0x5B) (one 0 2 3 0 0 0x5C) 3 24
    (one 0 1 15 0 0 0x5A ++ one 1 1 0 1 0 0x5B ++ one 0 130 3 0 0 0x5C)
    -- W12: TID 127 on either port, and TID 0
    ∷ writes (lanes 1) (rec 0 127 10 ++ rec 1 0 11) (rec 0 127 20 ++ rec 0 0 21) 4 32 (rec 0 127 10 ++ rec 1 0 11 ++ rec 0 255 20 ++ rec 0 128 21)
    -- W13: user bits of any lane stay, also of a null one; the memory behind is as it was
    ∷ writes (shaped 1 2) (one 1 1 0 0 0 7 ++ (3 ∷ [])) (one 0 1 0 1 1 8 ++ (2 ∷ [])) 2 20
    (one 1 1 0 0 0 7 ++ (3 ∷ []) ++ one 0 129 0 1 1 8 ++ (2 ∷ []) ++ lent 2)
    -- W14: two lanes, of records of nine octets; nothing but the TID is touched
    ∷ writes (lanes 2) (0 ∷ 1 ∷ 2 ∷ 0x03 ∷ 0 ∷ 0x02 ∷ 0 ∷ 0x11 ∷ 0x12 ∷ []) (1 ∷ 3 ∷ 4 ∷ 0x02 ∷ 0 ∷ 0x02 ∷ 0 ∷ 0x21 ∷ 0x22 ∷ []) 2 19
    (0 ∷ 1 ∷ 2 ∷ 0x03 ∷ 0 ∷ 0x02 ∷ 0 ∷ 0x11 ∷ 0x12 ∷ 1 ∷ 131 ∷ 4 ∷ 0x02 ∷ 0 ∷ 0x02 ∷ 0 ∷ 0x21 ∷ 0x22 ∷ 0xEE ∷ [])
    ∷ []

abbrev pub refusal_cases : List Case
refusal_cases =
    -- W15: 1 before everything, and it names port 0
    refuses (lanes 0) (1 ∷ []) (1 ∷ []) 1 0 0 0
    -- W16: 17 lanes; 1 before 16
    ∷ refuses (shaped 17 5) [] [] 1 0 0 3
    -- W17: 16 before 2, and it names port 0
    ∷ refuses (shaped 1 5) (1 ∷ []) (1 ∷ []) 16 0 0 3
    -- W18: 2 of port 0 before 2 of port 1
    ∷ refuses (lanes 1) (1 ∷ []) (1 ∷ []) 2 0 0 3
    -- W19: 2 of port 1 before any record of port 0
    ∷ refuses (lanes 1) (flagged 128) (1 ∷ []) 2 1 0 3
    -- W20: 2 counts the octets of user bits
    ∷ refuses (shaped 1 1) [] (rec 0 1 10) 2 1 0 3
    -- W21: in one record 3 before 17
    ∷ refuses (lanes 1) (flagged 128) [] 3 0 0 3
    -- W22: in one record 4 before 17
    ∷ refuses (lanes 1) (reserved 128) [] 4 0 0 3
    -- W23: 17 of a record before 3 of the next
    ∷ refuses (lanes 1) (rec 0 1 10 ++ rec 0 128 11 ++ flagged 1) [] 17 0 1 3
    -- W24: 17 of port 0's last record before 3 of port 1's first
    ∷ refuses (lanes 1) (rec 0 1 10 ++ rec 0 128 11) (flagged 1) 17 0 1 3
    -- W25: 3 of port 1, whose place is counted in its own list
    ∷ refuses (lanes 1) (rec 0 1 10) (rec 0 1 20 ++ rec 0 1 21 ++ flagged 128) 3 1 2 3
    -- W26: 4 of port 1
    ∷ refuses (lanes 1) (rec 0 1 10) (rec 0 1 20 ++ reserved 128) 4 1 1 3
    -- W27: 17 of port 1, the most that a TID is, before 5
    ∷ refuses (lanes 1) (rec 0 127 10) (rec 0 127 20 ++ rec 0 255 21) 17 1 1 0
    -- W28: 17 of a record without items, of port 0
    ∷ refuses (lanes 1) (one 0 128 0 0 0 0) (rec 0 1 20) 17 0 0 16
    -- W29: the same of port 1
    ∷ refuses (lanes 1) (rec 0 1 10) (one 0 128 0 0 0 0) 17 1 0 16
    -- W30: 3 of the padding of user bits
    ∷ refuses (shaped 1 2) [] (rec 0 1 20 ++ (4 ∷ [])) 3 1 0 9
    -- W31: 5 where one octet is missing, and it names port 0
    ∷ refuses (lanes 1) (rec 0 1 10) (rec 0 1 20) 5 0 0 15
    -- W32: 5 where port 1's list alone does not fit
    ∷ refuses (lanes 1) [] (rec 0 1 20) 5 0 0 7
    ∷ []

abbrev pub merge_cases : List Case
merge_cases = turn_cases ++ refusal_cases
