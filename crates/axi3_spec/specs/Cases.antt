-- Worked cuts: at each bound of the beats and of the row, from unaligned starts, at the top of memory, and refused at each
-- number. One statement covers the whole list (proofs/Cases). Each entry has an id (W01 and on) by which docs/PROMISES.md may cite
-- it: a new one takes the next free id, and none is given twice. All are worked by hand from the request (paper 02, T-02); in
-- the entries only `burst_of` is a definition.
use Rattle.std.specs.Prelude.{List, [], ◌∷◌, ◌++◌, ℕ, length}
use Rattle.burst_spec.specs.declared.Burst.{Burst}
use Rattle.burst_spec.specs.Answers.{burst_of}
use Rattle.axi3_spec.specs.Answers.{Values, cut_values, cut_answer, cut_after, row_after, numbers_room, numbers_after}

-- the numbers as they are typed here; no refusal of a cut has a place or a rule
abbrev typed : ℕ → ℕ → Values
typed refusal count = record { refusal = refusal; place = 0; rule = 0; count = count }

-- what is asked: a cut into this lent row of bursts, into a row of its own of which so many may be used, into this lent row of
-- numbers
pub data Row : Type 0 where
  of_bursts : List Burst → Row
  own : ℕ → Row
  of_numbers : List ℕ → Row

-- the numbers answered, and the row of bursts or of numbers afterwards
pub record Case : Type 0 where
  pub burst : Burst
  pub row : Row
  pub told : Values
  pub bursts : List Burst
  pub numbers : List ℕ

-- how many descriptions there is room for, and what the definitions leave
abbrev pub room_of : Row → ℕ
room_of (of_bursts row) = length row
room_of (own room) = room
room_of (of_numbers row) = numbers_room row

abbrev pub bursts_after : Burst → Row → List Burst
bursts_after x (of_bursts row) = cut_after x row
bursts_after x (own room) = row_after x room
bursts_after x (of_numbers row) = []

abbrev pub numbers_left : Burst → Row → List ℕ
numbers_left x (of_bursts row) = []
numbers_left x (own room) = []
numbers_left x (of_numbers row) = numbers_after x row

abbrev pub computed : Case → Case
computed c =
    record {
      burst = c.burst;
      row = c.row;
      told = cut_values (cut_answer c.burst (room_of c.row));
      bursts = bursts_after c.burst c.row;
      numbers = numbers_left c.burst c.row;
    }

-- what stood in a row before: descriptions of no burst that is allowed
abbrev a : Burst
a = burst_of 0xAAAA 300 9 7 3

abbrev b : Burst
b = burst_of 0xBBBB 301 10 8 5

abbrev c : Burst
c = burst_of 0xCCCC 302 11 9 6

-- a row of 15 and of 16 of them
abbrev fifteen : List Burst
fifteen = a ∷ b ∷ c ∷ a ∷ b ∷ c ∷ a ∷ b ∷ c ∷ a ∷ b ∷ c ∷ a ∷ b ∷ c ∷ []

abbrev sixteen : List Burst
sixteen = a ∷ fifteen

module _ (x : Burst) (row : List Burst) where
  abbrev refuses : ℕ → Case
  refuses number = record { burst = x; row = of_bursts row; told = typed number 0; bursts = row; numbers = [] }

  abbrev cuts_into : ℕ → List Burst → Case
  cuts_into count after = record { burst = x; row = of_bursts row; told = typed 0 count; bursts = after; numbers = [] }

-- A burst is typed as start address, AxLEN, AxSIZE, kind number, bus. Cuts of INCR bursts, by their beats.
abbrev pub cuts : List Case
cuts =
    -- W01: 17 beats, the start unaligned: the second burst is at the aligned address and 16 beats further, 0x1040 and not 0x1042
    cuts_into (burst_of 0x1002 16 2 1 4) (a ∷ b ∷ c ∷ []) 2 (burst_of 0x1002 15 2 1 4 ∷ burst_of 0x1040 0 2 1 4 ∷ c ∷ [])
    -- W02: the same into a row of just two
    ∷ cuts_into (burst_of 0x1002 16 2 1 4) (a ∷ b ∷ []) 2 (burst_of 0x1002 15 2 1 4 ∷ burst_of 0x1040 0 2 1 4 ∷ [])
    -- W03: one less is too short
    ∷ refuses (burst_of 0x1002 16 2 1 4) (a ∷ []) 5
    -- W04: 16 beats come out as themselves, from an unaligned start too
    ∷ cuts_into (burst_of 0x1002 15 2 1 4) (a ∷ b ∷ []) 1 (burst_of 0x1002 15 2 1 4 ∷ b ∷ [])
    -- W05: and 15
    ∷ cuts_into (burst_of 0x1003 14 2 1 128) (a ∷ []) 1 (burst_of 0x1003 14 2 1 128 ∷ [])
    -- W06: and one
    ∷ cuts_into (burst_of 0xFFF 0 2 1 4) (a ∷ []) 1 (burst_of 0xFFF 0 2 1 4 ∷ [])
    -- W07: 31 beats: the last burst has 15
    ∷ cuts_into (burst_of 3 30 0 1 1) (a ∷ b ∷ []) 2 (burst_of 3 15 0 1 1 ∷ burst_of 0x13 14 0 1 1 ∷ [])
    -- W08: 32 beats: two of 16, and none more
    ∷ cuts_into (burst_of 0x2010 31 3 1 64) (a ∷ b ∷ c ∷ []) 2 (burst_of 0x2010 15 3 1 64 ∷ burst_of 0x2090 15 3 1 64 ∷ c ∷ [])
    -- W09: 33 beats: three
    ∷ cuts_into (burst_of 0x21 32 1 1 2) (a ∷ b ∷ c ∷ []) 3 (burst_of 0x21 15 1 1 2 ∷ burst_of 0x40 15 1 1 2 ∷ burst_of 0x60 0 1 1 2 ∷ [])
    ∷ []

-- The longest bursts, and the top of memory.
abbrev pub longest : List Case
longest =
    -- W10: 256 beats (01's B5) into a row of 16
    cuts_into (burst_of 0x1001 255 4 1 16) sixteen 16
    (burst_of 0x1001 15 4 1 16 ∷ burst_of 0x1100 15 4 1 16 ∷ burst_of 0x1200 15 4 1 16 ∷ burst_of 0x1300 15 4 1 16
    ∷ burst_of 0x1400 15 4 1 16 ∷ burst_of 0x1500 15 4 1 16 ∷ burst_of 0x1600 15 4 1 16 ∷ burst_of 0x1700 15 4 1 16
    ∷ burst_of 0x1800 15 4 1 16 ∷ burst_of 0x1900 15 4 1 16 ∷ burst_of 0x1A00 15 4 1 16 ∷ burst_of 0x1B00 15 4 1 16
    ∷ burst_of 0x1C00 15 4 1 16 ∷ burst_of 0x1D00 15 4 1 16 ∷ burst_of 0x1E00 15 4 1 16 ∷ burst_of 0x1F00 15 4 1 16
    ∷ [])
    -- W11: a row of 15 is too short
    ∷ refuses (burst_of 0x1001 255 4 1 16) fifteen 5
    -- W12: 255 beats: the last burst has 15
    ∷ cuts_into (burst_of 0x2001 254 1 1 8) sixteen 16
    (burst_of 0x2001 15 1 1 8 ∷ burst_of 0x2020 15 1 1 8 ∷ burst_of 0x2040 15 1 1 8 ∷ burst_of 0x2060 15 1 1 8
    ∷ burst_of 0x2080 15 1 1 8 ∷ burst_of 0x20A0 15 1 1 8 ∷ burst_of 0x20C0 15 1 1 8 ∷ burst_of 0x20E0 15 1 1 8
    ∷ burst_of 0x2100 15 1 1 8 ∷ burst_of 0x2120 15 1 1 8 ∷ burst_of 0x2140 15 1 1 8 ∷ burst_of 0x2160 15 1 1 8
    ∷ burst_of 0x2180 15 1 1 8 ∷ burst_of 0x21A0 15 1 1 8 ∷ burst_of 0x21C0 15 1 1 8 ∷ burst_of 0x21E0 14 1 1 8
    ∷ [])
    -- W13: a burst that ends at the very last address of 32-bit memory
    ∷ cuts_into (burst_of 0xFFFF_F001 31 7 1 128) (a ∷ b ∷ []) 2 (burst_of 0xFFFF_F001 15 7 1 128 ∷ burst_of 0xFFFF_F800 15 7 1 128 ∷ [])
    ∷ []

-- FIXED and WRAP come out as themselves, and need a row of one too.
abbrev pub others : List Case
others =
    -- W14: FIXED of 16 beats
    cuts_into (burst_of 0x1002 15 2 0 4) (a ∷ b ∷ []) 1 (burst_of 0x1002 15 2 0 4 ∷ b ∷ [])
    -- W15: FIXED of one beat and an empty row
    ∷ refuses (burst_of 5 0 0 0 1) [] 5
    -- W16: WRAP of 16 beats, not cut at its wrap
    ∷ cuts_into (burst_of 0x34 15 2 2 8) (a ∷ b ∷ c ∷ []) 1 (burst_of 0x34 15 2 2 8 ∷ b ∷ c ∷ [])
    -- W17: WRAP of two beats
    ∷ cuts_into (burst_of 0x34 1 2 2 8) (a ∷ []) 1 (burst_of 0x34 1 2 2 8 ∷ [])
    ∷ []

-- Each refusal: 7 to 12 also where the row is too short, and with the row untouched.
abbrev pub refusals : List Case
refusals =
    -- W18: 7 before ROOM
    refuses (burst_of 0 16 0 1 3) [] 7
    -- W19: 8 before ROOM
    ∷ refuses (burst_of 0 16 3 1 4) (a ∷ []) 8
    -- W20: 9 before ROOM
    ∷ refuses (burst_of 0 16 0 3 1) [] 9
    -- W21: 10 before ROOM: 257 beats
    ∷ refuses (burst_of 0 256 0 1 1) sixteen 10
    -- W22: 10: FIXED of 17 beats is not cut
    ∷ refuses (burst_of 0 16 0 0 1) (a ∷ b ∷ []) 10
    -- W23: 11 before ROOM
    ∷ refuses (burst_of 0x32 3 2 2 4) [] 11
    -- W24: 12 before ROOM
    ∷ refuses (burst_of 0x1010 255 4 1 16) fifteen 12
    -- W25: 12: though its two bursts of 16 beats, from 0x1F00 and from 0x2000, would each be allowed
    ∷ refuses (burst_of 0x1F00 31 4 1 16) sixteen 12
    ∷ []

-- A row of its own, 16 descriptions: what is not used of it is blank. And rows of numbers, five to a description.
abbrev o : Burst
o = burst_of 0 0 0 0 0

abbrev pub other_rows : List Case
other_rows =
    -- W26: W01 into a row of its own, of which two may be used
    record {
      burst = burst_of 0x1002 16 2 1 4;
      row = own 2;
      told = typed 0 2;
      bursts = burst_of 0x1002 15 2 1 4 ∷ burst_of 0x1040 0 2 1 4 ∷ o ∷ o ∷ o ∷ o ∷ o ∷ o ∷ o ∷ o ∷ o ∷ o ∷ o ∷ o ∷ o ∷ o ∷ [];
      numbers = [];
    }
    -- W27: of which one may: ROOM
    ∷ record {
      burst = burst_of 0x1002 16 2 1 4;
      row = own 1;
      told = typed 5 0;
      bursts = o ∷ o ∷ o ∷ o ∷ o ∷ o ∷ o ∷ o ∷ o ∷ o ∷ o ∷ o ∷ o ∷ o ∷ o ∷ o ∷ [];
      numbers = [];
    }
    -- W28: W01 into 14 numbers: the rest of four is no room, and is not touched
    ∷ record {
      burst = burst_of 0x1002 16 2 1 4;
      row = of_numbers (61 ∷ 62 ∷ 63 ∷ 64 ∷ 65 ∷ 66 ∷ 67 ∷ 68 ∷ 69 ∷ 70 ∷ 71 ∷ 72 ∷ 73 ∷ 74 ∷ []);
      told = typed 0 2;
      bursts = [];
      numbers = 0x1002 ∷ 15 ∷ 2 ∷ 1 ∷ 4 ∷ 0x1040 ∷ 0 ∷ 2 ∷ 1 ∷ 4 ∷ 71 ∷ 72 ∷ 73 ∷ 74 ∷ [];
    }
    -- W29: into nine numbers: ROOM
    ∷ record {
      burst = burst_of 0x1002 16 2 1 4;
      row = of_numbers (61 ∷ 62 ∷ 63 ∷ 64 ∷ 65 ∷ 66 ∷ 67 ∷ 68 ∷ 69 ∷ []);
      told = typed 5 0;
      bursts = [];
      numbers = 61 ∷ 62 ∷ 63 ∷ 64 ∷ 65 ∷ 66 ∷ 67 ∷ 68 ∷ 69 ∷ [];
    }
    -- W30: a WRAP, AxBURST 2, into just five numbers
    ∷ record {
      burst = burst_of 0x34 15 2 2 8;
      row = of_numbers (61 ∷ 62 ∷ 63 ∷ 64 ∷ 65 ∷ []);
      told = typed 0 1;
      bursts = [];
      numbers = 0x34 ∷ 15 ∷ 2 ∷ 2 ∷ 8 ∷ [];
    }
    -- W31: a FIXED, AxBURST 0, into seven: the rest of two is not touched
    ∷ record {
      burst = burst_of 5 3 0 0 1;
      row = of_numbers (61 ∷ 62 ∷ 63 ∷ 64 ∷ 65 ∷ 66 ∷ 67 ∷ []);
      told = typed 0 1;
      bursts = [];
      numbers = 5 ∷ 3 ∷ 0 ∷ 0 ∷ 1 ∷ 66 ∷ 67 ∷ [];
    }
    -- W32: and into four: ROOM
    ∷ record {
      burst = burst_of 5 3 0 0 1;
      row = of_numbers (61 ∷ 62 ∷ 63 ∷ 64 ∷ []);
      told = typed 5 0;
      bursts = [];
      numbers = 61 ∷ 62 ∷ 63 ∷ 64 ∷ [];
    }
    ∷ []

abbrev pub cut_cases : List Case
cut_cases = cuts ++ (longest ++ (others ++ (refusals ++ other_rows)))
