-- Worked cases of the definitions: what is asked, and what is told, typed by hand and never computed. The list
-- `bench_cases` has the starred cases S1 to S5 of paper 01; `worked_cases` pins what no starred case does, each with an id
-- (W01 and on) by which docs/PROMISES.md may cite it: a new case takes the next free one, wherever it stands, and none is given twice.
-- One statement covers each list (`bench` and `worked` of proofs/Cases).
use Rattle.std.specs.Prelude.{Bool, List, [], ◌∷◌, ◌++◌, ℕ, length}
use Rattle.stream_spec.specs.declared.Shape.{Shape}
use Rattle.stream_spec.specs.Answers.{Values, values, verdict_values, written_values, lookup_values, judge_answer, harvest_answer, harvest_after, fill_answer, fill_after, data_answer, data_part, data_start, repack_answer, repack_after, downsize_answer, downsize_after}
use Rattle.stream_spec.specs.Layout.{shaped}
use Rattle.stream_spec.specs.Handshake.{low, high}
use Rattle.stream_spec.specs.Tables.{lanes, one}

-- A call with its arguments. The last list of `repack`, `downsize` and `harvest` is the lent output.
pub data Asked : Type 0 where
  judge : Shape → List ℕ → Asked
  harvest : Shape → List ℕ → List ℕ → Asked
  fill_in : Bool → Shape → List ℕ → Asked
  data_of : Shape → List ℕ → ℕ → Asked
  start_of : Shape → List ℕ → ℕ → Asked
  repack : Shape → ℕ → List ℕ → List ℕ → Asked
  downsize : Shape → ℕ → List ℕ → List ℕ → Asked

-- The numbers told, and the octets: of lent memory afterwards, or of the part handed out; or where that part starts.
pub record Told : Type 0 where
  pub numbers : Values
  pub octets : List ℕ

pub record Case : Type 0 where
  pub asked : Asked
  pub told : Told

abbrev pub tells : Values → List ℕ → Told
tells numbers octets = record { numbers = numbers; octets = octets }

-- what the definitions tell
unfoldable pub answer : Asked → Told
unfolding judge_answer harvest_answer harvest_after fill_answer fill_after data_answer data_part data_start repack_answer repack_after downsize_answer downsize_after
answer (judge s xs) = tells (verdict_values (judge_answer s xs)) []
answer (harvest s xs out) = tells (written_values (harvest_answer s xs (length out))) (harvest_after s xs out)
answer (fill_in level s xs) = tells (written_values (fill_answer s xs)) (fill_after level s xs)
answer (data_of s xs k) = tells (lookup_values (data_answer s xs k)) (data_part s xs k)
answer (start_of s xs k) = tells (lookup_values (data_answer s xs k)) (data_start s xs k ∷ [])
answer (repack s v xs out) = tells (written_values (repack_answer s v xs (length out))) (repack_after s v xs out)
answer (downsize s v xs out) = tells (written_values (downsize_answer s v xs (length out))) (downsize_after s v xs out)

-- ---- how cases are written

abbrev gives : Asked → ℕ → List ℕ → Case
gives asked count octets = record { asked = asked; told = tells (values 0 0 0 count) octets }

-- refused with this number and place; lent memory or the part is as given
abbrev refuses : Asked → ℕ → ℕ → List ℕ → Case
refuses asked number place octets = record { asked = asked; told = tells (values number place 0 0) octets }

abbrev breaks : Asked → ℕ → ℕ → Case
breaks asked cycle rule = record { asked = asked; told = tells (values 0 cycle rule 0) [] }

-- four octets of lent memory that were not written, and eight
abbrev ee : List ℕ
ee = 0xEE ∷ 0xEE ∷ 0xEE ∷ 0xEE ∷ []

abbrev eight : List ℕ
eight = ee ++ ee

-- P1's transfer
abbrev pub p1 : List ℕ
p1 = 0x01 ∷ 0x01 ∷ 0x02 ∷ 0x0D ∷ 0x00 ∷ 0x09 ∷ 0x00 ∷ 0x11 ∷ 0x22 ∷ 0x33 ∷ 0x44 ∷ []

-- S3's two records of width 1: AA, and TLAST alone
abbrev aa : List ℕ
aa = 0x00 ∷ 0x00 ∷ 0x00 ∷ 0x01 ∷ 0x00 ∷ 0x01 ∷ 0x00 ∷ 0xAA ∷ []

abbrev last_alone : List ℕ
last_alone = 0x01 ∷ 0x00 ∷ 0x00 ∷ 0x00 ∷ 0x00 ∷ 0x00 ∷ 0x00 ∷ 0x00 ∷ []

-- an all-null record of width 1 without TLAST, of the pair (tid, 0)
abbrev nulls : ℕ → List ℕ
nulls tid = 0x00 ∷ tid ∷ 0x00 ∷ 0x00 ∷ 0x00 ∷ 0x00 ∷ 0x00 ∷ 0x00 ∷ []

-- T-06: three lanes with three user bits each, numbers 5, 7 and 6: 5 + 7*8 + 6*64 is 0x1BD
abbrev pub straddled : List ℕ
straddled = 0x01 ∷ 1 ∷ 2 ∷ 0x05 ∷ 0 ∷ 0x01 ∷ 0 ∷ 17 ∷ 34 ∷ 51 ∷ 0xBD ∷ 0x01 ∷ []

-- ---- paper 01, 'Bench cases': the starred ones on streams, and S6 and S7

-- S1: P1's transfer at width 4
abbrev pub s1 : Case
s1 =
    gives (repack (lanes 4) 4 p1 (eight ++ ee)) 1
    (0x01 ∷ 0x01 ∷ 0x02 ∷ 0x07 ∷ 0x00 ∷ 0x05 ∷ 0x00 ∷ 0x11 ∷ 0x00 ∷ 0x44 ∷ 0x00 ∷ 0xEE ∷ [])

-- S2: P1's transfer, lane-keeping to 2
abbrev pub s2 : Case
s2 =
    gives (downsize (lanes 4) 2 p1 (eight ++ eight ++ ee)) 2
    (0x00 ∷ 0x01 ∷ 0x02 ∷ 0x01 ∷ 0x00 ∷ 0x01 ∷ 0x00 ∷ 0x11 ∷ 0x00
    ∷ 0x01 ∷ 0x01 ∷ 0x02 ∷ 0x03 ∷ 0x00 ∷ 0x02 ∷ 0x00 ∷ 0x00 ∷ 0x44 ∷ 0xEE ∷ 0xEE ∷ [])

-- S3: the end joins the full record before it
abbrev pub s3 : Case
s3 =
    gives (repack (lanes 1) 1 (aa ++ last_alone) (eight ++ ee)) 1
    (0x01 ∷ 0x00 ∷ 0x00 ∷ 0x01 ∷ 0x00 ∷ 0x01 ∷ 0x00 ∷ 0xAA ∷ ee)

-- S4: two packets with nothing in them
abbrev pub s4 : Case
s4 =
    gives (repack (lanes 1) 1 (last_alone ++ last_alone) (eight ++ eight ++ ee)) 2
    (0x01 ∷ 0x00 ∷ 0x00 ∷ 0x00 ∷ 0x00 ∷ 0x00 ∷ 0x00 ∷ 0x00
    ∷ 0x01 ∷ 0x00 ∷ 0x00 ∷ 0x00 ∷ 0x00 ∷ 0x00 ∷ 0x00 ∷ 0x00 ∷ ee)

-- S5: a record with no item vanishes
abbrev pub s5 : Case
s5 = gives (repack (lanes 1) 1 (nulls 0) ee) 0 ee

-- S6: empty
abbrev pub s6 : Case
s6 = gives (repack (lanes 4) 4 [] ee) 0 ee

-- S7: TIDs 1, 2, 1 are three stretches, here at a width that could hold them all
abbrev pub s7 : Case
s7 =
    gives (repack (lanes 1) 4 (one 0 1 0 1 1 7 ++ one 0 2 0 1 1 8 ++ one 0 1 0 1 1 9) (eight ++ eight ++ eight ++ eight ++ (0xEE ∷ []))) 3
    (0 ∷ 1 ∷ 0 ∷ 1 ∷ 0 ∷ 1 ∷ 0 ∷ 7 ∷ 0 ∷ 0 ∷ 0 ∷ 0 ∷ 2 ∷ 0 ∷ 1 ∷ 0 ∷ 1 ∷ 0 ∷ 8 ∷ 0 ∷ 0 ∷ 0
    ∷ 0 ∷ 1 ∷ 0 ∷ 1 ∷ 0 ∷ 1 ∷ 0 ∷ 9 ∷ 0 ∷ 0 ∷ 0 ∷ [])

unfoldable pub bench_cases : List Case
bench_cases = s1 ∷ s2 ∷ s3 ∷ s4 ∷ s5 ∷ []

-- ---- what no starred case pins

-- a record of 16 lanes, all data, with this octet 0 and this data in lane 15
abbrev sixteen : ℕ → ℕ → List ℕ
sixteen flags octet =
    flags ∷ 5 ∷ 2 ∷ 0xFF ∷ 0xFF ∷ 0xFF ∷ 0xFF ∷ 0 ∷ 1 ∷ 2 ∷ 3 ∷ 4 ∷ 5 ∷ 6 ∷ 7 ∷ 8 ∷ 9 ∷ 10 ∷ 11 ∷ 12 ∷ 13 ∷ 14 ∷ octet ∷ []

-- two records of width 2; the second has a bad octet 0, which data octets do not read
abbrev two_by_two : List ℕ
two_by_two = 0 ∷ 0 ∷ 0 ∷ 0 ∷ 0 ∷ 0 ∷ 0 ∷ 1 ∷ 2 ∷ 0xFF ∷ 0 ∷ 0 ∷ 0 ∷ 0 ∷ 0 ∷ 0 ∷ 3 ∷ 4 ∷ []

-- reset ends a wait: TVALID may fall with ARESETn, and what follows is a new transfer
abbrev pub reset_ends_wait : Case
reset_ends_wait =
    gives (judge (lanes 1) (one 0x0A 5 0 1 1 7 ++ one 0x00 0 0 0 0 0 ++ one 0x08 0 0 0 0 0 ++ one 0x0E 6 0 1 1 8)) 1 []

unfoldable pub worked_cases : List Case
worked_cases =
    -- W01: R1 behind a clean cycle
    breaks (judge (lanes 1) (one 0x08 0 0 0 0 0 ++ one 0x02 0 0 0 0 0)) 1 1
    -- W02: R2 behind a clean cycle
    ∷ breaks (judge (lanes 1) (one 0x0A 0 0 1 1 7 ++ one 0x08 0 0 1 1 7)) 1 2
    -- W03: R3 behind a clean cycle: TID
    ∷ breaks (judge (lanes 1) (one 0x0A 5 0 1 1 7 ++ one 0x0E 6 0 1 1 7)) 1 3
    -- W04: R4 behind a clean cycle
    ∷ breaks (judge (lanes 1) (one 0x08 0 0 0 0 0 ++ one 0x0A 0 0 0 1 0)) 1 4
    -- W05: R3 reads TDEST
    ∷ breaks (judge (lanes 1) (one 0x0A 5 2 1 1 7 ++ one 0x0E 5 3 1 1 7)) 1 3
    -- W06: R3 reads a position lane's data too
    ∷ breaks (judge (lanes 1) (one 0x0A 5 2 1 0 7 ++ one 0x0E 5 2 1 0 8)) 1 3
    -- W07: R3 reads TLAST
    ∷ breaks (judge (lanes 1) (one 0x0A 5 2 1 1 7 ++ one 0x0F 5 2 1 1 7)) 1 3
    -- W08: R3 reads TKEEP and TSTRB
    ∷ breaks (judge (lanes 1) (one 0x0A 5 2 1 1 7 ++ one 0x0E 5 2 0 0 7)) 1 3
    -- W09: R3 reads TSTRB
    ∷ breaks (judge (lanes 1) (one 0x0A 5 2 1 1 7 ++ one 0x0E 5 2 1 0 7)) 1 3
    -- W10: R3 reads the data of the last lane
    ∷ breaks (judge (lanes 2) (0x0A ∷ 5 ∷ 2 ∷ 3 ∷ 0 ∷ 3 ∷ 0 ∷ 7 ∷ 8 ∷ 0x0E ∷ 5 ∷ 2 ∷ 3 ∷ 0 ∷ 3 ∷ 0 ∷ 7 ∷ 9 ∷ [])) 1 3
    -- W11: R3 reads neither TREADY nor a cycle that did not wait; two transfers are counted
    ∷ gives (judge (lanes 1) (one 0x0A 5 2 1 1 7 ++ one 0x0E 5 2 1 1 7 ++ one 0x0E 6 3 0 0 0)) 2 []
    -- W12: R3 in lane 15 of 16
    ∷ breaks (judge (lanes 16) (sixteen 0x0A 15 ++ sixteen 0x0E 16)) 1 3
    -- W13: sixteen lanes that hold
    ∷ gives (judge (lanes 16) (sixteen 0x0A 15 ++ sixteen 0x0E 15)) 1 []
    -- W14: R3 where TLAST falls
    ∷ breaks (judge (lanes 1) (one 0x0B 5 2 1 1 7 ++ one 0x0E 5 2 1 1 7)) 1 3
    -- W15: a wait with TLAST high is kept like any other
    ∷ gives (judge (lanes 1) (one 0x0B 5 2 1 1 7 ++ one 0x0F 5 2 1 1 7)) 1 []
    -- W16: reset ends a wait
    ∷ reset_ends_wait
    -- W17: the first record follows no waiting cycle; a cycle in reset or without TVALID carries nothing
    ∷ gives (judge (lanes 1) (one 0x0C 0 0 0 1 0 ++ one 0x04 0 0 0 1 0)) 0 []
    -- W18: R1 at the first record
    ∷ breaks (judge (lanes 1) (one 0x02 0 0 0 0 0)) 0 1
    -- W19: two rules in one cycle: the lowest
    ∷ breaks (judge (lanes 1) (one 0x0A 5 0 1 1 7 ++ one 0x0A 6 0 0 1 7)) 1 3
    -- W20: two cycles: the earliest
    ∷ breaks (judge (lanes 1) (one 0x0A 0 0 0 1 0 ++ one 0x02 0 0 0 0 0)) 0 4
    -- W21: 1 before everything else: width 0
    ∷ refuses (judge (lanes 0) (0 ∷ [])) 1 0 []
    -- W22: 1: width 17
    ∷ refuses (judge (lanes 17) (0 ∷ [])) 1 0 []
    -- W23: width 16 is taken
    ∷ gives (judge (lanes 16) []) 0 []
    -- W24: 1 of the output's width: 0
    ∷ refuses (repack (lanes 1) 0 (0 ∷ []) ee) 1 0 ee
    -- W25: 1 of the output's width: 17
    ∷ refuses (repack (lanes 1) 17 (0 ∷ []) ee) 1 0 ee
    -- W26: output width 16 is taken
    ∷ gives (repack (lanes 1) 16 [] ee) 0 ee
    -- W27: 1 before 6: the input's width
    ∷ refuses (downsize (lanes 17) 3 (0 ∷ []) ee) 1 0 ee
    -- W28: 1 before 6: the output's width
    ∷ refuses (downsize (lanes 4) 17 (0 ∷ []) ee) 1 0 ee
    -- W29: 1 before 6: an output width of 0
    ∷ refuses (downsize (lanes 4) 0 (0 ∷ []) ee) 1 0 ee
    -- W30: 6 before 2: v does not divide w
    ∷ refuses (downsize (lanes 4) 3 (0 ∷ []) ee) 6 0 ee
    -- W31: 6: v is above w
    ∷ refuses (downsize (lanes 2) 4 (0 ∷ []) ee) 6 0 ee
    -- W32: 2 before 3 and 4: no whole number of records
    ∷ refuses (repack (lanes 1) 1 (one 0x02 0 0 0 1 0 ++ (0 ∷ [])) ee) 2 0 ee
    -- W33: 2 before 13
    ∷ refuses (data_of (lanes 1) (aa ++ (0 ∷ [])) 9) 2 0 []
    -- W34: 2 for a record that is there
    ∷ refuses (data_of (lanes 1) (aa ++ (0 ∷ [])) 0) 2 0 []
    -- W35: 2 of fill-in, which leaves the take as it was
    ∷ refuses (fill_in low (lanes 1) (one 0xFF 0 0 0 0 0 ++ (1 ∷ []))) 2 0 (one 0xFF 0 0 0 0 0 ++ (1 ∷ []))
    -- W36: 13: no such record
    ∷ refuses (data_of (lanes 1) aa 1) 13 0 []
    -- W37: the data octets of record 1; bad flag bits are not read
    ∷ gives (data_of (lanes 2) two_by_two 1) 0 (3 ∷ 4 ∷ [])
    -- W38: where record 0's part starts
    ∷ gives (start_of (lanes 2) two_by_two 0) 0 (7 ∷ [])
    -- W39: where record 1's part starts
    ∷ gives (start_of (lanes 2) two_by_two 1) 0 (16 ∷ [])
    -- W40: 13, and the start is 0
    ∷ refuses (start_of (lanes 2) two_by_two 2) 13 0 (0 ∷ [])
    -- W41: 1, and the start is 0
    ∷ refuses (start_of (lanes 17) two_by_two 1) 1 0 (0 ∷ [])
    -- W42: 2, and the start is 0
    ∷ refuses (start_of (lanes 3) two_by_two 1) 2 0 (0 ∷ [])
    -- W43: 3: a transfer record has no flag but TLAST
    ∷ refuses (repack (lanes 1) 1 (aa ++ one 0x02 0 0 0 0 0) ee) 3 1 ee
    -- W44: 3: TDEST 16
    ∷ refuses (repack (lanes 1) 1 (aa ++ one 0x00 0 16 0 0 0) ee) 3 1 ee
    -- W45: 3: TKEEP at or above w; TDEST 15 is taken
    ∷ refuses (repack (lanes 1) 1 (aa ++ one 0x00 0 15 2 0 0) ee) 3 1 ee
    -- W46: 3: TSTRB at or above w
    ∷ refuses (repack (lanes 1) 1 (aa ++ one 0x00 0 15 0 2 0) ee) 3 1 ee
    -- W47: 3: TKEEP's high octet
    ∷ refuses (repack (lanes 1) 1 (aa ++ (0 ∷ 0 ∷ 0 ∷ 0 ∷ 1 ∷ 0 ∷ 0 ∷ 0 ∷ [])) ee) 3 1 ee
    -- W48: 3: TSTRB's high octet
    ∷ refuses (repack (lanes 1) 1 (aa ++ (0 ∷ 0 ∷ 0 ∷ 0 ∷ 0 ∷ 0 ∷ 1 ∷ 0 ∷ [])) ee) 3 1 ee
    -- W49: 3: bit 7 of octet 0
    ∷ refuses (repack (lanes 1) 1 (aa ++ one 0x80 0 0 0 0 0) ee) 3 1 ee
    -- W50: 3: bit 7 of a cycle's octet 0; TID 255 and TDEST 15 are taken
    ∷ refuses (judge (lanes 1) (one 0x0F 255 15 1 1 255 ++ one 0x80 0 0 0 0 0)) 3 1 []
    -- W51: 3: bit 4 of a cycle's octet 0
    ∷ refuses (judge (lanes 1) (one 0x0F 255 15 1 1 255 ++ one 0x1F 0 0 0 0 0)) 3 1 []
    -- W52: records in order: 4 of record 0 before 3 of record 1
    ∷ refuses (repack (lanes 1) 1 (one 0x00 0 0 0 1 0 ++ one 0x02 0 0 0 0 0) ee) 4 0 ee
    -- W53: 3 before 4 in one record
    ∷ refuses (repack (lanes 1) 1 (aa ++ one 0x02 0 0 0 1 0) ee) 3 1 ee
    -- W54: 4 with its record; a refused call leaves lent memory as it was
    ∷ refuses (downsize (lanes 1) 1 (aa ++ one 0x00 0 0 0 1 0) ee) 4 1 ee
    -- W55: 3 of any cycle before any rule
    ∷ refuses (judge (lanes 1) (one 0x02 0 0 0 0 0 ++ one 0x10 0 0 0 0 0)) 3 1 []
    -- W56: the same of harvesting
    ∷ refuses (harvest (lanes 1) (one 0x02 0 0 0 0 0 ++ one 0x10 0 0 0 0 0) []) 3 1 []
    -- W57: 14 before 5, with the cycle and the rule of the finding; a reserved lane is R4 and not 4
    ∷ record { asked = harvest (lanes 1) (one 0x0E 0 0 1 1 7 ++ one 0x0E 0 0 0 1 0) []; told = tells (values 14 1 4 0) [] }
    -- W58: 5 of harvesting: one octet short
    ∷ refuses (harvest (lanes 1) (one 0x0F 1 2 1 1 7) (0 ∷ 0 ∷ 0 ∷ 0 ∷ 0 ∷ 0 ∷ 0 ∷ [])) 5 0 (0 ∷ 0 ∷ 0 ∷ 0 ∷ 0 ∷ 0 ∷ 0 ∷ [])
    -- W59: what is harvested: octet 0 holds TLAST alone, a waiting cycle is left out, the octets after it stay
    ∷ gives (harvest (lanes 1) (one 0x0F 1 2 1 0 7 ++ one 0x0A 1 2 1 1 8 ++ one 0x0E 1 2 1 1 8) (eight ++ eight ++ ee)) 2
    (one 0x01 1 2 1 0 7 ++ one 0x00 1 2 1 1 8 ++ ee)
    -- W60: 5 of repacking: one octet short
    ∷ refuses (repack (lanes 1) 1 aa (0 ∷ 0 ∷ 0 ∷ 0 ∷ 0 ∷ 0 ∷ 0 ∷ [])) 5 0 (0 ∷ 0 ∷ 0 ∷ 0 ∷ 0 ∷ 0 ∷ 0 ∷ [])
    -- W61: the exact room is enough
    ∷ gives (repack (lanes 1) 1 aa eight) 1 aa
    -- W62: 5 of downsizing
    ∷ refuses (downsize (lanes 1) 1 aa (0 ∷ [])) 5 0 (0 ∷ [])
    -- W63: slices with no item need room too: a data lane and a null one
    ∷ refuses (downsize (lanes 2) 1 (0 ∷ 3 ∷ 4 ∷ 1 ∷ 0 ∷ 1 ∷ 0 ∷ 5 ∷ 6 ∷ []) (eight ++ ee)) 5 0 (eight ++ ee)
    -- W64: fill-in low touches bit 0 of octet 0 of each record, and has no 3
    ∷ gives (fill_in low (lanes 1) (one 0xFF 255 255 255 255 255 ++ one 0x08 0 0 0 0 0)) 2
    (one 0xFE 255 255 255 255 255 ++ one 0x08 0 0 0 0 0)
    -- W65: fill-in high
    ∷ gives (fill_in high (lanes 1) (one 0xFE 255 255 255 255 255 ++ one 0x0F 0 0 0 0 0)) 2
    (one 0xFF 255 255 255 255 255 ++ one 0x0F 0 0 0 0 0)
    -- W66: an all-null record of another pair between two of one stretch cuts nothing
    ∷ gives (repack (lanes 1) 2 (aa ++ nulls 1 ++ one 0x00 0 0 1 1 0xBB) (eight ++ ee)) 1
    (0x00 ∷ 0x00 ∷ 0x00 ∷ 0x03 ∷ 0x00 ∷ 0x03 ∷ 0x00 ∷ 0xAA ∷ 0xBB ∷ 0xEE ∷ 0xEE ∷ 0xEE ∷ [])
    -- W67: S6
    ∷ s6
    -- W68: every TID is kept
    ∷ gives (repack (lanes 1) 1 (one 0 200 0 1 1 7) eight) 1 (one 0 200 0 1 1 7)
    -- W69: P1's transfer at width 2: one stretch in two records
    ∷ gives (repack (lanes 4) 2 p1 (eight ++ eight ++ ee)) 2
    (0x00 ∷ 0x01 ∷ 0x02 ∷ 0x03 ∷ 0x00 ∷ 0x01 ∷ 0x00 ∷ 0x11 ∷ 0x00
    ∷ 0x01 ∷ 0x01 ∷ 0x02 ∷ 0x01 ∷ 0x00 ∷ 0x01 ∷ 0x00 ∷ 0x44 ∷ 0x00 ∷ 0xEE ∷ 0xEE ∷ [])
    -- W70: S3 at a wider record: the end joins the full record before it there too
    ∷ gives (repack (lanes 1) 2 (aa ++ aa ++ last_alone) (eight ++ ee)) 1
    (0x01 ∷ 0x00 ∷ 0x00 ∷ 0x03 ∷ 0x00 ∷ 0x03 ∷ 0x00 ∷ 0xAA ∷ 0xAA ∷ 0xEE ∷ 0xEE ∷ 0xEE ∷ [])
    -- W71: the high octets of TKEEP and TSTRB: lane 8 data, lane 15 position
    ∷ gives
    (repack (lanes 16) 1
    (0 ∷ 1 ∷ 2 ∷ 0x00 ∷ 0x81 ∷ 0x00 ∷ 0x01 ∷ 0 ∷ 1 ∷ 2 ∷ 3 ∷ 4 ∷ 5 ∷ 6 ∷ 7 ∷ 8 ∷ 9 ∷ 10 ∷ 11 ∷ 12 ∷ 13 ∷ 14 ∷ 15 ∷ []) (eight ++ eight))
    2 (one 0 1 2 1 1 8 ++ one 0 1 2 1 0 0)
    -- W72: slices of an all-null record stay
    ∷ gives (downsize (lanes 2) 1 (1 ∷ 3 ∷ 4 ∷ 0 ∷ 0 ∷ 0 ∷ 0 ∷ 5 ∷ 6 ∷ []) (eight ++ eight)) 2 (one 0 3 4 0 0 0 ++ one 1 3 4 0 0 0)
    -- W73: S7: another TID cuts
    ∷ s7
    -- W74: another TDEST cuts too
    ∷ gives (repack (lanes 1) 2 (one 0 1 0 1 1 7 ++ one 0 1 3 1 1 8) (eight ++ eight ++ ee)) 2
    (0 ∷ 1 ∷ 0 ∷ 1 ∷ 0 ∷ 1 ∷ 0 ∷ 7 ∷ 0 ∷ 0 ∷ 1 ∷ 3 ∷ 1 ∷ 0 ∷ 1 ∷ 0 ∷ 8 ∷ 0 ∷ 0xEE ∷ 0xEE ∷ [])
    -- W75: an end of another pair than the item before it is a packet of its own
    ∷ gives (repack (lanes 1) 2 (one 0 1 0 1 1 7 ++ one 1 2 0 0 0 0) (eight ++ eight ++ ee)) 2
    (0 ∷ 1 ∷ 0 ∷ 1 ∷ 0 ∷ 1 ∷ 0 ∷ 7 ∷ 0 ∷ 1 ∷ 2 ∷ 0 ∷ 0 ∷ 0 ∷ 0 ∷ 0 ∷ 0 ∷ 0 ∷ 0xEE ∷ 0xEE ∷ [])
    -- W76: T-01: the first record is judged on its own ARESETn only
    ∷ gives (judge (lanes 1) (one 0x0E 0 0 1 1 7)) 1 []
    -- W77: T-01: R1 in the first sample out of reset
    ∷ breaks (judge (lanes 1) (one 0x00 0 0 0 0 0 ++ one 0x0E 0 0 1 1 7)) 1 1
    -- W78: T-01: the same where ARESETn is still low
    ∷ breaks (judge (lanes 1) (one 0x00 0 0 0 0 0 ++ one 0x02 0 0 0 0 0)) 1 1
    -- W79: T-01: one sample with ARESETn high and TVALID low is enough
    ∷ gives (judge (lanes 1) (one 0x00 0 0 0 0 0 ++ one 0x08 0 0 0 0 0 ++ one 0x0E 0 0 1 1 7)) 1 []
    -- W80: T-01: a reserved lane there is 1 and not 4
    ∷ breaks (judge (lanes 1) (one 0x00 0 0 0 0 0 ++ one 0x0E 0 0 0 1 0)) 1 1
    -- W81: T-01: also where a transfer that waited before the reset is taken up again straight out of it
    ∷ breaks (judge (lanes 1) (one 0x0A 5 0 1 1 7 ++ one 0x04 6 0 0 0 0 ++ one 0x0A 5 0 1 1 7)) 2 1
    -- W82: T-01: 14 of harvesting, with that cycle and rule; there is room
    ∷ record { asked = harvest (lanes 1) (one 0x00 0 0 0 0 0 ++ one 0x0E 0 0 1 1 7) eight; told = tells (values 14 1 1 0) eight }
    -- W83: T-03: 1 before 2 of fill-in high; the take is as it was
    ∷ refuses (fill_in high (lanes 17) (one 0xFE 0 0 0 0 0)) 1 0 (one 0xFE 0 0 0 0 0)
    -- W84: T-03: 2 of fill-in high, which leaves the take as it was
    ∷ refuses (fill_in high (lanes 1) (one 0xFE 0 0 0 0 0 ++ (0 ∷ []))) 2 0 (one 0xFE 0 0 0 0 0 ++ (0 ∷ []))
    -- W85: T-03: each transfer its own packet: two records with TLAST, the second all-null, give a record each
    ∷ gives (repack (lanes 1) 2 (one 0x01 0 0 1 1 7 ++ one 0x01 0 0 0 0 0) (eight ++ eight ++ ee)) 2
    (0x01 ∷ 0x00 ∷ 0x00 ∷ 0x01 ∷ 0x00 ∷ 0x01 ∷ 0x00 ∷ 0x07 ∷ 0x00 ∷ 0x01 ∷ 0x00 ∷ 0x00 ∷ 0x00 ∷ 0x00 ∷ 0x00 ∷ 0x00 ∷ 0x00 ∷ 0x00 ∷ 0xEE ∷ 0xEE ∷ [])
    -- W86: T-06: three lanes of three bits: data with 5, null with 7, position with 6, whose bits 6 to 8 straddle two octets. The two
    -- items keep their bits
    ∷ gives (repack (shaped 3 3) 2 straddled (eight ++ ee)) 1 (0x01 ∷ 1 ∷ 2 ∷ 0x03 ∷ 0 ∷ 0x01 ∷ 0 ∷ 17 ∷ 0 ∷ 0x35 ∷ 0xEE ∷ 0xEE ∷ [])
    -- W87: T-06: at width 1 a record each; the null lane and its bits are gone
    ∷ gives (repack (shaped 3 3) 1 straddled (eight ++ eight ++ ee)) 2 (one 0 1 2 1 1 17 ++ (5 ∷ []) ++ one 1 1 2 1 0 0 ++ (6 ∷ 0xEE ∷ 0xEE ∷ []))
    -- W88: T-06: lane-keeping to 1: the null lane stays, and gets zero bits
    ∷ gives (downsize (shaped 3 3) 1 straddled (eight ++ eight ++ eight ++ ee)) 3
    (one 0 1 2 1 1 17 ++ (5 ∷ []) ++ one 0 1 2 0 0 0 ++ (0 ∷ []) ++ one 1 1 2 1 0 0 ++ (6 ∷ 0xEE ∷ []))
    -- W89: T-06: harvesting keeps the bits of a null lane as sampled
    ∷ gives (harvest (shaped 1 2) (one 0x0E 1 2 0 0 7 ++ (3 ∷ [])) (eight ++ ee)) 1 (one 0 1 2 0 0 7 ++ (3 ∷ 0xEE ∷ 0xEE ∷ 0xEE ∷ []))
    -- W90: T-06: R3 compares them
    ∷ breaks (judge (shaped 1 2) (one 0x0A 1 2 0 0 7 ++ (3 ∷ []) ++ one 0x0E 1 2 0 0 7 ++ (2 ∷ []))) 1 3
    -- W91: T-06: FIELD at the lowest bit of the padding, of a cycle record
    ∷ refuses (judge (shaped 1 2) (one 0x08 0 0 0 0 0 ++ (3 ∷ []) ++ one 0x08 0 0 0 0 0 ++ (4 ∷ []))) 3 1 []
    -- W92: T-06: the same of a transfer record, in its second octet of user bits
    ∷ refuses (repack (shaped 3 3) 2 (straddled ++ (0 ∷ 0 ∷ 0 ∷ 0 ∷ 0 ∷ 0 ∷ 0 ∷ 0 ∷ 0 ∷ 0 ∷ 0 ∷ 2 ∷ [])) ee) 3 1 ee
    -- W93: T-06: no padding where the bits fill their octets
    ∷ gives (repack (shaped 2 4) 2 (0 ∷ 0 ∷ 0 ∷ 3 ∷ 0 ∷ 3 ∷ 0 ∷ 1 ∷ 2 ∷ 0xF7 ∷ []) (eight ++ ee)) 1
    (0 ∷ 0 ∷ 0 ∷ 3 ∷ 0 ∷ 3 ∷ 0 ∷ 1 ∷ 2 ∷ 0xF7 ∷ 0xEE ∷ 0xEE ∷ [])
    -- W94: T-06: 16 of judging, before 2
    ∷ refuses (judge (shaped 1 5) (0 ∷ [])) 16 0 []
    -- W95: T-06: of harvesting
    ∷ refuses (harvest (shaped 1 5) (0 ∷ []) ee) 16 0 ee
    -- W96: T-06: of fill-in, which leaves the take as it was
    ∷ refuses (fill_in high (shaped 1 5) (0 ∷ [])) 16 0 (0 ∷ [])
    -- W97: T-06: of data octets
    ∷ refuses (data_of (shaped 1 5) (0 ∷ []) 0) 16 0 []
    -- W98: T-06: of repacking; the most that a number holds
    ∷ refuses (repack (shaped 1 0xFFFF_FFFF_FFFF_FFFF) 1 (0 ∷ []) ee) 16 0 ee
    -- W99: T-06: of downsizing, before 6
    ∷ refuses (downsize (shaped 3 5) 2 (0 ∷ []) ee) 16 0 ee
    -- W100: T-06: 1 before 16, of the input
    ∷ refuses (judge (shaped 17 5) (0 ∷ [])) 1 0 []
    -- W101: T-06: and of the output
    ∷ refuses (repack (shaped 1 5) 17 (0 ∷ []) ee) 1 0 ee
    -- W102: T-06: 2: a record has an octet for its user bits
    ∷ refuses (judge (shaped 1 1) (one 0x08 0 0 0 0 0)) 2 0 []
    -- W103: T-06: data octets are still the lanes, of the second record too
    ∷ gives (data_of (shaped 1 4) (one 0 0 0 1 1 7 ++ (15 ∷ []) ++ one 0 0 0 1 1 8 ++ (14 ∷ [])) 1) 0 (8 ∷ [])
    -- W104: T-06: and start where they do
    ∷ gives (start_of (shaped 1 4) (one 0 0 0 1 1 7 ++ (15 ∷ []) ++ one 0 0 0 1 1 8 ++ (14 ∷ [])) 1) 0 (16 ∷ [])
    -- W105: T-06: fill-in touches no user bit
    ∷ gives (fill_in high (shaped 1 1) (one 0xFE 0 0 0 0 0 ++ (0xFE ∷ []) ++ one 0x08 0 0 0 0 0 ++ (0 ∷ []))) 2
    (one 0xFF 0 0 0 0 0 ++ (0xFE ∷ []) ++ one 0x09 0 0 0 0 0 ++ (0 ∷ []))
    -- W106: T-06: at its own width the null lane goes to the end, and gets zero bits
    ∷ gives (repack (shaped 3 3) 3 straddled (eight ++ ee)) 1 (0x01 ∷ 1 ∷ 2 ∷ 0x03 ∷ 0 ∷ 0x01 ∷ 0 ∷ 17 ∷ 0 ∷ 0 ∷ 0x35 ∷ 0 ∷ [])
    -- W107: an archived file, which holds lane-keeping slices, is repacked like any other stream: S2's two records to width 4 are S1's
    ∷ gives
    (repack (lanes 2) 4
    (0x00 ∷ 0x01 ∷ 0x02 ∷ 0x01 ∷ 0x00 ∷ 0x01 ∷ 0x00 ∷ 0x11 ∷ 0x00 ∷ 0x01 ∷ 0x01 ∷ 0x02 ∷ 0x03 ∷ 0x00 ∷ 0x02 ∷ 0x00 ∷ 0x00 ∷ 0x44 ∷ [])
    (eight ++ ee))
    1 (0x01 ∷ 0x01 ∷ 0x02 ∷ 0x07 ∷ 0x00 ∷ 0x05 ∷ 0x00 ∷ 0x11 ∷ 0x00 ∷ 0x44 ∷ 0x00 ∷ 0xEE ∷ [])
    -- W108: the same with user bits: W88's three records to width 2 are W86's one
    ∷ gives (repack (shaped 1 3) 2 (one 0 1 2 1 1 17 ++ (5 ∷ []) ++ one 0 1 2 0 0 0 ++ (0 ∷ []) ++ one 1 1 2 1 0 0 ++ (6 ∷ [])) (eight ++ ee)) 1
    (0x01 ∷ 1 ∷ 2 ∷ 0x03 ∷ 0 ∷ 0x01 ∷ 0 ∷ 17 ∷ 0 ∷ 0x35 ∷ 0xEE ∷ 0xEE ∷ [])
    ∷ []
