-- Worked cases of the report: P1 of paper 01, and what pins the order of the refusals and each number of the text. What is
-- told was typed by hand and never computed. One statement covers the list (`worked` of proofs/Cases).
-- Each has an id (W01 and on) by which docs/PROMISES.md may cite it: a new case takes the next free one, and none is given twice.
use Rattle.std.specs.Prelude.{List, [], ◌∷◌, ◌++◌, ℕ, Option, None, Some}
use Prim.Native.String.{String}
use Rattle.report_setup_spec.specs.Grammar.{text as ascii}
use Rattle.report_spec.specs.Report.{Word, says_clean, says_broken, says_refused, Values, verdict_values, Whole, report_of}

-- what a technician sees: the text that is printed, and the octets of `out.bin`; and the verdict's numbers
pub record Seen : Type 0 where
  pub numbers : Values
  pub text : List ℕ
  pub result : List ℕ

-- the sheet and the take, each none where it can't be read; the room of the output
pub record Case : Type 0 where
  pub sheet : Option (List ℕ)
  pub capture : Option (List ℕ)
  pub room : ℕ
  pub told : Seen

abbrev pub seen : Whole → Seen
seen w = record { numbers = verdict_values w.verdict; text = w.text; result = w.result }

unfoldable pub computed : Case → Seen
unfolding report_of
computed c = seen (report_of c.sheet c.capture c.room)

abbrev pub expected : Case → Seen
expected c = c.told

abbrev tells : Option (List ℕ) → Option (List ℕ) → ℕ → Values → String → List ℕ → Case
tells sheet capture room numbers text result =
    record { sheet = sheet; capture = capture; room = room; told = record { numbers = numbers; text = ascii text; result = result } }

-- the word, and the numbers in this order
abbrev shows : Word → ℕ → ℕ → ℕ → ℕ → ℕ → ℕ → Values
shows word refusal place rule transfers packets written =
    record { refusal = refusal; place = place; rule = rule; word = word; transfers = transfers; packets = packets; records = written }

abbrev pub says : String → Option (List ℕ)
says sheet = Some (ascii sheet)

-- P1's sheet, take and result
abbrev pub p1_sheet : Option (List ℕ)
p1_sheet = says "width_in=4\nwidth_out=2\nmode=pack\ntlast=wired\nuser=0\n"

abbrev pub p1_take : List ℕ
p1_take = 0x0F ∷ 0x01 ∷ 0x02 ∷ 0x0D ∷ 0x00 ∷ 0x09 ∷ 0x00 ∷ 0x11 ∷ 0x22 ∷ 0x33 ∷ 0x44 ∷ []

abbrev pub p1_result : List ℕ
p1_result =
    0x00 ∷ 0x01 ∷ 0x02 ∷ 0x03 ∷ 0x00 ∷ 0x01 ∷ 0x00 ∷ 0x11 ∷ 0x00 ∷ 0x01 ∷ 0x01 ∷ 0x02 ∷ 0x01 ∷ 0x00 ∷ 0x01 ∷ 0x00 ∷ 0x44 ∷ 0x00 ∷ []

-- the take with TLAST sampled low; P1's transfer in two slices, as in S2
abbrev pub p1_low : List ℕ
p1_low = 0x0E ∷ 0x01 ∷ 0x02 ∷ 0x0D ∷ 0x00 ∷ 0x09 ∷ 0x00 ∷ 0x11 ∷ 0x22 ∷ 0x33 ∷ 0x44 ∷ []

abbrev pub p1_slices : List ℕ
p1_slices =
    0x00 ∷ 0x01 ∷ 0x02 ∷ 0x01 ∷ 0x00 ∷ 0x01 ∷ 0x00 ∷ 0x11 ∷ 0x00 ∷ 0x01 ∷ 0x01 ∷ 0x02 ∷ 0x03 ∷ 0x00 ∷ 0x02 ∷ 0x00 ∷ 0x00 ∷ 0x44 ∷ []

-- T-06: P1's take and result with two user bits to a byte: lanes 0 to 3 have 1, 3, 2, 3, and lane 1 is null
abbrev pub p1_tagged : List ℕ
p1_tagged = p1_take ++ (0xED ∷ [])

abbrev pub p1_tagged_result : List ℕ
p1_tagged_result =
    0x00 ∷ 0x01 ∷ 0x02 ∷ 0x03 ∷ 0x00 ∷ 0x01 ∷ 0x00 ∷ 0x11 ∷ 0x00 ∷ 0x09
    ∷ 0x01 ∷ 0x01 ∷ 0x02 ∷ 0x01 ∷ 0x00 ∷ 0x01 ∷ 0x00 ∷ 0x44 ∷ 0x00 ∷ 0x03 ∷ []

-- a cycle of width 1 with this octet 0, TDEST, TKEEP, TSTRB; TID is 0 and the data 7
abbrev pub cycle : ℕ → ℕ → ℕ → ℕ → List ℕ
cycle flags tdest tkeep tstrb = flags ∷ 0x00 ∷ tdest ∷ tkeep ∷ 0x00 ∷ tstrb ∷ 0x00 ∷ 0x07 ∷ []

-- a data byte 7 transferred without TLAST and with it, and the same while it waits
abbrev plain : List ℕ
plain = cycle 0x0E 0 1 1

abbrev pub last : List ℕ
last = cycle 0x0F 0 1 1

abbrev waits : List ℕ
waits = cycle 0x0A 0 1 1

unfoldable pub cases : List Case
cases =
    -- W01: case P1
    tells p1_sheet (Some p1_take) 65536 (shows says_clean 0 0 0 1 1 2) "verdict=clean\ntransfers=1\npackets=1\nrecords=2\n" p1_result
    -- W02: the same take sliced, as in S2
    ∷ tells (says "width_in=4\nwidth_out=2\nmode=lanes\ntlast=wired\nuser=0\n") (Some p1_take) 18 (shows says_clean 0 0 0 1 1 2) "verdict=clean\ntransfers=1\npackets=1\nrecords=2\n" p1_slices
    -- W03: ROOM: one octet short
    ∷ tells p1_sheet (Some p1_take) 17 (shows says_refused 5 0 0 0 0 0) "verdict=refused\nrefusal=5\nat=0\n" []
    -- W04: SHEET: neither file can be read
    ∷ tells None None 0 (shows says_refused 15 0 0 0 0 0) "verdict=refused\nrefusal=15\nat=0\n" []
    -- W05: SHEET: the sheet can't be read
    ∷ tells None (Some p1_take) 65536 (shows says_refused 15 0 0 0 0 0) "verdict=refused\nrefusal=15\nat=0\n" []
    -- W06: SHEET before WIDTH: a word that is none
    ∷ tells (says "width_in=17\nwidth_out=0\nmode=pack\ntlast=wire\nuser=0\n") None 0 (shows says_refused 15 0 0 0 0 0) "verdict=refused\nrefusal=15\nat=0\n" []
    -- W07: WIDTH of the input before RATIO and LENGTH
    ∷ tells (says "width_in=17\nwidth_out=2\nmode=lanes\ntlast=none\nuser=0\n") None 0 (shows says_refused 1 0 0 0 0 0) "verdict=refused\nrefusal=1\nat=0\n" []
    -- W08: WIDTH of the output before RATIO and LENGTH
    ∷ tells (says "width_in=4\nwidth_out=0\nmode=lanes\ntlast=none\nuser=0\n") None 0 (shows says_refused 1 0 0 0 0 0) "verdict=refused\nrefusal=1\nat=0\n" []
    -- W09: RATIO in lanes mode, before LENGTH
    ∷ tells (says "width_in=4\nwidth_out=3\nmode=lanes\ntlast=wired\nuser=0\n") None 0 (shows says_refused 6 0 0 0 0 0) "verdict=refused\nrefusal=6\nat=0\n" []
    -- W10: no RATIO in pack mode; a take that can't be read is LENGTH
    ∷ tells (says "width_in=4\nwidth_out=3\nmode=pack\ntlast=wired\nuser=0\n") None 0 (shows says_refused 2 0 0 0 0 0) "verdict=refused\nrefusal=2\nat=0\n" []
    -- W11: LENGTH: no whole number of records
    ∷ tells (says "width_in=1\nwidth_out=1\nmode=pack\ntlast=none\nuser=0\n") (Some (cycle 0xFF 0 0 0 ++ (0 ∷ []))) 0 (shows says_refused 2 0 0 0 0 0) "verdict=refused\nrefusal=2\nat=0\n" []
    -- W12: an empty take is clean
    ∷ tells (says "width_in=1\nwidth_out=1\nmode=pack\ntlast=wired\nuser=0\n") (Some []) 0 (shows says_clean 0 0 0 0 0 0) "verdict=clean\ntransfers=0\npackets=0\nrecords=0\n" []
    -- W13: FIELD of any record comes before a broken verdict of an earlier cycle
    ∷ tells (says "width_in=1\nwidth_out=1\nmode=pack\ntlast=wired\nuser=0\n") (Some (cycle 0x02 0 0 0 ++ cycle 0x08 16 0 0)) 0 (shows says_refused 3 1 0 0 0 0) "verdict=refused\nrefusal=3\nat=1\n" []
    -- W14: broken comes before ROOM; a reserved lane is rule 4 and no refusal
    ∷ tells (says "width_in=1\nwidth_out=1\nmode=pack\ntlast=wired\nuser=0\n") (Some (last ++ cycle 0x0E 0 0 1)) 0 (shows says_broken 0 1 4 0 0 0) "verdict=broken\ncycle=1\nrule=4\n" []
    -- W15: TLAST turns while a transfer waits: broken
    ∷ tells (says "width_in=1\nwidth_out=2\nmode=pack\ntlast=wired\nuser=0\n") (Some (plain ++ waits ++ last)) 9 (shows says_broken 0 2 3 0 0 0) "verdict=broken\ncycle=2\nrule=3\n" []
    -- W16: the same take with tlast=none: filled in first, so it is clean; T-03: high, so each transfer is its own packet
    ∷ tells (says "width_in=1\nwidth_out=2\nmode=pack\ntlast=none\nuser=0\n") (Some (plain ++ waits ++ last)) 18
    (shows says_clean 0 0 0 2 2 2) "verdict=clean\ntransfers=2\npackets=2\nrecords=2\n"
    (0x01 ∷ 0x00 ∷ 0x00 ∷ 0x01 ∷ 0x00 ∷ 0x01 ∷ 0x00 ∷ 0x07 ∷ 0x00 ∷ 0x01 ∷ 0x00 ∷ 0x00 ∷ 0x01 ∷ 0x00 ∷ 0x01 ∷ 0x00 ∷ 0x07 ∷ 0x00 ∷ [])
    -- W17: three transfers, two packets, and records of twice the width
    ∷ tells (says "width_in=1\nwidth_out=2\nmode=pack\ntlast=wired\nuser=0\n") (Some (plain ++ last ++ last)) 18
    (shows says_clean 0 0 0 3 2 2) "verdict=clean\ntransfers=3\npackets=2\nrecords=2\n"
    (0x01 ∷ 0x00 ∷ 0x00 ∷ 0x03 ∷ 0x00 ∷ 0x03 ∷ 0x00 ∷ 0x07 ∷ 0x07 ∷ 0x01 ∷ 0x00 ∷ 0x00 ∷ 0x01 ∷ 0x00 ∷ 0x01 ∷ 0x00 ∷ 0x07 ∷ 0x00 ∷ [])
    -- W18: T-03: W16's take with tlast=low: one record across both, and no packet ends
    ∷ tells (says "width_in=1\nwidth_out=2\nmode=pack\ntlast=low\nuser=0\n") (Some (plain ++ waits ++ last)) 9
    (shows says_clean 0 0 0 2 0 1) "verdict=clean\ntransfers=2\npackets=0\nrecords=1\n"
    (0x00 ∷ 0x00 ∷ 0x00 ∷ 0x03 ∷ 0x00 ∷ 0x03 ∷ 0x00 ∷ 0x07 ∷ 0x07 ∷ [])
    -- W19: T-03: ROOM comes sooner with tlast=none: 18 octets are needed where W18 needs 9, and there are 17
    ∷ tells (says "width_in=1\nwidth_out=2\nmode=pack\ntlast=none\nuser=0\n") (Some (plain ++ waits ++ last)) 17 (shows says_refused 5 0 0 0 0 0) "verdict=refused\nrefusal=5\nat=0\n" []
    -- W20: T-03: an all-null transfer does not vanish with tlast=none
    ∷ tells (says "width_in=1\nwidth_out=1\nmode=pack\ntlast=none\nuser=0\n") (Some (cycle 0x0E 3 0 0)) 8
    (shows says_clean 0 0 0 1 1 1) "verdict=clean\ntransfers=1\npackets=1\nrecords=1\n" (0x01 ∷ 0x00 ∷ 0x03 ∷ 0x00 ∷ 0x00 ∷ 0x00 ∷ 0x00 ∷ 0x00 ∷ [])
    -- W21: T-03: it does with tlast=low, though its TLAST was sampled high
    ∷ tells (says "width_in=1\nwidth_out=1\nmode=pack\ntlast=low\nuser=0\n") (Some (cycle 0x0F 3 0 0)) 0
    (shows says_clean 0 0 0 1 0 0) "verdict=clean\ntransfers=1\npackets=0\nrecords=0\n" []
    -- W22: T-03: tlast=low in lanes mode: P1's slices without TLAST
    ∷ tells (says "width_in=4\nwidth_out=2\nmode=lanes\ntlast=low\nuser=0\n") (Some p1_take) 18 (shows says_clean 0 0 0 1 0 2) "verdict=clean\ntransfers=1\npackets=0\nrecords=2\n"
    (0x00 ∷ 0x01 ∷ 0x02 ∷ 0x01 ∷ 0x00 ∷ 0x01 ∷ 0x00 ∷ 0x11 ∷ 0x00 ∷ 0x00 ∷ 0x01 ∷ 0x02 ∷ 0x03 ∷ 0x00 ∷ 0x02 ∷ 0x00 ∷ 0x00 ∷ 0x44 ∷ [])
    -- W23: T-03: there is no word `high`
    ∷ tells (says "width_in=4\nwidth_out=2\nmode=pack\ntlast=high\nuser=0\n") (Some p1_take) 65536 (shows says_refused 15 0 0 0 0 0) "verdict=refused\nrefusal=15\nat=0\n" []
    -- W24: T-03: fill-in hides nothing but TLAST: TDEST turns while a transfer waits
    ∷ tells (says "width_in=1\nwidth_out=2\nmode=pack\ntlast=low\nuser=0\n") (Some (waits ++ cycle 0x0E 1 1 1)) 9 (shows says_broken 0 1 3 0 0 0) "verdict=broken\ncycle=1\nrule=3\n" []
    -- W25: T-03: tlast=none in lanes mode: W02's result, though TLAST was sampled low
    ∷ tells (says "width_in=4\nwidth_out=2\nmode=lanes\ntlast=none\nuser=0\n") (Some p1_low) 18 (shows says_clean 0 0 0 1 1 2) "verdict=clean\ntransfers=1\npackets=1\nrecords=2\n" p1_slices
    -- W26: T-06: USERBITS: five user bits to a byte, before LENGTH
    ∷ tells (says "width_in=4\nwidth_out=2\nmode=pack\ntlast=wired\nuser=5\n") None 0 (shows says_refused 16 0 0 0 0 0) "verdict=refused\nrefusal=16\nat=0\n" []
    -- W27: T-06: WIDTH of the input before USERBITS
    ∷ tells (says "width_in=17\nwidth_out=2\nmode=pack\ntlast=wired\nuser=5\n") None 0 (shows says_refused 1 0 0 0 0 0) "verdict=refused\nrefusal=1\nat=0\n" []
    -- W28: T-06: WIDTH of the output before USERBITS
    ∷ tells (says "width_in=4\nwidth_out=17\nmode=pack\ntlast=wired\nuser=9\n") None 0 (shows says_refused 1 0 0 0 0 0) "verdict=refused\nrefusal=1\nat=0\n" []
    -- W29: T-06: USERBITS before RATIO
    ∷ tells (says "width_in=4\nwidth_out=3\nmode=lanes\ntlast=wired\nuser=5\n") None 0 (shows says_refused 16 0 0 0 0 0) "verdict=refused\nrefusal=16\nat=0\n" []
    -- W30: T-06: SHEET: P1's sheet as it was before, without its fifth line
    ∷ tells (says "width_in=4\nwidth_out=2\nmode=pack\ntlast=wired\n") (Some p1_take) 65536 (shows says_refused 15 0 0 0 0 0) "verdict=refused\nrefusal=15\nat=0\n" []
    -- W31: T-06: P1 with user bits: data and position bytes keep theirs, the null lane's are dropped
    ∷ tells (says "width_in=4\nwidth_out=2\nmode=pack\ntlast=wired\nuser=2\n") (Some p1_tagged) 20 (shows says_clean 0 0 0 1 1 2) "verdict=clean\ntransfers=1\npackets=1\nrecords=2\n"
    p1_tagged_result
    -- W32: T-06: the same take sliced: the null lane's bits are zero
    ∷ tells (says "width_in=4\nwidth_out=2\nmode=lanes\ntlast=wired\nuser=2\n") (Some p1_tagged) 20 (shows says_clean 0 0 0 1 1 2) "verdict=clean\ntransfers=1\npackets=1\nrecords=2\n"
    (0x00 ∷ 0x01 ∷ 0x02 ∷ 0x01 ∷ 0x00 ∷ 0x01 ∷ 0x00 ∷ 0x11 ∷ 0x00 ∷ 0x01
    ∷ 0x01 ∷ 0x01 ∷ 0x02 ∷ 0x03 ∷ 0x00 ∷ 0x02 ∷ 0x00 ∷ 0x00 ∷ 0x44 ∷ 0x0E ∷ [])
    -- W33: T-06: ROOM counts the octets of the user bits: one octet short of W31's
    ∷ tells (says "width_in=4\nwidth_out=2\nmode=pack\ntlast=wired\nuser=2\n") (Some p1_tagged) 19 (shows says_refused 5 0 0 0 0 0) "verdict=refused\nrefusal=5\nat=0\n" []
    -- W34: T-06: LENGTH: P1's own take is no record with user bits
    ∷ tells (says "width_in=4\nwidth_out=2\nmode=pack\ntlast=wired\nuser=2\n") (Some p1_take) 65536 (shows says_refused 2 0 0 0 0 0) "verdict=refused\nrefusal=2\nat=0\n" []
    -- W35: T-06: FIELD covers the padding: at width 1 the one user bit is the lowest of its octet
    ∷ tells (says "width_in=1\nwidth_out=1\nmode=pack\ntlast=wired\nuser=1\n") (Some (last ++ (0x01 ∷ []) ++ last ++ (0x02 ∷ []))) 65536 (shows says_refused 3 1 0 0 0 0) "verdict=refused\nrefusal=3\nat=1\n" []
    -- W36: T-06: R3 compares the user bits: one turns while a transfer waits
    ∷ tells (says "width_in=1\nwidth_out=1\nmode=pack\ntlast=wired\nuser=1\n") (Some (waits ++ (0x01 ∷ []) ++ plain ++ (0x00 ∷ []))) 65536 (shows says_broken 0 1 3 0 0 0) "verdict=broken\ncycle=1\nrule=3\n" []
    ∷ []
