-- Worked takes of write beats: the lanes of 01's B1 to B3, each rule alone and beside its neighbours, every bus, every bound of the
-- count, and each refusal. One statement covers the whole list (proofs/Cases). Each entry has an id (W01 and on, two digits; the rules W1
-- to W5 have one) by which docs/PROMISES.md may cite it: a new one takes the next free id, and none is given twice. All are worked by
-- hand from the request (paper 02, T-05); in the entries only `burst_of` and lists are definitions.
use Rattle.std.specs.Prelude.{List, [], ◌∷◌, ◌++◌, ℕ, replicate}
use Rattle.burst_spec.specs.declared.Burst.{Burst}
use Rattle.burst_spec.specs.Answers.{burst_of}
use Rattle.write_data_spec.specs.Answers.{Values, write_values, write_answer}

-- a burst, the octets of a take of write beats, and the numbers that must be answered
pub record Case : Type 0 where
  pub burst : Burst
  pub octets : List ℕ
  pub told : Values

abbrev pub computed : Case → Case
computed c = record { burst = c.burst; octets = c.octets; told = write_values (write_answer c.burst c.octets) }

module _ (b : Burst) (octets : List ℕ) where
  abbrev clean : ℕ → Case
  clean strobes = record { burst = b; octets = octets; told = record { refusal = 0; place = 0; rule = 0; strobes = strobes } }

  abbrev breaks : ℕ → ℕ → Case
  breaks rule place = record { burst = b; octets = octets; told = record { refusal = 0; place = place; rule = rule; strobes = 0 } }

  abbrev refuses : ℕ → ℕ → Case
  refuses number place = record { burst = b; octets = octets; told = record { refusal = number; place = place; rule = 0; strobes = 0 } }

-- A burst is typed as start address, AxLEN, AxSIZE, kind number, bus. B1 has lanes 2-3, 0-3, 0-3; B2 2-3 each beat; B3 4-7, 0-3, 4-7, 0-3.
abbrev b1 : Burst
b1 = burst_of 0x1002 2 2 1 4

abbrev b2 : Burst
b2 = burst_of 0x1002 1 2 0 4

abbrev b3 : Burst
b3 = burst_of 0x34 3 2 2 8

-- two beats of four bytes, and one
abbrev two : Burst
two = burst_of 0x1000 1 2 1 4

abbrev one : Burst
one = burst_of 0x1000 0 2 1 4

abbrev pub lanes : List Case
lanes =
    -- W01: B1, every lane of each beat
    clean b1 (0x00 ∷ 0x0C ∷ 0x00 ∷ 0x0F ∷ 0x01 ∷ 0x0F ∷ []) 10
    -- W02: no strobe at all is legal
    ∷ clean b1 (0x00 ∷ 0x00 ∷ 0x00 ∷ 0x00 ∷ 0x01 ∷ 0x00 ∷ []) 0
    -- W03: W1 just below the lower lane, which is a lane of the bus
    ∷ breaks b1 (0x00 ∷ 0x0E ∷ 0x00 ∷ 0x0F ∷ 0x01 ∷ 0x0F ∷ []) 1 0
    -- W04: W1 at lane 0
    ∷ breaks b1 (0x00 ∷ 0x01 ∷ 0x00 ∷ 0x0F ∷ 0x01 ∷ 0x0F ∷ []) 1 0
    -- W05: B2
    ∷ clean b2 (0x00 ∷ 0x0C ∷ 0x01 ∷ 0x0C ∷ []) 4
    -- W06: the lanes of FIXED stay: W1 at its second beat
    ∷ breaks b2 (0x00 ∷ 0x0C ∷ 0x01 ∷ 0x0F ∷ []) 1 1
    -- W07: B3
    ∷ clean b3 (0x00 ∷ 0xF0 ∷ 0x00 ∷ 0x0F ∷ 0x00 ∷ 0xF0 ∷ 0x01 ∷ 0x0F ∷ []) 16
    -- W08: the other half of the bus at beat 1
    ∷ breaks b3 (0x00 ∷ 0xF0 ∷ 0x00 ∷ 0xF0 ∷ 0x00 ∷ 0xF0 ∷ 0x01 ∷ 0x0F ∷ []) 1 1
    -- W09: just above the upper lane
    ∷ breaks b3 (0x00 ∷ 0xF0 ∷ 0x00 ∷ 0x1F ∷ 0x00 ∷ 0xF0 ∷ 0x01 ∷ 0x0F ∷ []) 1 1
    -- W10: just below the lower one
    ∷ breaks b3 (0x00 ∷ 0xF0 ∷ 0x00 ∷ 0x0F ∷ 0x00 ∷ 0xF8 ∷ 0x01 ∷ 0x0F ∷ []) 1 2
    -- W11: after the wrap
    ∷ breaks b3 (0x00 ∷ 0xF0 ∷ 0x00 ∷ 0x0F ∷ 0x00 ∷ 0xF0 ∷ 0x01 ∷ 0x80 ∷ []) 1 3
    -- W59: a WRAP that wraps within the bus: lanes 4-7, then 0-3 and not 8-11
    ∷ clean (burst_of 0x34 1 2 2 16) (0x00 ∷ 0xF0 ∷ 0x00 ∷ 0x01 ∷ 0x0F ∷ 0x00 ∷ []) 8
    -- W60: and lanes 8-11 are strays
    ∷ breaks (burst_of 0x34 1 2 2 16) (0x00 ∷ 0xF0 ∷ 0x00 ∷ 0x01 ∷ 0x00 ∷ 0x0F ∷ []) 1 1
    ∷ []

abbrev pub lasts : List Case
lasts =
    -- W12: W2
    breaks b1 (0x00 ∷ 0x0C ∷ 0x01 ∷ 0x0F ∷ 0x01 ∷ 0x0F ∷ []) 2 1
    -- W13: W3
    ∷ breaks b1 (0x00 ∷ 0x0C ∷ 0x00 ∷ 0x0F ∷ 0x00 ∷ 0x0F ∷ []) 3 2
    -- W14: W1 before W2 in a beat
    ∷ breaks b1 (0x01 ∷ 0x0F ∷ 0x00 ∷ 0x0F ∷ 0x01 ∷ 0x0F ∷ []) 1 0
    -- W15: W1 before W3 in a beat
    ∷ breaks b3 (0x00 ∷ 0xF0 ∷ 0x00 ∷ 0x0F ∷ 0x00 ∷ 0xF0 ∷ 0x00 ∷ 0xFF ∷ []) 1 3
    -- W16: an earlier W2 before a later W1: the beat decides before the rule
    ∷ breaks b2 (0x01 ∷ 0x0C ∷ 0x01 ∷ 0x0F ∷ []) 2 0
    -- W17: W4
    ∷ breaks two (0x00 ∷ 0x0F ∷ 0x01 ∷ 0x0F ∷ 0x00 ∷ 0x00 ∷ []) 4 2
    -- W18: with WLAST and a strobe it is W4 still, and the first of several
    ∷ breaks two (0x00 ∷ 0x0F ∷ 0x01 ∷ 0x0F ∷ 0x01 ∷ 0x0F ∷ 0x01 ∷ 0x0F ∷ []) 4 2
    -- W61: a stray strobe past the last, by the lanes that FIXED would have there, is W4
    ∷ breaks b2 (0x00 ∷ 0x0C ∷ 0x01 ∷ 0x0C ∷ 0x00 ∷ 0x0F ∷ []) 4 2
    -- W19: three beats for two, WLAST on the third: W3 at the second
    ∷ breaks two (0x00 ∷ 0x0F ∷ 0x00 ∷ 0x0F ∷ 0x01 ∷ 0x0F ∷ []) 3 1
    -- W20: W5, an empty take
    ∷ breaks b1 [] 5 0
    -- W21: W5 at the count given
    ∷ breaks b1 (0x00 ∷ 0x0C ∷ 0x00 ∷ 0x0F ∷ []) 5 2
    -- W22: too few, and a given beat breaks a rule
    ∷ breaks b1 (0x00 ∷ 0x0C ∷ 0x01 ∷ 0x0F ∷ []) 2 1
    -- W23: one beat
    ∷ clean one (0x01 ∷ 0x0A ∷ []) 2
    -- W24: its W3
    ∷ breaks one (0x00 ∷ 0x0F ∷ []) 3 0
    -- W25: its W4
    ∷ breaks one (0x01 ∷ 0x0F ∷ 0x00 ∷ 0x0F ∷ []) 4 1
    -- W26: its W5
    ∷ breaks one [] 5 0
    ∷ []

-- the other buses, a beat each but for W36
abbrev pub buses : List Case
buses =
    -- W27: bus 1
    clean (burst_of 7 0 0 1 1) (0x01 ∷ 0x01 ∷ []) 1
    -- W28: bus 2
    ∷ clean (burst_of 0 0 1 1 2) (0x01 ∷ 0x03 ∷ []) 2
    -- W29: bus 2, upper half
    ∷ breaks (burst_of 1 0 0 1 2) (0x01 ∷ 0x01 ∷ []) 1 0
    -- W30: bus 8, all lanes
    ∷ clean (burst_of 0 0 3 1 8) (0x01 ∷ 0xFF ∷ []) 8
    -- W31: bus 16, lanes 8 to 15: low octet first
    ∷ clean (burst_of 8 0 3 1 16) (0x01 ∷ 0x00 ∷ 0xFF ∷ []) 8
    -- W32: and not high octet first
    ∷ breaks (burst_of 8 0 3 1 16) (0x01 ∷ 0xFF ∷ 0x00 ∷ []) 1 0
    -- W33: bus 32, lanes 3 to 31 of an unaligned start
    ∷ clean (burst_of 3 0 5 1 32) (0x01 ∷ 0xF8 ∷ 0xFF ∷ 0xFF ∷ 0xFF ∷ []) 29
    -- W34: bus 64, lane 63
    ∷ clean (burst_of 63 0 0 1 64) (0x01 ∷ 0 ∷ 0 ∷ 0 ∷ 0 ∷ 0 ∷ 0 ∷ 0 ∷ 0x80 ∷ []) 1
    -- W35: bus 128, lanes 0 and 127 of a beat of 128 bytes
    ∷ clean (burst_of 0 0 7 1 128) (0x01 ∷ 0x01 ∷ 0 ∷ 0 ∷ 0 ∷ 0 ∷ 0 ∷ 0 ∷ 0 ∷ 0 ∷ 0 ∷ 0 ∷ 0 ∷ 0 ∷ 0 ∷ 0 ∷ 0x80 ∷ []) 2
    -- W36: bus 128, beat 1 has lanes 64 to 127
    ∷ breaks (burst_of 0 1 6 1 128)
    (0x00 ∷ 0xFF ∷ 0 ∷ 0 ∷ 0 ∷ 0 ∷ 0 ∷ 0 ∷ 0 ∷ 0 ∷ 0 ∷ 0 ∷ 0 ∷ 0 ∷ 0 ∷ 0 ∷ 0
    ∷ 0x01 ∷ 0 ∷ 0 ∷ 0 ∷ 0 ∷ 0 ∷ 0 ∷ 0 ∷ 0x80 ∷ 0 ∷ 0 ∷ 0 ∷ 0 ∷ 0 ∷ 0 ∷ 0 ∷ 0xFF ∷ []) 1 1
    ∷ []

-- The longest bursts, one lane on a bus of one byte.
abbrev before : ℕ → List ℕ
before n = replicate {A = ℕ} n 0

abbrev bytes_only : Burst
bytes_only = burst_of 0x1000 255 0 1 1

abbrev pub longest : List Case
longest =
    -- W37: 256 beats, the strobe of the last one alone
    clean bytes_only (before 510 ++ (0x01 ∷ 0x01 ∷ [])) 1
    -- W38: one too few
    ∷ breaks bytes_only (before 510) 5 255
    -- W39: one too many
    ∷ breaks bytes_only (before 510 ++ (0x01 ∷ 0x01 ∷ 0x00 ∷ 0x00 ∷ [])) 4 256
    -- W40: WLAST one early
    ∷ breaks bytes_only (before 508 ++ (0x01 ∷ 0x01 ∷ 0x00 ∷ 0x00 ∷ [])) 2 254
    ∷ []

abbrev pub refusals : List Case
refusals =
    -- W41: FIELD, the bit beside WLAST
    refuses one (0x02 ∷ 0x00 ∷ []) 3 0
    -- W42: FIELD, the highest bit
    ∷ refuses one (0x81 ∷ 0x00 ∷ []) 3 0
    -- W43: FIELD and not W1: the strobe bit at the bus, of bus 1
    ∷ refuses (burst_of 7 0 0 1 1) (0x01 ∷ 0x02 ∷ []) 3 0
    -- W44: of bus 2
    ∷ refuses (burst_of 0 0 1 1 2) (0x01 ∷ 0x04 ∷ []) 3 0
    -- W45: of bus 4
    ∷ refuses one (0x01 ∷ 0x10 ∷ []) 3 0
    -- W46: the highest one above it
    ∷ refuses one (0x01 ∷ 0x80 ∷ []) 3 0
    -- W47: FIELD in a record behind a broken rule
    ∷ refuses two (0x01 ∷ 0x0F ∷ 0x01 ∷ 0x1F ∷ []) 3 1
    -- W48: FIELD in a beat past the last
    ∷ refuses one (0x01 ∷ 0x0F ∷ 0x00 ∷ 0x0F ∷ 0x04 ∷ 0x00 ∷ []) 3 2
    -- W49: FIELD where there are too few
    ∷ refuses b1 (0x02 ∷ 0x0C ∷ []) 3 0
    -- W50: the first of two
    ∷ refuses b1 (0x00 ∷ 0x0C ∷ 0x02 ∷ 0x0F ∷ 0x03 ∷ 0x0F ∷ []) 3 1
    -- W51: LENGTH before FIELD
    ∷ refuses one (0x02 ∷ []) 2 0
    -- W52: LENGTH, two octets where a record has three
    ∷ refuses (burst_of 8 0 3 1 16) (0x01 ∷ 0xFF ∷ []) 2 0
    -- W53: 7 before LENGTH
    ∷ refuses (burst_of 0x1000 0 0 1 3) (0x02 ∷ []) 7 0
    -- W54: 8 before FIELD
    ∷ refuses (burst_of 0x1000 0 3 1 4) (0x02 ∷ 0x00 ∷ []) 8 0
    -- W55: 9 before FIELD
    ∷ refuses (burst_of 0x1000 0 2 3 4) (0x02 ∷ 0x00 ∷ []) 9 0
    -- W56: 10 before LENGTH
    ∷ refuses (burst_of 0x1000 256 0 1 4) (0x02 ∷ []) 10 0
    -- W57: 11 before FIELD
    ∷ refuses (burst_of 0x32 3 2 2 4) (0x02 ∷ 0x00 ∷ []) 11 0
    -- W58: 12 before LENGTH
    ∷ refuses (burst_of 0xFF2 4 2 1 4) (0x02 ∷ []) 12 0
    ∷ []

abbrev pub write_cases : List Case
write_cases = lanes ++ (lasts ++ (buses ++ (longest ++ refusals)))
