-- Paper 01's cases B1 to B6 and worked entries for each refusal, each bound and the top of memory: what is asked of which
-- burst, and the numbers that must be answered. One statement covers the whole list (proofs/Cases). Entries that are not
-- 01's have an id (W01 and on) by which docs/PROMISES.md may cite it: a new one takes the next free id, and none is given twice.
-- B1 to B6 are typed from the paper, the other entries worked by hand; of the definitions only `burst_of` is used here.
use Rattle.std.specs.Prelude.{List, [], ◌∷◌, ◌++◌, map, ℕ, ℤ, pos, negsuc}
use Rattle.burst_spec.specs.declared.Burst.{Burst}
use Rattle.burst_spec.specs.Answers.{burst_of, judgement, beat_answer, step_answer, Values, judgement_values, beat_values, step_values}

-- a question about a burst
pub data Question : Type 0 where
  judge : Question
  beat : ℕ → Question
  step : ℕ → Question

pub record Case : Type 0 where
  pub burst : Burst
  pub question : Question
  pub told : Values

-- the numbers that the definitions give
abbrev pub answer_to : Question → Burst → Values
answer_to judge x = judgement_values (judgement x)
answer_to (beat k) x = beat_values (beat_answer x k)
answer_to (step k) x = step_values (step_answer x k)

abbrev pub computed : Case → Case
computed c = record { burst = c.burst; question = c.question; told = answer_to c.question c.burst }

-- the numbers as they are typed here; no burst refusal has a place or a rule
abbrev typed : ℕ → ℕ → ℕ → ℕ → ℤ → Values
typed refusal address lower upper by =
    record { refusal = refusal; place = 0; rule = 0; address = address; lower = lower; upper = upper; step = by }

module _ (x : Burst) where
  abbrev accepts : Case
  accepts = record { burst = x; question = judge; told = typed 0 0 0 0 (pos 0) }

  abbrev refuses : ℕ → Case
  refuses number = record { burst = x; question = judge; told = typed number 0 0 0 (pos 0) }

  abbrev has_beat : ℕ → ℕ → ℕ → ℕ → Case
  has_beat k address lower upper = record { burst = x; question = beat k; told = typed 0 address lower upper (pos 0) }

  abbrev has_step : ℕ → ℤ → Case
  has_step k by = record { burst = x; question = step k; told = typed 0 0 0 0 by }

  abbrev no_beat : ℕ → ℕ → Case
  no_beat k number = record { burst = x; question = beat k; told = typed number 0 0 0 (pos 0) }

  abbrev no_step : ℕ → ℕ → Case
  no_step k number = record { burst = x; question = step k; told = typed number 0 0 0 (pos 0) }

-- a burst is typed as start address, AxLEN, AxSIZE, kind number, bus

-- "B1 INCR 0x1002, 4 bytes, 3 beats, bus 4: 0x1002 lanes 2-3, 0x1004 0-3, 0x1008 0-3."
abbrev pub b1 : List Case
b1 =
    let x : Burst = burst_of 0x1002 2 2 1 4 in
    accepts x ∷ has_beat x 0 0x1002 2 3 ∷ has_beat x 1 0x1004 0 3 ∷ has_beat x 2 0x1008 0 3 ∷ []

-- "B2 FIXED 0x1002, 4 bytes, bus 4: lanes 2-3 each beat." The paper gives no number of beats; here all of 16.
abbrev pub b2 : List Case
b2 =
    let x : Burst = burst_of 0x1002 15 2 0 4 in
    accepts x
    ∷ map (λ k. has_beat x k 0x1002 2 3) (0 ∷ 1 ∷ 2 ∷ 3 ∷ 4 ∷ 5 ∷ 6 ∷ 7 ∷ 8 ∷ 9 ∷ 10 ∷ 11 ∷ 12 ∷ 13 ∷ 14 ∷ 15 ∷ [])

-- "B3 WRAP 0x34, 4 bytes, 4 beats, bus 8: 0x34 lanes 4-7, 0x38 0-3, 0x3C 4-7, 0x30 0-3; steps 4, 4, -12."
abbrev pub b3 : List Case
b3 =
    let x : Burst = burst_of 0x34 3 2 2 8 in
    accepts x
    ∷ has_beat x 0 0x34 4 7 ∷ has_beat x 1 0x38 0 3 ∷ has_beat x 2 0x3C 4 7 ∷ has_beat x 3 0x30 0 3
    ∷ has_step x 0 (pos 4) ∷ has_step x 1 (pos 4) ∷ has_step x 2 (negsuc 11) ∷ []

-- "B4 INCR 0xFF2, 4 bytes, 4 beats: accepted; 5 beats: FENCE." The paper gives no bus; here 4.
abbrev pub b4 : List Case
b4 = accepts (burst_of 0xFF2 3 2 1 4) ∷ refuses (burst_of 0xFF2 4 2 1 4) 12 ∷ []

-- "B5 INCR 0x1001, 16 bytes, 256 beats, bus 16: accepted; 0x1010: FENCE."
abbrev pub b5 : List Case
b5 = accepts (burst_of 0x1001 255 4 1 16) ∷ refuses (burst_of 0x1010 255 4 1 16) 12 ∷ []

-- "B6 FIXED 16 beats accepted, 17 COUNT; WRAP of 3 COUNT; WRAP 0x32 with 4 bytes ALIGN." The paper gives no address of the
-- first three; here 0.
abbrev pub b6 : List Case
b6 =
    accepts (burst_of 0 15 0 0 1) ∷ refuses (burst_of 0 16 0 0 1) 10 ∷ refuses (burst_of 0 2 2 2 4) 10
    ∷ refuses (burst_of 0x32 3 2 2 4) 11 ∷ []

-- Each refusal, some where a later one would be given too, and each bound from outside.
abbrev pub refusals : List Case
refusals =
    -- W01: 7 before everything else: bus 3
    refuses (burst_of 0xFF1 256 8 3 3) 7
    -- W02: 7: bus 0
    ∷ refuses (burst_of 0 0 0 1 0) 7
    -- W03: 7: bus 256
    ∷ refuses (burst_of 0 0 0 1 256) 7
    -- W04: 8 before 9 to 12: AxSIZE 8
    ∷ refuses (burst_of 0xFF1 256 8 3 4) 8
    -- W05: 8: a beat wider than the bus
    ∷ refuses (burst_of 0xFF1 256 3 3 4) 8
    -- W06: 8: AxSIZE 8 on the widest bus
    ∷ refuses (burst_of 0 0 8 1 128) 8
    -- W07: 9 before 10 to 12
    ∷ refuses (burst_of 0xFF1 256 2 3 4) 9
    -- W08: 9: kind 3
    ∷ refuses (burst_of 0 0 0 3 1) 9
    -- W09: 9: kind 7
    ∷ refuses (burst_of 0 0 0 7 1) 9
    -- W10: 9: kind 4
    ∷ refuses (burst_of 0 0 0 4 1) 9
    -- W11: 9: kind 5
    ∷ refuses (burst_of 0 0 0 5 1) 9
    -- W12: 9: kind 6
    ∷ refuses (burst_of 0 0 0 6 1) 9
    -- W13: 7: bus 512
    ∷ refuses (burst_of 0 0 0 1 512) 7
    -- W14: 10: WRAP of one beat
    ∷ refuses (burst_of 0 0 0 2 1) 10
    -- W15: 10 before 11 and 12: WRAP of 3
    ∷ refuses (burst_of 0xFF1 2 2 2 4) 10
    -- W16: 10 before 12: AxLEN 256
    ∷ refuses (burst_of 0xFF1 256 0 1 1) 10
    -- W17: 11 before 12
    ∷ refuses (burst_of 0xFF6 3 2 2 4) 11
    -- W18: 12 before 13, of a beat
    ∷ no_beat (burst_of 0xFF2 4 2 1 4) 5 12
    -- W19: 12 before 13, of a step
    ∷ no_step (burst_of 0xFF2 4 2 1 4) 4 12
    -- W20: 13: no such beat
    ∷ no_beat (burst_of 0x1002 2 2 1 4) 3 13
    -- W21: 13: no next beat
    ∷ no_step (burst_of 0x1002 2 2 1 4) 2 13
    -- W22: 13: one beat has no step
    ∷ no_step (burst_of 0 0 0 1 1) 0 13
    ∷ []

-- Each bus and each size is allowed somewhere, and so is each start that is aligned to its own beat.
abbrev pub allowed : List Case
allowed =
    -- W23: bus 16, beats of 16 bytes
    accepts (burst_of 0 1 4 1 16)
    -- W24: bus 32, beats of 32 bytes
    ∷ accepts (burst_of 0 1 5 1 32)
    -- W25: bus 64, beats of 64 bytes
    ∷ accepts (burst_of 0 1 6 1 64)
    -- W26: bus 128, beats of 128 bytes
    ∷ accepts (burst_of 0 1 7 1 128)
    -- W27: bus 1
    ∷ accepts (burst_of 0 1 0 1 1)
    -- W28: bus 2
    ∷ accepts (burst_of 0 1 1 1 2)
    -- W29: bus 8
    ∷ accepts (burst_of 0 1 3 1 8)
    -- W30: WRAP of two beats, aligned to a beat of 2 bytes
    ∷ accepts (burst_of 2 1 1 2 2)
    ∷ []

-- The ends of what is allowed: beats by kind, the step's -1,920 and 128, a burst that fills a block, and bursts that end at
-- the very last address of 32-bit memory.
abbrev pub ends : List Case
ends =
    -- W31: FIXED of one beat
    accepts (burst_of 5 0 0 0 1)
    -- W32: INCR of 256 beats
    ∷ accepts (burst_of 0 255 0 1 128)
    -- W33: WRAP of two beats
    ∷ accepts (burst_of 4 1 1 2 2)
    -- W34: WRAP of 8 beats
    ∷ accepts (burst_of 64 7 3 2 8)
    -- W35: the lowest step, -1,920
    ∷ has_step (burst_of 1920 15 7 2 128) 0 (negsuc 1919)
    -- W36: the highest step, 128
    ∷ has_step (burst_of 0 1 7 1 128) 0 (pos 128)
    -- W37: the first step of an unaligned INCR
    ∷ has_step (burst_of 3 1 2 1 4) 0 (pos 1)
    -- W38: the step of FIXED is 0
    ∷ has_step (burst_of 3 1 2 0 4) 0 (pos 0)
    -- W39: FIXED at the end of a block
    ∷ accepts (burst_of 0xFFE 15 2 0 4)
    -- W40: a burst that fills a block
    ∷ accepts (burst_of 0 31 7 1 128)
    -- W41: one beat further on: the next block
    ∷ refuses (burst_of 128 31 7 1 128) 12
    -- W42: the last beat of memory
    ∷ has_beat (burst_of 0xFFFF_FFF1 3 2 1 4) 3 0xFFFF_FFFC 0 3
    -- W43: past the last address of memory
    ∷ refuses (burst_of 0xFFFF_FFF1 4 2 1 4) 12
    -- W44: WRAP in the last bytes of memory
    ∷ has_beat (burst_of 0xFFFF_FFFC 3 2 2 8) 1 0xFFFF_FFF0 0 3
    -- W45: its step at the wrap
    ∷ has_step (burst_of 0xFFFF_FFFC 3 2 2 8) 0 (negsuc 11)
    ∷ []

abbrev pub burst_cases : List Case
burst_cases = b1 ++ (b2 ++ (b3 ++ (b4 ++ (b5 ++ (b6 ++ (refusals ++ (allowed ++ ends)))))))
