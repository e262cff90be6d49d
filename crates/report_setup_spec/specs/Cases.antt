-- Worked cases of the grammar: sheets, and what they say, typed from papers 01 and 02 and never computed. One statement covers the
-- list (`worked` of proofs/Cases). A text ends where its quote does: every LF is written out.
-- Each has an id (W01 and on) by which docs/PROMISES.md may cite it: a new case takes the next free one, and none is given twice.
use Rattle.std.specs.Prelude.{List, [], ◌∷◌, ℕ, Option, Some, None}
use Prim.Native.String.{String}
use Rattle.report_setup_spec.specs.declared.Setup.{Setup}
use Rattle.report_setup_spec.specs.declared.Mode.{Mode}
use Rattle.report_setup_spec.specs.declared.Mode.TheVariants.{Pack, Lanes}
use Rattle.report_setup_spec.specs.declared.Tlast.{Tlast}
use Rattle.report_setup_spec.specs.declared.Tlast.TheVariants.{Wired, Absent, Low}
use Rattle.report_setup_spec.specs.Grammar.{text}
use Rattle.report_setup_spec.specs.Answers.{Values}

-- an answer, and the numbers and words that it shows
pub record Told : Type 0 where
  pub answer : Option Setup
  pub shows : Values

pub record Case : Type 0 where
  pub sheet : String
  pub told : Told

abbrev shown : ℕ → ℕ → ℕ → String → String → ℕ → Values
shown number a b mode tlast user =
    record { refusal = number; width_in = a; width_out = b; mode = text mode; tlast = text tlast; user = user }

abbrev reads : String → ℕ → ℕ → Mode → String → Tlast → String → ℕ → Case
reads sheet a b m mode t tlast user =
    record {
      sheet = sheet;
      told =
          record { answer = Some (record { width_in = a; width_out = b; mode = m; tlast = t; user = user }); shows = shown 0 a b mode tlast user };
    }

abbrev refused : String → Case
refused sheet = record { sheet = sheet; told = record { answer = None; shows = shown 15 0 0 "" "" 0 } }

unfoldable pub worked_cases : List Case
worked_cases =
    -- W01: P1's sheet
    reads "width_in=4\nwidth_out=2\nmode=pack\ntlast=wired\nuser=0\n" 4 2 Pack "pack" Wired "wired" 0
    -- W02: the other words
    ∷ reads "width_in=16\nwidth_out=8\nmode=lanes\ntlast=none\nuser=0\n" 16 8 Lanes "lanes" Absent "none" 0
    -- W03: the ends of the range; a width that no call takes is no fault of the sheet
    ∷ reads "width_in=0\nwidth_out=99\nmode=lanes\ntlast=wired\nuser=0\n" 0 99 Lanes "lanes" Wired "wired" 0
    -- W04: width 17 is read too
    ∷ reads "width_in=10\nwidth_out=17\nmode=pack\ntlast=none\nuser=0\n" 10 17 Pack "pack" Absent "none" 0
    -- W05: a leading zero
    ∷ refused "width_in=07\nwidth_out=2\nmode=pack\ntlast=wired\nuser=0\n"
    -- W06: two zeros
    ∷ refused "width_in=4\nwidth_out=00\nmode=pack\ntlast=wired\nuser=0\n"
    -- W07: three digits
    ∷ refused "width_in=100\nwidth_out=2\nmode=pack\ntlast=wired\nuser=0\n"
    -- W08: no digit
    ∷ refused "width_in=\nwidth_out=2\nmode=pack\ntlast=wired\nuser=0\n"
    -- W09: a sign below the digits
    ∷ refused "width_in=4\nwidth_out=/\nmode=pack\ntlast=wired\nuser=0\n"
    -- W10: a sign above the digits
    ∷ refused "width_in=:\nwidth_out=2\nmode=pack\ntlast=wired\nuser=0\n"
    -- W11: such a sign behind a digit
    ∷ refused "width_in=1:\nwidth_out=2\nmode=pack\ntlast=wired\nuser=0\n"
    -- W12: a space behind the number
    ∷ refused "width_in=4 \nwidth_out=2\nmode=pack\ntlast=wired\nuser=0\n"
    -- W13: a sign in front of the number
    ∷ refused "width_in=+4\nwidth_out=2\nmode=pack\ntlast=wired\nuser=0\n"
    -- W14: CR in front of each LF
    ∷ refused "width_in=4\r\nwidth_out=2\r\nmode=pack\r\ntlast=wired\r\nuser=0\r\n"
    -- W15: CR in front of the last LF
    ∷ refused "width_in=4\nwidth_out=2\nmode=pack\ntlast=wired\nuser=0\r\n"
    -- W16: no last LF
    ∷ refused "width_in=4\nwidth_out=2\nmode=pack\ntlast=wired\nuser=0"
    -- W17: nothing at all
    ∷ refused ""
    -- W18: a sixth line
    ∷ refused "width_in=4\nwidth_out=2\nmode=pack\ntlast=wired\nuser=0\nuser=0\n"
    -- W19: an empty sixth line
    ∷ refused "width_in=4\nwidth_out=2\nmode=pack\ntlast=wired\nuser=0\n\n"
    -- W20: an empty line between
    ∷ refused "width_in=4\nwidth_out=2\n\nmode=pack\ntlast=wired\nuser=0\n"
    -- W21: a line too few: the four lines from before T-06
    ∷ refused "width_in=4\nwidth_out=2\nmode=pack\ntlast=wired\n"
    -- W22: widths in the other order
    ∷ refused "width_out=2\nwidth_in=4\nmode=pack\ntlast=wired\nuser=0\n"
    -- W23: mode and tlast in the other order
    ∷ refused "width_in=4\nwidth_out=2\ntlast=wired\nmode=pack\nuser=0\n"
    -- W24: a capital in a key
    ∷ refused "Width_in=4\nwidth_out=2\nmode=pack\ntlast=wired\nuser=0\n"
    -- W25: a space in front of a key
    ∷ refused " width_in=4\nwidth_out=2\nmode=pack\ntlast=wired\nuser=0\n"
    -- W26: a word with more behind it
    ∷ refused "width_in=4\nwidth_out=2\nmode=packed\ntlast=wired\nuser=0\n"
    -- W27: a word cut short
    ∷ refused "width_in=4\nwidth_out=2\nmode=lane\ntlast=wired\nuser=0\n"
    -- W28: a word that is none: T-03 has no `high`
    ∷ refused "width_in=4\nwidth_out=2\nmode=pack\ntlast=high\nuser=0\n"
    -- W29: no word
    ∷ refused "width_in=4\nwidth_out=2\nmode=pack\ntlast=\nuser=0\n"
    -- W30: T-03's word
    ∷ reads "width_in=4\nwidth_out=2\nmode=pack\ntlast=low\nuser=0\n" 4 2 Pack "pack" Low "low" 0
    -- W31: with a capital
    ∷ refused "width_in=4\nwidth_out=2\nmode=pack\ntlast=Low\nuser=0\n"
    -- W32: with more behind it
    ∷ refused "width_in=4\nwidth_out=2\nmode=pack\ntlast=lows\nuser=0\n"
    -- W33: two words
    ∷ refused "width_in=4\nwidth_out=2\nmode=pack\ntlast=none low\nuser=0\n"
    -- W34: T-06's line, with the most user bits that a call takes
    ∷ reads "width_in=4\nwidth_out=2\nmode=pack\ntlast=wired\nuser=4\n" 4 2 Pack "pack" Wired "wired" 4
    -- W35: more of them: no fault of the sheet
    ∷ reads "width_in=4\nwidth_out=2\nmode=pack\ntlast=wired\nuser=5\n" 4 2 Pack "pack" Wired "wired" 5
    -- W36: the end of the range
    ∷ reads "width_in=4\nwidth_out=2\nmode=pack\ntlast=wired\nuser=9\n" 4 2 Pack "pack" Wired "wired" 9
    -- W37: no digit
    ∷ refused "width_in=4\nwidth_out=2\nmode=pack\ntlast=wired\nuser=\n"
    -- W38: two zeros
    ∷ refused "width_in=4\nwidth_out=2\nmode=pack\ntlast=wired\nuser=00\n"
    -- W39: two digits
    ∷ refused "width_in=4\nwidth_out=2\nmode=pack\ntlast=wired\nuser=10\n"
    -- W40: a letter
    ∷ refused "width_in=4\nwidth_out=2\nmode=pack\ntlast=wired\nuser=a\n"
    -- W41: a space in front of the key
    ∷ refused "width_in=4\nwidth_out=2\nmode=pack\ntlast=wired\n user=0\n"
    -- W42: a space behind the digit
    ∷ refused "width_in=4\nwidth_out=2\nmode=pack\ntlast=wired\nuser=0 \n"
    -- W43: tlast and user in the other order
    ∷ refused "width_in=4\nwidth_out=2\nmode=pack\nuser=0\ntlast=wired\n"
    ∷ []
