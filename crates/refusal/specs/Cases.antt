-- Paper 01's table with paper 02's lines, typed once more line by line: a refusal, and the number, place and rule that it shows. The places and
-- the rule are numbers that stand nowhere else, so that none can be lost or changed for another. One statement covers the list
-- (`every_line` of proofs/Cases).
use Rattle.std.specs.Prelude.{List, [], ◌∷◌, ℕ}
use Rattle.refusal.specs.declared.Code.{Code}
use Rattle.refusal.specs.declared.Refusal.{Refusal}
use Rattle.refusal.specs.declared.Refusal.TheVariants.{Width, Length, Field, Reserved, Room, Ratio, Bus, Size, Kind, Count, Align, Boundary, Index, Unclean, Setup, UserBits, Tags}

pub record Line : Type 0 where
  pub refusal : Refusal
  pub shows : Code

abbrev line : Refusal → ℕ → ℕ → ℕ → Line
line r number place rule = record { refusal = r; shows = (number, place, rule) }

unfoldable pub table : List Line
table =
    line Width 1 0 0 ∷ line Length 2 0 0 ∷ line (Field 101) 3 101 0 ∷ line (Reserved 102) 4 102 0 ∷ line Room 5 0 0
    ∷ line Ratio 6 0 0 ∷ line Bus 7 0 0 ∷ line Size 8 0 0 ∷ line Kind 9 0 0 ∷ line Count 10 0 0 ∷ line Align 11 0 0
    ∷ line Boundary 12 0 0 ∷ line Index 13 0 0 ∷ line (Unclean 103 104) 14 103 104 ∷ line Setup 15 0 0
    ∷ line UserBits 16 0 0 ∷ line (Tags 105) 17 105 0
    ∷ []
