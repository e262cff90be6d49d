-- Paper 01, 'Refusal numbers', and paper 02: the number, place and rule that each refusal shows. All other numbers are 0.
-- "A refusal carries its number and a place: the record for 3 and 4, the cycle and rule for 14, else 0"; T-08: "the place of 3, 4
-- and 17 is the record in its own list". A new refusal (paper 02: 18 to 20) is one constructor of `Refusal`, one line here and one of Cases.
use Rattle.refusal.specs.declared.Code.{Code}
use Rattle.refusal.specs.declared.Refusal.{Refusal}
use Rattle.refusal.specs.declared.Refusal.TheVariants.{Width, Length, Field, Reserved, Room, Ratio, Bus, Size, Kind, Count, Align, Boundary, Index, Unclean, Setup, UserBits, Tags}

abbrev pub code_of : Refusal → Code
code_of Width = (1, 0, 0)
code_of Length = (2, 0, 0)
code_of (Field k) = (3, k, 0)
code_of (Reserved k) = (4, k, 0)
code_of Room = (5, 0, 0)
code_of Ratio = (6, 0, 0)
code_of Bus = (7, 0, 0)
code_of Size = (8, 0, 0)
code_of Kind = (9, 0, 0)
code_of Count = (10, 0, 0)
code_of Align = (11, 0, 0)
code_of Boundary = (12, 0, 0)
code_of Index = (13, 0, 0)
code_of (Unclean k r) = (14, k, r)
code_of Setup = (15, 0, 0)
code_of UserBits = (16, 0, 0)
code_of (Tags k) = (17, k, 0)
