-- `refusal::code_of` meets its contract: each arm answers with the code of the constructor that the match found. A new
-- constructor is one answer more. Assumes nothing.
use mathlib.Core.Path.{◌≡◌, refl}
use Rattle.refusal.specs.declared.Refusal.{Refusal}
use Rattle.refusal.specs.Code.{code_of}
use Rattle.refusal.proofs.code_of.Goals as goal

found : {r q : Refusal} → r ≡ q → ((code_of q).0 ≡ (code_of r).0) × ((code_of q).1 ≡ (code_of r).1) × ((code_of q).2 ≡ (code_of r).2)
found e = rw e (refl, refl, refl)

pub returns-in-Width : goal.returns-in-Width
returns-in-Width c = found c.in-Width.is

pub returns-in-Length : goal.returns-in-Length
returns-in-Length c = found c.in-Length.is

pub returns-in-Field : goal.returns-in-Field
returns-in-Field c = found c.in-Field.is

pub returns-in-Reserved : goal.returns-in-Reserved
returns-in-Reserved c = found c.in-Reserved.is

pub returns-in-Room : goal.returns-in-Room
returns-in-Room c = found c.in-Room.is

pub returns-in-Ratio : goal.returns-in-Ratio
returns-in-Ratio c = found c.in-Ratio.is

pub returns-in-Bus : goal.returns-in-Bus
returns-in-Bus c = found c.in-Bus.is

pub returns-in-Size : goal.returns-in-Size
returns-in-Size c = found c.in-Size.is

pub returns-in-Kind : goal.returns-in-Kind
returns-in-Kind c = found c.in-Kind.is

pub returns-in-Count : goal.returns-in-Count
returns-in-Count c = found c.in-Count.is

pub returns-in-Align : goal.returns-in-Align
returns-in-Align c = found c.in-Align.is

pub returns-in-Boundary : goal.returns-in-Boundary
returns-in-Boundary c = found c.in-Boundary.is

pub returns-in-Index : goal.returns-in-Index
returns-in-Index c = found c.in-Index.is

pub returns-in-Unclean : goal.returns-in-Unclean
returns-in-Unclean c = found c.in-Unclean.is

pub returns-in-Setup : goal.returns-in-Setup
returns-in-Setup c = found c.in-Setup.is

pub returns-in-UserBits : goal.returns-in-UserBits
returns-in-UserBits c = found c.in-UserBits.is

pub returns-in-Tags : goal.returns-in-Tags
returns-in-Tags c = found c.in-Tags.is
