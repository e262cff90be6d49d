-- A fault as a check: whether it is there, and what it gives. A call lists its checks in paper 01's order, and what it answers
-- is the first fault that is there. Streams, bursts and the report share these; which checks a call has is in their definitions.
use Rattle.std.specs.Prelude.{◌≡◌, Bool, true, cond, List, [], ◌∷◌, ◌++◌, ◌↔◌, Option, None, Some}

pub record Check (X : Type 0) : Type 0 where
  pub found : Bool
  pub gives : X

abbrev pub check : {X : Type 0} → Bool → X → Check X
check found gives = record { found = found; gives = gives }

-- the first of the checks, in their order, that finds something
abbrev pub first : {X : Type 0} → List (Check X) → Option X
first [] = None
first (c ∷ cs) = cond c.found (Some c.gives) (first cs)

-- what a list of checks gives, and its place in the list: nothing before it is found
pub record FoundAt (X : Type 0) (cs : List (Check X)) (x : X) : Type 0 where
  pub before : List (Check X)
  pub at : Check X
  pub after : List (Check X)
  pub is : cs ≡ before ++ at ∷ after
  pub found : at.found ≡ true
  pub gives : at.gives ≡ x
  pub earlier : first before ≡ None

-- Demand 1: "given exactly when that fault is the first in the stated order"
abbrev pub FirstInOrder : Type 1
FirstInOrder = (X : Type 0) (cs : List (Check X)) (x : X) → (first cs ≡ Some x) ↔ FoundAt X cs x
