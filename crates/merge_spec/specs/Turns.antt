-- Turns (paper 02, T-08), over any type A of what is passed on; no octet is known here.
use Rattle.std.specs.Prelude.{Bool, true, false, cond, List, [], ◌∷◌, ◌++◌}

module _ {A : Type 0} where
  -- one more in front of the first turn
  abbrev pub into_first : A → List (List A) → List (List A)
  into_first a [] = (a ∷ []) ∷ []
  into_first a (t ∷ ts) = (a ∷ t) ∷ ts

  -- the turns of one port: "A turn passes on that port's transfers up to and including its next TLAST .., or to the list's end"
  abbrev pub turns_of : (A → Bool) → List A → List (List A)
  turns_of last [] = []
  turns_of last (a ∷ rest) = cond (last a) ((a ∷ []) ∷ turns_of last rest) (into_first a (turns_of last rest))

  -- the turns of two ports: "then the turn goes over. A port with nothing left is skipped."
  abbrev pub alternate : List (List A) → List (List A) → List (List A)
  alternate [] us = us
  alternate (t ∷ ts) [] = t ∷ ts
  alternate (t ∷ ts) (u ∷ us) = t ∷ u ∷ alternate ts us

  -- all that turns pass on, in order
  abbrev pub passed : List (List A) → List A
  passed [] = []
  passed (t ∷ ts) = t ++ passed ts

  -- those of a list that are so, in order
  abbrev pub those : (A → Bool) → List A → List A
  those is [] = []
  those is (a ∷ rest) = cond (is a) (a ∷ those is rest) (those is rest)

  -- For the laws and the code, which go record by record: what is passed on of two lists where the first of them has the turn; and of port
  -- 0's list and port 1's, where port 1 has it, or port 0.
  abbrev pub sending : (A → Bool) → List A → List A → List A
  sending last xs ys = passed (alternate (turns_of last xs) (turns_of last ys))

  abbrev pub goes_out : (A → Bool) → Bool → List A → List A → List A
  goes_out last true xs ys = sending last ys xs
  goes_out last false xs ys = sending last xs ys
