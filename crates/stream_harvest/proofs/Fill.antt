-- The pass over the cycles: what is known at its start, what one cycle more leaves known, and what stands in the output at
-- its end. Assumes nothing.
use mathlib.Core.Path.{◌≡◌, refl, ap, ◌∙◌}
use mathlib.Core.Bool.{Bool, true, false}
use mathlib.Core.List.{List, [], ◌∷◌, ◌++◌, map}
use Prim.Native.Nat.{ℕ, ◌+◌, ◌-◌, ◌≤◌, ◌<◌}
use native.Mathlib.Omega.{arith}
use lib.ListN.{length, take, drop, length-drop}
use lib.Seq.{take_all}
use Rattle.stream_spec.specs.declared.Shape.{Shape}
use Rattle.stream_spec.specs.Layout.{size, records, joined}
use Rattle.stream_spec.specs.Handshake.{transferred, handshakes, as_transfer, harvested}
use Rattle.stream_spec.specs.Memory.{in_front, Writing}
use Rattle.stream_spec.specs.Walk.{Passed}
use Rattle.stream_spec.proofs.Memory.{writing_start, writing_as, writing-end, piece-room, part-writes}
use Rattle.stream_spec.proofs.Size.{size-least, size-most}
use Rattle.stream_spec.proofs.Walk.{records_front, records_behind, no_records_short}
use Rattle.stream_harvest.specs.Filling.{added, CycleFits, CyclePut, Filling}

-- what is harvested of the first cycle, and of the others
added-first : (c : List ℕ) (cs : List (List ℕ))
    → joined (map as_transfer (handshakes (c ∷ cs))) ≡ added c ++ joined (map as_transfer (handshakes cs))
added-first c cs = go (transferred c) refl
  where
    go : (t : Bool) → transferred c ≡ t → joined (map as_transfer (handshakes (c ∷ cs))) ≡ added c ++ joined (map as_transfer (handshakes cs))
    go true e = rw e refl
    go false e = rw e refl

pub filling_start : (s : Shape) (xs rest out : List ℕ) → rest ≡ xs → Passed s xs → length (harvested s xs) ≤ length out → Filling s xs rest out out 0
filling_start s xs rest out e p room = rw e (record { whole = p.whole; writing = writing_start out (harvested s xs) room })

-- one cycle more
module _ (s : Shape) (xs rest before out : List ℕ) (to : ℕ) (h : Filling s xs rest before out to) (c after : List ℕ) (cut : rest ≡ c ++ after) (long : length c ≡ size s) where
  left_is : harvested s rest ≡ added c ++ harvested s after
  left_is =
      ap (λ (cs : List (List ℕ)). joined (map as_transfer (handshakes cs))) (records_front s rest c after cut long h.whole)
      ∙ added-first c (records s after)

  next : Writing before out to (harvested s xs) (added c ++ harvested s after)
  next = writing_as before out (harvested s xs) (harvested s rest) (added c ++ harvested s after) to left_is h.writing

  room : to + length (added c) ≤ length out
  room = piece-room before out (harvested s xs) (added c) (harvested s after) to next

  -- the part of the output that is lent
  abbrev lent : List ℕ
  lent = take (length out - to) (drop to out)

  pub asks : Passed s xs → CycleFits c lent
  asks p =
      let all : lent ≡ drop to out = take_all (length out - to) (drop to out) (omega (arith, length-drop to out)) in
      record {
        low = omega (arith, long, size-least s p.low);
        high = omega (arith, long, size-most s p.high p.user);
        room = rw all (omega (arith, room, length-drop to out));
      }

  -- and how it comes back
  module _ (part : List ℕ) (n : ℕ) (put : CyclePut c lent part n) where
    pub adds : to + n ≤ length out
    adds = omega (arith, put.is, room)

    pub goes_on : Filling s xs after before (take to out ++ (part ++ drop (length out - to) (drop to out))) (to + n)
    goes_on =
        record {
          whole = records_behind s rest c after cut long h.whole;
          writing = rw put.is (part-writes out (added c) part to (length out - to) room refl put.leaves before (harvested s xs) (harvested s after) next);
        }

-- no cycle is left
pub filled : (s : Shape) (xs rest before out : List ℕ) (to : ℕ) → Filling s xs rest before out to → length rest < size s → out ≡ in_front (harvested s xs) before
filled s xs rest before out to h l =
    let nothing : harvested s rest ≡ [] = ap (λ (cs : List (List ℕ)). joined (map as_transfer (handshakes cs))) (no_records_short s rest l) in
    writing-end before out (harvested s xs) to (writing_as before out (harvested s xs) (harvested s rest) [] to nothing h.writing)
