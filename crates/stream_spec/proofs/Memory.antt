-- Lent memory while it is written: the start, one piece more at its place, also where code lends the part from there on,
-- and the end. Assumes nothing.
use mathlib.Core.Path.{◌≡◌, refl, sym, ap, ◌∙◌, subst}
use mathlib.Core.List.{List, [], ◌++◌, append_assoc, append-nil}
use Prim.Native.Nat.{ℕ, ◌+◌, ◌-◌, ◌≤◌}
use native.Mathlib.Omega.{arith}
use lib.ListN.{length, take, drop, length-append, length-drop, take-append-drop, drop_of_length-le}
use lib.Seq.{take_all, take_at, drop_at, drop-drop, length-take-le}
use Rattle.stream_spec.specs.Memory.{in_front, Writing, Writes}

-- what is lent from an octet on, to the end, is all that stands there
pub lent-rest : (xs : List ℕ) (from : ℕ) → take (length xs - from) (drop from xs) ≡ drop from xs
lent-rest xs from = take_all (length xs - from) (drop from xs) (omega (arith, length-drop from xs))

-- ---- the start and the end

-- nothing is written yet
pub writing_start : (out whole : List ℕ) → length whole ≤ length out → Writing out out 0 whole whole
writing_start out whole h = record { same = refl; room = omega arith; is = refl; after = refl }

-- what is left may be told in another way
pub writing_as : (before out whole rest rest' : List ℕ) (to : ℕ) → rest ≡ rest' → Writing before out to whole rest → Writing before out to whole rest'
writing_as before out whole rest rest' to e w = subst (λ (xs : List ℕ). Writing before out to whole xs) e w

-- all is written: it stands in front, and the memory behind it is as it was
pub writing-end : (before out whole : List ℕ) (to : ℕ) → Writing before out to whole [] → out ≡ in_front whole before
writing-end before out whole to w =
    let front : take to out ≡ whole = sym (append-nil (take to out)) ∙ w.is in
    let long : length whole ≡ to = ap length (sym front) ∙ length-take-le to out (omega (arith, w.room)) in
    sym (take-append-drop to out) ∙ rw (front, w.after, long) refl

-- ---- pieces

-- there is room for the piece that comes next
pub piece-room : (before out whole piece rest : List ℕ) (to : ℕ) → Writing before out to whole (piece ++ rest) → to + length piece ≤ length out
piece-room before out whole piece rest to w = omega (arith, w.room, length-append piece rest)

-- a piece of z octets at its place
module _ (out piece : List ℕ) (to z : ℕ) (l : length piece ≡ z) (h : to + z ≤ length out) where
  placed : List ℕ
  placed = (take to out ++ piece) ++ drop (to + z) out

  front_long : length (take to out ++ piece) ≡ to + z
  front_long = length-append (take to out) piece ∙ omega (arith, length-take-le to out (omega arith))

  placed_long : length placed ≡ length out
  unfolding placed
  placed_long = length-append (take to out ++ piece) (drop (to + z) out) ∙ omega (arith, front_long, length-drop (to + z) out)

  placed_writes : Writes piece out to placed (to + z)
  unfolding placed
  placed_writes before whole rest w =
      record {
        same = placed_long ∙ w.same;
        room = omega (arith, placed_long, w.room, length-append piece rest);
        is = rw (take_at (take to out ++ piece) (drop (to + z) out) (to + z) front_long) (append_assoc (take to out) piece rest ∙ w.is);
        after =
            drop_at (take to out ++ piece) (drop (to + z) out) (to + z) front_long
            ∙ sym (drop-drop z to out) ∙ ap (drop z) w.after ∙ drop-drop z to before;
      }

  -- the memory from `to` on is lent, k octets of it, and comes back with the piece in front
  module _ (k : ℕ) (e : k ≡ length out - to) where
    lent_placed : take to out ++ ((piece ++ drop z (take k (drop to out))) ++ drop k (drop to out)) ≡ placed
    unfolding placed
    lent_placed =
        let all : length (drop to out) ≤ k = omega (arith, length-drop to out) in
        rw (take_all k (drop to out) all, drop_of_length-le (drop to out) all)
        (rw (append-nil (piece ++ drop z (drop to out)), drop-drop z to out) (sym (append_assoc (take to out) piece (drop (to + z) out))))

    pub lent-long : length (take to out ++ ((piece ++ drop z (take k (drop to out))) ++ drop k (drop to out))) ≡ length out
    lent-long = ap length lent_placed ∙ placed_long

    pub lent-writes : Writes piece out to (take to out ++ ((piece ++ drop z (take k (drop to out))) ++ drop k (drop to out))) (to + z)
    lent-writes = rw lent_placed placed_writes

-- the same where the lent part comes back as some octets of which that is told
module _ (out piece part : List ℕ) (to k : ℕ) (h : to + length piece ≤ length out) (e : k ≡ length out - to)
    (f : part ≡ in_front piece (take k (drop to out))) where
  pub part-writes : Writes piece out to (take to out ++ (part ++ drop k (drop to out))) (to + length piece)
  part-writes = rw f (lent-writes out piece to (length piece) refl h k e)
