-- Octets written at a place: the length stays, what stands in front of and behind them, and octets after or over others.
-- Assumes nothing.
use mathlib.Core.Path.{◌≡◌, refl, sym, ap, ap₂, ◌∙◌}
use mathlib.Core.List.{List, ◌++◌, append_assoc}
use Prim.Native.Nat.{ℕ, ◌+◌, ◌-◌, ◌≤◌}
use native.Mathlib.Omega.{arith}
use lib.ListN.{length, take, drop, length-append, length-drop}
use lib.Seq.{length-take-le, take_at, drop_at, drop-drop, take-append-le, take-append-add, drop-append-add}
use Rattle.words.specs.Splice.{splice}

module _ (at : ℕ) (xs out : List ℕ) (room : at + length xs ≤ length out) where
  front_long : length (take at out ++ xs) ≡ at + length xs
  front_long = length-append (take at out) xs ∙ ap (λ (n : ℕ). n + length xs) (length-take-le at out (omega arith))

  regroup : splice at xs out ≡ (take at out ++ xs) ++ drop (at + length xs) out
  regroup = sym (append_assoc (take at out) xs (drop (at + length xs) out))

  pub splice_front : take (at + length xs) (splice at xs out) ≡ take at out ++ xs
  splice_front = ap (take (at + length xs)) regroup ∙ take_at (take at out ++ xs) (drop (at + length xs) out) (at + length xs) front_long

  pub splice-rest : drop (at + length xs) (splice at xs out) ≡ drop (at + length xs) out
  splice-rest = ap (drop (at + length xs)) regroup ∙ drop_at (take at out ++ xs) (drop (at + length xs) out) (at + length xs) front_long

  pub splice-long : length (splice at xs out) ≡ length out
  splice-long =
      omega (
        arith,
        ap length regroup,
        length-append (take at out ++ xs) (drop (at + length xs) out),
        front_long,
        length-drop (at + length xs) out,
      )

-- octets after octets
pub splice-splice : (at : ℕ) (xs ys out : List ℕ) → at + length xs + length ys ≤ length out
    → splice (at + length xs) ys (splice at xs out) ≡ splice at (xs ++ ys) out
splice-splice at xs ys out room =
    let first : at + length xs ≤ length out = omega arith in
    let m = at + length xs in
    let n = length ys in
    let gone : drop (m + n) (splice at xs out) ≡ drop (m + n) out =
    sym (drop-drop n m (splice at xs out)) ∙ ap (drop n) (splice-rest at xs out first) ∙ drop-drop n m out in
    let long : m + n ≡ at + length (xs ++ ys) = omega (arith, length-append xs ys) in
    ap₂ (λ (a r : List ℕ). a ++ (ys ++ r)) (splice_front at xs out first) (gone ∙ ap (λ (k : ℕ). drop k out) long)
    ∙ append_assoc (take at out) xs (ys ++ drop (at + length (xs ++ ys)) out)
    ∙ ap (λ (r : List ℕ). take at out ++ r) (sym (append_assoc xs ys (drop (at + length (xs ++ ys)) out)))

-- octets over the end of others: what is left of the first, then the second
pub splice_over : (at a : ℕ) (xs ys out : List ℕ) → a ≤ length xs → length xs ≤ a + length ys → at + (a + length ys) ≤ length out
    → splice (at + a) ys (splice at xs out) ≡ splice at (take a xs ++ ys) out
splice_over at a xs ys out h k r =
    let at_long : length (take at out) ≡ at = length-take-le at out (omega arith) in
    let a-long : length (take a xs) ≡ a = length-take-le a xs h in
    let both : length (take a xs ++ ys) ≡ a + length ys = rw (length-append (take a xs) ys, a-long) refl in
    let before : take (at + a) (splice at xs out) ≡ take at out ++ take a xs =
    (rw at_long at (take-append-add (take at out) (xs ++ drop (at + length xs) out) a))
    ∙ rw (take-append-le a xs (drop (at + length xs) out) h) refl in
    let past : at + a + length ys ≡ at + (length xs + (a + length ys - length xs)) = omega arith in
    let there : at + length xs + (a + length ys - length xs) ≡ at + (a + length ys) = omega arith in
    let back : drop (at + a + length ys) (splice at xs out) ≡ drop (at + (a + length ys)) out =
    rw past
    ((rw at_long at (drop-append-add (take at out) (xs ++ drop (at + length xs) out) (length xs + (a + length ys - length xs))))
    ∙ drop-append-add xs (drop (at + length xs) out) (a + length ys - length xs)
    ∙ drop-drop (a + length ys - length xs) (at + length xs) out
    ∙ rw there refl) in
    rw (before, back, both)
    (append_assoc (take at out) (take a xs) (ys ++ drop (at + (a + length ys)) out)
    ∙ ap (λ (l : List ℕ). take at out ++ l) (sym (append_assoc (take a xs) ys (drop (at + (a + length ys)) out))))
