-- A row of numbers while descriptions are written to it, and when all are. Assumes nothing.
use Rattle.std.specs.Prelude.{Option, None, Some, Err}
use Rattle.std.proofs.lemmas.List.{take_all}
use mathlib.Core.List.{List, [], ◌∷◌, ◌++◌, map, map-append, append_assoc, append-nil}
use mathlib.Core.Path.{◌≡◌, refl, sym, ap, ap₂, ◌∙◌}
use Prim.Native.Nat.{ℕ, suc, ◌+◌, ◌-◌, ◌*◌, ◌≤◌, ◌<◌}
use native.Mathlib.Omega.{arith}
use lib.ListN.{length, take, drop, get_or, length-append, length-drop}
use borrow.Rule.Slice.PartMut.{put_mid}
use lib.Seq.{take_at, drop_at, take-suc, drop-drop, length-take-le}
use Rattle.refusal.specs.declared.Refusal.{Refusal}
use Rattle.burst_spec.specs.declared.Burst.{Burst}
use Rattle.burst_spec.proofs.Answers.{accepted_exactly}
use Rattle.axi3_spec.specs.declared.CutRow.{CutRow}
use Rattle.axi3_spec.specs.Cut.{piece_count, piece, pieces, joined}
use Rattle.axi3_spec.specs.Answers.{cut_refusal, row_for, row_length, blank_row, numbers_each, numbers_of, numbers_room, numbers_after, Answered, CutAlone}
use Rattle.axi3_spec.proofs.Runs.{run_length}
use Rattle.axi3_spec.proofs.Pieces.{count_most}
use Rattle.axi3_spec.proofs.Answers.{none-refused, refused-is}
use Rattle.axi3_spec.proofs.Numbers.{numbers-length}
use Rattle.axi3.specs.Rows.{used_of, with_burst, laid}
use Rattle.axi3.proofs.Rows.{used_is}

-- five numbers written over those from `at` on
pub placed : (row : List ℕ) (at : ℕ) (x : Burst) (ys : List ℕ) → ys ≡ numbers_of x → put_mid at (at + numbers_each - at) row ys ≡ with_burst at x row
unfolding with_burst
placed row at x ys e =
    let five : at + numbers_each - at ≡ numbers_each = omega arith in
    ap₂ (λ k zs. put_mid at k row zs) five e ∙ ap (λ l. take at row ++ (numbers_of x ++ l)) (drop-drop numbers_each at row)

joined-append : (xss yss : List (List ℕ)) → joined (xss ++ yss) ≡ joined xss ++ joined yss
unfolding joined
joined-append [] yss = refl
joined-append (xs ∷ xss) yss = ap (λ l. xs ++ l) (joined-append xss yss) ∙ sym (append_assoc xs (joined xss) (joined yss))

-- ---- the first n descriptions

pub laid_none : (ys : List Burst) (row : List ℕ) → row ≡ laid ys 0 row
unfolding laid joined
laid_none ys row = refl

front_length : (ys : List Burst) (j : ℕ) → j ≤ length ys → length (joined (map numbers_of (take j ys))) ≡ numbers_each * j
front_length ys j h = numbers-length (take j ys) ∙ ap (λ n. numbers_each * n) (length-take-le j ys h)

-- so many of a longer list
pub laid-front : (ys : List Burst) (row : List ℕ) (n : ℕ) → n ≤ length ys → laid (take n ys) (length (take n ys)) row ≡ laid ys n row
unfolding laid
laid-front ys row n h =
    let long : length (take n ys) ≡ n = length-take-le n ys h in
    ap (λ k. joined (map numbers_of (take k (take n ys))) ++ drop (numbers_each * k) row) long
    ∙ ap (λ zs. joined (map numbers_of zs) ++ drop (numbers_each * n) row) (take_all n (take n ys) (omega arith))

-- one more
pub laid_next : (ys : List Burst) (row : List ℕ) (j : ℕ) (d : Burst) → j < length ys → with_burst (numbers_each * j) (get_or ys j d) (laid ys j row) ≡ laid ys (j + 1) row
unfolding laid with_burst joined
laid_next ys row j d h =
    let front : List ℕ = joined (map numbers_of (take j ys)) in
    let rest : List ℕ = drop (numbers_each * j) row in
    let x : Burst = get_or ys j d in
    let long : length front ≡ numbers_each * j = front_length ys j (omega arith) in
    let next : numbers_each * j + numbers_each ≡ numbers_each * (j + 1) = omega arith in
    let one : j + 1 ≡ suc j = omega arith in
    let before : take (numbers_each * j) (front ++ rest) ≡ front = take_at front rest (numbers_each * j) long in
    let after : drop (numbers_each * j + numbers_each) (front ++ rest) ≡ drop (numbers_each * (j + 1)) row =
    sym (drop-drop numbers_each (numbers_each * j) (front ++ rest))
    ∙ ap (drop numbers_each) (drop_at front rest (numbers_each * j) long)
    ∙ drop-drop numbers_each (numbers_each * j) row
    ∙ ap (λ n. drop n row) next
    in
    let more : front ++ numbers_of x ≡ joined (map numbers_of (take (j + 1) ys)) =
    ap (λ l. front ++ l) (sym (append-nil (numbers_of x)))
    ∙ sym (joined-append (map numbers_of (take j ys)) (numbers_of x ∷ []))
    ∙ ap joined (sym (map-append numbers_of (take j ys) (x ∷ [])))
    ∙ ap (λ zs. joined (map numbers_of zs)) (sym (take-suc ys j d h) ∙ ap (λ n. take n ys) (sym one))
    in
    ap₂ (λ f r. f ++ (numbers_of x ++ r)) before after
    ∙ sym (append_assoc front (numbers_of x) (drop (numbers_each * (j + 1)) row))
    ∙ ap (λ l. l ++ drop (numbers_each * (j + 1)) row) more

-- ---- a cut with a row of its own, of so many descriptions, laid into a row of numbers

module _ (x : Burst) (room : ℕ) (r : CutRow) (c : CutAlone x room r) where
  row_by : (o : Option Refusal) → cut_refusal x room ≡ o → r.bursts ≡ row_for o (pieces x) blank_row
  row_by o e = c.leaves ∙ ap (λ q. row_for q (pieces x) blank_row) e

  pieces-length : length (pieces x) ≡ piece_count x
  pieces-length = run_length (piece x) 0 (piece_count x)

  pub row-length : length r.bursts ≡ row_length
  row-length = go (cut_refusal x room) refl
    where
      go : (o : Option Refusal) → cut_refusal x room ≡ o → length r.bursts ≡ row_length
      go (Some q) e = ap length (row_by (Some q) e)
      go None e =
          let few : piece_count x ≤ row_length = count_most x ((accepted_exactly x).0 (none-refused x room e).0).legal in
          ap length (row_by None e)
          ∙ length-append (pieces x) (drop (length (pieces x)) blank_row)
          ∙ omega (arith, pieces-length, length-drop (length (pieces x)) blank_row)

  -- no more are used than there are, and than there is room for
  pub used_most : (used_of r.answer ≤ row_length) × (used_of r.answer ≤ room)
  used_most = go (cut_refusal x room) refl
    where
      go : (o : Option Refusal) → cut_refusal x room ≡ o → (used_of r.answer ≤ row_length) × (used_of r.answer ≤ room)
      go (Some q) e = (omega (arith, used_is x room r.answer c.answers (Some q) e), omega (arith, used_is x room r.answer c.answers (Some q) e))
      go None e =
          let h = none-refused x room e in
          let few : piece_count x ≤ row_length = count_most x ((accepted_exactly x).0 h.0).legal in
          (omega (arith, used_is x room r.answer c.answers None e), omega (arith, used_is x room r.answer c.answers None e, h.1))

  laid_by : (row : List ℕ) (o : Option Refusal) → cut_refusal x room ≡ o
      → laid r.bursts (used_of r.answer) row ≡ row_for o (joined (map numbers_of (pieces x))) row
  unfolding laid joined
  laid_by row (Some q) e = ap (λ n. laid r.bursts n row) (used_is x room r.answer c.answers (Some q) e)
  laid_by row None e =
      let written : List ℕ = joined (map numbers_of (pieces x)) in
      let long : length written ≡ numbers_each * piece_count x = numbers-length (pieces x) ∙ ap (λ n. numbers_each * n) pieces-length in
      let front : take (piece_count x) r.bursts ≡ pieces x =
      ap (take (piece_count x)) (row_by None e) ∙ take_at (pieces x) (drop (length (pieces x)) blank_row) (piece_count x) pieces-length
      in
      ap (λ n. laid r.bursts n row) (used_is x room r.answer c.answers None e)
      ∙ ap₂ (λ ys n. joined (map numbers_of ys) ++ drop n row) front (sym long)

  pub laid-all : (row : List ℕ) → numbers_room row ≡ room → laid r.bursts (used_of r.answer) row ≡ numbers_after x row
  laid-all row e = laid_by row (cut_refusal x room) refl ∙ ap (λ n. row_for (cut_refusal x n) (joined (map numbers_of (pieces x))) row) (sym e)

-- refused, the row keeps its content
pub numbers_kept : (x : Burst) (row : List ℕ) (r : Refusal) → Answered x (numbers_room row) (Err r) → row ≡ numbers_after x row
numbers_kept x row r a =
    sym (ap (λ o. row_for o (joined (map numbers_of (pieces x))) row) (refused-is x (numbers_room row) r a.is))
