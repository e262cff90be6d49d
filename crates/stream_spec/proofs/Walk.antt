-- Walking over a take record by record: a walk's start, the record at `at` with what is left behind it, and a walk's end.
-- Assumes nothing.
use mathlib.Core.Path.{◌≡◌, refl, sym, ap, ap₂, ◌∙◌, subst}
use mathlib.Core.List.{List, [], ◌∷◌, ◌++◌}
use Prim.Native.Nat.{ℕ, suc, ◌+◌, ◌-◌, ◌/◌, ◌%◌, ◌≤◌, ◌<◌}
use native.Mathlib.Nat.{zero-div, add-div_right, div-eq_of_lt}
use native.Mathlib.Omega.{arith}
use lib.ListN.{length, get_or, take, drop, length-append, length-drop, drop_of_length-le}
use lib.Seq.{drop-drop, length-take-le, take_at, drop_at, get_or-take, get_or-drop}
use Rattle.stream_spec.specs.declared.Shape.{Shape}
use Rattle.stream_spec.specs.Layout.{size, pieces_of, record_count, records}
use Rattle.stream_spec.specs.Walk.{LeftBy, Left, record_at}
use Rattle.stream_spec.proofs.Size.{size_pos}
use Rattle.stream_spec.proofs.Records.{FirstPiece, first_piece, length-pieces}

-- ---- the start

-- a take of whole records is left from octet 0 on
pub left-start : (s : Shape) (xs : List ℕ) → length xs % size s ≡ 0 → Left s xs 0
left-start s xs w = record { within = omega arith; whole = w }

-- another shape with records of the same size leaves the same
pub left_like : (s t : Shape) (xs : List ℕ) (at : ℕ) → size t ≡ size s → Left s xs at → Left t xs at
left_like s t xs at e h = record { within = h.within; whole = rw e h.whole }

-- ---- the piece at `at`, of z octets

module _ (z : ℕ) (pos : 0 < z) (xs : List ℕ) (at : ℕ) (left : LeftBy z xs at) (more : at < length xs) where
  here : FirstPiece z (drop at xs)
  here = first_piece z pos (drop at xs) left.whole (omega (arith, length-drop at xs))

  -- it lies in the take
  pub piece-fits : at + z ≤ length xs
  piece-fits = omega (arith, here.fits, length-drop at xs)

  pub piece_is : record_at xs at z ≡ take z (drop at xs)
  piece_is = let long : at + z - at ≡ z = omega arith in ap (λ (n : ℕ). take n (drop at xs)) long

  pub piece-long : length (record_at xs at z) ≡ z
  piece-long = rw piece_is (length-take-le z (drop at xs) here.fits)

  -- what is left behind it
  pub piece-rest : drop (at + z) xs ≡ drop z (drop at xs)
  piece-rest = sym (drop-drop z at xs)

  pub left_behind : LeftBy z xs (at + z)
  left_behind = record { within = piece-fits; whole = subst (λ (ys : List ℕ). length ys % z ≡ 0) (sym piece-rest) here.whole }

  -- it is the first of the pieces that are left, and the others are left behind it
  pub pieces-next : pieces_of z (drop at xs) ≡ record_at xs at z ∷ pieces_of z (drop (at + z) xs)
  pieces-next = here.is ∙ ap₂ (λ (r ys : List ℕ). r ∷ pieces_of z ys) (sym piece_is) (sym piece-rest)

-- ---- the record at `at`; the code has a record's size in z

module _ (s : Shape) (xs : List ℕ) (at : ℕ) (left : Left s xs at) (more : at < length xs) (z : ℕ) (q : z ≡ size s) where
  pub record_fits : at + z ≤ length xs
  record_fits = rw q (piece-fits (size s) (size_pos s) xs at left more)

  pub record_is : record_at xs at z ≡ take (size s) (drop at xs)
  record_is = rw q (piece_is (size s) (size_pos s) xs at left more)

  pub record_long : length (record_at xs at z) ≡ size s
  record_long = rw q (piece-long (size s) (size_pos s) xs at left more)

  -- its octets are the take's
  pub record_octet : (i : ℕ) → i < z → get_or (record_at xs at z) i 0 ≡ get_or xs (at + i) 0
  record_octet i l = get_or-take (at + z - at) (drop at xs) i 0 (omega arith) ∙ get_or-drop at xs i 0

  pub rest-is : drop (at + z) xs ≡ drop (size s) (drop at xs)
  rest-is = rw q (piece-rest (size s) (size_pos s) xs at left more)

  pub left-next : Left s xs (at + z)
  left-next = rw q (left_behind (size s) (size_pos s) xs at left more)

  pub records-next : records s (drop at xs) ≡ record_at xs at z ∷ records s (drop (at + z) xs)
  records-next = rw q (pieces-next (size s) (size_pos s) xs at left more)

  -- ---- counting

  -- no more records stand in front than octets
  pub few-next : (k : ℕ) → k ≤ at → k + 1 ≤ at + z
  few-next k h = omega (arith, size_pos s)

  -- its number, and the next one's
  pub place-next : (at + z) / size s ≡ at / size s + 1
  place-next = rw q (add-div_right at (size_pos s))

  -- one record less is left
  pub count_next : record_count s (drop at xs) ≡ suc (record_count s (drop (at + z) xs))
  count_next =
      sym (length-pieces (size s) (record_count s (drop at xs)) (drop at xs))
      ∙ ap length records-next
      ∙ ap suc (length-pieces (size s) (record_count s (drop (at + z) xs)) (drop (at + z) xs))

-- ---- the end

module _ (xs : List ℕ) (at : ℕ) (end : length xs ≤ at) where
  pub nothing_left : drop at xs ≡ []
  nothing_left = drop_of_length-le xs end

  pub no_pieces : (z : ℕ) → pieces_of z (drop at xs) ≡ []
  no_pieces z = ap (pieces_of z) nothing_left ∙ rw (zero-div z) refl

module _ (s : Shape) (xs : List ℕ) (at : ℕ) (end : length xs ≤ at) where
  pub none_left : drop at xs ≡ []
  none_left = nothing_left xs at end

  pub no-records : records s (drop at xs) ≡ []
  no-records = no_pieces xs at end (size s)

  pub no-count : record_count s (drop at xs) ≡ 0
  no-count = ap (record_count s) none_left ∙ zero-div (size s)

-- ---- the same by what is left, as an iterator over the pieces holds it

module _ (z : ℕ) (pos : 0 < z) (xs r rest : List ℕ) (cut : xs ≡ r ++ rest) (long : length r ≡ z) (whole : length xs % z ≡ 0) where
  front : FirstPiece z xs
  front = first_piece z pos xs whole (omega (arith, ap length cut, length-append r rest))

  -- a piece in front is the first piece
  pub pieces_front : pieces_of z xs ≡ r ∷ pieces_of z rest
  pieces_front =
      front.is
      ∙ ap₂ (λ (p q : List ℕ). p ∷ pieces_of z q) (ap (take z) cut ∙ take_at r rest z long) (ap (drop z) cut ∙ drop_at r rest z long)

  -- and whole pieces are left behind it
  pub whole_behind : length rest % z ≡ 0
  whole_behind = subst (λ (ys : List ℕ). length ys % z ≡ 0) (ap (drop z) cut ∙ drop_at r rest z long) front.whole

-- less than a piece is none
pub no_pieces_short : (z : ℕ) (xs : List ℕ) → length xs < z → pieces_of z xs ≡ []
no_pieces_short z xs h = rw (div-eq_of_lt h) refl

module _ (s : Shape) (xs r rest : List ℕ) (cut : xs ≡ r ++ rest) (long : length r ≡ size s) (whole : length xs % size s ≡ 0) where
  pub records_front : records s xs ≡ r ∷ records s rest
  records_front = pieces_front (size s) (size_pos s) xs r rest cut long whole

  pub records_behind : length rest % size s ≡ 0
  records_behind = whole_behind (size s) (size_pos s) xs r rest cut long whole

pub no_records_short : (s : Shape) (xs : List ℕ) → length xs < size s → records s xs ≡ []
no_records_short s xs h = no_pieces_short (size s) xs h
