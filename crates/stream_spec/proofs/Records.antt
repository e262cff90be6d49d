-- Records and transfers: a stream of whole records divides into them and is joined from them, and a transfer's octets
-- stand for that transfer. Assumes nothing.
use mathlib.Core.Path.{◌≡◌, refl, sym, ap, ap₂, ◌∙◌}
use mathlib.Core.List.{List, [], ◌∷◌, ◌++◌, map, append_assoc, append-nil}
use Prim.Native.Nat.{ℕ, zero, suc, ◌+◌, ◌-◌, ◌*◌, ◌/◌, ◌%◌, ◌≤◌, ◌<◌}
use native.Mathlib.Numerals.{add-one}
use native.Mathlib.Nat.{div-eq-sub-div, mod-eq-sub-mod, mod-eq_of_lt, zero-add, suc-add, div-mul-le_self, suc-mul, zero-mul, div-add-mod', mul-div_cancel, mul-add-div_right}
use native.Mathlib.Decide.{dec_le}
use native.Mathlib.Omega.{arith}
use lib.ListN.{length, take, drop, length-map, length-append, length-drop}
use lib.Seq.{length-take-le, take_at, drop_at, take-append-le, drop-append-le}
use Rattle.words.specs.Words.{octets_of_word}
use Rattle.stream_spec.specs.declared.Shape.{Shape}
use Rattle.stream_spec.specs.Items.{Transfer, items}
use Rattle.stream_spec.specs.Layout.{mask_of, user_octets, size, at_width, Kept, keep_bit, strb_bit, lane_octet, users_of, transfer_of, octets_of, pieces, pieces_of, record_count, records, joined, transfers, octets, stream_items, packed_transfers, packed, sliced_transfers}
use Rattle.stream_spec.proofs.Bits.{bit_back, two-octets}
use Rattle.stream_spec.proofs.Size.{size_pos, length-octets_of}
use Rattle.stream_spec.proofs.Users.{AnyPair, BitsFit, LanesTagged, Tagged, users_back, lanes_back, transfers-tagged}
use Rattle.stream_spec.proofs.Each.{each-items, each-pack, each-slices}
use Rattle.stream_spec.proofs.Pack.{map-append, items-append, items-pack, wide-pack, Wide}

-- ---- pieces

-- every one of the records has so many octets
abbrev pub Sized : ℕ → List (List ℕ) → Type 0
Sized n [] = Unit {0}
Sized n (r ∷ rs) = (length r ≡ n) × Sized n rs

pub length-joined : (n : ℕ) (rs : List (List ℕ)) → Sized n rs → length (joined rs) ≡ length rs * n
length-joined n [] h = sym (zero-mul n)
length-joined n (r ∷ rs) h = rw (length-append r (joined rs), h.0, length-joined n rs h.1) (omega (arith, suc-mul (length rs) n))

pieces-joined : (n : ℕ) (rs : List (List ℕ)) → Sized n rs → pieces (length rs) n (joined rs) ≡ rs
pieces-joined n [] h = refl
pieces-joined n (r ∷ rs) h = rw (take_at r (joined rs) n h.0, drop_at r (joined rs) n h.0, pieces-joined n rs h.1) refl

pub count-joined : (s : Shape) (rs : List (List ℕ)) → Sized (size s) rs → record_count s (joined rs) ≡ length rs
count-joined s rs h = rw (length-joined (size s) rs h) (mul-div_cancel (length rs) (size_pos s))

-- records joined are these records
pub records-joined : (s : Shape) (rs : List (List ℕ)) → Sized (size s) rs → records s (joined rs) ≡ rs
records-joined s rs h = rw (count-joined s rs h) (pieces-joined (size s) rs h)

-- a record alone is one record
pub record_alone : (s : Shape) (r : List ℕ) → length r ≡ size s → records s r ≡ r ∷ []
record_alone s r e = ap (records s) (sym (append-nil r)) ∙ records-joined s (r ∷ []) (e, tt)

pieces-append : (z n m : ℕ) (xs ys : List ℕ) → length xs ≡ n * z → pieces (n + m) z (xs ++ ys) ≡ pieces n z xs ++ pieces m z ys
pieces-append z zero m [] ys h = rw (zero-add m) refl
pieces-append z zero m (x ∷ xs) ys h = absurd (omega (arith, zero-mul z))
pieces-append z (suc n) m xs ys h =
    let fits : z ≤ length xs = omega (arith, suc-mul n z) in
    let rest : length (drop z xs) ≡ n * z = omega (arith, suc-mul n z, length-drop z xs) in
    rw (suc-add n m)
    (rw (take-append-le z xs ys fits, drop-append-le z xs ys fits)
    (ap {B = List (List ℕ)} (λ l. take z xs ∷ l) (pieces-append z n m (drop z xs) ys rest)))

pieces_sized : (z n : ℕ) (xs : List ℕ) → n * z ≤ length xs → Sized z (pieces n z xs)
pieces_sized z zero xs h = tt
pieces_sized z (suc n) xs h =
    (length-take-le z xs (omega (arith, suc-mul n z)), pieces_sized z n (drop z xs) (omega (arith, suc-mul n z, length-drop z xs)))

pub whole-count : (s : Shape) (xs : List ℕ) → length xs % size s ≡ 0 → length xs ≡ record_count s xs * size s
whole-count s xs h = omega (arith, div-add-mod' (length xs) (size s))

-- whole records in front are the first records
pub records-append : (s : Shape) (xs ys : List ℕ) → length xs % size s ≡ 0 → records s (xs ++ ys) ≡ records s xs ++ records s ys
records-append s xs ys h =
    ap (λ (n : ℕ). pieces n (size s) (xs ++ ys))
    (ap (λ (n : ℕ). n / size s) (length-append xs ys ∙ ap (λ (n : ℕ). n + length ys) (whole-count s xs h))
    ∙ mul-add-div_right (size_pos s) (record_count s xs) (length ys))
    ∙ pieces-append (size s) (record_count s xs) (record_count s ys) xs ys (whole-count s xs h)

whole-fits : (n z : ℕ) → n % z ≡ 0 → 0 < n → z ≤ n
whole-fits n z w h = elim (dec_le z n) [ yes p ↦ p | no p ↦ let short : n < z = omega arith in absurd (omega (arith, mod-eq_of_lt short)) ]

-- the first of the whole pieces, and the others
pub record FirstPiece (z : ℕ) (xs : List ℕ) : Type 0 where
  pub fits : z ≤ length xs
  pub is : pieces_of z xs ≡ take z xs ∷ pieces_of z (drop z xs)
  pub whole : length (drop z xs) % z ≡ 0

pub first_piece : (z : ℕ) → 0 < z → (xs : List ℕ) → length xs % z ≡ 0 → 0 < length xs → FirstPiece z xs
first_piece z pos xs w h =
    let fits : z ≤ length xs = whole-fits (length xs) z w h in
    record {
      fits = fits;
      is =
          ap (λ (n : ℕ). pieces n z xs)
          (div-eq-sub-div pos fits ∙ add-one ((length xs - z) / z) ∙ ap (λ (n : ℕ). suc (n / z)) (sym (length-drop z xs)));
      whole = rw (length-drop z xs) (sym (mod-eq-sub-mod fits) ∙ w);
    }

-- the same of records
pub first_record : (s : Shape) (xs : List ℕ) → length xs % size s ≡ 0 → 0 < length xs → FirstPiece (size s) xs
first_record s xs w h = first_piece (size s) (size_pos s) xs w h

pub records_sized : (s : Shape) (xs : List ℕ) → Sized (size s) (records s xs)
records_sized s xs = pieces_sized (size s) (record_count s xs) xs (div-mul-le_self (length xs) (size s))

pub length-pieces : (z n : ℕ) (xs : List ℕ) → length (pieces n z xs) ≡ n
length-pieces z zero xs = refl
length-pieces z (suc n) xs = ap suc (length-pieces z n (drop z xs))

-- ---- a transfer and its octets

-- a transfer of the shape's width, whose bits fit, comes back from its octets
pub transfer_back : (s : Shape) (t : Transfer Kept) → length t.lanes ≡ s.width → LanesTagged s.user t.lanes
    → transfer_of s (octets_of s.user t) ≡ t
transfer_back s t h k =
    let m = s.user in
    let us = octets_of_word (user_octets (length t.lanes) m) (users_of m t.lanes) in
    let lanes = take_at (map lane_octet t.lanes) us s.width (length-map t.lanes lane_octet ∙ h) in
    rw (users_back s t h k, bit_back t.last, two-octets (mask_of (map keep_bit t.lanes)), two-octets (mask_of (map strb_bit t.lanes)))
    (rw (lanes, ← h, lanes_back m t.lanes k) refl)

-- ---- transfers and their octets

pub octets_sized : (s : Shape) (ts : List (Transfer Kept)) → Wide s.width ts → Sized (size s) (map (octets_of s.user) ts)
octets_sized s [] h = tt
octets_sized s (t ∷ ts) h = (length-octets_of s t h.0, octets_sized s ts h.1)

pub length-octets : (s : Shape) (ts : List (Transfer Kept)) → Wide s.width ts → length (octets s.user ts) ≡ length ts * size s
length-octets s ts h =
    length-joined (size s) (map (octets_of s.user) ts) (octets_sized s ts h)
    ∙ ap (λ (n : ℕ). n * size s) (length-map ts (octets_of s.user))

pub octets-append : (m : ℕ) (ts us : List (Transfer Kept)) → octets m (ts ++ us) ≡ octets m ts ++ octets m us
octets-append m [] us = refl
octets-append m (t ∷ ts) us =
    ap (λ (l : List ℕ). octets_of m t ++ l) (octets-append m ts us) ∙ sym (append_assoc (octets_of m t) (octets m ts) (octets m us))

transfers-each : (s : Shape) (ts : List (Transfer Kept)) → Wide s.width ts → Tagged s.user ts
    → map (transfer_of s) (map (octets_of s.user) ts) ≡ ts
transfers-each s [] h k = refl
transfers-each s (t ∷ ts) h k =
    ap₂ {C = List (Transfer Kept)} (λ u us. u ∷ us) (transfer_back s t h.0 k.1) (transfers-each s ts h.1 k.2)

-- transfers of the shape's width, whose bits fit, come back from their octets
pub transfers_back : (s : Shape) (ts : List (Transfer Kept)) → Wide s.width ts → Tagged s.user ts
    → transfers s (octets s.user ts) ≡ ts
transfers_back s ts h k =
    ap (map (transfer_of s)) (records-joined s (map (octets_of s.user) ts) (octets_sized s ts h)) ∙ transfers-each s ts h k

pub stream_items-append : (s : Shape) (xs ys : List ℕ) → length xs % size s ≡ 0 → stream_items s (xs ++ ys) ≡ stream_items s xs ++ stream_items s ys
stream_items-append s xs ys h =
    ap (λ (rs : List (List ℕ)). items (map (transfer_of s) rs)) (records-append s xs ys h)
    ∙ ap items (map-append (transfer_of s) (records s xs) (records s ys))
    ∙ items-append (transfers s xs) (transfers s ys)

-- ---- the packed form as octets

-- bits that were read fit, wherever they are written
pub packed-tagged : (s : Shape) (v : ℕ) (xs : List ℕ) → Tagged s.user (packed_transfers s v xs)
packed-tagged s v xs =
    each-pack AnyPair (BitsFit s.user) v (stream_items s xs)
    (each-items AnyPair (BitsFit s.user) (transfers s xs) (transfers-tagged s (records s xs)))

pub sliced-tagged : (s : Shape) (v : ℕ) (xs : List ℕ) → Tagged s.user (sliced_transfers s v xs)
sliced-tagged s v xs = each-slices AnyPair (BitsFit s.user) s.width v (transfers s xs) (transfers-tagged s (records s xs))

pub length-packed : (s : Shape) (v : ℕ) (xs : List ℕ) → length (packed s v xs) ≡ length (packed_transfers s v xs) * size (at_width s v)
length-packed s v xs = length-octets (at_width s v) (packed_transfers s v xs) (wide-pack v (stream_items s xs))

-- "Repacking keeps every data byte with its value, every position byte, every packet end, each with its TID and TDEST, in
-- order, and adds none": the packed form carries the stream's items.
pub packed-items : (s : Shape) (v : ℕ) → 0 < v → (xs : List ℕ) → stream_items (at_width s v) (packed s v xs) ≡ stream_items s xs
packed-items s v h xs =
    ap items (transfers_back (at_width s v) (packed_transfers s v xs) (wide-pack v (stream_items s xs)) (packed-tagged s v xs))
    ∙ items-pack v h (stream_items s xs)
