-- Legal streams: what is known of their transfers, and that transfers with those facts make legal streams. So the packed
-- form, lane-keeping slices and harvested takes are legal. Assumes nothing.
use Rattle.std.specs.Prelude.{Option, None, Some}
use mathlib.Core.Path.{◌≡◌, refl, ap, ◌∙◌}
use mathlib.Core.Bool.{Bool, false}
use mathlib.Core.List.{List, [], ◌∷◌, ◌++◌, map}
use Prim.Native.Nat.{ℕ, zero, suc, ◌*◌, ◌/◌, ◌%◌, ◌^◌, ◌≤◌, ◌<◌}
use native.Mathlib.Nat.{mul-mod_left, mod-lt}
use native.Mathlib.Omega.{arith}
use lib.Pow.{pow_pos, pow_mono}
use lib.ListN.{length, get_or, take, drop, length-map}
use Rattle.words.specs.Words.{octets_of_word}
use Rattle.stream_spec.specs.declared.Shape.{Shape}
use Rattle.stream_spec.specs.Items.{Pair, Transfer}
use Rattle.stream_spec.specs.Layout.{width_most, tdest_most, head_octets, user_octets, user_number, octet_values, bit_of, mask_of, tkeep, tstrb, data_octets, lane_types, size, at_width, types_of, LaneType, data_lane, position_lane, null_lane, reserved_lane, lane_type, lane_of, lanes_of, is_reserved, any_reserved, Kept, octet, position, keep_bit, strb_bit, lane_octet, users_of, lane_octets, mask_octets, transfer_of, octets_of, pieces, records, record_count, transfers, octets, stream_items, packed_transfers, packed, sliced_transfers, sliced}
use Rattle.refusal.specs.declared.Refusal.TheVariants.{Field, Reserved}
use Rattle.refusal.specs.Checks.{check, first}
use Rattle.stream_spec.specs.Checks.{field_fault, reserved_fault, transfer_flags, transfer_faults, transfer_checks}
use Rattle.stream_spec.specs.Legal.{Octets, Legal}
use Rattle.stream_spec.proofs.Bits.{bit-one, odd_mask, half_mask, mask_fits, two-octets}
use Rattle.stream_spec.proofs.Users.{LanesTagged, users_fit, users_back}
use Rattle.stream_spec.proofs.Fields.{fields_of, of_fields}
use Rattle.stream_spec.proofs.Passed.{ShapeFits}
use Rattle.stream_spec.proofs.RecordChecks.{each_none, none_each}
use Rattle.stream_spec.proofs.Pack.{Wide, wide-pack, wide-slices}
use Rattle.stream_spec.proofs.Each.{EachLane, EachTransfer, each-items, each-pack, each-slices}
use Rattle.refusal.proofs.First.{first-none}
use Rattle.stream_spec.proofs.Records.{length-octets, records-joined, octets_sized}

-- ---- what a legal record's pair and kept bytes are

pub record PairFits (p : Pair) : Type 0 where
  pub tid : p.tid < octet_values
  pub tdest : p.tdest ≤ tdest_most

-- with m user bits
abbrev pub ByteFits : ℕ → Kept → Type 0
ByteFits m (octet d u) = (d < octet_values) × (u < 2 ^ m)
ByteFits m (position u) = u < 2 ^ m

abbrev pub Sound : ℕ → List (Transfer Kept) → Type 0
Sound m ts = EachTransfer PairFits (ByteFits m) ts

-- ---- octets

pub octets-take : (n : ℕ) (xs : List ℕ) → Octets xs → Octets (take n xs)
octets-take zero xs h = tt
octets-take (suc n) [] h = tt
octets-take (suc n) (x ∷ xs) h = (h.0, octets-take n xs h.1)

pub octets-drop : (n : ℕ) (xs : List ℕ) → Octets xs → Octets (drop n xs)
octets-drop zero xs h = h
octets-drop (suc n) [] h = tt
octets-drop (suc n) (x ∷ xs) h = octets-drop n xs h.1

pub octet-at : (xs : List ℕ) (i : ℕ) → Octets xs → get_or xs i 0 < octet_values
octet-at [] i h = omega arith
octet-at (x ∷ xs) zero h = h.0
octet-at (x ∷ xs) (suc i) h = octet-at xs i h.1

-- and the other way round, as code knows it of a slice
pub octets-of : (xs : List ℕ) → ((i : ℕ) → get_or xs i 0 < octet_values) → Octets xs
octets-of [] h = tt
octets-of (x ∷ xs) h = (h 0, octets-of xs (λ i. h (suc i)))

pub octets-append : (xs ys : List ℕ) → Octets xs → Octets ys → Octets (xs ++ ys)
octets-append [] ys h k = k
octets-append (x ∷ xs) ys h k = (h.0, octets-append xs ys h.1 k)

-- ---- faults

-- none of the records has a fault
abbrev pub Faultless : Shape → List (List ℕ) → Type 0
Faultless s [] = Unit {0}
Faultless s (r ∷ rs) = (field_fault transfer_flags s r ≡ false) × (reserved_fault s r ≡ false) × Faultless s rs

pub faultless_of : (s : Shape) (k : ℕ) (rs : List (List ℕ)) → first (transfer_checks s k rs) ≡ None → Faultless s rs
faultless_of s k [] e = tt
faultless_of s k (r ∷ rs) e =
    let h = each_none (transfer_faults s) k r rs e in
    let field = first-none (check (field_fault transfer_flags s r) (Field k)) (check (reserved_fault s r) (Reserved k) ∷ []) h.0 in
    let reserved = first-none (check (reserved_fault s r) (Reserved k)) [] field.1 in
    (field.0, reserved.0, faultless_of s (suc k) rs h.1)

pub of_faultless : (s : Shape) (k : ℕ) (rs : List (List ℕ)) → Faultless s rs → first (transfer_checks s k rs) ≡ None
of_faultless s k [] h = refl
of_faultless s k (r ∷ rs) h = none_each (transfer_faults s) k r rs (rw (h.0, h.1) refl) (of_faultless s (suc k) rs h.2)

-- ---- from a legal stream to its transfers

lane-fits : (m : ℕ) (t : LaneType) (d u : ℕ) (ls : List (Option Kept)) → d < octet_values → u < 2 ^ m → EachLane PairFits (ByteFits m) ls
    → EachLane PairFits (ByteFits m) (lane_of t d u ∷ ls)
lane-fits m data_lane d u ls h b k = ((h, b), k)
lane-fits m position_lane d u ls h b k = (b, k)
lane-fits m null_lane d u ls h b k = k
lane-fits m reserved_lane d u ls h b k = k

lanes_fit : (m : ℕ) (ts : List LaneType) (u : ℕ) (ds : List ℕ) → Octets ds → EachLane PairFits (ByteFits m) (lanes_of m ts u ds)
lanes_fit m [] u ds h = tt
lanes_fit m (t ∷ ts) u [] h =
    lane-fits m t 0 (u % 2 ^ m) (lanes_of m ts (u / 2 ^ m) []) (omega arith) (mod-lt u (pow_pos m)) (lanes_fit m ts (u / 2 ^ m) [] tt)
lanes_fit m (t ∷ ts) u (d ∷ ds) h =
    lane-fits m t d (u % 2 ^ m) (lanes_of m ts (u / 2 ^ m) ds) h.0 (mod-lt u (pow_pos m)) (lanes_fit m ts (u / 2 ^ m) ds h.1)

abbrev pub EachOctets : List (List ℕ) → Type 0
EachOctets [] = Unit {0}
EachOctets (r ∷ rs) = Octets r × EachOctets rs

pub pieces-octets : (n z : ℕ) (xs : List ℕ) → Octets xs → EachOctets (pieces n z xs)
pieces-octets zero z xs h = tt
pieces-octets (suc n) z xs h = (octets-take z xs h, pieces-octets n z (drop z xs) (octets-drop z xs h))

records-sound : (s : Shape) (rs : List (List ℕ)) → EachOctets rs → Faultless s rs → Sound s.user (map (transfer_of s) rs)
records-sound s [] h f = tt
records-sound s (r ∷ rs) h f = (
  record { tid = octet-at r 1 h.0; tdest = (fields_of transfer_flags s r f.0).head.tdest },
  lanes_fit s.user (lane_types s r) (user_number s r) (data_octets s r) (octets-take s.width (drop head_octets r) (octets-drop head_octets r h.0)),
  records-sound s rs h.1 f.2,
)

pub legal-sound : (s : Shape) (xs : List ℕ) → Legal s xs → Sound s.user (transfers s xs)
legal-sound s xs l =
    records-sound s (records s xs) (pieces-octets (record_count s xs) (size s) xs l.octets) (faultless_of s 0 (records s xs) l.faultless)

pub types_of_length : (w k t : ℕ) → length (types_of w k t) ≡ w
types_of_length zero k t = refl
types_of_length (suc w) k t = ap suc (types_of_length w (k / 2) (t / 2))

lanes_of_length : (m : ℕ) (ts : List LaneType) (u : ℕ) (ds : List ℕ) → length (lanes_of m ts u ds) ≡ length ts
lanes_of_length m [] u ds = refl
lanes_of_length m (t ∷ ts) u [] = ap suc (lanes_of_length m ts (u / 2 ^ m) [])
lanes_of_length m (t ∷ ts) u (d ∷ ds) = ap suc (lanes_of_length m ts (u / 2 ^ m) ds)

records-wide : (s : Shape) (rs : List (List ℕ)) → Wide s.width (map (transfer_of s) rs)
records-wide s [] = tt
records-wide s (r ∷ rs) =
    (lanes_of_length s.user (lane_types s r) (user_number s r) (data_octets s r) ∙ types_of_length s.width (tkeep r) (tstrb r), records-wide s rs)

-- the transfers of a stream have its width
pub wide-transfers : (s : Shape) (xs : List ℕ) → Wide s.width (transfers s xs)
wide-transfers s xs = records-wide s (records s xs)

-- ---- from transfers to a legal stream

mask-octets : (bs : List Bool) → length bs ≤ width_most → Octets (mask_octets bs)
mask-octets bs h =
    let small : mask_of bs < 2 ^ width_most = omega (arith, mask_fits bs, pow_mono h) in
    (omega arith, (omega arith, tt))

pub bit-octet : (b : Bool) → bit_of b < octet_values
bit-octet b = omega (arith, bit-one b)

data-octets : (m : ℕ) (ls : List (Option Kept)) → EachLane PairFits (ByteFits m) ls → Octets (map lane_octet ls)
data-octets m [] h = tt
data-octets m (None ∷ ls) h = (omega arith, data-octets m ls h)
data-octets m (Some (octet d u) ∷ ls) h = (h.0.0, data-octets m ls h.1)
data-octets m (Some (position u) ∷ ls) h = (omega arith, data-octets m ls h.1)

word-octets : (k n : ℕ) → Octets (octets_of_word k n)
word-octets zero n = tt
word-octets (suc k) n = (omega arith, word-octets k (n / 256))

lane-octets : (m : ℕ) (ls : List (Option Kept)) → EachLane PairFits (ByteFits m) ls → Octets (lane_octets m ls)
lane-octets m ls k =
    octets-append (map lane_octet ls) (octets_of_word (user_octets (length ls) m) (users_of m ls)) (data-octets m ls k)
    (word-octets (user_octets (length ls) m) (users_of m ls))

record_octets : (m : ℕ) (t : Transfer Kept) → length t.lanes ≤ width_most → PairFits t.pair → EachLane PairFits (ByteFits m) t.lanes
    → Octets (octets_of m t)
record_octets m t h p k =
    let ls = t.lanes in
    let rest : Octets (mask_octets (map strb_bit ls) ++ lane_octets m ls) =
    octets-append (mask_octets (map strb_bit ls)) (lane_octets m ls) (mask-octets (map strb_bit ls) (rw (length-map ls strb_bit) h)) (lane-octets m ls k) in
    let masks : Octets (mask_octets (map keep_bit ls) ++ (mask_octets (map strb_bit ls) ++ lane_octets m ls)) =
    octets-append (mask_octets (map keep_bit ls)) (mask_octets (map strb_bit ls) ++ lane_octets m ls)
    (mask-octets (map keep_bit ls) (rw (length-map ls keep_bit) h)) rest in
    (bit-octet t.last, (p.tid, (omega (arith, p.tdest), masks)))

transfers-octets : (m w : ℕ) (ts : List (Transfer Kept)) → w ≤ width_most → Wide w ts → Sound m ts → Octets (octets m ts)
transfers-octets m w [] h k l = tt
transfers-octets m w (t ∷ ts) h k l =
    octets-append (octets_of m t) (octets m ts) (record_octets m t (rw k.0 h) l.0 l.1) (transfers-octets m w ts h k.1 l.2)

-- the two bits of a lane are never those of a reserved one
lane_unreserved : (l : Option Kept) → is_reserved (lane_type (keep_bit l) (strb_bit l)) ≡ false
lane_unreserved None = refl
lane_unreserved (Some (octet d u)) = refl
lane_unreserved (Some (position u)) = refl

lanes_unreserved : (ls : List (Option Kept)) → any_reserved (types_of (length ls) (mask_of (map keep_bit ls)) (mask_of (map strb_bit ls))) ≡ false
lanes_unreserved [] = refl
lanes_unreserved (l ∷ ls) =
    rw (odd_mask (keep_bit l) (mask_of (map keep_bit ls)), odd_mask (strb_bit l) (mask_of (map strb_bit ls)))
    (rw (half_mask (keep_bit l) (mask_of (map keep_bit ls)), half_mask (strb_bit l) (mask_of (map strb_bit ls)))
    (rw (lane_unreserved l, lanes_unreserved ls) refl))

record_unreserved : (s : Shape) (t : Transfer Kept) → length t.lanes ≡ s.width → reserved_fault s (octets_of s.user t) ≡ false
record_unreserved s t h =
    rw (two-octets (mask_of (map keep_bit t.lanes)), two-octets (mask_of (map strb_bit t.lanes)), ← h) (lanes_unreserved t.lanes)

pub bit-low : (b : Bool) → bit_of b < 2 ^ transfer_flags
bit-low b = omega (arith, bit-one b)

-- what fits as a byte has bits that fit
bytes-tagged : (m : ℕ) (ls : List (Option Kept)) → EachLane PairFits (ByteFits m) ls → LanesTagged m ls
bytes-tagged m [] h = tt
bytes-tagged m (None ∷ ls) h = bytes-tagged m ls h
bytes-tagged m (Some (octet d u) ∷ ls) h = (h.0.1, bytes-tagged m ls h.1)
bytes-tagged m (Some (position u) ∷ ls) h = (h.0, bytes-tagged m ls h.1)

-- so the padding is zero
pub record_user : (s : Shape) (t : Transfer Kept) → length t.lanes ≡ s.width → LanesTagged s.user t.lanes
    → user_number s (octets_of s.user t) < 2 ^ (s.width * s.user)
record_user s t h k = rw (users_back s t h k, ← h) (users_fit s.user t.lanes k)

record_fields : (s : Shape) (t : Transfer Kept) → length t.lanes ≡ s.width → PairFits t.pair → LanesTagged s.user t.lanes
    → field_fault transfer_flags s (octets_of s.user t) ≡ false
record_fields s t h p k =
    of_fields transfer_flags s (octets_of s.user t)
    (record {
      head =
          rw (two-octets (mask_of (map keep_bit t.lanes)), two-octets (mask_of (map strb_bit t.lanes)), ← h)
          (record {
            flags = bit-low t.last;
            tdest = p.tdest;
            keep = rw length-map at (mask_fits (map keep_bit t.lanes));
            strb = rw length-map at (mask_fits (map strb_bit t.lanes));
          });
      user = record_user s t h k;
    })

transfers-faultless : (s : Shape) (ts : List (Transfer Kept)) → Wide s.width ts → Sound s.user ts → Faultless s (map (octets_of s.user) ts)
transfers-faultless s [] h k = tt
transfers-faultless s (t ∷ ts) h k = (
  record_fields s t h.0 k.0 (bytes-tagged s.user t.lanes k.1),
  record_unreserved s t h.0,
  transfers-faultless s ts h.1 k.2,
)

-- transfers of one width from 1 to 16 and of one m, with pairs and bytes that fit, make a legal stream
pub transfers-legal : (s : Shape) (ts : List (Transfer Kept)) → ShapeFits s → Wide s.width ts → Sound s.user ts
    → Legal s (octets s.user ts)
transfers-legal s ts f h k =
    record {
      width_low = f.low;
      width_high = f.high;
      user_high = f.user;
      octets = transfers-octets s.user s.width ts f.high h k;
      whole = rw (length-octets s ts h) (mul-mod_left (length ts) (size s));
      faultless =
          rw (records-joined s (map (octets_of s.user) ts) (octets_sized s ts h))
          (of_faultless s 0 (map (octets_of s.user) ts) (transfers-faultless s ts h k));
    }

-- ---- the packed form and the slices of a legal stream are legal

pub packed-legal : (s : Shape) (v : ℕ) (xs : List ℕ) → 1 ≤ v → v ≤ width_most → Legal s xs → Legal (at_width s v) (packed s v xs)
packed-legal s v xs low high l =
    transfers-legal (at_width s v) (packed_transfers s v xs) (record { low = low; high = high; user = l.user_high })
    (wide-pack v (stream_items s xs))
    (each-pack PairFits (ByteFits s.user) v (stream_items s xs)
    (each-items PairFits (ByteFits s.user) (transfers s xs) (legal-sound s xs l)))

pub sliced-legal : (s : Shape) (v : ℕ) (xs : List ℕ) → 1 ≤ v → v ≤ width_most → Legal s xs → Legal (at_width s v) (sliced s v xs)
sliced-legal s v xs low high l =
    transfers-legal (at_width s v) (sliced_transfers s v xs) (record { low = low; high = high; user = l.user_high })
    (wide-slices s.width v (transfers s xs))
    (each-slices PairFits (ByteFits s.user) s.width v (transfers s xs) (legal-sound s xs l))
