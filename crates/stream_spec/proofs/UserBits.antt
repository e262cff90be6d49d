-- User bits, bit by bit: which bit of which octet is which bit of a lane, the padding, and the zero bits of null lanes in what is
-- written. Assumes nothing.
use Rattle.std.specs.Prelude.{Option, None, Some}
use mathlib.Core.Path.{◌≡◌, refl, sym, ap, ◌∙◌}
use mathlib.Core.Bool.{true, false}
use mathlib.Core.List.{List, [], ◌∷◌, map}
use Prim.Native.Nat.{ℕ, zero, suc, ◌+◌, ◌-◌, ◌*◌, ◌/◌, ◌%◌, ◌^◌, ◌≤◌, ◌<◌}
use native.Mathlib.Decide.{dec_lt}
use native.Mathlib.Nat.{div-one, div-add-mod, suc-mul, zero-mul, mul-le-mul_right, mod-lt, div-eq_of_lt, add_comm}
use native.Mathlib.Omega.{arith}
use lib.Dec.{eqb}
use lib.ListN.{length, get_or}
use lib.Pow.{pow_pos, pow_mono, shr-shr}
use Rattle.words.specs.Words.{word_at}
use Rattle.words.proofs.Words.{word_fits}
use Rattle.stream_spec.specs.declared.Shape.{Shape}
use Rattle.stream_spec.specs.Items.{Transfer}
use Rattle.stream_spec.specs.Layout.{bit, head_octets, user_octets, user_number, tkeep, tstrb, data_octets, LaneType, data_lane, null_lane, lane_type, types_of, lane_types, lane_of, lanes_of, Kept, octet, position, keep_bit, strb_bit, lane_user, users_of, mask_of, octets_of}
use Rattle.stream_spec.specs.Legal.{Octets}
use Rattle.stream_spec.specs.Promises.{SetAbove, lane_bits, LaneUserBits, PaddingSet, NullsZero}
use Rattle.stream_spec.proofs.Bools.{no_such}
use Rattle.stream_spec.proofs.Pack.{Wide}
use Rattle.stream_spec.proofs.Bits.{bit_below, bit-above, odd_mask, half_mask, two-octets}
use Rattle.stream_spec.proofs.Users.{LanesTagged, Tagged, lane_first, users_low, users_high, users_back}
use Rattle.stream_spec.proofs.Legal.{octet-at, types_of_length}

-- ---- bits of a number that octets hold

pub word-bits : (k : ℕ) (r : List ℕ) (a i : ℕ) → ((j : ℕ) → get_or r j 0 < 256) → i < 8 * k → bit i (word_at k r a) ≡ bit (i % 8) (get_or r (a + i / 8) 0)
word-bits zero r a i o h = absurd (omega arith)
word-bits (suc k) r a i o h = go (word-bits k r (a + 1) (i - 8) o) (dec_lt i 8)
  where
    go : (i - 8 < 8 * k → bit (i - 8) (word_at k r (a + 1)) ≡ bit ((i - 8) % 8) (get_or r (a + 1 + (i - 8) / 8) 0)) → Dec (i < 8)
        → bit i (word_at (suc k) r a) ≡ bit (i % 8) (get_or r (a + i / 8) 0)
    go ih (yes l) =
        let low : i % 8 ≡ i = omega arith in
        let here : a + i / 8 ≡ a = omega arith in
        bit_below 8 (get_or r a 0) (word_at k r (a + 1)) i l ∙ rw (low, here) refl
    go ih (no l) =
        let up : 8 + (i - 8) ≡ i = omega arith in
        let low : (i - 8) % 8 ≡ i % 8 = omega arith in
        let next : a + 1 + (i - 8) / 8 ≡ a + i / 8 = omega arith in
        ap (λ (x : ℕ). bit x (word_at (suc k) r a)) (sym up)
        ∙ bit-above (get_or r a 0) (word_at k r (a + 1)) (i - 8) (o a)
        ∙ ih (omega arith)
        ∙ rw (low, next) refl

-- the bits of a part of a number
part-bits : (n a m j : ℕ) → j < m → bit j (n / 2 ^ a % 2 ^ m) ≡ bit (a + j) n
part-bits n a m j h =
    let whole : n / 2 ^ a % 2 ^ m + 2 ^ m * (n / 2 ^ a / 2 ^ m) ≡ n / 2 ^ a = omega (arith, div-add-mod (n / 2 ^ a) (2 ^ m)) in
    sym (bit_below m (n / 2 ^ a % 2 ^ m) (n / 2 ^ a / 2 ^ m) j h)
    ∙ ap (bit j) whole
    ∙ ap (λ (x : ℕ). eqb (x % 2) 1) (shr-shr n a j)

-- ---- what a lane carries

lanes_at : (m : ℕ) (ts : List LaneType) (u : ℕ) (ds : List ℕ) (x : ℕ) → x < length ts
    → get_or (lanes_of m ts u ds) x None ≡ lane_of (get_or ts x null_lane) (get_or ds x 0) (u / 2 ^ (x * m) % 2 ^ m)
lanes_at m [] u ds x h = absurd (omega arith)
lanes_at m (t ∷ ts) u [] zero h = rw (zero-mul m, div-one u) refl
lanes_at m (t ∷ ts) u (d ∷ ds) zero h = rw (zero-mul m, div-one u) refl
lanes_at m (t ∷ ts) u [] (suc x) h =
    lanes_at m ts (u / 2 ^ m) [] x (omega arith) ∙ rw (shr-shr u m (x * m), suc-mul x m, add_comm m (x * m)) refl
lanes_at m (t ∷ ts) u (d ∷ ds) (suc x) h =
    lanes_at m ts (u / 2 ^ m) ds x (omega arith) ∙ rw (shr-shr u m (x * m), suc-mul x m, add_comm m (x * m)) refl

-- the bits of the lanes below w end before w*m
below_all : (w m x j : ℕ) → x < w → j < m → x * m + j < w * m
below_all w m x j h l = omega (arith, mul-le-mul_right m h, suc-mul x m)

pub lane-reads : LaneUserBits
lane-reads s r x o h =
    let m = s.user in
    record {
      few = mod-lt (user_number s r / 2 ^ (x * m)) (pow_pos m);
      bits =
          λ j l.
          part-bits (user_number s r) (x * m) m j l
          ∙ word-bits (user_octets s.width m) r (head_octets + s.width) (x * m + j) (λ i. octet-at r i o)
          (omega (arith, below_all s.width m x j h l));
      carries = lanes_at m (lane_types s r) (user_number s r) (data_octets s r) x (rw (types_of_length s.width (tkeep r) (tstrb r)) h);
    }

-- ---- padding

module _ (s : Shape) (r : List ℕ) (o : Octets r) where
  abbrev octets : ℕ
  octets = user_octets s.width s.user

  -- a bit that is set stands in the octets
  high-within : (p : ℕ) → bit p (user_number s r) ≡ true → p < 8 * octets
  high-within p e = go (dec_lt p (8 * octets))
    where
      go : Dec (p < 8 * octets) → p < 8 * octets
      go (yes l) = l
      go (no l) =
          let up : 8 * octets ≤ p = omega arith in
          let small : user_number s r < 2 ^ p =
          omega (arith, word_fits octets r (head_octets + s.width) (λ i. octet-at r i o), pow_mono up) in
          let none' : false ≡ true = sym (ap (λ (x : ℕ). eqb (x % 2) 1) (div-eq_of_lt small)) ∙ e in
          no_such refl none'

  pub padding_set : SetAbove (s.width * s.user) (user_number s r) → PaddingSet s r
  padding_set a =
      let within = high-within a.place a.high in
      record {
        place = a.place;
        above = a.above;
        within = within;
        high = sym (word-bits octets r (head_octets + s.width) a.place (λ i. octet-at r i o) within) ∙ a.high;
      }

  pub set_padding : PaddingSet s r → SetAbove (s.width * s.user) (user_number s r)
  set_padding p =
      record {
        place = p.place;
        above = p.above;
        high = word-bits octets r (head_octets + s.width) p.place (λ i. octet-at r i o) p.within ∙ p.high;
      }

-- ---- null lanes in what is written

users_at : (m : ℕ) (ls : List (Option Kept)) (x : ℕ) → LanesTagged m ls → x < length ls
    → users_of m ls / 2 ^ (x * m) % 2 ^ m ≡ lane_user (get_or ls x None)
users_at m [] x k h = absurd (omega arith)
users_at m (l ∷ ls) zero k h = rw (zero-mul m, div-one (users_of m (l ∷ ls))) (users_low m (lane_user l) (users_of m ls) (lane_first m l ls k).0)
users_at m (l ∷ ls) (suc x) k h =
    let f = lane_first m l ls k in
    rw (suc-mul x m, add_comm (x * m) m, ← shr-shr (users_of m (l ∷ ls)) m (x * m), users_high m (lane_user l) (users_of m ls) f.0)
    (users_at m ls x f.1 (omega arith))

types_back : (ls : List (Option Kept)) (x : ℕ) → x < length ls
    → get_or (types_of (length ls) (mask_of (map keep_bit ls)) (mask_of (map strb_bit ls))) x data_lane
    ≡ lane_type (keep_bit (get_or ls x None)) (strb_bit (get_or ls x None))
types_back [] x h = absurd (omega arith)
types_back (l ∷ ls) zero h = rw (odd_mask (keep_bit l) (mask_of (map keep_bit ls)), odd_mask (strb_bit l) (mask_of (map strb_bit ls))) refl
types_back (l ∷ ls) (suc x) h =
    rw (half_mask (keep_bit l) (mask_of (map keep_bit ls)), half_mask (strb_bit l) (mask_of (map strb_bit ls))) (types_back ls x (omega arith))

-- a lane of null type is none, and so has no bits
null_none : (l : Option Kept) → lane_type (keep_bit l) (strb_bit l) ≡ null_lane → lane_user l ≡ 0
null_none None e = refl
null_none (Some (octet d u)) e = let z : ◌≡◌ {A = ℕ} 0 1 = cc in absurd (omega arith)
null_none (Some (position u)) e = let z : ◌≡◌ {A = ℕ} 0 1 = cc in absurd (omega arith)

record_nulls : (s : Shape) (t : Transfer Kept) (x : ℕ) → length t.lanes ≡ s.width → LanesTagged s.user t.lanes → x < s.width
    → get_or (lane_types s (octets_of s.user t)) x data_lane ≡ null_lane → lane_bits s (octets_of s.user t) x ≡ 0
record_nulls s t x h k l e =
    let there : x < length t.lanes = rw h l in
    let type : lane_type (keep_bit (get_or t.lanes x None)) (strb_bit (get_or t.lanes x None)) ≡ null_lane =
    sym (types_back t.lanes x there)
    ∙ (rw (two-octets (mask_of (map keep_bit t.lanes)), two-octets (mask_of (map strb_bit t.lanes)), ← h) at e) in
    rw (users_back s t h k) (users_at s.user t.lanes x k there ∙ null_none (get_or t.lanes x None) type)

pub transfers-nulls : (s : Shape) (ts : List (Transfer Kept)) → Wide s.width ts → Tagged s.user ts → NullsZero s (map (octets_of s.user) ts)
transfers-nulls s [] h k i x l b e = absurd (omega arith)
transfers-nulls s (t ∷ ts) h k zero x l b e = record_nulls s t x h.0 k.1 b e
transfers-nulls s (t ∷ ts) h k (suc i) x l b e = transfers-nulls s ts h.1 k.2 i x (omega arith) b e
