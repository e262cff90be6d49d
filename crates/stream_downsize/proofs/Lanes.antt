-- The lanes of one slice: the lowest lanes of a header's masks, what is left above them, and the slice's octets.
-- Assumes nothing.
use Rattle.std.specs.Prelude.{Option}
use mathlib.Core.Path.{◌≡◌, refl, sym, ap, ap₂, ◌∙◌}
use mathlib.Core.Bool.{Bool, true, false, cond}
use mathlib.Core.List.{List, [], ◌∷◌, ◌++◌, map}
use Prim.Native.Nat.{ℕ, zero, suc, ◌+◌, ◌*◌, ◌/◌, ◌%◌, ◌^◌, ◌≤◌, ◌<◌}
use native.Mathlib.Nat.{add-zero, add-suc, zero-mul, suc-mul, one-mul, mul_comm, mul-le-mul, div-one, div-div-eq-div-mul, pow-suc, pow-succ', mod-eq_of_lt}
use native.Mathlib.Omega.{arith}
use lib.Arith.{mod-mul}
use lib.Pow.{pow_pos, pow_mono, shr-shr}
use borrow.Rule.Slice.PartMut.{put_mid}
use lib.ListN.{length, get_or, take, drop, set, length-map, length-drop, length-append, length-set}
use Rattle.std.proofs.lemmas.List.{take_all, take_more, take_more_set}
use lib.Seq.{drop-nil, drop-drop, drop_at, drop-length, length-take-le}
use Rattle.words.specs.Splice.{splice}
use Rattle.words.specs.Words.{octets_of_word}
use Rattle.words.proofs.Splice.{splice-splice}
use Rattle.words.proofs.Words.{length-octets}
use Rattle.stream_spec.specs.declared.Shape.{Shape}
use Rattle.stream_spec.specs.Packed.{fitted}
use Rattle.stream_spec.specs.Layout.{user_octets, size, odd, bit_of, mask_of, LaneType, data_lane, position_lane, null_lane, reserved_lane, lane_type, lane_of, Kept, types_of, is_reserved, any_reserved, lanes_of, keep_bit, strb_bit, lane_octet, lane_user, users_of, octets_of}
use Rattle.stream_spec.proofs.Bools.{neither}
use Rattle.stream_spec.proofs.Bits.{odd_number, number_back}
use Rattle.stream_spec.proofs.Size.{size_is}
use Rattle.stream_spec.proofs.Pack.{length-fitted}
use Rattle.stream_spec.proofs.Users.{lanes-tagged, users_fit}
use Rattle.stream_record.specs.declared.Header.{Header}
use Rattle.stream_write.specs.Write.{header_octets}
use Rattle.stream_downsize.specs.Slices.{lanes_in, data_in, Unreserved, slice_of, above}

-- ---- the lowest lanes, and those above them

pub fitted-lanes : (m v n keep strb u : ℕ) (ds : List ℕ) → v ≤ n → fitted v (lanes_of m (types_of n keep strb) u ds) ≡ lanes_of m (types_of v keep strb) u ds
fitted-lanes m zero n keep strb u ds h = refl
fitted-lanes m (suc v) zero keep strb u ds h = absurd (omega arith)
fitted-lanes m (suc v) (suc n) keep strb u [] h =
    ap (λ (ls : List (Option Kept)). lane_of (lane_type (odd keep) (odd strb)) 0 (u % 2 ^ m) ∷ ls) (fitted-lanes m v n (keep / 2) (strb / 2) (u / 2 ^ m) [] (omega arith))
fitted-lanes m (suc v) (suc n) keep strb u (d ∷ ds) h =
    ap (λ (ls : List (Option Kept)). lane_of (lane_type (odd keep) (odd strb)) d (u % 2 ^ m) ∷ ls) (fitted-lanes m v n (keep / 2) (strb / 2) (u / 2 ^ m) ds (omega arith))

pub lanes-long : (m v keep strb u : ℕ) (ds : List ℕ) → length (lanes_of m (types_of v keep strb) u ds) ≡ v
lanes-long m v keep strb u ds =
    ap length (sym (fitted-lanes m v v keep strb u ds (omega arith))) ∙ length-fitted v (lanes_of m (types_of v keep strb) u ds)

-- no octet behind those of the lanes is looked at
pub lanes_taken : (m n keep strb u : ℕ) (ds : List ℕ) → lanes_of m (types_of n keep strb) u (take n ds) ≡ lanes_of m (types_of n keep strb) u ds
lanes_taken m zero keep strb u ds = refl
lanes_taken m (suc n) keep strb u [] = refl
lanes_taken m (suc n) keep strb u (d ∷ ds) =
    ap (λ (ls : List (Option Kept)). lane_of (lane_type (odd keep) (odd strb)) d (u % 2 ^ m) ∷ ls) (lanes_taken m n (keep / 2) (strb / 2) (u / 2 ^ m) ds)

halved : (x v : ℕ) → x / 2 / 2 ^ v ≡ x / 2 ^ suc v
halved x v = div-div-eq-div-mul x 2 (2 ^ v) ∙ ap (λ (m : ℕ). x / m) (sym (pow-succ' 2 v))

-- the user bits without those of one lane, and of v lanes more
lane_less : (u m v : ℕ) → u / 2 ^ m / 2 ^ (v * m) ≡ u / 2 ^ (suc v * m)
lane_less u m v =
    let all : m + v * m ≡ suc v * m = omega (arith, suc-mul v m) in
    shr-shr u m (v * m) ∙ ap (λ (n : ℕ). u / 2 ^ n) all

no-lane_less : (u m : ℕ) → u ≡ u / 2 ^ (0 * m)
no-lane_less u m = rw (zero-mul m) (sym (div-one u))

drop_types : (v n keep strb : ℕ) → drop v (types_of (n + v) keep strb) ≡ types_of n (keep / 2 ^ v) (strb / 2 ^ v)
drop_types zero n keep strb = rw (add-zero n, div-one keep, div-one strb) refl
drop_types (suc v) n keep strb =
    rw (add-suc n v) (drop_types v n (keep / 2) (strb / 2) ∙ rw (halved keep v, halved strb v) refl)

drop_lanes_of : (m v : ℕ) (ts : List LaneType) (u : ℕ) (ds : List ℕ)
    → drop v (lanes_of m ts u ds) ≡ lanes_of m (drop v ts) (u / 2 ^ (v * m)) (drop v ds)
drop_lanes_of m zero ts u ds = ap (λ (n : ℕ). lanes_of m ts n ds) (no-lane_less u m)
drop_lanes_of m (suc v) [] u ds = refl
drop_lanes_of m (suc v) (t ∷ ts) u [] =
    drop_lanes_of m v ts (u / 2 ^ m) [] ∙ ap₂ (λ (n : ℕ) (l : List ℕ). lanes_of m (drop v ts) n l) (lane_less u m v) (drop-nil v)
drop_lanes_of m (suc v) (t ∷ ts) u (d ∷ ds) =
    drop_lanes_of m v ts (u / 2 ^ m) ds ∙ ap (λ (n : ℕ). lanes_of m (drop v ts) n (drop v ds)) (lane_less u m v)

pub drop-lanes : (m v n : ℕ) (h : Header) (u : ℕ) (ds : List ℕ)
    → drop v (lanes_in m (n + v) h u ds) ≡ lanes_in m n (above v h) (u / 2 ^ (v * m)) (drop v ds)
drop-lanes m v n h u ds =
    drop_lanes_of m v (types_of (n + v) h.keep h.strb) u ds
    ∙ ap (λ (ts : List LaneType). lanes_of m ts (u / 2 ^ (v * m)) (drop v ds)) (drop_types v n h.keep h.strb)

-- ---- no lane is reserved

any_drop : (v : ℕ) (ts : List LaneType) → any_reserved ts ≡ false → any_reserved (drop v ts) ≡ false
any_drop zero ts e = e
any_drop (suc v) [] e = e
any_drop (suc v) (t ∷ ts) e = any_drop v ts (neither (is_reserved t) (any_reserved ts) e).1

pub above_unreserved : (v n : ℕ) (h : Header) → Unreserved (n + v) h → Unreserved n (above v h)
above_unreserved v n h e =
    ap any_reserved (sym (drop_types v n h.keep h.strb)) ∙ any_drop v (types_of (n + v) h.keep h.strb) e

lowest : (v n keep strb : ℕ) → v ≤ n → any_reserved (types_of n keep strb) ≡ false → any_reserved (types_of v keep strb) ≡ false
lowest zero n keep strb h e = refl
lowest (suc v) zero keep strb h e = absurd (omega arith)
lowest (suc v) (suc n) keep strb h e =
    let p = neither (is_reserved (lane_type (odd keep) (odd strb))) (any_reserved (types_of n (keep / 2) (strb / 2))) e in
    rw p.0 (lowest v n (keep / 2) (strb / 2) (omega arith) p.1)

pub lowest_unreserved : (v n : ℕ) (h : Header) → v ≤ n → Unreserved n h → Unreserved v h
lowest_unreserved v n h l e = lowest v n h.keep h.strb l e

-- ---- a lane's bits and octet

keep-bit : (a b : Bool) (d u : ℕ) → keep_bit (lane_of (lane_type a b) d u) ≡ a
keep-bit true true d u = refl
keep-bit true false d u = refl
keep-bit false true d u = refl
keep-bit false false d u = refl

strb-bit : (a b : Bool) (d u : ℕ) → is_reserved (lane_type a b) ≡ false → strb_bit (lane_of (lane_type a b) d u) ≡ b
strb-bit true true d u e = refl
strb-bit true false d u e = refl
strb-bit false true d u e = sym e
strb-bit false false d u e = refl

lane-octet : (a b : Bool) (d u : ℕ) → is_reserved (lane_type a b) ≡ false → lane_octet (lane_of (lane_type a b) d u) ≡ cond b d 0
lane-octet true true d u e = refl
lane-octet true false d u e = refl
lane-octet false true d u e = let z : ◌≡◌ {A = ℕ} 0 1 = cc in absurd (omega arith)
lane-octet false false d u e = refl

lane-user : (a b : Bool) (d u : ℕ) → lane_user (lane_of (lane_type a b) d u) ≡ cond a u 0
lane-user true true d u = refl
lane-user true false d u = refl
lane-user false true d u = refl
lane-user false false d u = refl

low_bits : (x v m : ℕ) → m ≡ x / 2 % 2 ^ v → bit_of (odd x) + 2 * m ≡ x % 2 ^ suc v
low_bits x v m e =
    rw (odd_number x, pow-suc 2 v) (omega (arith, e, mod-mul x {m = 2 ^ v} {c = 2} (pow_pos v) (omega arith)))

-- ---- the masks of the lowest lanes

keep_low : (m v keep strb u : ℕ) (ds : List ℕ) → mask_of (map keep_bit (lanes_of m (types_of v keep strb) u ds)) ≡ keep % 2 ^ v
keep_low m zero keep strb u ds = omega arith
keep_low m (suc v) keep strb u [] =
    rw (keep-bit (odd keep) (odd strb) 0 (u % 2 ^ m))
    (low_bits keep v (mask_of (map keep_bit (lanes_of m (types_of v (keep / 2) (strb / 2)) (u / 2 ^ m) []))) (keep_low m v (keep / 2) (strb / 2) (u / 2 ^ m) []))
keep_low m (suc v) keep strb u (d ∷ ds) =
    rw (keep-bit (odd keep) (odd strb) d (u % 2 ^ m))
    (low_bits keep v (mask_of (map keep_bit (lanes_of m (types_of v (keep / 2) (strb / 2)) (u / 2 ^ m) ds))) (keep_low m v (keep / 2) (strb / 2) (u / 2 ^ m) ds))

strb-low : (m v keep strb u : ℕ) (ds : List ℕ) → any_reserved (types_of v keep strb) ≡ false
    → mask_of (map strb_bit (lanes_of m (types_of v keep strb) u ds)) ≡ strb % 2 ^ v
strb-low m zero keep strb u ds e = omega arith
strb-low m (suc v) keep strb u [] e =
    let p = neither (is_reserved (lane_type (odd keep) (odd strb))) (any_reserved (types_of v (keep / 2) (strb / 2))) e in
    rw (strb-bit (odd keep) (odd strb) 0 (u % 2 ^ m) p.0)
    (low_bits strb v (mask_of (map strb_bit (lanes_of m (types_of v (keep / 2) (strb / 2)) (u / 2 ^ m) []))) (strb-low m v (keep / 2) (strb / 2) (u / 2 ^ m) [] p.1))
strb-low m (suc v) keep strb u (d ∷ ds) e =
    let p = neither (is_reserved (lane_type (odd keep) (odd strb))) (any_reserved (types_of v (keep / 2) (strb / 2))) e in
    rw (strb-bit (odd keep) (odd strb) d (u % 2 ^ m) p.0)
    (low_bits strb v (mask_of (map strb_bit (lanes_of m (types_of v (keep / 2) (strb / 2)) (u / 2 ^ m) ds))) (strb-low m v (keep / 2) (strb / 2) (u / 2 ^ m) ds p.1))

-- ---- the data octets, lane by lane

-- they are the same whatever the user bits are
octet-same : (t : LaneType) (d u w : ℕ) → lane_octet (lane_of t d u) ≡ lane_octet (lane_of t d w)
octet-same data_lane d u w = refl
octet-same position_lane d u w = refl
octet-same null_lane d u w = refl
octet-same reserved_lane d u w = refl

data_same : (m k : ℕ) (ts : List LaneType) (u w : ℕ) (ds : List ℕ) → map lane_octet (lanes_of m ts u ds) ≡ map lane_octet (lanes_of k ts w ds)
data_same m k [] u w ds = refl
data_same m k (t ∷ ts) u w [] = ap₂ {C = List ℕ} (λ x xs. x ∷ xs) (octet-same t 0 (u % 2 ^ m) (w % 2 ^ k)) (data_same m k ts (u / 2 ^ m) (w / 2 ^ k) [])
data_same m k (t ∷ ts) u w (d ∷ ds) = ap₂ {C = List ℕ} (λ x xs. x ∷ xs) (octet-same t d (u % 2 ^ m) (w % 2 ^ k)) (data_same m k ts (u / 2 ^ m) (w / 2 ^ k) ds)

lane-at : (m v j keep strb u : ℕ) (ds : List ℕ) → j < v → any_reserved (types_of v keep strb) ≡ false
    → get_or (map lane_octet (lanes_of m (types_of v keep strb) u ds)) j 0 ≡ cond (odd (strb / 2 ^ j)) (get_or ds j 0) 0
lane-at m zero j keep strb u ds h e = absurd (omega arith)
lane-at m (suc v) zero keep strb u [] h e =
    rw (div-one strb) (lane-octet (odd keep) (odd strb) 0 (u % 2 ^ m) (neither (is_reserved (lane_type (odd keep) (odd strb))) (any_reserved (types_of v (keep / 2) (strb / 2))) e).0)
lane-at m (suc v) zero keep strb u (d ∷ ds) h e =
    rw (div-one strb) (lane-octet (odd keep) (odd strb) d (u % 2 ^ m) (neither (is_reserved (lane_type (odd keep) (odd strb))) (any_reserved (types_of v (keep / 2) (strb / 2))) e).0)
lane-at m (suc v) (suc j) keep strb u [] h e =
    lane-at m v j (keep / 2) (strb / 2) (u / 2 ^ m) [] (omega arith) (neither (is_reserved (lane_type (odd keep) (odd strb))) (any_reserved (types_of v (keep / 2) (strb / 2))) e).1
    ∙ rw (halved strb j) refl
lane-at m (suc v) (suc j) keep strb u (d ∷ ds) h e =
    lane-at m v j (keep / 2) (strb / 2) (u / 2 ^ m) ds (omega arith) (neither (is_reserved (lane_type (odd keep) (odd strb))) (any_reserved (types_of v (keep / 2) (strb / 2))) e).1
    ∙ rw (halved strb j) refl

module _ (v : ℕ) (h : Header) (ds : List ℕ) where
  pub data_long : length (data_in v h ds) ≡ v
  data_long = length-map (lanes_in 0 v h 0 ds) lane_octet ∙ lanes-long 0 v h.keep h.strb 0 ds

  -- of v octets behind a header those of the first j lanes are written
  pub record Filling (octets : List ℕ) (j : ℕ) : Type 0 where
    pub long : length octets ≡ v
    pub same : take j octets ≡ take j (data_in v h ds)

  module _ (octets : List ℕ) where
    pub filling_starts : length octets ≡ v → Filling octets 0
    filling_starts e = record { long = e; same = refl }

    module _ (j : ℕ) (f : Filling octets j) where
      pub filling_lane : (y : ℕ) → j < v → Unreserved v h → y ≡ cond (odd (h.strb / 2 ^ j)) (get_or ds j 0) 0 → Filling (set octets j y) (j + 1)
      filling_lane y l u e =
          record {
            long = length-set octets j y ∙ f.long;
            same =
                take_more_set octets j y (omega (arith, f.long))
                ∙ rw (f.same, e, ← lane-at 0 v j h.keep h.strb 0 ds l u) (sym (take_more (data_in v h ds) j 0 (rw data_long l)));
          }

      -- all are written: they stand behind the header
      pub filling_done : (out : List ℕ) (n : ℕ) → n ≡ v → v ≤ j → put_mid 7 n out octets ≡ take 7 out ++ (data_in v h ds ++ drop (7 + v) out)
      filling_done out n e l =
          let all : octets ≡ data_in v h ds = sym (take_all j octets (omega (arith, f.long))) ∙ f.same ∙ take_all j (data_in v h ds) (rw data_long l) in
          rw (all, e, drop-drop v 7 out) refl

-- ---- the user bits, lane by lane

users_at : (m v i keep strb u : ℕ) (ds : List ℕ) → i < v
    → users_of m (drop i (lanes_of m (types_of v keep strb) u ds))
    ≡ cond (odd (keep / 2 ^ i)) (u / 2 ^ (i * m) % 2 ^ m) 0 + 2 ^ m * users_of m (drop (suc i) (lanes_of m (types_of v keep strb) u ds))
users_at m zero i keep strb u ds h = absurd (omega arith)
users_at m (suc v) zero keep strb u [] h = rw (← no-lane_less u m, div-one keep, lane-user (odd keep) (odd strb) 0 (u % 2 ^ m)) refl
users_at m (suc v) zero keep strb u (d ∷ ds) h = rw (← no-lane_less u m, div-one keep, lane-user (odd keep) (odd strb) d (u % 2 ^ m)) refl
users_at m (suc v) (suc i) keep strb u [] h =
    users_at m v i (keep / 2) (strb / 2) (u / 2 ^ m) [] (omega arith) ∙ rw (lane_less u m i, halved keep i) refl
users_at m (suc v) (suc i) keep strb u (d ∷ ds) h =
    users_at m v i (keep / 2) (strb / 2) (u / 2 ^ m) ds (omega arith) ∙ rw (lane_less u m i, halved keep i) refl

-- a one shifted by the user bits of a lane, in 64 bits
pub shifted_lane : (m : ℕ) → m ≤ 4 → 1 * 2 ^ m % 0x10000000000000000 ≡ 2 ^ m
shifted_lane m h = rw (one-mul (2 ^ m)) (mod-eq_of_lt (omega (arith, pow_mono h)))

-- those of the lanes from lane j on are a number, whatever TSTRB and the data are
pub record Tagging (m v keep user bits j : ℕ) : Type 0 where
  pub low : j ≤ v
  pub is : (strb : ℕ) (ds : List ℕ) → bits ≡ users_of m (drop j (lanes_of m (types_of v keep strb) user ds))

module _ (m v keep user : ℕ) where
  pub tagging_starts : Tagging m v keep user 0 v
  tagging_starts =
      record {
        low = omega arith;
        is =
            λ strb ds.
            ap (users_of m)
            (sym
            (ap (λ (n : ℕ). drop n (lanes_of m (types_of v keep strb) user ds)) (sym (lanes-long m v keep strb user ds))
            ∙ drop-length (lanes_of m (types_of v keep strb) user ds)));
      }

  module _ (bits j i y : ℕ) (g : Tagging m v keep user bits j) (next : i + 1 ≡ j) (e : y ≡ cond (odd (keep / 2 ^ i)) (user / 2 ^ (i * m) % 2 ^ m) 0) where
    down : (strb : ℕ) (ds : List ℕ) → bits * 2 ^ m + y ≡ users_of m (drop i (lanes_of m (types_of v keep strb) user ds))
    down strb ds =
        let past : suc i ≡ j = omega arith in
        rw (users_at m v i keep strb user ds (omega (arith, g.low)), past, ← g.is strb ds, ← e) (omega (arith, mul_comm bits (2 ^ m)))

    -- the bits of at most sixteen lanes fit
    pub tagging_fits : v ≤ 16 → m ≤ 4 → bits * 2 ^ m + y < 0x10000000000000000
    tagging_fits narrow few =
        let ts = types_of v keep 0 in
        let these = drop_lanes_of m i ts user [] in
        let ls = lanes_of m (drop i ts) (user / 2 ^ (i * m)) (drop i []) in
        let long : length ls ≤ 16 = omega (arith, ap length these, length-drop i (lanes_of m ts user []), lanes-long m v keep 0 user []) in
        let most : length ls * m ≤ 16 * 4 = mul-le-mul long few in
        omega (arith, down 0 [], ap (users_of m) these, users_fit m ls (lanes-tagged m (drop i ts) (user / 2 ^ (i * m)) (drop i [])), pow_mono most)

    pub tagging_lane : v ≤ 16 → m ≤ 4 → Tagging m v keep user (bits * 2 ^ m % 0x10000000000000000 + y) i
    tagging_lane narrow few =
        let fits : bits * 2 ^ m < 0x10000000000000000 = omega (arith, tagging_fits narrow few) in
        record { low = omega (arith, g.low); is = λ strb ds. rw (mod-eq_of_lt fits) (down strb ds) }

-- all lanes are done
pub tagging_done : (m v keep user bits j : ℕ) → Tagging m v keep user bits j → j ≤ 0
    → (strb : ℕ) (ds : List ℕ) → bits ≡ users_of m (lanes_of m (types_of v keep strb) user ds)
tagging_done m v keep user bits j g h strb ds =
    let all : j ≡ 0 = omega arith in
    g.is strb ds ∙ rw all refl

-- ---- the slice

-- data octets, user bits, then the header
pub slice_written : (t : Shape) (h : Header) (user : ℕ) (ds out out1 out2 out3 : List ℕ) (last keep strb bits k : ℕ)
    → size t ≤ length out → Unreserved t.width h → last ≤ 1
    → keep ≡ h.keep % 2 ^ t.width → strb ≡ h.strb % 2 ^ t.width
    → bits ≡ users_of t.user (lanes_in t.user t.width h user ds) → k ≡ user_octets t.width t.user
    → out1 ≡ take 7 out ++ (data_in t.width h ds ++ drop (7 + t.width) out)
    → out2 ≡ splice (7 + t.width) (octets_of_word k bits) out1
    → out3 ≡ header_octets last h.tid h.tdest keep strb ++ drop 7 out2
    → out3 ≡ octets_of t.user (slice_of t h user ds (odd last)) ++ drop (size t) out
slice_written t h user ds out out1 out2 out3 last keep strb bits k l un b ke se be k-is e f g =
    let m = t.user in
    let v = t.width in
    let xs = data_in v h ds in
    let us = octets_of_word k bits in
    let long : length xs ≡ v = data_long v h ds in
    let all : 7 + length (xs ++ us) ≡ size t = omega (arith, length-append xs us, long, length-octets k bits, k-is, size_is t) in
    let first : out1 ≡ splice 7 xs out = e ∙ ap (λ (n : ℕ). take 7 out ++ (xs ++ drop (7 + n) out)) (sym long) in
    let both : out2 ≡ splice 7 (xs ++ us) out =
    f ∙ ap₂ (λ (n : ℕ) (o : List ℕ). splice (7 + n) us o) (sym long) first ∙ splice-splice 7 xs us out (omega (arith, all, length-append xs us)) in
    let rest : drop 7 out2 ≡ (xs ++ us) ++ drop (size t) out =
    ap (drop 7) both
    ∙ drop_at (take 7 out) ((xs ++ us) ++ drop (7 + length (xs ++ us)) out) 7 (length-take-le 7 out (omega (arith, size_is t)))
    ∙ ap (λ (n : ℕ). (xs ++ us) ++ drop n out) all in
    g
    ∙ ap (λ (o : List ℕ). header_octets last h.tid h.tdest keep strb ++ o) rest
    ∙ rw (
      ke,
      se,
      be,
      k-is,
      number_back last b,
      keep_low m v h.keep h.strb user ds,
      strb-low m v h.keep h.strb user ds un,
      lanes-long m v h.keep h.strb user ds,
      data_same m 0 (types_of v h.keep h.strb) user 0 ds,
    ) refl
