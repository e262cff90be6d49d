-- One record's octets: what the items' codes say of its lanes and masks. Assumes nothing.
use Rattle.std.specs.Prelude.{Some}
use mathlib.Core.Path.{◌≡◌, refl, sym, ap, ◌∙◌}
use mir.Val.{bool_byte}
use mathlib.Core.Bool.{Bool, true, false}
use mathlib.Core.List.{List, [], ◌∷◌, ◌++◌, map}
use Prim.Native.Nat.{ℕ, zero, suc, ◌+◌, ◌-◌, ◌*◌, ◌/◌, ◌%◌, ◌^◌, ◌≤◌, ◌<◌}
use native.Mathlib.Nat.{pow-suc, mul-one}
use native.Mathlib.Omega.{arith}
use lib.Pow.{pow_pos, pow_mono}
use lib.ListN.{length, get_or, take, drop, replicate, length-map}
use lib.Seq.{slice, slice-cons, length-slice}
use Rattle.stream_spec.specs.Packed.{fitted}
use Rattle.stream_spec.specs.Layout.{bit_of, mask_of, keep_bit, strb_bit, lane_octet}
use Rattle.stream_spec.proofs.Bits.{mask_fits}
use Rattle.words.specs.Words.{padded}
use Rattle.repack_scratch.specs.Codes.{data_code, held_code, held_codes, kept_of}
use Rattle.repack_scratch.proofs.Held.{length-held}
use Rattle.repack_scratch.proofs.Fitted.{octet-is, strobe-is, fitted-octets, fitted-strb, fitted-keep}
use Rattle.repack_plain.specs.Write.{item_octet, item_strobe}

-- ---- the lanes of a record: its items, then nulls

items-long : (xs : List ℕ) → length (map Some (map kept_of xs)) ≡ length xs
items-long xs = length-map (map kept_of xs) Some ∙ length-map xs kept_of

items-octets : (xs : List ℕ) → map lane_octet (map Some (map kept_of xs)) ≡ map item_octet xs
items-octets [] = refl
items-octets (x ∷ xs) = ap {B = List ℕ} (λ l. item_octet x ∷ l) (items-octets xs)

items-strobes : (xs : List ℕ) → map strb_bit (map Some (map kept_of xs)) ≡ map item_strobe xs
items-strobes [] = refl
items-strobes (x ∷ xs) = ap {B = List Bool} (λ l. item_strobe x ∷ l) (items-strobes xs)

pub lanes-octets : (v : ℕ) (xs : List ℕ) → length xs ≤ v
    → map lane_octet (fitted v (map Some (map kept_of xs))) ≡ map item_octet xs ++ replicate {A = ℕ} (v - length xs) 0
lanes-octets v xs h = fitted-octets v (map Some (map kept_of xs)) (omega (arith, items-long xs)) ∙ rw (items-octets xs, items-long xs) refl

pub lanes-strb : (v : ℕ) (xs : List ℕ) → length xs ≤ v
    → mask_of (map strb_bit (fitted v (map Some (map kept_of xs)))) ≡ mask_of (map item_strobe xs)
lanes-strb v xs h = fitted-strb v (map Some (map kept_of xs)) (omega (arith, items-long xs)) ∙ ap mask_of (items-strobes xs)

pub lanes_keep : (v : ℕ) (xs : List ℕ) → length xs ≤ v
    → mask_of (map keep_bit (fitted v (map Some (map kept_of xs)))) ≡ 2 ^ length xs - 1
lanes_keep v xs h =
    fitted-keep v (map kept_of xs) (omega (arith, length-map xs kept_of)) ∙ ap (λ (n : ℕ). 2 ^ n - 1) (length-map xs kept_of)

-- TSTRB has a bit for each item
pub strb-fits : (xs : List ℕ) → mask_of (map item_strobe xs) < 2 ^ length xs
strb-fits xs = rw (length-map xs item_strobe) at (mask_fits (map item_strobe xs))

-- ---- item by item, from the last one down

-- an item of two arrays: its code's parts
pub held_at : (i : ℕ) (ds ms : List ℕ) → i < length ds → length ds ≡ length ms → get_or (held_codes ds ms) i 0 ≡ held_code (get_or ds i 0) (get_or ms i 0)
held_at i [] ms h e = absurd (omega arith)
held_at i (d ∷ ds) [] h e = absurd (omega arith)
held_at zero (d ∷ ds) (m ∷ ms) h e = refl
held_at (suc i) (d ∷ ds) (m ∷ ms) h e = held_at i ds ms (omega arith) (omega arith)

held-strobe : (d m : ℕ) → d < 256 → held_code d m / 256 % 2 ≡ 1 - m
held-strobe d m h = omega arith

held-octet : (d m : ℕ) → d < 256 → held_code d m % 256 ≡ d
held-octet d m h = omega arith

module _ (ds ms : List ℕ) (j i n : ℕ) (e : i + 1 ≡ j) (h : j ≤ n) (l : n ≤ length ds) (same : length ds ≡ length ms) (small : get_or ds i 0 < 256)
    (strobe : ℕ) (se : strobe ≡ 1 - get_or ms i 0) where
  slice_down : slice i n (held_codes ds ms) ≡ held_code (get_or ds i 0) (get_or ms i 0) ∷ slice j n (held_codes ds ms)
  slice_down =
      let next : suc i ≡ j = omega arith in
      slice-cons i n (held_codes ds ms) 0 (omega arith) (omega (arith, length-held ds ms same))
      ∙ rw (next, held_at i ds ms (omega arith) same) refl

  pub octets_down : get_or ds i 0 * strobe ∷ map item_octet (slice j n (held_codes ds ms)) ≡ map item_octet (slice i n (held_codes ds ms))
  octets_down =
      rw (slice_down, ← octet-is (held_code (get_or ds i 0) (get_or ms i 0)))
      (rw (held-octet (get_or ds i 0) (get_or ms i 0) small, held-strobe (get_or ds i 0) (get_or ms i 0) small, ← se) refl)

  pub strb_down : (strb : ℕ) → strb ≡ mask_of (map item_strobe (slice j n (held_codes ds ms)))
      → 2 * strb + strobe ≡ mask_of (map item_strobe (slice i n (held_codes ds ms)))
  strb_down strb f =
      rw slice_down
      (omega (arith, f, se, strobe-is (held_code (get_or ds i 0) (get_or ms i 0)), held-strobe (get_or ds i 0) (get_or ms i 0) small))

pub slice_small : (items : List ℕ) (j n : ℕ) → n ≤ length items → n ≤ 16 → mask_of (map item_strobe (slice j n items)) < 0x10000
slice_small items j n h k =
    let few : length (slice j n items) ≤ 16 = rw (length-slice j n items h) (omega arith) in
    omega (arith, strb-fits (slice j n items), pow_mono few)

-- ---- a bit as a number

pub bool-bit : (b : Bool) → bool_byte b ≡ bit_of b
bool-bit true = refl
bool-bit false = refl

pub bit-small : (b : Bool) → bit_of b ≤ 1
bit-small true = omega arith
bit-small false = omega arith

-- ---- items that are all data

pub data_octet : (d : ℕ) → d < 256 → item_octet (data_code d) ≡ d
data_octet d h =
    let low : (d + 256) % 256 ≡ d = omega arith in
    let high : (d + 256) / 256 ≡ 1 = omega arith in
    sym (octet-is (d + 256)) ∙ rw (low, high) (mul-one d)

pub data_strobe : (d : ℕ) → d < 256 → bit_of (item_strobe (data_code d)) ≡ 1
data_strobe d h = let high : (d + 256) / 256 ≡ 1 = omega arith in sym (strobe-is (d + 256)) ∙ rw high refl

no-octets : (k : ℕ) (xs : List ℕ) → padded k zero xs ≡ replicate {A = ℕ} k 0
no-octets zero xs = refl
no-octets (suc k) xs = ap {B = List ℕ} (λ l. 0 ∷ l) (no-octets k (drop 1 xs))

pub data-octets : (v n : ℕ) (ds : List ℕ) → ((i : ℕ) → get_or ds i 0 < 256) → n ≤ v → n ≤ length ds
    → padded v n ds ≡ map item_octet (take n (map data_code ds)) ++ replicate {A = ℕ} (v - n) 0
data-octets zero zero ds b h l = refl
data-octets zero (suc n) ds b h l = absurd (omega arith)
data-octets (suc v) zero ds b h l = no-octets (suc v) ds ∙ (let all : suc v - 0 ≡ suc v = omega arith in rw all refl)
data-octets (suc v) (suc n) [] b h l = absurd (omega arith)
data-octets (suc v) (suc n) (d ∷ ds) b h l =
    let one : suc v - suc n ≡ v - n = omega arith in
    rw (one, data_octet d (b 0)) (ap {B = List ℕ} (λ l. d ∷ l) (data-octets v n ds (λ i. b (suc i)) (omega arith) (omega arith)))

pub data_strb : (n : ℕ) (ds : List ℕ) → ((i : ℕ) → get_or ds i 0 < 256) → n ≤ length ds → mask_of (map item_strobe (take n (map data_code ds))) ≡ 2 ^ n - 1
data_strb zero ds b l = refl
data_strb (suc n) [] b l = absurd (omega arith)
data_strb (suc n) (d ∷ ds) b l =
    omega (arith, data_strobe d (b 0), data_strb n ds (λ i. b (suc i)) (omega arith), pow-suc 2 n, pow_pos n)
