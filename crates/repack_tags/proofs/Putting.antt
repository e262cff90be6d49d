-- A record's octets as its parts are written: the items from the last one down, and all parts one after the other. Assumes nothing.
use Rattle.std.specs.Prelude.{Option, Some}
use mathlib.Core.Path.{◌≡◌, refl, sym, ap, ◌∙◌}
use mathlib.Core.List.{List, ◌∷◌, ◌++◌, map}
use Prim.Native.Nat.{ℕ, suc, ◌+◌, ◌-◌, ◌*◌, ◌/◌, ◌%◌, ◌^◌, ◌≤◌, ◌<◌}
use native.Mathlib.Nat.{mul_comm, mul-le-mul, mod-eq_of_lt}
use native.Mathlib.Omega.{arith}
use lib.Pow.{pow_mono}
use lib.ListN.{length, get_or, take, drop, set, replicate, length-map, length-drop, length-append, length-set, length-replicate}
use lib.Seq.{drop-cons, drop_at, length-take-le, get_or-take, get_or-drop}
use Rattle.words.specs.Splice.{splice}
use Rattle.words.specs.Words.{octets_of_word}
use Rattle.words.proofs.Splice.{splice-splice}
use Rattle.words.proofs.Words.{length-octets}
use Rattle.stream_spec.specs.Packed.{fitted}
use Rattle.stream_spec.specs.Layout.{head_octets, user_octets, size, shaped, bit_of, mask_of, Kept, keep_bit, strb_bit, lane_octet, users_of, octets_of}
use Rattle.stream_spec.proofs.Bits.{mask_fits}
use Rattle.stream_spec.proofs.Pack.{length-fitted}
use Rattle.stream_spec.proofs.Size.{size_is}
use Rattle.stream_spec.proofs.Users.{users_fit}
use Rattle.stream_write.specs.Write.{header_octets, null_lanes}
use Rattle.stream_write.proofs.Fill.{fill_down}
use Rattle.repack_scratch.specs.Codes.{kept_of, pair_from}
use Rattle.repack_plain.specs.declared.stretch.Head.{Head}
use Rattle.repack_plain.specs.Write.{record_of}
use Rattle.repack_tags.specs.declared.Tags.{Tags}
use Rattle.repack_tags.specs.Tags.{TagsFit, tags_of}
use Rattle.repack_scratch.proofs.Fitted.{octet-is, strobe-is, user-is, fitted-octets, fitted-strb, fitted_users, fitted-keep}
use Rattle.repack_tags.proofs.Lanes.{lanes_fit, fit_drop}

-- ---- item by item, from the last one down

-- what lanes with the items of these codes carry
abbrev lanes_with : List ℕ → List (Option Kept)
lanes_with codes = map Some (map kept_of codes)

length-lanes : (codes : List ℕ) → length (lanes_with codes) ≡ length codes
length-lanes codes = length-map (map kept_of codes) Some ∙ length-map codes kept_of

length_octs : (codes : List ℕ) → length (map lane_octet (lanes_with codes)) ≡ length codes
length_octs codes = length-map (lanes_with codes) lane_octet ∙ length-lanes codes

-- sixteen lanes have sixteen bits of TSTRB
pub strobes-small : (codes : List ℕ) → length codes ≤ 16 → mask_of (map strb_bit (lanes_with codes)) < 0x10000
strobes-small codes few =
    let many : length (map strb_bit (lanes_with codes)) ≡ length codes = length-map (lanes_with codes) strb_bit ∙ length-lanes codes in
    let most : length (map strb_bit (lanes_with codes)) ≤ 16 = omega (arith, many) in
    omega (arith, mask_fits (map strb_bit (lanes_with codes)), pow_mono most)

-- Of the n items of these codes those from item j on are written; t and u are their TSTRB and user bits.
pub record Putting (m n : ℕ) (codes before out : List ℕ) (t u j : ℕ) : Type 0 where
  pub low : j ≤ n
  pub same : length out ≡ length before
  pub strb : t ≡ mask_of (map strb_bit (lanes_with (drop j codes)))
  pub user : u ≡ users_of m (lanes_with (drop j codes))
  pub is : out ≡ take (head_octets + j) before ++ (map lane_octet (lanes_with (drop j codes)) ++ drop (head_octets + n) before)

module _ (m : ℕ) (items : List ℕ) (from n : ℕ) (before : List ℕ) (held : from + n ≤ length items) where
  abbrev codes : List ℕ
  codes = take n (drop from items)

  pub long : length codes ≡ n
  long = length-take-le n (drop from items) (omega (arith, length-drop from items))

  module _ (out : List ℕ) (t u j : ℕ) (p : Putting m n codes before out t u j) where
    pub strb-small : n ≤ 16 → t < 0x10000
    strb-small few = omega (arith, p.strb, strobes-small (drop j codes) (omega (arith, long, length-drop j codes)))

    -- the next item down, x
    module _ (Some : 0 < j) where
      abbrev i : ℕ
      i = j - 1

      abbrev x : ℕ
      x = get_or items (from + i) 0

      down : drop i codes ≡ x ∷ drop j codes
      down =
          let next : suc i ≡ j = omega arith in
          drop-cons codes i 0 (omega (arith, long, p.low))
          ∙ rw (next, get_or-take n (drop from items) i 0 (omega (arith, p.low)), get_or-drop from items i 0) refl

      user_down : u * 2 ^ m + x / 512 ≡ users_of m (lanes_with (drop i codes))
      user_down = rw down (omega (arith, user-is x, mul_comm u (2 ^ m), ap (λ (y : ℕ). 2 ^ m * y) p.user))

      -- the bits of at most sixteen lanes fit
      pub user-small : n ≤ 16 → m ≤ 4 → TagsFit m codes → u * 2 ^ m + x / 512 < 0x10000000000000000
      user-small few narrow fits =
          let many : length (lanes_with (drop i codes)) ≡ length codes - i = length-lanes (drop i codes) ∙ length-drop i codes in
          let lanes : length (lanes_with (drop i codes)) ≤ 16 = omega (arith, many, long) in
          let most : length (lanes_with (drop i codes)) * m ≤ 16 * 4 = mul-le-mul lanes narrow in
          omega (arith, user_down, users_fit m (lanes_with (drop i codes)) (lanes_fit m (drop i codes) (fit_drop m i codes fits)), pow_mono most)

      -- so those that are there can be moved up by a lane
      pub user-moved : n ≤ 16 → m ≤ 4 → TagsFit m codes → u * 2 ^ m % 0x10000000000000000 ≡ u * 2 ^ m
      user-moved few narrow fits = mod-eq_of_lt (omega (arith, user-small few narrow fits))

      pub putting_item : head_octets + n ≤ length before → (u' : ℕ) → u' ≡ u * 2 ^ m
          → Putting m n codes before (set out (head_octets + i) (x % 256 * (x / 256 % 2))) (2 * t + x / 256 % 2) (u' + x / 512) i
      putting_item room u' moved =
          record {
            low = omega (arith, p.low);
            same = length-set out (head_octets + i) (x % 256 * (x / 256 % 2)) ∙ p.same;
            strb = rw down (omega (arith, p.strb, strobe-is x));
            user = ap (λ (y : ℕ). y + x / 512) moved ∙ user_down;
            is =
                fill_down before (map lane_octet (lanes_with (drop j codes)) ++ drop (head_octets + n) before) out (head_octets + i) (head_octets + j) (x % 256 * (x / 256 % 2)) (omega arith) (omega (arith, p.low)) p.is
                ∙ rw (down, octet-is x) refl;
          }

-- ---- all parts of a record

-- items, nulls, user bits and header, one after the other
four_writes : (out out1 out2 out3 out4 octs zeros us hdr : List ℕ) (n v : ℕ) → length octs ≡ n → length zeros ≡ v - n → n ≤ v
    → 7 + v + length us ≤ length out
    → out1 ≡ splice 7 octs out → out2 ≡ take (7 + n) out1 ++ (zeros ++ drop (7 + v) out1)
    → out3 ≡ splice (7 + v) us out2 → out4 ≡ hdr ++ drop 7 out3
    → out4 ≡ hdr ++ (((octs ++ zeros) ++ us) ++ drop (7 + v + length us) out)
four_writes out out1 out2 out3 out4 octs zeros us hdr n v lo lz h room e f g k =
    let nulls : 7 + length octs + length zeros ≡ 7 + v = omega arith in
    let lanes : 7 + length (octs ++ zeros) ≡ 7 + v = omega (arith, length-append octs zeros) in
    let all : 7 + length ((octs ++ zeros) ++ us) ≡ 7 + v + length us = omega (arith, lanes, length-append (octs ++ zeros) us) in
    let two : out2 ≡ splice 7 (octs ++ zeros) out =
    f
    ∙ ap (λ (x : ℕ). take (7 + x) out1 ++ (zeros ++ drop (7 + v) out1)) (sym lo)
    ∙ ap (λ (x : ℕ). take (7 + length octs) out1 ++ (zeros ++ drop x out1)) (sym nulls)
    ∙ ap (splice (7 + length octs) zeros) e
    ∙ splice-splice 7 octs zeros out (omega arith) in
    let three : out3 ≡ splice 7 ((octs ++ zeros) ++ us) out =
    g
    ∙ ap (λ (x : ℕ). splice x us out2) (sym lanes)
    ∙ ap (splice (7 + length (octs ++ zeros)) us) two
    ∙ splice-splice 7 (octs ++ zeros) us out (omega (arith, lanes)) in
    k
    ∙ ap (λ (xs : List ℕ). hdr ++ drop 7 xs) three
    ∙ ap (λ (xs : List ℕ). hdr ++ xs)
    (drop_at (take 7 out) (((octs ++ zeros) ++ us) ++ drop (7 + length ((octs ++ zeros) ++ us)) out) 7 (length-take-le 7 out (omega arith))
    ∙ ap (λ (x : ℕ). ((octs ++ zeros) ++ us) ++ drop x out) all)

-- header, items, nulls and user bits are the record
record_octets : (m v : ℕ) (head : Head) (codes tail : List ℕ) → length codes ≤ v
    → header_octets (bit_of head.last) (head.pair % 256) (head.pair / 256) (2 ^ length codes - 1) (mask_of (map strb_bit (lanes_with codes)))
    ++ (((map lane_octet (lanes_with codes) ++ replicate {A = ℕ} (v - length codes) 0) ++ octets_of_word (user_octets v m) (users_of m (lanes_with codes))) ++ tail)
    ≡ octets_of m (record_of v (pair_from head.pair) codes head.last) ++ tail
record_octets m v head codes tail h =
    let long = length-lanes codes in
    let kepts : length (map kept_of codes) ≡ length codes = length-map codes kept_of in
    let keep : mask_of (map keep_bit (fitted v (lanes_with codes))) ≡ 2 ^ length codes - 1 =
    fitted-keep v (map kept_of codes) (omega (arith, kepts)) ∙ ap (λ (n : ℕ). 2 ^ n - 1) kepts in
    let octs : map lane_octet (fitted v (lanes_with codes)) ≡ map lane_octet (lanes_with codes) ++ replicate {A = ℕ} (v - length codes) 0 =
    fitted-octets v (lanes_with codes) (omega (arith, long))
    ∙ ap (λ (n : ℕ). map lane_octet (lanes_with codes) ++ replicate {A = ℕ} (v - n) 0) long in
    rw (keep, octs, fitted-strb v (lanes_with codes) (omega (arith, long)), fitted_users m v (lanes_with codes) (omega (arith, long)), length-fitted v (lanes_with codes))
    refl

-- what the four writes of a record come to
pub record_written : (m v : ℕ) (head : Head) (out out1 out2 out3 out4 codes : List ℕ) (n k : ℕ) (tags : Tags)
    → length codes ≡ n → n ≤ v → size (shaped v m) ≤ length out
    → k ≡ user_octets v m
    → tags ≡ tags_of m (lanes_with codes)
    → out1 ≡ splice 7 (map lane_octet (lanes_with codes)) out
    → out2 ≡ null_lanes n v out1
    → out3 ≡ splice (7 + v) (octets_of_word k tags.user) out2
    → out4 ≡ header_octets (bit_of head.last) (head.pair % 256) (head.pair / 256) (2 ^ n - 1) tags.strb ++ drop 7 out3
    → out4 ≡ octets_of m (record_of v (pair_from head.pair) codes head.last) ++ drop (size (shaped v m)) out
record_written m v head out out1 out2 out3 out4 codes n k tags long few room kk te e f g h =
    let us_long : length (octets_of_word (user_octets v m) (users_of m (lanes_with codes))) ≡ user_octets v m =
    length-octets (user_octets v m) (users_of m (lanes_with codes)) in
    let end : 7 + v + length (octets_of_word (user_octets v m) (users_of m (lanes_with codes))) ≡ size (shaped v m) = omega (arith, us_long, size_is (shaped v m)) in
    four_writes out out1 out2 out3 out4 (map lane_octet (lanes_with codes)) (replicate {A = ℕ} (v - n) 0) (octets_of_word (user_octets v m) (users_of m (lanes_with codes)))
    (header_octets (bit_of head.last) (head.pair % 256) (head.pair / 256) (2 ^ n - 1) (mask_of (map strb_bit (lanes_with codes)))) n v (length_octs codes ∙ long) (length-replicate {A = ℕ} (v - n) 0) few (omega (arith, end)) e f
    (g ∙ rw (kk, te) refl) (h ∙ rw te refl)
    ∙ rw (end, ← long) (record_octets m v head codes (drop (size (shaped v m)) out) (omega arith))
