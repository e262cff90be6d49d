-- The octets of one record without user bits, as its parts are written one after the other. Assumes nothing.
use Rattle.std.specs.Prelude.{Some}
use mathlib.Core.Path.{◌≡◌, refl, sym, ap, ◌∙◌, subst}
use mathlib.Core.Bool.{Bool}
use mathlib.Core.List.{List, ◌∷◌, ◌++◌, map, append_assoc}
use Prim.Native.Nat.{ℕ, suc, ◌+◌, ◌-◌, ◌/◌, ◌%◌, ◌^◌, ◌≤◌, ◌<◌}
use native.Mathlib.Omega.{arith}
use lib.ListN.{length, get_or, take, drop, replicate, length-append, length-map, length-drop}
use lib.Seq.{take_at, drop_at, drop-drop, drop-append-add, length-take-le}
use Rattle.words.specs.Splice.{splice}
use Rattle.words.specs.Words.{padded}
use Rattle.words.proofs.Words.{length-padded}
use Rattle.stream_spec.specs.Packed.{fitted}
use Rattle.stream_spec.specs.Layout.{size, bit_of, mask_of, octets_of, of_width}
use Rattle.stream_spec.proofs.Bare.{bare_octets}
use Rattle.stream_spec.proofs.Size.{size_bare}
use Rattle.stream_write.specs.Write.{header_octets}
use Rattle.repack_scratch.specs.Codes.{data_code, kept_of, pair_from}
use Rattle.repack_plain.specs.declared.stretch.Head.{Head}
use Rattle.repack_plain.specs.Write.{item_octet, item_strobe, record_of, record_at}
use Rattle.repack_plain.proofs.Lanes.{lanes-octets, lanes-strb, lanes_keep, data-octets, data_strb}

-- ---- the octets of a record

module _ (out octs zeros hdr : List ℕ) (n v : ℕ) (k : n ≤ v) (l : length octs ≡ n) (h : 7 + v ≤ length out) where
  with_items : List ℕ
  with_items = take 7 out ++ (octs ++ drop (7 + n) out)

  items_front : with_items ≡ (take 7 out ++ octs) ++ drop (7 + n) out
  unfolding with_items
  items_front = sym (append_assoc (take 7 out) octs (drop (7 + n) out))

  items-long : length (take 7 out ++ octs) ≡ 7 + n
  items-long = length-append (take 7 out) octs ∙ omega (arith, length-take-le 7 out (omega arith))

  items-before : take (7 + n) with_items ≡ take 7 out ++ octs
  items-before = ap (take (7 + n)) items_front ∙ take_at (take 7 out ++ octs) (drop (7 + n) out) (7 + n) items-long

  items-after : drop (7 + v) with_items ≡ drop (7 + v) out
  items-after =
      let sum : 7 + n + (v - n) ≡ 7 + v = omega arith in
      ap (λ (m : ℕ). drop m with_items) (sym sum) ∙ sym (drop-drop (v - n) (7 + n) with_items)
      ∙ ap (drop (v - n)) (ap (drop (7 + n)) items_front ∙ drop_at (take 7 out ++ octs) (drop (7 + n) out) (7 + n) items-long)
      ∙ drop-drop (v - n) (7 + n) out ∙ ap (λ (m : ℕ). drop m out) sum

  with_nulls : take (7 + n) with_items ++ (zeros ++ drop (7 + v) with_items) ≡ take 7 out ++ (octs ++ (zeros ++ drop (7 + v) out))
  with_nulls = rw (items-before, items-after) (append_assoc (take 7 out) octs (zeros ++ drop (7 + v) out))

  lanes_stand : drop 7 (take (7 + n) with_items ++ (zeros ++ drop (7 + v) with_items)) ≡ octs ++ (zeros ++ drop (7 + v) out)
  lanes_stand = ap (drop 7) with_nulls ∙ drop_at (take 7 out) (octs ++ (zeros ++ drop (7 + v) out)) 7 (length-take-le 7 out (omega arith))

  -- items, nulls and header, one after the other
  pub three_writes : (out1 out2 out3 : List ℕ) → out1 ≡ take 7 out ++ (octs ++ drop (7 + n) out)
      → out2 ≡ take (7 + n) out1 ++ (zeros ++ drop (7 + v) out1) → out3 ≡ hdr ++ drop 7 out2
      → out3 ≡ hdr ++ (octs ++ (zeros ++ drop (7 + v) out))
  unfolding with_items
  three_writes out1 out2 out3 e f g =
      g ∙ ap (λ (o : List ℕ). hdr ++ drop 7 o) (f ∙ ap (λ (o : List ℕ). take (7 + n) o ++ (zeros ++ drop (7 + v) o)) e) ∙ ap (λ (o : List ℕ). hdr ++ o) lanes_stand

-- header, items and nulls are the record
pub record_octets : (v pair : ℕ) (last : Bool) (codes tail : List ℕ) → length codes ≤ v
    → header_octets (bit_of last) (pair % 256) (pair / 256) (2 ^ length codes - 1) (mask_of (map item_strobe codes))
    ++ (map item_octet codes ++ (replicate {A = ℕ} (v - length codes) 0 ++ tail))
    ≡ octets_of 0 (record_of v (pair_from pair) codes last) ++ tail
record_octets v pair last codes tail h =
    rw (bare_octets (fitted v (map Some (map kept_of codes))), lanes_keep v codes h, lanes-strb v codes h, lanes-octets v codes h)
    (rw (append_assoc (map item_octet codes) (replicate {A = ℕ} (v - length codes) 0) tail) refl)

-- what the three writes of a record come to
pub record_written : (v : ℕ) (head : Head) (out out1 out2 out3 codes : List ℕ) (from n strb : ℕ)
    → n ≤ v → from + n ≤ length codes → size (of_width v) ≤ length out → strb ≡ mask_of (map item_strobe (take n (drop from codes)))
    → out1 ≡ take 7 out ++ (map item_octet (take n (drop from codes)) ++ drop (7 + n) out)
    → out2 ≡ take (7 + n) out1 ++ (replicate {A = ℕ} (v - n) 0 ++ drop (7 + v) out1)
    → out3 ≡ header_octets (bit_of head.last) (head.pair % 256) (head.pair / 256) (2 ^ n - 1) strb ++ drop 7 out2
    → out3 ≡ record_at 0 v head codes from n ++ drop (size (of_width v)) out
record_written v head out out1 out2 out3 codes from n strb k i h se e f g =
    let items : List ℕ = take n (drop from codes) in
    let long : length items ≡ n = length-take-le n (drop from codes) (omega (arith, length-drop from codes)) in
    let room : 7 + v ≤ length out = omega (arith, size_bare v) in
    rw (size_bare v)
    (three_writes out (map item_octet items) (replicate {A = ℕ} (v - n) 0) (header_octets (bit_of head.last) (head.pair % 256) (head.pair / 256) (2 ^ n - 1) strb)
    n v k (length-map items item_octet ∙ long) room out1 out2 out3 e f g
    ∙ rw se
    (subst
    (λ (m : ℕ).
    header_octets (bit_of head.last) (head.pair % 256) (head.pair / 256) (2 ^ m - 1) (mask_of (map item_strobe items))
    ++ (map item_octet items ++ (replicate {A = ℕ} (v - m) 0 ++ drop (7 + v) out))
    ≡ record_at 0 v head codes from n ++ drop (7 + v) out)
    long (record_octets v head.pair head.last items (drop (7 + v) out) (omega arith))))

-- what the two writes of a record with data alone come to
pub plain-written : (v : ℕ) (head : Head) (out out1 out2 ds : List ℕ) (n last pair : ℕ) → n ≤ v → 1 ≤ v → v ≤ length ds
    → last ≡ bit_of head.last → pair ≡ head.pair → ((i : ℕ) → get_or ds i 0 < 256)
    → out1 ≡ header_octets last (pair % 256) (pair / 256) (2 ^ n - 1) (2 ^ n - 1) ++ (0 ∷ drop 8 out)
    → out2 ≡ splice 7 (padded v n ds) out1
    → out2 ≡ record_at 0 v head (map data_code ds) 0 n ++ drop (size (of_width v)) out
plain-written v head out out1 out2 ds n last pair k w d le pe b e f =
    let long : length (take n (map data_code ds)) ≡ n = length-take-le n (map data_code ds) (omega (arith, length-map ds data_code)) in
    let octs : List ℕ = map item_octet (take n (map data_code ds)) in
    let hdr : List ℕ = header_octets (bit_of head.last) (head.pair % 256) (head.pair / 256) (2 ^ n - 1) (2 ^ n - 1) in
    let one : v ≡ suc (v - 1) = omega arith in
    let there : 8 + (v - 1) ≡ 7 + v = omega arith in
    let rest : drop v (0 ∷ drop 8 out) ≡ drop (7 + v) out =
    ap (λ (m : ℕ). drop m (0 ∷ drop 8 out)) one ∙ drop-drop (v - 1) 8 out ∙ rw there refl in
    let back : drop (7 + v) (hdr ++ (0 ∷ drop 8 out)) ≡ drop (7 + v) out = drop-append-add hdr (0 ∷ drop 8 out) v ∙ rest in
    f ∙ rw (size_bare v, e, le, pe, length-padded v n ds, back, data-octets v n ds b k (omega arith))
    (ap (λ (xs : List ℕ). hdr ++ xs) (append_assoc octs (replicate {A = ℕ} (v - n) 0) (drop (7 + v) out))
    ∙ (rw (data_strb n ds b (omega arith), long) at
    (record_octets v head.pair head.last (take n (map data_code ds)) (drop (7 + v) out) (omega (arith, long)))))
