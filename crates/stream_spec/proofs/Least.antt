-- No shorter stream (T-07), over lists of items: a transfer's items lie in one stretch and are at most v bytes, so in front of
-- other items they add one transfer at most. So no transfers of v lanes are fewer than the packed form of their items. Assumes nothing.
use Rattle.std.specs.Prelude.{Option, None, Some}
use mathlib.Core.Path.{◌≡◌, refl, sym, ap, ◌∙◌}
use mathlib.Core.Bool.{Bool, true, false}
use mathlib.Core.List.{List, [], ◌∷◌, ◌++◌, map, append-nil}
use Prim.Native.Nat.{ℕ, suc, ◌+◌, ◌-◌, ◌*◌, ◌/◌, ◌≤◌, ◌<◌}
use native.Mathlib.Nat.{div-lt_iff_lt-mul, lt-div-mul-add, suc-mul, div-eq_of_lt}
use native.Mathlib.Omega.{arith}
use lib.ListN.{length, length-append}
use Rattle.stream_spec.specs.Items.{Pair, same_pair, Transfer, Item, byte, kept, items_of, items}
use Rattle.stream_spec.specs.Packed.{Stretch, cut, pack_stretch, pack_stretches, pack}
use Rattle.stream_spec.proofs.Cut.{same_pair_eq, stretch_items, proper, stops, ended_stops, cut-run, cut_stretch}
use Rattle.stream_spec.proofs.Pack.{Wide, length-spread}

-- k bytes more, at most v, are one transfer more at most
one_more : (v k n : ℕ) → 0 < v → k ≤ v → (k + n - 1) / v ≤ suc ((n - 1) / v)
one_more v k n h few =
    let near : n - 1 < (n - 1) / v * v + v = lt-div-mul-add h in
    let two : suc (suc ((n - 1) / v)) * v ≡ (n - 1) / v * v + v + v =
    omega (arith, suc-mul (suc ((n - 1) / v)) v, suc-mul ((n - 1) / v) v) in
    let below : (k + n - 1) / v < suc (suc ((n - 1) / v)) = (div-lt_iff_lt-mul h).1 (rw two (omega arith)) in
    omega arith

module _ {A : Type 0} where
  kept-few : (ls : List (Option A)) → length (kept ls) ≤ length ls
  kept-few [] = omega arith
  kept-few (None ∷ ls) = omega (arith, kept-few ls)
  kept-few (Some a ∷ ls) = omega (arith, kept-few ls)

module _ {A : Type 0} (v : ℕ) (h : 0 < v) where
  abbrev count : List (Stretch A) → ℕ
  count ss = length (pack_stretches v ss)

  count-first : (s : Stretch A) (ss : List (Stretch A)) → count (s ∷ ss) ≡ suc ((length s.bytes - 1) / v) + count ss
  count-first s ss =
      length-append (pack_stretch v s) (pack_stretches v ss)
      ∙ ap (λ (n : ℕ). n + count ss) (length-spread ((length s.bytes - 1) / v) v s.pair (map Some s.bytes) s.ended)

  -- what is to be shown of a transfer's items in front of others
  abbrev OneMore : List (Item A) → List (Item A) → Type 0
  OneMore is js = length (pack v (is ++ js)) ≤ suc (length (pack v js))

  -- they are a stretch by themselves, and its bytes fit into one transfer
  apart : (s : Stretch A) (is : List (Item A)) → length s.bytes ≤ v → proper s ≡ true → stops s (cut is) ≡ true → OneMore (stretch_items s) is
  apart s is few p e =
      let less : length s.bytes - 1 < v = omega arith in
      let counted : length (pack v (stretch_items s ++ is)) ≡ suc ((length s.bytes - 1) / v) + length (pack v is) =
      ap count (cut_stretch s.pair s.bytes s.ended is p e) ∙ count-first s (cut is) in
      omega (arith, div-eq_of_lt less)

  -- they join the first stretch behind them, which has their pair
  join : (p : Pair) (bs : List A) (t : Stretch A) (ts : List (Stretch A)) (is : List (Item A)) → length bs ≤ v → p ≡ t.pair → cut is ≡ t ∷ ts
      → OneMore (map (byte p) bs) is
  join p bs t ts is few q e =
      let mine : cut is ≡ record { pair = p; bytes = t.bytes; ended = t.ended } ∷ ts =
      e ∙ ap {B = List (Stretch A)} (λ r. record { pair = r; bytes = t.bytes; ended = t.ended } ∷ ts) (sym q) in
      let joined : length (pack v (map (byte p) bs ++ is)) ≡ suc ((length bs + length t.bytes - 1) / v) + count ts =
      ap count (cut-run p bs t.bytes t.ended ts is mine)
      ∙ count-first (record { pair = p; bytes = bs ++ t.bytes; ended = t.ended }) ts ∙ rw (length-append bs t.bytes) refl in
      let behind : length (pack v is) ≡ suc ((length t.bytes - 1) / v) + count ts = ap count e ∙ count-first t ts in
      omega (arith, one_more v (length bs) (length t.bytes) h few)

  by_pair : (p : Pair) (b : A) (bs : List A) (t : Stretch A) (ts : List (Stretch A)) (is : List (Item A)) → length (b ∷ bs) ≤ v
      → cut is ≡ t ∷ ts → (same : Bool) → same_pair p t.pair ≡ same → OneMore (items_of p (b ∷ bs) false) is
  by_pair p b bs t ts is few e true q =
      rw (append-nil (map (byte p) bs)) (join p (b ∷ bs) t ts is few (same_pair_eq p t.pair q) e)
  by_pair p b bs t ts is few e false q =
      apart (record { pair = p; bytes = b ∷ bs; ended = false }) is few refl (rw e (rw q refl))

  front : (p : Pair) (bs : List A) (last : Bool) (is : List (Item A)) → length bs ≤ v → OneMore (items_of p bs last) is
  front p bs true is few = apart (record { pair = p; bytes = bs; ended = true }) is few refl (ended_stops p bs (cut is))
  front p [] false is few = omega arith
  front p (b ∷ bs) false is few = go (cut is) refl
    where
      go : (ss : List (Stretch A)) → cut is ≡ ss → OneMore (items_of p (b ∷ bs) false) is
      go [] e = apart (record { pair = p; bytes = b ∷ bs; ended = false }) is few refl (rw e refl)
      go (t ∷ ts) e = by_pair p b bs t ts is few e (same_pair p t.pair) refl

  -- the packed form of some transfers' items has no more transfers than they are
  pub pack-least : (ts : List (Transfer A)) → Wide v ts → length (pack v (items ts)) ≤ length ts
  pack-least [] w = omega arith
  pack-least (t ∷ ts) w =
      let few : length (kept t.lanes) ≤ v = omega (arith, kept-few t.lanes, w.0) in
      omega (arith, front t.pair (kept t.lanes) t.last (items ts) few, pack-least ts w.1)
