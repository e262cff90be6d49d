-- Transfers that are filled from lane 0, full where another one follows, and all-null only for an end that stands alone,
-- are the packed form of their items: the properties of a packed form leave no choice. Assumes nothing.
use Rattle.std.specs.Prelude.{Option, None, Some}
use mathlib.Core.Path.{◌≡◌, refl, sym, ap, ◌∙◌}
use mathlib.Core.Bool.{Bool, true, false, not, ◌&&◌, ◌||◌, cond}
use mathlib.Core.List.{List, [], ◌∷◌, ◌++◌, map, append-nil, append_assoc}
use Prim.Native.Nat.{ℕ, ◌-◌, ◌/◌, ◌≤◌, ◌<◌}
use native.Mathlib.Nat.{div-eq_of_lt}
use native.Mathlib.Omega.{arith}
use borrow.Author.Tests.{eqb-true, eqb-false}
use lib.Dec.{eqb}
use lib.ListN.{length, length-map}
use Rattle.stream_spec.specs.Items.{Pair, same_pair, Transfer, Item, byte, end, kept, items_of, items}
use Rattle.stream_spec.specs.Packed.{Stretch, cut, fitted, pack_stretch, pack}
use Rattle.stream_spec.specs.Layout.{Kept}
use Rattle.stream_spec.specs.Promises.{full, all_null, Packs, PackedOnly}
use Rattle.stream_spec.proofs.Bools.{no_such}
use Rattle.stream_spec.proofs.Cut.{same_pair_eq, non_empty, stops, stops_before}
use Rattle.stream_spec.proofs.Pack.{length-fitted, map-append}
use Rattle.stream_spec.proofs.Hold.{fitted-full, pack-stretch, pack-full}

kept_fewer : (ls : List (Option Kept)) → length (kept ls) ≤ length ls
kept_fewer [] = omega arith
kept_fewer (None ∷ ls) = omega (arith, kept_fewer ls)
kept_fewer (Some a ∷ ls) = omega (arith, kept_fewer ls)

-- the stretch of a transfer's items
abbrev stretch_of : Transfer Kept → Stretch Kept
stretch_of t = record { pair = t.pair; bytes = kept t.lanes; ended = t.last }

-- a stretch that fits one transfer is that transfer
one-transfer : (v : ℕ) → 0 < v → (t : Transfer Kept) → t.lanes ≡ fitted v (map Some (kept t.lanes)) → pack_stretch v (stretch_of t) ≡ t ∷ []
one-transfer v h t e =
    let few : length (kept t.lanes) ≤ v = omega (arith, kept_fewer t.lanes, ap length e, length-fitted v (map Some (kept t.lanes))) in
    let none_before : (length (kept t.lanes) - 1) / v ≡ 0 = div-eq_of_lt (omega arith) in
    rw none_before
    (ap {B = List (Transfer Kept)} (λ (ls : List (Option Kept)). record { pair = t.pair; lanes = ls; last = t.last } ∷ []) (sym e))

proper_of : (last : Bool) (bs : List Kept) → (last || not (eqb (length bs) 0)) ≡ true → (last || non_empty bs) ≡ true
proper_of true bs h = refl
proper_of false [] h = h
proper_of false (b ∷ bs) h = refl

-- a transfer that stops before the next one is packed by itself
only_stops : (v : ℕ) → 0 < v → (t : Transfer Kept) (is : List (Item Kept)) → t.lanes ≡ fitted v (map Some (kept t.lanes))
    → (t.last || not (all_null t)) ≡ true → stops (stretch_of t) (cut is) ≡ true → t ∷ pack v is ≡ pack v (items_of t.pair (kept t.lanes) t.last ++ is)
only_stops v h t is e i s =
    sym
    (pack-stretch v (stretch_of t) is (proper_of t.last (kept t.lanes) i) s
    ∙ ap (λ (ts : List (Transfer Kept)). ts ++ pack v is) (one-transfer v h t e))

-- a full transfer goes on into the next one, which has a byte of its pair
only-full : (v : ℕ) → 0 < v → (p : Pair) (ls : List (Option Kept)) (last : Bool) (bs : List Kept) (js : List (Item Kept))
    → ls ≡ fitted v (map Some (kept ls)) → length (kept ls) ≡ v → (length bs ≡ 0 → ⊥)
    → record { pair = p; lanes = ls; last = false } ∷ pack v (items_of p bs last ++ js) ≡ pack v (items_of p (kept ls) false ++ (items_of p bs last ++ js))
only-full v h p ls last [] js e n z = absurd (z refl)
only-full v h p ls last (b ∷ bs) js e n z =
    let lanes : ls ≡ map Some (kept ls) =
    e ∙ ap (fitted v) (sym (append-nil (map Some (kept ls)))) ∙ fitted-full v (map Some (kept ls)) [] (length-map (kept ls) Some ∙ n) in
    let rest : List (Item Kept) = cond last (end p ∷ []) [] ++ js in
    ap (λ (l : List (Item Kept)). record { pair = p; lanes = ls; last = false } ∷ pack v l) (append_assoc (map (byte p) (b ∷ bs)) (cond last (end p ∷ []) []) js)
    ∙ ap {B = List (Transfer Kept)} (λ (l : List (Option Kept)). record { pair = p; lanes = l; last = false } ∷ pack v (map (byte p) (b ∷ bs) ++ rest)) lanes
    ∙ sym (pack-full v h p (kept ls) b bs rest n)
    ∙ ap (pack v) (regroup (kept ls) (b ∷ bs))
  where
    regroup : (xs ys : List Kept) → map (byte p) (xs ++ ys) ++ (cond last (end p ∷ []) [] ++ js) ≡ items_of p xs false ++ (items_of p ys last ++ js)
    regroup xs ys =
        ap (λ (l : List (Item Kept)). l ++ (cond last (end p ∷ []) [] ++ js)) (map-append (λ (a : Kept). byte p a) xs ys)
        ∙ append_assoc (map (byte p) xs) (map (byte p) ys) (cond last (end p ∷ []) [] ++ js)
        ∙ sym
        (ap (λ (l : List (Item Kept)). l ++ (items_of p ys last ++ js)) (append-nil (map (byte p) xs))
        ∙ ap (λ (l : List (Item Kept)). map (byte p) xs ++ l) (append_assoc (map (byte p) ys) (cond last (end p ∷ []) []) js))

-- what `closes` says where a transfer goes on into the next one
goes_on : (f n l d : Bool) → (f && not n || l || not d) ≡ true → (l || not d) ≡ false → (f ≡ true) × (n ≡ false) × (l ≡ false) × (d ≡ true)
goes_on true false false true c e = (refl, refl, refl, refl)
goes_on true true false true c e = no_such e c
goes_on false n false true c e = no_such e c
goes_on f n true d c e = no_such e refl
goes_on f n false false c e = no_such e refl

only_next : (v : ℕ) → 0 < v → (t : Transfer Kept) (ts : List (Transfer Kept)) → Packs v (t ∷ ts) → t ∷ pack v (items ts) ≡ pack v (items (t ∷ ts))
only_next v h t [] k = only_stops v h t [] k.0 k.1 refl
only_next v h t (u ∷ us) k = go (t.last || not (same_pair t.pair u.pair)) refl
  where
    go : (b : Bool) → (t.last || not (same_pair t.pair u.pair)) ≡ b → t ∷ pack v (items (u ∷ us)) ≡ pack v (items (t ∷ u ∷ us))
    go true e =
        only_stops v h t (items (u ∷ us)) k.0 k.1
        (stops_before (stretch_of t) (stretch_of u) [] (items us) (proper_of u.last (kept u.lanes) k.3.1) e)
    go false e =
        let g = goes_on (full v t) (all_null u) t.last (same_pair t.pair u.pair) k.2 e in
        let same = same_pair_eq t.pair u.pair g.3 in
        let many = eqb-true (length (kept t.lanes)) v g.0 in
        rw (g.2, ← same) (only-full v h t.pair t.lanes u.last (kept u.lanes) (items us) k.0 many (eqb-false (length (kept u.lanes)) 0 g.1))

pub packed-only : PackedOnly
packed-only v h [] k = refl
packed-only v h (t ∷ ts) k = ap {B = List (Transfer Kept)} (λ l. t ∷ l) (packed-only v h ts k.3) ∙ only_next v h t ts k
