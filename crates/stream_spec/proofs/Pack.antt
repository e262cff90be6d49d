-- The packed form and lane-keeping slices carry the items they were made of, have the asked width, and their records are
-- full but the last of a stretch. Packed forms join where demand 3's condition holds. Assumes nothing.
use Rattle.std.specs.Prelude.{Option, None, Some}
use mathlib.Core.Path.{◌≡◌, refl, sym, ap, ◌∙◌}
use mathlib.Core.Bool.{Bool, true, false}
use mathlib.Core.List.{List, [], ◌∷◌, ◌++◌, map, append_assoc, append-nil}
use Prim.Native.Nat.{ℕ, zero, suc, ◌+◌, ◌-◌, ◌*◌, ◌/◌, ◌%◌, ◌≤◌, ◌<◌}
use native.Mathlib.Nat.{suc-mul, zero-mul, div-add-mod', mod-lt, add-div_left}
use native.Mathlib.Numerals.{add-one}
use native.Mathlib.Omega.{arith}
use lib.ListN.{length, drop, length-map, length-drop, drop_of_length-le}
use Rattle.stream_spec.specs.Items.{Pair, Transfer, Item, byte, kept, items_of, transfer_items, items}
use Rattle.stream_spec.specs.Packed.{Stretch, cut, fitted, spread, pack_stretch, pack_stretches, pack, slice_transfer, slices, parted}
use Rattle.stream_spec.proofs.Cut.{stretch_items, stretches_items, cut-items, cut-parted}

-- n lanes are no more than (n - 1)/v + 1 transfers hold
pub room_for : (n v : ℕ) → 0 < v → n ≤ suc ((n - 1) / v) * v
room_for n v h = omega (arith, suc-mul ((n - 1) / v) v, div-add-mod' (n - 1) v, mod-lt (n - 1) h)

-- a reader's law: for one item or more, (n - 1)/v + 1 is n/v rounded up
pub rounded_up : (n v : ℕ) → 0 < v → 0 < n → suc ((n - 1) / v) ≡ (n + (v - 1)) / v
rounded_up n v h k = sym (add-one ((n - 1) / v)) ∙ sym (add-div_left (n - 1) h) ∙ ap (λ (x : ℕ). x / v) (omega arith)

-- w lanes fit into w/v transfers of v lanes where v divides w
slices_hold : (w v : ℕ) → 0 < v → w % v ≡ 0 → 0 < w → w ≤ suc (w / v - 1) * v
slices_hold w v h d k = go (w / v) (div-add-mod' w v)
  where
    go : (q : ℕ) → q * v + w % v ≡ w → w ≤ suc (q - 1) * v
    go zero e = omega (arith, zero-mul v)
    go (suc q) e = let same : suc (suc q - 1) ≡ suc q = omega arith in rw same (omega arith)

module _ {A : Type 0} where
  -- ---- what is kept

  pub kept_append : (ls ms : List (Option A)) → kept (ls ++ ms) ≡ kept ls ++ kept ms
  kept_append [] ms = refl
  kept_append (None ∷ ls) ms = kept_append ls ms
  kept_append (Some a ∷ ls) ms = ap {B = List A} (λ l. a ∷ l) (kept_append ls ms)

  pub kept-some : (bs : List A) → kept (map Some bs) ≡ bs
  kept-some [] = refl
  kept-some (b ∷ bs) = ap {B = List A} (λ l. b ∷ l) (kept-some bs)

  pub map-append : {B : Type 0} (f : A → B) (xs ys : List A) → map f (xs ++ ys) ≡ map f xs ++ map f ys
  map-append f [] ys = refl
  map-append f (x ∷ xs) ys = ap (λ l. f x ∷ l) (map-append f xs ys)

  pub items-append : (ts us : List (Transfer A)) → items (ts ++ us) ≡ items ts ++ items us
  items-append [] us = refl
  items-append (t ∷ ts) us =
      ap (λ l. transfer_items t ++ l) (items-append ts us) ∙ sym (append_assoc (transfer_items t) (items ts) (items us))

  -- ---- lanes laid out over transfers

  pub length-fitted : (v : ℕ) (ls : List (Option A)) → length (fitted v ls) ≡ v
  length-fitted zero ls = refl
  length-fitted (suc v) [] = ap suc (length-fitted v [])
  length-fitted (suc v) (l ∷ ls) = ap suc (length-fitted v ls)

  kept-fitted-nil : (v : ℕ) → kept (fitted {A = A} v []) ≡ []
  kept-fitted-nil zero = refl
  kept-fitted-nil (suc v) = kept-fitted-nil v

  kept-fitted-drop : (v : ℕ) (ls : List (Option A)) → kept (fitted v ls) ++ kept (drop v ls) ≡ kept ls
  kept-fitted-drop zero ls = refl
  kept-fitted-drop (suc v) [] = rw (kept-fitted-nil v) refl
  kept-fitted-drop (suc v) (None ∷ ls) = kept-fitted-drop v ls
  kept-fitted-drop (suc v) (Some a ∷ ls) = ap {B = List A} (λ l. a ∷ l) (kept-fitted-drop v ls)

  pub kept-fitted : (v : ℕ) (ls : List (Option A)) → length ls ≤ v → kept (fitted v ls) ≡ kept ls
  kept-fitted v ls h =
      sym (append-nil (kept (fitted v ls))) ∙ ap (λ (r : List (Option A)). kept (fitted v ls) ++ kept r) (sym (drop_of_length-le ls h))
      ∙ kept-fitted-drop v ls

  items_of_append : (p : Pair) (xs ys : List A) (last : Bool) → items_of p xs false ++ items_of p ys last ≡ items_of p (xs ++ ys) last
  items_of_append p [] ys last = refl
  items_of_append p (x ∷ xs) ys last = ap {B = List (Item A)} (λ l. byte p x ∷ l) (items_of_append p xs ys last)

  -- Lanes that fit into so many transfers are all there, in order.
  pub items-spread : (k v : ℕ) (p : Pair) (ls : List (Option A)) (last : Bool) → length ls ≤ suc k * v
      → items (spread k v p ls last) ≡ items_of p (kept ls) last
  items-spread zero v p ls last h =
      append-nil (items_of p (kept (fitted v ls)) last)
      ∙ ap (λ (bs : List A). items_of p bs last) (kept-fitted v ls (omega (arith, suc-mul 0 v, zero-mul v)))
  items-spread (suc k) v p ls last h =
      ap (λ (is : List (Item A)). items_of p (kept (fitted v ls)) false ++ is) (items-spread k v p (drop v ls) last (rw length-drop (omega (arith, suc-mul (suc k) v, suc-mul k v))))
      ∙ items_of_append p (kept (fitted v ls)) (kept (drop v ls)) last
      ∙ ap (λ (bs : List A). items_of p bs last) (kept-fitted-drop v ls)

  -- ---- the round trip

  items-pack_stretches : (v : ℕ) → 0 < v → (ss : List (Stretch A)) → items (pack_stretches v ss) ≡ stretches_items ss
  items-pack_stretches v h [] = refl
  items-pack_stretches v h (s ∷ ss) =
      items-append (pack_stretch v s) (pack_stretches v ss)
      ∙ ap (λ (is : List (Item A)). is ++ items (pack_stretches v ss))
      (items-spread ((length s.bytes - 1) / v) v s.pair (map Some s.bytes) s.ended
      (rw (length-map s.bytes Some) (room_for (length s.bytes) v h))
      ∙ ap (λ (bs : List A). items_of s.pair bs s.ended) (kept-some s.bytes))
      ∙ ap (λ (is : List (Item A)). stretch_items s ++ is) (items-pack_stretches v h ss)

  -- The packed form carries the items, all of them, in order, and no other.
  pub items-pack : (v : ℕ) → 0 < v → (is : List (Item A)) → items (pack v is) ≡ is
  items-pack v h is = items-pack_stretches v h (cut is) ∙ cut-items is

  -- ---- width and number of records

  abbrev pub Wide : ℕ → List (Transfer A) → Type 0
  Wide v [] = Unit {0}
  Wide v (t ∷ ts) = (length t.lanes ≡ v) × Wide v ts

  pub wide-append : (v : ℕ) (ts us : List (Transfer A)) → Wide v ts → Wide v us → Wide v (ts ++ us)
  wide-append v [] us h k = k
  wide-append v (t ∷ ts) us h k = (h.0, wide-append v ts us h.1 k)

  pub wide-spread : (k v : ℕ) (p : Pair) (ls : List (Option A)) (last : Bool) → Wide v (spread k v p ls last)
  wide-spread zero v p ls last = (length-fitted v ls, tt)
  wide-spread (suc k) v p ls last = (length-fitted v ls, wide-spread k v p (drop v ls) last)

  -- Every packed record has v lanes.
  pub wide-pack : (v : ℕ) (is : List (Item A)) → Wide v (pack v is)
  wide-pack v is = go (cut is)
    where
      go : (ss : List (Stretch A)) → Wide v (pack_stretches v ss)
      go [] = tt
      go (s ∷ ss) = wide-append v (pack_stretch v s) (pack_stretches v ss) (wide-spread ((length s.bytes - 1) / v) v s.pair (map Some s.bytes) s.ended) (go ss)

  pub length-spread : (k v : ℕ) (p : Pair) (ls : List (Option A)) (last : Bool) → length (spread k v p ls last) ≡ suc k
  length-spread zero v p ls last = refl
  length-spread (suc k) v p ls last = ap suc (length-spread k v p (drop v ls) last)

  -- ---- joining

  pack_stretches-append : (v : ℕ) (ss ts : List (Stretch A)) → pack_stretches v (ss ++ ts) ≡ pack_stretches v ss ++ pack_stretches v ts
  pack_stretches-append v [] ts = refl
  pack_stretches-append v (s ∷ ss) ts =
      ap (λ (l : List (Transfer A)). pack_stretch v s ++ l) (pack_stretches-append v ss ts)
      ∙ sym (append_assoc (pack_stretch v s) (pack_stretches v ss) (pack_stretches v ts))

  -- Under demand 3's condition the packed forms of two lists, joined, are the packed form of the lists joined.
  pub pack-parted : (v : ℕ) (is js : List (Item A)) → parted is js ≡ true → pack v (is ++ js) ≡ pack v is ++ pack v js
  pack-parted v is js h = ap (pack_stretches v) (cut-parted is js h) ∙ pack_stretches-append v (cut is) (cut js)

  -- ---- lane-keeping slices

  -- Slices carry the items of the transfers they were made of.
  pub items-slices : (w v : ℕ) → 0 < v → w % v ≡ 0 → 0 < w → (ts : List (Transfer A)) → Wide w ts → items (slices w v ts) ≡ items ts
  items-slices w v h d k [] e = refl
  items-slices w v h d k (t ∷ ts) e =
      items-append (slice_transfer w v t) (slices w v ts)
      ∙ ap (λ (is : List (Item A)). is ++ items (slices w v ts))
      (items-spread (w / v - 1) v t.pair t.lanes t.last (rw e.0 (slices_hold w v h d k)))
      ∙ ap (λ (is : List (Item A)). transfer_items t ++ is) (items-slices w v h d k ts e.1)

  pub wide-slices : (w v : ℕ) (ts : List (Transfer A)) → Wide v (slices w v ts)
  wide-slices w v [] = tt
  wide-slices w v (t ∷ ts) =
      wide-append v (slice_transfer w v t) (slices w v ts) (wide-spread (w / v - 1) v t.pair t.lanes t.last) (wide-slices w v ts)
