-- What holds of every pair and of every kept byte of a stream's transfers holds of its items, of their packed form and of
-- lane-keeping slices. P is what holds of a pair, Q of what a kept byte carries. Assumes nothing.
use Rattle.std.specs.Prelude.{Option, None, Some}
use mathlib.Core.Path.{◌≡◌, refl}
use mathlib.Core.Bool.{Bool, true, false}
use mathlib.Core.List.{List, [], ◌∷◌, ◌++◌, map}
use Prim.Native.Nat.{ℕ, zero, suc, ◌-◌, ◌/◌}
use lib.ListN.{length, drop}
use Rattle.stream_spec.specs.Items.{Pair, same_pair, Transfer, Item, byte, end, kept, items_of, items}
use Rattle.stream_spec.specs.Packed.{Stretch, attach, cut, fitted, spread, pack_stretch, pack_stretches, pack, slice_transfer, slices}

module _ {A : Type 0} (P : Pair → Type 0) (Q : A → Type 0) where
  abbrev pub EachByte : List A → Type 0
  EachByte [] = Unit {0}
  EachByte (a ∷ l) = Q a × EachByte l

  abbrev pub EachLane : List (Option A) → Type 0
  EachLane [] = Unit {0}
  EachLane (None ∷ ls) = EachLane ls
  EachLane (Some a ∷ ls) = Q a × EachLane ls

  abbrev pub EachTransfer : List (Transfer A) → Type 0
  EachTransfer [] = Unit {0}
  EachTransfer (t ∷ ts) = P t.pair × EachLane t.lanes × EachTransfer ts

  abbrev pub OfItem : Item A → Type 0
  OfItem (byte p a) = P p × Q a
  OfItem (end p) = P p

  abbrev pub EachItem : List (Item A) → Type 0
  EachItem [] = Unit {0}
  EachItem (i ∷ is) = OfItem i × EachItem is

  abbrev pub EachStretch : List (Stretch A) → Type 0
  EachStretch [] = Unit {0}
  EachStretch (s ∷ ss) = P s.pair × EachByte s.bytes × EachStretch ss

  -- ---- items

  each-kept : (ls : List (Option A)) → EachLane ls → EachByte (kept ls)
  each-kept [] h = tt
  each-kept (None ∷ ls) h = each-kept ls h
  each-kept (Some a ∷ ls) h = (h.0, each-kept ls h.1)

  each_append : (is js : List (Item A)) → EachItem is → EachItem js → EachItem (is ++ js)
  each_append [] js h k = k
  each_append (i ∷ is) js h k = (h.0, each_append is js h.1 k)

  each_items_of : (p : Pair) (bs : List A) (last : Bool) → P p → EachByte bs → EachItem (items_of p bs last)
  each_items_of p [] true h k = (h, tt)
  each_items_of p [] false h k = tt
  each_items_of p (b ∷ bs) last h k = ((h, k.0), each_items_of p bs last h k.1)

  pub each-items : (ts : List (Transfer A)) → EachTransfer ts → EachItem (items ts)
  each-items [] h = tt
  each-items (t ∷ ts) h =
      each_append (items_of t.pair (kept t.lanes) t.last) (items ts)
      (each_items_of t.pair (kept t.lanes) t.last h.0 (each-kept t.lanes h.1)) (each-items ts h.2)

  -- ---- transfers laid out from lanes

  each-fitted : (v : ℕ) (ls : List (Option A)) → EachLane ls → EachLane (fitted v ls)
  each-fitted zero ls h = tt
  each-fitted (suc v) [] h = each-fitted v [] tt
  each-fitted (suc v) (None ∷ ls) h = each-fitted v ls h
  each-fitted (suc v) (Some a ∷ ls) h = (h.0, each-fitted v ls h.1)

  each-drop : (v : ℕ) (ls : List (Option A)) → EachLane ls → EachLane (drop v ls)
  each-drop zero ls h = h
  each-drop (suc v) [] h = tt
  each-drop (suc v) (None ∷ ls) h = each-drop v ls h
  each-drop (suc v) (Some a ∷ ls) h = each-drop v ls h.1

  each-spread : (k v : ℕ) (p : Pair) (ls : List (Option A)) (last : Bool) → P p → EachLane ls → EachTransfer (spread k v p ls last)
  each-spread zero v p ls last h e = (h, each-fitted v ls e, tt)
  each-spread (suc k) v p ls last h e = (h, each-fitted v ls e, each-spread k v p (drop v ls) last h (each-drop v ls e))

  each_join : (ts us : List (Transfer A)) → EachTransfer ts → EachTransfer us → EachTransfer (ts ++ us)
  each_join [] us h k = k
  each_join (t ∷ ts) us h k = (h.0, h.1, each_join ts us h.2 k)

  -- ---- the packed form

  each-some : (bs : List A) → EachByte bs → EachLane (map Some bs)
  each-some [] h = tt
  each-some (b ∷ bs) h = (h.0, each-some bs h.1)

  each-attach : (i : Item A) (ss : List (Stretch A)) → OfItem i → EachStretch ss → EachStretch (attach i ss)
  each-attach (end p) ss h k = (h, tt, k)
  each-attach (byte p a) [] h k = (h.0, (h.1, tt), tt)
  each-attach (byte p a) (s ∷ ss) h k = go (same_pair p s.pair) refl
    where
      go : (b : Bool) → same_pair p s.pair ≡ b → EachStretch (attach (byte p a) (s ∷ ss))
      go true e = rw e (h.0, (h.1, k.1), k.2)
      go false e = rw e (h.0, (h.1, tt), k)

  pub each-cut : (is : List (Item A)) → EachItem is → EachStretch (cut is)
  each-cut [] h = tt
  each-cut (i ∷ is) h = each-attach i (cut is) h.0 (each-cut is h.1)

  each-pack_stretches : (v : ℕ) (ss : List (Stretch A)) → EachStretch ss → EachTransfer (pack_stretches v ss)
  each-pack_stretches v [] h = tt
  each-pack_stretches v (s ∷ ss) h =
      each_join (pack_stretch v s) (pack_stretches v ss)
      (each-spread ((length s.bytes - 1) / v) v s.pair (map Some s.bytes) s.ended h.0 (each-some s.bytes h.1))
      (each-pack_stretches v ss h.2)

  pub each-pack : (v : ℕ) (is : List (Item A)) → EachItem is → EachTransfer (pack v is)
  each-pack v is h = each-pack_stretches v (cut is) (each-cut is h)

  pub each-slices : (w v : ℕ) (ts : List (Transfer A)) → EachTransfer ts → EachTransfer (slices w v ts)
  each-slices w v [] h = tt
  each-slices w v (t ∷ ts) h =
      each_join (slice_transfer w v t) (slices w v ts) (each-spread (w / v - 1) v t.pair t.lanes t.last h.0 h.1)
      (each-slices w v ts h.2)
