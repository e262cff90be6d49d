-- The user bits of a take's items fit: each record has so many to a lane, and the stretches of the table carry nothing else.
-- Assumes nothing.
use mathlib.Core.Path.{◌≡◌, refl, sym, subst}
use mathlib.Core.Bool.{Bool, true, false}
use mathlib.Core.List.{List, [], ◌∷◌, map}
use Prim.Native.Nat.{ℕ, ◌/◌, ◌^◌, ◌<◌}
use lib.ListN.{take, drop}
use lib.Seq.{take-add}
use Rattle.stream_spec.specs.declared.Shape.{Shape}
use Rattle.stream_spec.specs.Packed.{cut}
use Rattle.stream_spec.specs.Layout.{odd, records, transfers, stream_items}
use Rattle.stream_spec.proofs.Each.{EachByte, EachStretch, each-items, each-cut}
use Rattle.stream_spec.proofs.Users.{AnyPair, BitsFit, transfers-tagged}
use Rattle.repack_scratch.specs.declared.Entry.{Entry}
use Rattle.repack_scratch.specs.Codes.{kept_of, entry_count, stretches_of, total}
use Rattle.repack_tags.specs.Tags.{TagsFit}
use Rattle.repack_tags.proofs.Lanes.{fit_append}

-- ---- an item, items and stretches

item_fits : (m x : ℕ) → BitsFit m (kept_of x) → x / 0x200 < 2 ^ m
unfolding kept_of
item_fits m x = go (odd (x / 0x100)) refl
  where
    go : (b : Bool) → odd (x / 0x100) ≡ b → BitsFit m (kept_of x) → x / 0x200 < 2 ^ m
    go true e h = rw e at h
    go false e h = rw e at h

items_fit : (m : ℕ) (xs : List ℕ) → EachByte AnyPair (BitsFit m) (map kept_of xs) → TagsFit m xs
items_fit m [] h = tt
items_fit m (x ∷ xs) h = (item_fits m x h.0, items_fit m xs h.1)

stretches_fit : (m : ℕ) (es : List Entry) (xs : List ℕ) → EachStretch AnyPair (BitsFit m) (stretches_of es xs) → TagsFit m (take (total es) xs)
stretches_fit m [] xs h = tt
stretches_fit m (e ∷ es) xs h =
    rw (take-add (entry_count e) (total es) xs)
    (fit_append m (take (entry_count e) xs) (take (total es) (drop (entry_count e) xs)) (items_fit m (take (entry_count e) xs) h.1)
    (stretches_fit m es (drop (entry_count e) xs) h.2))

-- ---- a take's

cut_fits : (s : Shape) (xs : List ℕ) → EachStretch AnyPair (BitsFit s.user) (cut (stream_items s xs))
cut_fits s xs =
    each-cut AnyPair (BitsFit s.user) (stream_items s xs)
    (each-items AnyPair (BitsFit s.user) (transfers s xs) (transfers-tagged s (records s xs)))

-- the items of a table that has a take's stretches
pub taken-fits : (s : Shape) (xs : List ℕ) (es : List Entry) (items : List ℕ) → stretches_of es items ≡ cut (stream_items s xs) → TagsFit s.user (take (total es) items)
taken-fits s xs es items e =
    stretches_fit s.user es items (subst (EachStretch AnyPair (BitsFit s.user)) (sym e) (cut_fits s xs))
