-- The packed form at width v, and lane-keeping slices (paper 01, 'Packed form at width v', 'Lane-keeping downsizing';
-- Arm IHI 0051A 2.3.3, 2.4.1, 2.5.1), over any type A of what a kept byte lane carries. Octets are in Layout.
use Rattle.std.specs.Prelude.{Bool, true, false, not, cond, ℕ, zero, suc, ◌-◌, ◌/◌, length, drop, Option, None, Some, slice_get}
use Rattle.std.specs.List.{last_or}
use mathlib.Core.List.{List, [], ◌∷◌, ◌++◌, map}
use Rattle.stream_spec.specs.Items.{Pair, same_pair, Transfer, Item, byte, end, item_pair}

-- A stretch: items of one pair with no end among them, but perhaps one behind them.
pub record Stretch (A : Type 0) : Type 0 where
  pub pair : Pair
  pub bytes : List A
  pub ended : Bool

module _ {A : Type 0} where
  -- One item in front of the stretches behind it. An end is the last item of its stretch; a byte joins the stretch
  -- behind it where that has its pair.
  abbrev pub attach : Item A → List (Stretch A) → List (Stretch A)
  attach (end p) ss = record { pair = p; bytes = []; ended = true } ∷ ss
  attach (byte p a) [] = record { pair = p; bytes = a ∷ []; ended = false } ∷ []
  attach (byte p a) (s ∷ ss) =
      cond (same_pair p s.pair) (record { pair = p; bytes = a ∷ s.bytes; ended = s.ended } ∷ ss)
      (record { pair = p; bytes = a ∷ []; ended = false } ∷ s ∷ ss)

  -- "Cut the items after each end and wherever the pair changes."
  abbrev pub cut : List (Item A) → List (Stretch A)
  cut [] = []
  cut (i ∷ is) = attach i (cut is)

  -- v lanes: the first v of those given, and null lanes where they run out
  abbrev pub fitted : ℕ → List (Option A) → List (Option A)
  fitted zero ls = []
  fitted (suc v) [] = None ∷ fitted v []
  fitted (suc v) (l ∷ ls) = l ∷ fitted v ls

  -- lanes laid out over k transfers of v lanes without TLAST and one more, which has TLAST where `last` says so
  abbrev pub spread : ℕ → ℕ → Pair → List (Option A) → Bool → List (Transfer A)
  spread zero v p ls last = record { pair = p; lanes = fitted v ls; last = last } ∷ []
  spread (suc k) v p ls last = record { pair = p; lanes = fitted v ls; last = false } ∷ spread k v p (drop v ls) last

  -- "Each stretch of n data and position items gives n/v records rounded up, filled from lane 0, all full but perhaps
  -- the last. An end sets TLAST on the last record of its stretch; a stretch with only an end gives one all-null TLAST
  -- record." So there are (n - 1)/v records before the last one, and n = 0 (where 0 - 1 is 0) gives the last one alone.
  abbrev pub pack_stretch : ℕ → Stretch A → List (Transfer A)
  pack_stretch v s = spread ((length s.bytes - 1) / v) v s.pair (map Some s.bytes) s.ended

  abbrev pub pack_stretches : ℕ → List (Stretch A) → List (Transfer A)
  pack_stretches v [] = []
  pack_stretches v (s ∷ ss) = pack_stretch v s ++ pack_stretches v ss

  abbrev pub pack : ℕ → List (Item A) → List (Transfer A)
  pack v is = pack_stretches v (cut is)

  -- Lane-keeping downsizing of one transfer of width w to width v: "w/v records, slice by slice, each with the record's
  -- TID and TDEST, nulls staying as nulls, TLAST on the last slice only."
  abbrev pub slice_transfer : ℕ → ℕ → Transfer A → List (Transfer A)
  slice_transfer w v t = spread (w / v - 1) v t.pair t.lanes t.last

  abbrev pub slices : ℕ → ℕ → List (Transfer A) → List (Transfer A)
  slices w v [] = []
  slices w v (t ∷ ts) = slice_transfer w v t ++ slices w v ts

  -- "a full record is held until it is known whether its end follows": of packed transfers, the last one where it has
  -- no TLAST is held, and the others are settled.
  abbrev pub settled : List (Transfer A) → List (Transfer A)
  settled [] = []
  settled (t ∷ []) = cond t.last (t ∷ []) []
  settled (t ∷ u ∷ ts) = t ∷ settled (u ∷ ts)

  abbrev pub held : List (Transfer A) → List (Transfer A)
  held [] = []
  held (t ∷ []) = cond t.last [] (t ∷ [])
  held (t ∷ u ∷ ts) = held (u ∷ ts)

  -- Demand 3: "if at each division the whole has no item before it, or none after it, or its last item before it is a
  -- packet end, or its first item after it has another TID or TDEST than that last item". The last item before a division
  -- and the first item after it, where there are such:
  abbrev pub apart : Option (Item A) → Option (Item A) → Bool
  apart None j = true
  apart (Some i) None = true
  apart (Some (end p)) (Some j) = true
  apart (Some (byte p a)) (Some j) = not (same_pair p (item_pair j))

  abbrev pub parted : List (Item A) → List (Item A) → Bool
  parted before after = apart (last_or None before) (slice_get after 0)
