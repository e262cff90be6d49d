-- A table, stretch by stretch: the octets of its packed form, with any number m of user bits to a byte, and how many records they
-- are. Assumes nothing.
use Rattle.std.specs.Prelude.{Some}
use mathlib.Core.Path.{◌≡◌, refl, sym, ap, ◌∙◌}
use mathlib.Core.List.{List, [], ◌∷◌, ◌++◌, map, append_assoc, append-nil}
use Prim.Native.Nat.{ℕ, ◌+◌, ◌-◌, ◌*◌, ◌/◌, ◌≤◌, ◌<◌}
use native.Mathlib.Numerals.{add-one}
use native.Mathlib.Omega.{arith}
use lib.ListN.{length, get_or, take, drop, length-append, length-drop, length-map, drop_of_length-le}
use lib.Seq.{drop-drop, drop-cons, length-take-le}
use Rattle.stream_spec.specs.Packed.{Stretch, pack_stretch, pack_stretches}
use Rattle.stream_spec.specs.Layout.{Kept, octets}
use Rattle.stream_spec.proofs.Pack.{Wide, wide-append, wide-spread, length-spread}
use Rattle.stream_spec.proofs.Records.{octets-append}
use Rattle.stream_spec.specs.Memory.{in_front, Writing}
use Rattle.stream_spec.proofs.Memory.{writing_start, writing_as, writing-end}
use Rattle.repack_scratch.specs.declared.Entry.{Entry}
use Rattle.repack_scratch.specs.Codes.{stretch_room, kept_of, pair_from, entry_count, entry_last, entry_pair, stretch_of, stretches_of, total}
use Rattle.repack_plain.specs.declared.stretch.Cursor.{Cursor}
use Rattle.repack_plain.specs.declared.stretch.Head.{Head}
use Rattle.repack_plain.specs.Write.{stretch_octets, left_octets, StretchFits, StretchPut}
use Rattle.repack_emit.specs.Emit.{IsHeadOf, packed_from, count_of}

-- ---- the loop over a table's stretches

pub packed_more : (m v : ℕ) (e : Entry) (es : List Entry) (codes rest : List ℕ)
    → octets m (pack_stretches v (stretches_of (e ∷ es) codes)) ++ rest
    ≡ stretch_octets m v (pair_from (entry_pair e)) (take (entry_count e) codes) (entry_last e)
    ++ (octets m (pack_stretches v (stretches_of es (drop (entry_count e) codes))) ++ rest)
packed_more m v e es codes rest =
    ap (λ (l : List ℕ). l ++ rest)
    (octets-append m (pack_stretch v (stretch_of e (take (entry_count e) codes))) (pack_stretches v (stretches_of es (drop (entry_count e) codes))))
    ∙ rw (length-map (take (entry_count e) codes) kept_of)
    (append_assoc (stretch_octets m v (pair_from (entry_pair e)) (take (entry_count e) codes) (entry_last e))
    (octets m (pack_stretches v (stretches_of es (drop (entry_count e) codes)))) rest)

-- ---- counts

pub wide_stretches : (v : ℕ) (ss : List (Stretch Kept)) → Wide v (pack_stretches v ss)
wide_stretches v [] = tt
wide_stretches v (s ∷ ss) =
    wide-append v (pack_stretch v s) (pack_stretches v ss)
    (wide-spread ((length s.bytes - 1) / v) v s.pair (map Some s.bytes) s.ended) (wide_stretches v ss)

pub count-is : (v : ℕ) (es : List Entry) (codes : List ℕ) → total es ≤ length codes → count_of v es ≡ length (pack_stretches v (stretches_of es codes))
count-is v [] codes h = refl
count-is v (e ∷ es) codes h =
    let long : length (map kept_of (take (entry_count e) codes)) ≡ entry_count e =
    length-map (take (entry_count e) codes) kept_of ∙ length-take-le (entry_count e) codes (omega arith) in
    sym
    (length-append (pack_stretch v (stretch_of e (take (entry_count e) codes))) (pack_stretches v (stretches_of es (drop (entry_count e) codes)))
    ∙ rw (
      length-spread ((length (map kept_of (take (entry_count e) codes)) - 1) / v) v (pair_from (entry_pair e)) (map Some (map kept_of (take (entry_count e) codes))) (entry_last e),
      long,
      ← count-is v es (drop (entry_count e) codes) (rw (length-drop (entry_count e) codes) (omega arith)),
    ) (omega arith))

-- ---- what is left of a table

-- entry k, and those behind it
pub entry_at : (table : List Entry) (k : ℕ) → k < length table → drop k table ≡ get_or table k (record { 0 = 0 }) ∷ drop (k + 1) table
entry_at table k h = rw (add-one k) (drop-cons table k (record { 0 = 0 }) h)

-- an entry's number of items, and all of them, are small
pub total_small : (es : List Entry) → total es ≤ 0xffff * length es
total_small [] = omega arith
total_small (e ∷ es) = omega (arith, total_small es)

-- of the packed form the octets of the stretches from entry k on are to be written
pub record Packing (m v : ℕ) (items : List ℕ) (table : List Entry) (out₀ out : List ℕ) (to from k : ℕ) : Type 0 where
  pub sum : from + total (drop k table) ≡ total table
  pub writing : Writing out₀ out to (packed_from m v table items) (packed_from m v (drop k table) (drop from items))

pub packing_starts : (m v : ℕ) (items : List ℕ) (table : List Entry) (out : List ℕ) → length (packed_from m v table items) ≤ length out
    → Packing m v items table out out 0 0 0
packing_starts m v items table out r = record { sum = omega arith; writing = writing_start out (packed_from m v table items) r }

module _ (m v : ℕ) (items : List ℕ) (table : List Entry) (out₀ out : List ℕ) (to from k : ℕ) (p : Packing m v items table out₀ out to from k) where
  -- entry k is e, and its stretch has n items
  module _ (e : Entry) (head : Head) (n : ℕ) (cut : drop k table ≡ e ∷ drop (k + 1) table) (h : IsHeadOf e head) (c : n ≡ entry_count e) where
    abbrev here : Cursor
    here = record { to = to; from = from; left = n }

    abbrev later : List ℕ
    later = packed_from m v (drop (k + 1) table) (drop (from + n) items)

    pub total-step : total (drop k table) ≡ n + total (drop (k + 1) table)
    total-step = rw (cut, c) refl

    this_stretch : packed_from m v (drop k table) (drop from items) ≡ left_octets m v head items here ++ later
    this_stretch =
        rw (cut, h.pair, h.last, c)
        (sym (append-nil (packed_from m v (e ∷ drop (k + 1) table) (drop from items)))
        ∙ packed_more m v e (drop (k + 1) table) (drop from items) []
        ∙ rw (drop-drop (entry_count e) from items, append-nil (packed_from m v (drop (k + 1) table) (drop (from + entry_count e) items))) refl)

    pub packing_held : from + n ≤ total table
    packing_held = omega (arith, p.sum, total-step)

    pub packing_fits : 1 ≤ v → v ≤ 16 → length table ≤ stretch_room → StretchFits m v head items out here
    packing_fits low high few =
        record {
          low = low;
          high = high;
          counted = omega (arith, packing_held, total_small table);
          room = omega (arith, p.writing.room, ap length this_stretch, length-append (left_octets m v head items here) later);
        }

    pub packing_next : (after : List ℕ) (next : ℕ) → StretchPut m v head items out here after next
        → Packing m v items table out₀ after next (from + n) (k + 1)
    packing_next after next put =
        record {
          sum = omega (arith, p.sum, total-step);
          writing =
              put.writes out₀ (packed_from m v table items) later
              (writing_as out₀ out (packed_from m v table items) (packed_from m v (drop k table) (drop from items)) (left_octets m v head items here ++ later) to this_stretch p.writing);
        }

  -- nothing is left: the packed form, and behind it the memory as it was
  pub packing_done : length table ≤ k → out ≡ in_front (packed_from m v table items) out₀
  packing_done h = writing-end out₀ out (packed_from m v table items) to (rw (drop_of_length-le table h) at p.writing)
