-- How a reader's state stands after each thing it does: closing the open stretch, turning to another pair, keeping a
-- record's bytes. Assumes nothing.
use mathlib.Core.Path.{◌≡◌, refl, sym, ap, ◌∙◌}
use mathlib.Core.Bool.{Bool, true, false}
use mathlib.Core.List.{List, [], ◌∷◌, ◌++◌, map, append_assoc, append-nil}
use Prim.Native.Nat.{ℕ, ◌+◌, ◌-◌, ◌/◌, ◌%◌, ◌≤◌, ◌<◌}
use native.Mathlib.Omega.{arith}
use borrow.Author.Tests.{eqb-true}
use lib.Dec.{eqb}
use lib.ListN.{length, drop, length-append, drop_of_length-le}
use lib.Seq.{drop-append-le}
use Rattle.stream_spec.specs.Items.{Pair, same_pair, Item, byte, item_pair}
use Rattle.stream_spec.specs.Packed.{Stretch, cut}
use Rattle.stream_spec.specs.Layout.{Kept}
use Rattle.stream_spec.proofs.Cut.{Begins, cut_begins, cut_open}
use Rattle.stream_spec.proofs.Pack.{map-append}
use Rattle.repack_parse.specs.declared.state.Open.{Open}
use Rattle.repack_scratch.specs.declared.Entry.{Entry}
use Rattle.repack_scratch.specs.Codes.{kept_of, pair_from, entry_of, entry_count, stretches_of, total}
use Rattle.repack_parse.specs.Stands.{closed_at, paired_at, kept_at, Stands}
use Rattle.repack_scratch.proofs.Codes.{entry-count, entry_stretch, total_more, stretches_more, stretches_one}

-- the bytes of the open stretch
abbrev pub opened : Open → List ℕ → List Kept
opened st codes = map kept_of (drop st.start codes)

abbrev pub made : Open → List ℕ → Bool → Stretch Kept
made st codes ended = record { pair = pair_from st.pair; bytes = opened st codes; ended = ended }

module _ (codes : List ℕ) (entries : List Entry) (st : Open) (all : List (Stretch Kept)) where
  -- closing, where the open bytes with what follows them are cut off as one stretch
  pub close_stands : (rest rest' : List (Item Kept)) (last : Bool) (pair : ℕ) → st.start ≤ st.items → st.items < 0x10000
      → cut (map (byte (pair_from st.pair)) (opened st codes) ++ rest) ≡ made st codes last ∷ cut rest'
      → Stands codes entries st rest all
      → Stands codes (entries ++ entry_of (st.items - st.start) last st.pair ∷ []) (closed_at st pair) rest' all
  close_stands rest rest' last pair s b e h =
      let count = entry-count (st.items - st.start) last st.pair (omega arith) in
      let fills : total entries + entry_count (entry_of (st.items - st.start) last st.pair) ≡ length codes =
      rw count (omega (arith, h.started, h.kept)) in
      record {
        kept = h.kept;
        closed = length-append entries (entry_of (st.items - st.start) last st.pair ∷ []) ∙ omega (arith, h.closed);
        started = total_more entries (entry_of (st.items - st.start) last st.pair) ∙ fills ∙ h.kept;
        is =
            h.is ∙ rw e
            (sym
            (rw (drop_of_length-le codes {i = st.items} (omega (arith, h.kept)))
            (rw (stretches_one entries (entry_of (st.items - st.start) last st.pair) codes fills, h.started)
            (rw (entry_stretch (st.items - st.start) last st.pair (drop st.start codes) (omega arith))
            (append_assoc (stretches_of entries codes) (made st codes last ∷ []) (cut rest'))))));
      }

  -- with no byte open, the pair does not matter
  pub turn-stands : (rest : List (Item Kept)) (pair : ℕ) → st.start ≡ st.items → Stands codes entries st rest all
      → Stands codes entries (paired_at st pair) rest all
  turn-stands rest pair e h =
      record {
        kept = h.kept;
        closed = h.closed;
        started = h.started;
        is =
            h.is ∙ rw (drop_of_length-le codes {i = st.start} (omega (arith, h.kept)))
            refl;
      }

  -- keeping bytes of the open stretch's pair
  pub gather_stands : (more : List ℕ) (rest : List (Item Kept)) (n : ℕ) → st.start ≤ st.items → n ≡ st.items + length more
      → Stands codes entries st (map (byte (pair_from st.pair)) (map kept_of more) ++ rest) all
      → Stands (codes ++ more) entries (kept_at st n) rest all
  gather_stands more rest n s e h =
      let within : total entries ≤ length codes = omega (arith, h.started, h.kept) in
      let below : st.start ≤ length codes = omega (arith, h.kept) in
      record {
        kept = length-append codes more ∙ omega (arith, h.kept);
        closed = h.closed;
        started = h.started;
        is =
            h.is
            ∙ rw (stretches_more entries codes more within, drop-append-le st.start codes more below)
            (rw (map-append kept_of (drop st.start codes) more)
            (rw (map-append (byte (pair_from st.pair)) (map kept_of (drop st.start codes)) (map kept_of more))
            (ap (λ (l : List (Item Kept)). stretches_of entries codes ++ cut l)
            (sym (append_assoc (map (byte (pair_from st.pair)) (map kept_of (drop st.start codes))) (map (byte (pair_from st.pair)) (map kept_of more)) rest)))));
      }

  -- with no byte open and nothing to come, the table has all
  pub all_closed : st.start ≡ st.items → Stands codes entries st [] all → all ≡ stretches_of entries codes
  all_closed e h = h.is ∙ rw (drop_of_length-le codes {i = st.start} (omega (arith, h.kept))) (append-nil (stretches_of entries codes))

-- ---- where the open bytes are cut off

pub pairs_differ : (a b : ℕ) → (a ≡ b → ⊥) → same_pair (pair_from a) (pair_from b) ≡ false
pairs_differ a b h = go (eqb (a % 256) (b % 256)) refl (eqb (a / 256) (b / 256)) refl
  where
    go : (x : Bool) → eqb (a % 256) (b % 256) ≡ x → (y : Bool) → eqb (a / 256) (b / 256) ≡ y → same_pair (pair_from a) (pair_from b) ≡ false
    go true e true f = absurd (h (omega (arith, eqb-true (a % 256) (b % 256) e, eqb-true (a / 256) (b / 256) f)))
    go true e false f = rw (e, f) refl
    go false e y f = rw e refl

module _ (p : Pair) where
  -- before an item of another pair
  pub cut_apart : (bs : List Kept) (i : Item Kept) (is : List (Item Kept)) → 0 < length bs → same_pair p (item_pair i) ≡ false
      → cut (map (byte p) bs ++ i ∷ is) ≡ record { pair = p; bytes = bs; ended = false } ∷ cut (i ∷ is)
  cut_apart [] i is h e = absurd (omega arith)
  cut_apart (b ∷ bs) i is h e = go (cut_begins i is)
    where
      go : Begins (item_pair i) (cut (i ∷ is)) → cut (map (byte p) (b ∷ bs) ++ i ∷ is) ≡ record { pair = p; bytes = b ∷ bs; ended = false } ∷ cut (i ∷ is)
      go g = cut_open p b bs (i ∷ is) (rw g.is (rw g.pair (rw e refl)))

  -- before nothing
  pub cut-last : (bs : List Kept) → 0 < length bs → cut (map (byte p) bs ++ []) ≡ record { pair = p; bytes = bs; ended = false } ∷ cut []
  cut-last [] h = absurd (omega arith)
  cut-last (b ∷ bs) h = cut_open p b bs [] refl
