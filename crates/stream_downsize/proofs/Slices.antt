-- The slices of one record, one after the other, stated by what remains. Assumes nothing.
use Rattle.std.specs.Prelude.{Option}
use mathlib.Core.Path.{◌≡◌, refl, sym, ap, ap₂, ◌∙◌, subst}
use mathlib.Core.Bool.{Bool, true, false, cond}
use borrow.Author.Tests.{eq-eqb, ne_eqb, eqb-true, eqb-false}
use lib.Dec.{eqb}
use lib.Pow.{shr-shr}
use mathlib.Core.List.{List, [], ◌++◌, append_assoc}
use Prim.Native.Nat.{ℕ, zero, suc, ◌+◌, ◌-◌, ◌*◌, ◌/◌, ◌%◌, ◌^◌, ◌≤◌, ◌<◌}
use native.Mathlib.Nat.{suc-mul, zero-mul, add-mul, div-one, div-add-mod'}
use native.Mathlib.Omega.{arith}
use lib.ListN.{length, drop, length-append}
use lib.Seq.{drop-drop}
use Rattle.stream_spec.specs.declared.Shape.{Shape}
use Rattle.stream_spec.specs.Items.{Transfer}
use Rattle.stream_spec.specs.Packed.{fitted, spread}
use Rattle.stream_spec.specs.Layout.{head_octets, width_most, size, odd, flags, tkeep, tstrb, user_number, Kept, octets_of, octets}
use Rattle.stream_record.specs.declared.Header.{Header}
use Rattle.stream_record.specs.Header.{header_of}
use Rattle.stream_spec.specs.Memory.{Writing, Writes}
use Rattle.stream_spec.specs.Walk.{Narrow}
use Rattle.stream_spec.proofs.Bits.{bit-zero, odd_low}
use Rattle.stream_spec.proofs.Size.{size_is, length-octets_of}
use Rattle.stream_downsize.specs.Slices.{Cuts, pair_in, lanes_in, Unreserved, slice_of, slice_header, above, user_above, slices_from, record_slices, RecordFits}
use Rattle.stream_downsize.proofs.Lanes.{fitted-lanes, lanes-long, lanes_taken, drop-lanes, above_unreserved, lowest_unreserved}

-- neither record has more lanes or user bits than code can count
pub input_narrow : {s t : Shape} → Cuts s t → Narrow s
input_narrow c = record { width = c.high; user = c.user }

pub output_narrow : {s t : Shape} → Cuts s t → Narrow t
output_narrow c = record { width = c.small; user = rw c.same c.user }

pub slice_long : (t : Shape) (h : Header) (u : ℕ) (ds : List ℕ) (last : Bool) → length (octets_of t.user (slice_of t h u ds last)) ≡ size t
slice_long t h u ds last = length-octets_of t (slice_of t h u ds last) (lanes-long t.user t.width h.keep h.strb u ds)

-- there is one slice or more
slices-some : (w v : ℕ) → w % v ≡ 0 → 0 < w → 1 ≤ w / v
slices-some w v d k = go (w / v) (div-add-mod' w v)
  where
    go : (q : ℕ) → q * v + w % v ≡ w → 1 ≤ q
    go zero e = absurd (omega (arith, zero-mul v))
    go (suc q) e = omega arith

pub slices_more : (w v : ℕ) → w % v ≡ 0 → 0 < w → suc (w / v - 1) ≡ w / v
slices_more w v d k = omega (arith, slices-some w v d k)

-- w/v slices have w lanes
slices-whole : (w v : ℕ) → w % v ≡ 0 → 0 < w → suc (w / v - 1) * v ≡ w
slices-whole w v d k = rw (slices_more w v d k) (omega (arith, div-add-mod' w v))

-- ---- one slice, and the others

module _ (t : Shape) (h : Header) (u : ℕ) (ds : List ℕ) where
  first_slice : (k : ℕ) (last : Bool)
      → record { pair = pair_in h; lanes = fitted t.width (lanes_in t.user (suc k * t.width) h u ds); last = last } ≡ slice_of t h u ds last
  first_slice k last =
      ap (λ (ls : List (Option Kept)). record { pair = pair_in h; lanes = ls; last = last })
      (fitted-lanes t.user t.width (suc k * t.width) h.keep h.strb u ds (omega (arith, suc-mul k t.width)))

  -- the octets of j slices, of which the last one has the header's TLAST
  abbrev pub slices_left : ℕ → List ℕ
  slices_left zero = []
  slices_left (suc k) = slices_from k t h u ds

-- the first of j and one more, and the others
slices-next : (t : Shape) (h : Header) (u : ℕ) (ds : List ℕ) (j : ℕ) (last : Bool) → last ≡ cond (eqb j 0) (odd h.flags) false
    → slices_left t h u ds (suc j) ≡ octets_of t.user (slice_of t h u ds last) ++ slices_left t (above t.width h) (user_above t u) (drop t.width ds) j
slices-next t h u ds zero last e = rw e (ap (λ (x : Transfer Kept). octets_of t.user x ++ []) (first_slice t h u ds 0 (odd h.flags)))
slices-next t h u ds (suc k) last e =
    rw (e, ne_eqb (suc k) 0 (λ q. omega arith))
    (ap₂ (λ (x : Transfer Kept) (ls : List (Option Kept)). octets_of t.user x ++ octets t.user (spread k t.width (pair_in h) ls (odd h.flags)))
    (first_slice t h u ds (suc k) false)
    (ap (λ (n : ℕ). drop t.width (lanes_in t.user n h u ds)) (suc-mul (suc k) t.width) ∙ drop-lanes t.user t.width (suc k * t.width) h u ds))

-- the slices of a record, from its header, its user bits and its data octets
record-slices : (s t : Shape) (rec : List ℕ) → Cuts s t
    → record_slices s t rec ≡ slices_from (s.width / t.width - 1) t (header_of rec) (user_number s rec) (drop head_octets rec)
record-slices s t rec c =
    let k = s.width / t.width - 1 in
    let h = header_of rec in
    let w : suc k * t.width ≡ s.width = slices-whole s.width t.width c.whole c.low in
    rw (lanes_taken s.user s.width (tkeep rec) (tstrb rec) (user_number s rec) (drop head_octets rec), bit-zero (flags rec))
    (ap₂
    (λ (m n : ℕ). octets m (spread k t.width (pair_in h) (lanes_in m n h (user_number s rec) (drop head_octets rec)) (odd (flags rec))))
    (sym c.same) (sym w))

-- ---- a slice's header

pub header_low : (from : ℕ) (last : Bool) (h : Header) → (slice_header from last h).flags ≤ 1
header_low from true h = omega arith
header_low from false h = omega arith

header_last : (last : Bool) (h : Header) → odd (cond last (h.flags % 2) 0) ≡ cond last (odd h.flags) false
header_last true h = odd_low h.flags
header_last false h = refl

-- a slice is written with its own header's TLAST
pub slice_told : (t : Shape) (from : ℕ) (last : Bool) (h g : Header) (u : ℕ) (ds lanes out after : List ℕ) (to next : ℕ) → g ≡ slice_header from last h → lanes ≡ ds
    → Writes (octets_of t.user (slice_of t g u lanes (odd g.flags))) out to after next
    → Writes (octets_of t.user (slice_of t (above from h) u ds (cond last (odd h.flags) false))) out to after next
slice_told t from last h g u ds lanes out after to next e l w =
    let told : octets_of t.user (slice_of t g u lanes (odd g.flags)) ≡ octets_of t.user (slice_of t (above from h) u ds (cond last (odd h.flags) false)) =
    rw (e, l) (ap (λ (b : Bool). octets_of t.user (slice_of t (above from h) u ds b)) (header_last last h)) in
    subst (λ (xs : List ℕ). Writes xs out to after next) told w

-- the code tests for the last slice by its number, k of n
pub last_told : (k n : ℕ) → k < n → eqb (k + 1) n ≡ eqb (n - (k + 1)) 0
last_told k n h = go (eqb (k + 1) n) refl
  where
    go : (b : Bool) → eqb (k + 1) n ≡ b → eqb (k + 1) n ≡ eqb (n - (k + 1)) 0
    go true e = e ∙ sym (eq-eqb (n - (k + 1)) 0 (omega (arith, eqb-true (k + 1) n e)))
    go false e = e ∙ sym (ne_eqb (n - (k + 1)) 0 (λ q. eqb-false (k + 1) n e (omega arith)))

-- ---- the loop over a record's slices

-- the header and the user bits from lane `from` on
abbrev pub user_from : Shape → ℕ → ℕ → ℕ
user_from t from u = u / 2 ^ (from * t.user)

above_both : (a v : ℕ) (h : Header) → above v (above a h) ≡ above (a + v) h
above_both a v h = rw (shr-shr h.keep a v, shr-shr h.strb a v) refl

user_both : (t : Shape) (a u : ℕ) → user_above t (user_from t a u) ≡ user_from t (a + t.width) u
user_both t a u =
    shr-shr u (a * t.user) (t.width * t.user) ∙ ap (λ (n : ℕ). u / 2 ^ n) (omega (arith, add-mul a t.width t.user))

-- of the record's octets those of j slices, from lane `from` on, are to be written
pub record Slicing (t : Shape) (rec : List ℕ) (h : Header) (u : ℕ) (out₀ : List ℕ) (at : ℕ) (all out : List ℕ) (to j from : ℕ) : Type 0 where
  pub few : from + j * t.width ≤ width_most
  pub within : head_octets + (from + j * t.width) ≤ length rec
  pub unreserved : Unreserved (j * t.width) (above from h)
  pub same : length out ≡ length out₀
  pub room : to + length (slices_left t (above from h) (user_from t from u) (drop (head_octets + from) rec) j) ≤ length out
  pub writes :
      (before whole rest : List ℕ) → Writing before out₀ at whole (all ++ rest)
      → Writing before out to whole (slices_left t (above from h) (user_from t from u) (drop (head_octets + from) rec) j ++ rest)

module _ {s t : Shape} {rec out : List ℕ} {at : ℕ} (f : RecordFits s t rec out at) (h : Header) (e : h ≡ header_of rec) (u : ℕ) (ue : u ≡ user_number s rec) where
  all_left : record_slices s t rec ≡ slices_left t (above 0 h) (user_from t 0 u) (drop (head_octets + 0) rec) (s.width / t.width)
  all_left =
      record-slices s t rec f.cuts
      ∙ ap (slices_left t (header_of rec) (user_number s rec) (drop head_octets rec)) (slices_more s.width t.width f.cuts.whole f.cuts.low)
      ∙ rw (e, ue, zero-mul t.user, div-one (tkeep rec), div-one (tstrb rec), div-one (user_number s rec)) refl

  pub slicing_starts : (j from : ℕ) → j ≡ s.width / t.width → from ≡ 0 → Slicing t rec h u out at (record_slices s t rec) out at j from
  slicing_starts j from n z =
      let w : s.width / t.width * t.width ≡ s.width = omega (arith, div-add-mod' s.width t.width, f.cuts.whole) in
      rw (n, z)
      (record {
        few = omega (arith, w, f.cuts.high);
        within = omega (arith, w, f.whole, size_is s);
        unreserved = rw (w, e, div-one (tkeep rec), div-one (tstrb rec)) f.sound;
        same = refl;
        room = rw (← all_left) f.room;
        writes = λ before whole rest g. rw (← all_left) g;
      })

module _ {t : Shape} {rec : List ℕ} {h : Header} {u : ℕ} {out₀ : List ℕ} {at : ℕ} {all out : List ℕ} {to j from : ℕ} (s : Slicing t rec h u out₀ at all out to j from) where
  -- the next slice, before i more
  module _ (i : ℕ) (more : j ≡ suc i) where
    lanes : i * t.width + t.width ≡ j * t.width
    lanes = rw more (omega (arith, suc-mul i t.width))

    pub slicing_lanes : head_octets + from + t.width ≤ length rec
    slicing_lanes = omega (arith, s.within, lanes)

    pub slicing_unreserved : Unreserved t.width (above from h)
    slicing_unreserved = lowest_unreserved t.width (j * t.width) (above from h) (omega (arith, lanes)) s.unreserved

    module _ (last : Bool) (is : last ≡ eqb i 0) where
      abbrev this : List ℕ
      this = octets_of t.user (slice_of t (above from h) (user_from t from u) (drop (head_octets + from) rec) (cond last (odd h.flags) false))

      abbrev later : List ℕ
      later = slices_left t (above (from + t.width) h) (user_from t (from + t.width) u) (drop (head_octets + (from + t.width)) rec) i

      split : slices_left t (above from h) (user_from t from u) (drop (head_octets + from) rec) j ≡ this ++ later
      split =
          let there : head_octets + from + t.width ≡ head_octets + (from + t.width) = omega arith in
          rw more
          (slices-next t (above from h) (user_from t from u) (drop (head_octets + from) rec) i (cond last (odd h.flags) false) (rw is refl)
          ∙ ap (λ (xs : List ℕ). this ++ xs) (rw (above_both from t.width h, user_both t from u, drop-drop t.width (head_octets + from) rec, there) refl))

      split_long : length (slices_left t (above from h) (user_from t from u) (drop (head_octets + from) rec) j) ≡ size t + length later
      split_long =
          ap length split ∙ length-append this later
          ∙ ap (λ (n : ℕ). n + length later) (slice_long t (above from h) (user_from t from u) (drop (head_octets + from) rec) (cond last (odd h.flags) false))

      pub slicing_room : to + size t ≤ length out
      slicing_room = omega (arith, s.room, split_long)

      pub slicing_next : (after : List ℕ) (next past : ℕ) → next ≡ to + size t → past ≡ from + t.width → length after ≡ length out → Writes this out to after next
          → Slicing t rec h u out₀ at all after next i past
      slicing_next after next past n p l w =
          rw p
          (record {
            few = omega (arith, s.few, lanes);
            within = omega (arith, s.within, lanes);
            unreserved =
                subst (Unreserved (i * t.width)) (above_both from t.width h)
                (above_unreserved t.width (i * t.width) (above from h) (subst (λ (m : ℕ). Unreserved m (above from h)) (sym lanes) s.unreserved));
            same = l ∙ s.same;
            room = omega (arith, s.room, split_long);
            writes =
                λ before whole rest f.
                w before whole (later ++ rest)
                (subst (λ (xs : List ℕ). Writing before out to whole xs) (ap (λ (xs : List ℕ). xs ++ rest) split ∙ append_assoc this later rest)
                (s.writes before whole rest f));
          })

  -- none is left
  pub slicing_done : j ≡ 0 → Writes all out₀ at out to
  slicing_done e before whole rest f = rw e at (s.writes before whole rest f)
