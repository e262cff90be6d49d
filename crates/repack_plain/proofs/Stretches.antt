-- A stretch, record by record, with any number m of user bits to a byte: the room for each record in what is lent from its place on,
-- and what stands after it. Assumes nothing.
use Rattle.std.specs.Prelude.{Some}
use mathlib.Core.Path.{◌≡◌, refl, sym, ap, ◌∙◌, subst}
use mathlib.Core.Bool.{Bool, false}
use mathlib.Core.List.{List, [], ◌∷◌, ◌++◌, map, append_assoc, append-nil}
use Prim.Native.Nat.{ℕ, zero, suc, ◌+◌, ◌-◌, ◌/◌, ◌%◌, ◌≤◌, ◌<◌}
use native.Mathlib.Nat.{add-div_right, div-eq_of_lt}
use native.Mathlib.Numerals.{add-one}
use native.Mathlib.Omega.{arith}
use lib.ListN.{length, get_or, take, drop, length-append, length-drop, length-map}
use lib.Seq.{take-take, take-nil, drop-drop, drop-cons, length-take-le}
use Rattle.stream_spec.specs.Items.{Pair}
use Rattle.stream_spec.specs.Packed.{fitted}
use Rattle.stream_spec.specs.Layout.{size, shaped, octets_of}
use Rattle.stream_spec.proofs.Pack.{length-fitted}
use Rattle.stream_spec.proofs.Records.{octets_sized}
use Rattle.stream_spec.proofs.Memory.{lent-long, lent-writes, lent-rest}
use Rattle.stream_write.specs.Write.{header_octets}
use Rattle.repack_scratch.specs.Codes.{data_code, kept_of, pair_from}
use Rattle.stream_spec.specs.Memory.{Writing}
use Rattle.repack_plain.specs.declared.stretch.Cursor.{Cursor}
use Rattle.repack_plain.specs.declared.stretch.Head.{Head}
use Rattle.repack_plain.specs.Write.{record_of, record_at, stretch_octets, left_octets, RecordFits, StretchFits, StretchPut, Advanced}
use Rattle.repack_plain.proofs.Lanes.{data_octet, data_strobe}

-- ---- lists

drop-take : {A : Type 0} (v n : ℕ) (xs : List A) → v ≤ n → drop v (take n xs) ≡ take (n - v) (drop v xs)
drop-take zero n xs h = let all : n - 0 ≡ n = omega arith in rw all refl
drop-take (suc v) zero xs h = absurd (omega arith)
drop-take (suc v) (suc n) [] h = sym (take-nil (suc n - suc v))
drop-take (suc v) (suc n) (x ∷ xs) h = let less : suc n - suc v ≡ n - v = omega arith in rw less (drop-take v n xs (omega arith))

pub map-drop : {A B : Type 0} (f : A → B) (n : ℕ) (xs : List A) → drop n (map f xs) ≡ map f (drop n xs)
map-drop f zero xs = refl
map-drop f (suc n) [] = refl
map-drop f (suc n) (x ∷ xs) = map-drop f n xs

fitted-take : (v : ℕ) (xs : List ℕ) → fitted v (map Some (map kept_of xs)) ≡ fitted v (map Some (map kept_of (take v xs)))
fitted-take zero xs = refl
fitted-take (suc v) [] = refl
fitted-take (suc v) (x ∷ xs) = ap (λ l. Some (kept_of x) ∷ l) (fitted-take v xs)

-- ---- the records of a stretch

module _ (m v : ℕ) (pair : Pair) (codes : List ℕ) (last : Bool) (pos : 0 < v) where
  -- a full record, and the stretch without its items
  pub full_record : v < length codes
      → stretch_octets m v pair codes last ≡ octets_of m (record_of v pair (take v codes) false) ++ stretch_octets m v pair (drop v codes) last
  full_record h =
      let less : length codes - 1 ≡ length (drop v codes) - 1 + v = rw (length-drop v codes) (omega arith) in
      let count : (length codes - 1) / v ≡ suc ((length (drop v codes) - 1) / v) =
      ap (λ (n : ℕ). n / v) less ∙ add-div_right (length (drop v codes) - 1) pos ∙ add-one ((length (drop v codes) - 1) / v) in
      rw count
      (rw (fitted-take v codes, map-drop Some v (map kept_of codes), map-drop kept_of v codes) refl)

  -- the last record
  pub last_record : length codes ≤ v → stretch_octets m v pair codes last ≡ octets_of m (record_of v pair codes last) ++ []
  last_record h =
      let None : (length codes - 1) / v ≡ 0 = div-eq_of_lt (omega arith) in
      rw None refl

pub record_long : (m v : ℕ) (pair : Pair) (codes : List ℕ) (last : Bool) → length (octets_of m (record_of v pair codes last)) ≡ size (shaped v m)
record_long m v pair codes last =
    (octets_sized (shaped v m) (record_of v pair codes last ∷ []) (length-fitted v (map Some (map kept_of codes)), tt)).0

-- ---- what is lent from a place on

abbrev lent : List ℕ → ℕ → List ℕ
lent xs from = take (length xs - from) (drop from xs)

-- memory after it came back
abbrev lent_back : List ℕ → ℕ → List ℕ → List ℕ
lent_back out to part = take to out ++ (part ++ drop (length out - to) (drop to out))

-- it has room for what there is room for at its place
pub lent-room : (out : List ℕ) (to z : ℕ) → to + z ≤ length out → z ≤ length (lent out to)
lent-room out to z h = omega (arith, ap length (lent-rest out to), length-drop to out)

-- the codes of octets that are lent
pub lent_codes : (octets : List ℕ) (from : ℕ) → map data_code (lent octets from) ≡ drop from (map data_code octets)
lent_codes octets from = ap (map data_code) (lent-rest octets from) ∙ sym (map-drop data_code from octets)

-- octets with 32 behind them are held as codes
pub data_held : (octets : List ℕ) (n : ℕ) → n + 32 ≤ length octets → n ≤ length (map data_code octets)
data_held octets n h = omega (arith, length-map octets data_code)

-- ---- the loop over a stretch's records

-- the head of a record that is not its stretch's last
abbrev pub inside : Head → Head
inside head = record { pair = head.pair; last = false; fits = head.fits }

module _ (m v : ℕ) (head : Head) (codes out₀ : List ℕ) (c : Cursor) (f : StretchFits m v head codes out₀ c)
    (held : c.from + c.left ≤ length codes) (out : List ℕ) (r : Cursor) (a : Advanced m v head codes out₀ c out r) where
  codes_long : length (take r.left (drop r.from codes)) ≡ r.left
  codes_long = length-take-le r.left (drop r.from codes) (rw (length-drop r.from codes) (omega (arith, held, a.end)))

  -- a full record that is not the last
  module _ (h : v < r.left) where
    abbrev full : List ℕ
    full = record_at m v (inside head) codes r.from v

    -- what is left behind it
    abbrev later : List ℕ
    later = left_octets m v head codes (record { to = r.to; from = r.from + v; left = r.left - v })

    this_record : left_octets m v head codes r ≡ full ++ later
    this_record =
        full_record m v (pair_from head.pair) (take r.left (drop r.from codes)) head.last f.low (omega (arith, codes_long))
        ∙ rw (
          take-take v r.left (drop r.from codes) (omega arith),
          drop-take v r.left (drop r.from codes) (omega arith),
          drop-drop v r.from codes,
        ) refl

    full_long : length full ≡ size (shaped v m)
    full_long = record_long m v (pair_from head.pair) (take v (drop r.from codes)) false

    this_long : length (left_octets m v head codes r) ≡ size (shaped v m) + length later
    this_long = ap length this_record ∙ length-append full later ∙ ap (λ (n : ℕ). n + length later) full_long

    pub full-room : r.to + size (shaped v m) ≤ length out
    full-room = omega (arith, a.room, this_long)

    pub full_fits : RecordFits m v v (lent out r.to)
    full_fits =
        record {
          few = omega arith;
          low = f.low;
          high = f.high;
          room = lent-room out r.to (size (shaped v m)) full-room;
        }

    -- it is written in what is lent from its place on
    pub full-written : (z : ℕ) → z ≡ size (shaped v m) → (part : List ℕ) → part ≡ full ++ drop z (lent out r.to)
        → Advanced m v head codes out₀ c (lent_back out r.to part) (record { to = r.to + z; from = r.from + v; left = r.left - v })
    full-written z e part p =
        rw p
        (record {
          end = omega (arith, a.end);
          less = omega (arith, a.less);
          same = long ∙ a.same;
          room = omega (arith, a.room, this_long, long, e);
          writes =
              λ before whole rest w.
              lent-writes out full r.to z sized there (length out - r.to) refl before whole (later ++ rest)
              (subst (λ (xs : List ℕ). Writing before out r.to whole xs)
              (ap (λ (xs : List ℕ). xs ++ rest) this_record ∙ append_assoc full later rest) (a.writes before whole rest w));
        })
      where
        sized : length full ≡ z
        sized = full_long ∙ sym e

        there : r.to + z ≤ length out
        there = omega (arith, e, full-room)

        long : length (lent_back out r.to (full ++ drop z (lent out r.to))) ≡ length out
        long = lent-long out full r.to z sized there (length out - r.to) refl

  -- the last record
  module _ (h : r.left ≤ v) where
    abbrev ending : List ℕ
    ending = record_at m v head codes r.from r.left

    last_one : left_octets m v head codes r ≡ ending
    last_one =
        last_record m v (pair_from head.pair) (take r.left (drop r.from codes)) head.last f.low (omega (arith, codes_long))
        ∙ append-nil ending

    ending_long : length ending ≡ size (shaped v m)
    ending_long = record_long m v (pair_from head.pair) (take r.left (drop r.from codes)) head.last

    pub last-room : r.to + size (shaped v m) ≤ length out
    last-room = omega (arith, a.room, ap length last_one, ending_long)

    pub last_fits : RecordFits m v r.left (lent out r.to)
    last_fits =
        record { few = h; low = f.low; high = f.high; room = lent-room out r.to (size (shaped v m)) last-room }

    pub last_written : (z : ℕ) → z ≡ size (shaped v m) → (part : List ℕ) → part ≡ ending ++ drop z (lent out r.to)
        → StretchPut m v head codes out₀ c (lent_back out r.to part) (r.to + z)
    last_written z e part p =
        rw p
        (record {
          same = lent-long out ending r.to z sized there (length out - r.to) refl ∙ a.same;
          writes =
              λ before whole rest w.
              lent-writes out ending r.to z sized there (length out - r.to) refl before whole rest
              (subst (λ (xs : List ℕ). Writing before out r.to whole (xs ++ rest)) last_one (a.writes before whole rest w));
        })
      where
        sized : length ending ≡ z
        sized = ending_long ∙ sym e

        there : r.to + z ≤ length out
        there = omega (arith, e, last-room)

-- ---- a record of one lane, which is data

pub one_written : (head : Head) (d : ℕ) (octets tail : List ℕ) (from : ℕ) → from < length octets → d ≡ get_or octets from 0 → d < 256
    → header_octets 0 (head.pair % 256) (head.pair / 256) 1 1 ++ (d ∷ tail) ≡ record_at 0 1 (inside head) (map data_code octets) from 1 ++ tail
one_written head d octets tail from h e b =
    rw (map-drop data_code from octets, drop-cons octets from 0 h, ← e) (rw (data_octet d b, data_strobe d b) refl)
