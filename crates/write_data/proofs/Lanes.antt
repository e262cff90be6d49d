-- The strobes of a record octet by octet: strays and high strobes of one octet more, and of all lanes of the bus. Assumes nothing.
use Rattle.std.specs.Int.RustNames.{count_ones}
use Rattle.std.specs.List.{sum_by}
use Rattle.std.proofs.lemmas.List.{take_all}
use Rattle.std.proofs.lemmas.List.Sums.{sum_by_more}
use mathlib.Core.Bool.{Bool, true, false, not, ◌&&◌, ◌||◌}
use mathlib.Core.List.{List}
use mathlib.Core.Path.{◌≡◌, refl, sym, ap, ap₂, ◌∙◌}
use Prim.Native.Nat.{ℕ, zero, suc, ◌+◌, ◌-◌, ◌*◌, ◌≤◌, ◌<◌}
use native.Mathlib.Nat.{zero-add, add_comm}
use native.Mathlib.Numerals.{add-one}
use native.Mathlib.Omega.{arith}
use lib.ListN.{length, take, drop, get_or, length-drop}
use lib.Seq.{length-take-le, get_or-take, get_or-drop}
use Rattle.stream_spec.specs.Layout.{bit}
use Rattle.burst_spec.specs.declared.Beat.{Beat}
use Rattle.burst_spec.specs.declared.Burst.{Burst}
use Rattle.burst_spec.specs.Address.{beat_of}
use Rattle.burst_spec.specs.Checks.{between, some_below}
use Rattle.burst_spec.proofs.Below.{none_below, found_below}
use Rattle.write_data_spec.specs.Layout.{lanes_each, strobe_octets, strobe, count_below, high_strobes}
use Rattle.write_data.specs.Scan.{BeatRecord, octet_stray, stray_below, octet_high}
use Rattle.write_data.proofs.Octets.{high-ones}
use Rattle.write_data.proofs.Fields.{size_is, strobe-at, sound-above}
use Rattle.write_data_spec.proofs.Sums.{some_at, some-add, some_same, count_add, count_same, count_none, count_most}

-- whether a lane lies outside these lanes, and whether its strobe is high and it does
abbrev outside : ℕ → ℕ → ℕ → Bool
outside lower upper x = not (between lower upper x)

abbrev strays : List ℕ → ℕ → ℕ → ℕ → Bool
strays r lower upper x = strobe r x && outside lower upper x

-- ---- one octet more: octet i of the strobes, which are all octets of a record but its first, is of the lanes from 8 * i on

-- the strobes of a record
abbrev pub wstrb : List ℕ → List ℕ
wstrb r = take (length r - 1) (drop 1 r)

pub wstrb_length : (r : List ℕ) → length (wstrb r) ≡ length r - 1
wstrb_length r = length-take-le (length r - 1) (drop 1 r) (omega (arith, length-drop 1 r))

module _ (r : List ℕ) (i : ℕ) (within : i < length (wstrb r)) where
  more : 8 * (i + 1) ≡ 8 * i + 8
  more = omega arith

  octet-is : get_or (wstrb r) i 0 ≡ get_or r (1 + i) 0
  octet-is = get_or-take (length r - 1) (drop 1 r) i 0 (omega (arith, wstrb_length r)) ∙ get_or-drop 1 r i 0

  octet-strobe : (x : ℕ) → x < 8 → strobe r (8 * i + x) ≡ bit x (get_or (wstrb r) i 0)
  octet-strobe x l = strobe-at r i x l ∙ ap (bit x) (sym octet-is)

  pub stray_more : (lower upper : ℕ) → stray_below (8 * (i + 1)) r lower upper
      ≡ (octet_stray (get_or (wstrb r) i 0) (8 * i) lower upper || stray_below (8 * i) r lower upper)
  stray_more lower upper =
      ap (λ (n : ℕ). stray_below n r lower upper) more
      ∙ some-add (8 * i) 8 (strays r lower upper)
      ∙ ap (λ (t : Bool). t || stray_below (8 * i) r lower upper)
      (some_same 8 (λ x. strays r lower upper (8 * i + x)) (λ x. bit x (get_or (wstrb r) i 0) && outside lower upper (8 * i + x))
      (λ x l. ap (λ (t : Bool). t && outside lower upper (8 * i + x)) (octet-strobe x l)))

  pub high_more : count_below (8 * (i + 1)) (strobe r) ≡ octet_high (get_or (wstrb r) i 0) + count_below (8 * i) (strobe r)
  high_more =
      ap (λ (n : ℕ). count_below n (strobe r)) more
      ∙ count_add (8 * i) 8 (strobe r)
      ∙ ap (λ (n : ℕ). n + count_below (8 * i) (strobe r))
      (count_same 8 (λ x. strobe r (8 * i + x)) (λ x. bit x (get_or (wstrb r) i 0)) octet-strobe)

-- a stray among some lanes is one among more
pub stray_kept : (r : List ℕ) (lower upper n m : ℕ) → n ≤ m → stray_below n r lower upper ≡ true → stray_below m r lower upper ≡ true
stray_kept r lower upper n m h e =
    let found = found_below n (strays r lower upper) e in
    some_at m (strays r lower upper) found.0 (omega (arith, found.1)) found.2

-- ---- all octets: the lanes of the bus, and above it nothing

module _ (bus : ℕ) (r : List ℕ) (h : BeatRecord bus r) where
  all : 8 * (length r - 1) ≡ bus + (lanes_each * strobe_octets bus - bus)
  all = omega (arith, h.long, size_is bus)

  pub stray_all : (lower upper : ℕ) → stray_below (8 * (length r - 1)) r lower upper ≡ stray_below bus r lower upper
  stray_all lower upper =
      ap (λ (n : ℕ). stray_below n r lower upper) all
      ∙ some-add bus (lanes_each * strobe_octets bus - bus) (strays r lower upper)
      ∙ ap (λ (t : Bool). t || stray_below bus r lower upper)
      (none_below (lanes_each * strobe_octets bus - bus) (λ x. strays r lower upper (bus + x))
      (λ x l. ap (λ (t : Bool). t && outside lower upper (bus + x)) (sound-above bus r h.sound x l)))

  pub high-all : count_below (8 * (length r - 1)) (strobe r) ≡ high_strobes bus r
  high-all =
      ap (λ (n : ℕ). count_below n (strobe r)) all
      ∙ count_add bus (lanes_each * strobe_octets bus - bus) (strobe r)
      ∙ ap (λ (n : ℕ). n + count_below bus (strobe r))
      (count_none (lanes_each * strobe_octets bus - bus) (λ x. strobe r (bus + x)) (sound-above bus r h.sound))
      ∙ zero-add (count_below bus (strobe r))

-- the strays of beat k, as the code finds them: among all octets, and by the lanes of the beat that it asks for
pub stray-told : (b : Burst) (k : ℕ) (r : List ℕ) → BeatRecord b.bus r → (y : Beat) → y ≡ beat_of b k
    → (t : Bool) → t ≡ stray_below (8 * (length r - 1)) r y.lower y.upper → t ≡ stray_below b.bus r (beat_of b k).lower (beat_of b k).upper
stray-told b k r h y e t f =
    f ∙ stray_all b.bus r h y.lower y.upper ∙ ap (λ (z : Beat). stray_below b.bus r z.lower z.upper) e

-- ---- the loop over a record's strobes: up to octet i no strobe is a stray

pub passing_start : (r : List ℕ) (lower upper : ℕ) → stray_below (8 * 0) r lower upper ≡ false
unfolding some_below
passing_start r lower upper = refl

module _ (r : List ℕ) (lower upper i : ℕ) (none : stray_below (8 * i) r lower upper ≡ false) where
  module _ (within : i < length (wstrb r)) (t : Bool) (told : t ≡ octet_stray (get_or (wstrb r) i 0) (8 * i) lower upper) where
    next : stray_below (8 * (i + 1)) r lower upper ≡ (t || stray_below (8 * i) r lower upper)
    next = stray_more r i within lower upper ∙ ap (λ (b : Bool). b || stray_below (8 * i) r lower upper) (sym told)

    pub passing_found : t ≡ true → true ≡ stray_below (8 * (length r - 1)) r lower upper
    passing_found e =
        sym
        (stray_kept r lower upper (8 * (i + 1)) (8 * (length r - 1)) (omega (arith, wstrb_length r))
        (next ∙ ap (λ (b : Bool). b || stray_below (8 * i) r lower upper) e))

    pub passing_next : t ≡ false → stray_below (8 * (i + 1)) r lower upper ≡ false
    passing_next e = next ∙ ap₂ (λ (a b : Bool). a || b) e none

  pub passing_end : i ≡ length (wstrb r) → false ≡ stray_below (8 * (length r - 1)) r lower upper
  passing_end h = sym (ap (λ (n : ℕ). stray_below (8 * n) r lower upper) (sym (h ∙ wstrb_length r)) ∙ none)

-- ---- the sum over a record's strobes

module _ (bus : ℕ) (r : List ℕ) (h : BeatRecord bus r) (octets : (i : ℕ) → get_or r i 0 < 256) where
  ones-so_far : (n : ℕ) → n ≤ length (wstrb r) → sum_by count_ones (take n (wstrb r)) ≡ count_below (8 * n) (strobe r)
  unfolding count_below
  ones-so_far zero l = refl
  ones-so_far (suc n) l =
      let small : get_or (wstrb r) n 0 < 256 = rw (octet-is r n (omega arith)) (octets (1 + n)) in
      ap (λ (m : ℕ). sum_by count_ones (take m (wstrb r))) (sym (add-one n))
      ∙ sum_by_more count_ones (wstrb r) n 0 (omega arith)
      ∙ add_comm (sum_by count_ones (take n (wstrb r))) (count_ones (get_or (wstrb r) n 0))
      ∙ ap₂ (λ (x y : ℕ). x + y) (high-ones (get_or (wstrb r) n 0) small) (ones-so_far n (omega arith))
      ∙ sym (high_more r n (omega arith))
      ∙ ap (λ (m : ℕ). count_below (8 * m) (strobe r)) (add-one n)

  pub ones-all : sum_by count_ones (wstrb r) ≡ high_strobes bus r
  ones-all =
      ap (sum_by count_ones) (sym (take_all (length (wstrb r)) (wstrb r) (omega arith)))
      ∙ ones-so_far (length (wstrb r)) (omega arith)
      ∙ ap (λ (n : ℕ). count_below (8 * n) (strobe r)) (wstrb_length r)
      ∙ high-all bus r h

  -- no more high strobes than lanes
  pub ones_most : sum_by count_ones (wstrb r) ≤ bus
  ones_most = rw ones-all (count_most bus (strobe r))
