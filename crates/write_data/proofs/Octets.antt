-- The strobes of one octet: which of its bits are high, told by its remainder and its size. Assumes nothing.
use Rattle.std.specs.Int.RustNames.{count_ones}
use mathlib.Core.Bool.{Bool, true, false, not, ◌&&◌, and-false}
use mathlib.Core.Path.{◌≡◌, refl, sym, ap, ◌∙◌}
use Prim.Native.Nat.{ℕ, zero, suc, ◌+◌, ◌-◌, ◌*◌, ◌/◌, ◌%◌, ◌^◌, ◌≤◌, ◌<◌, min}
use native.Mathlib.Decide.{dec_le, dec_lt}
use native.Mathlib.Nat.{pow-suc}
use native.Mathlib.Omega.{arith}
use borrow.Author.Tests.{eqb-true, eqb-false, ne_eqb, le-leb, lt-leb, leb-true, leb-false, not-false}
use lib.Arith.{mod-mul}
use lib.Dec.{leb, eqb}
use lib.Pow.{pow_pos}
use Rattle.stream_spec.specs.Layout.{bit, odd}
use Rattle.stream_spec.specs.Promises.{SetAbove}
use Rattle.stream_spec.proofs.Bits.{bit-zero, bit-suc}
use Rattle.stream_spec.proofs.Bools.{no_such}
use Rattle.stream_spec.proofs.Promises.{field_bits}
use Rattle.stream_record.proofs.Field.{shifted}
use Rattle.burst_spec.specs.Checks.{between, some_below}
use Rattle.burst_spec.proofs.Below.{none_below, each_below}
use Rattle.write_data_spec.specs.Layout.{count_below}
use Rattle.write_data.specs.Scan.{octet_stray, octet_high}
use Rattle.write_data_spec.proofs.Sums.{some_at}

-- ---- bits below and above a place

halved : (k n : ℕ) → n % 2 ^ suc k ≡ n / 2 % 2 ^ k * 2 + n % 2
halved k n = ap (λ (x : ℕ). n % x) (pow-suc 2 k) ∙ mod-mul n (pow_pos k) (omega arith)

-- no remainder, no bit below
pub low-none : (k n : ℕ) → n % 2 ^ k ≡ 0 → (x : ℕ) → x < k → bit x n ≡ false
low-none zero n e x l = absurd (omega arith)
low-none (suc k) n e zero l = bit-zero n ∙ ne_eqb (n % 2) 1 (λ f. omega (arith, halved k n))
low-none (suc k) n e (suc x) l = bit-suc x n ∙ low-none k (n / 2) (omega (arith, halved k n)) x (omega arith)

-- a remainder, some bit below
pub low-some : (k n : ℕ) → (n % 2 ^ k ≡ 0 → ⊥) → (x : ℕ) × (x < k) × (bit x n ≡ true)
low-some zero n h = absurd (h (omega arith))
low-some (suc k) n h = go (odd n) refl (low-some k (n / 2))
  where
    go : (t : Bool) → odd n ≡ t → ((n / 2 % 2 ^ k ≡ 0 → ⊥) → (x : ℕ) × (x < k) × (bit x (n / 2) ≡ true)) → (x : ℕ) × (x < suc k) × (bit x n ≡ true)
    go true e half = (0, omega arith, bit-zero n ∙ e)
    go false e half =
        let even = eqb-false (n % 2) 1 e in
        let found = half (λ f. h (omega (arith, halved k n))) in
        (suc found.0, omega (arith, found.1), bit-suc found.0 n ∙ found.2)

-- a number below 2 ^ k has no bit at or above k
pub high-none : (k n : ℕ) → n < 2 ^ k → (x : ℕ) → k ≤ x → bit x n ≡ false
high-none k n h x l = go (bit x n) refl
  where
    go : (t : Bool) → bit x n ≡ t → t ≡ false
    go true e = let low = (field_bits k n).1 (record { place = x; above = l; high = e }) in absurd (omega arith)
    go false e = refl

-- one that is not has such a bit, below 8 where it is an octet
pub high-some : (k n : ℕ) → n < 256 → 2 ^ k ≤ n → (x : ℕ) × (k ≤ x) × (x < 8) × (bit x n ≡ true)
high-some k n small h = go ((field_bits k n).0 h)
  where
    go : SetAbove k n → (x : ℕ) × (k ≤ x) × (x < 8) × (bit x n ≡ true)
    go s =
        elim (dec_lt s.place 8) [
          | yes l ↦ (s.place, s.above, l, s.high)
          | no l ↦ no_such (high-none 8 n (omega arith) s.place (omega arith)) s.high
        ]

-- ---- an octet's strays

module _ (octet lane lower upper : ℕ) where
  abbrev strays : ℕ → Bool
  strays x = bit x octet && not (between lower upper (lane + x))

  below_lower : (x : ℕ) → bit x octet ≡ true → lane + x < lower → strays x ≡ true
  below_lower x e h = rw (e, lt-leb lower (lane + x) h) refl

  above-upper : (x : ℕ) → bit x octet ≡ true → upper < lane + x → strays x ≡ true
  above-upper x e h = rw (e, lt-leb (lane + x) upper h, and-false) refl

  -- a strobe below the lower lane
  pub stray_low : (n : ℕ) → n ≡ min 8 (lower - lane) → (octet % 2 ^ n ≡ 0 → ⊥) → octet_stray octet lane lower upper ≡ true
  stray_low n e h =
      let found = low-some n octet h in
      some_at 8 strays found.0 (omega (arith, found.1)) (below_lower found.0 found.2 (omega (arith, found.1)))

  -- a strobe above the upper one
  pub stray_high : (n : ℕ) → n ≡ min 8 (upper + 1 - lane) → octet < 256 → 2 ^ n ≤ octet → octet_stray octet lane lower upper ≡ true
  stray_high n e small h =
      let found = high-some n octet small h in
      some_at 8 strays found.0 found.2 (above-upper found.0 found.3 (omega (arith, found.1, found.2)))

  inside : (x : ℕ) → lower ≤ lane + x → lane + x ≤ upper → strays x ≡ false
  inside x h l = rw (le-leb lower (lane + x) h, le-leb (lane + x) upper l, and-false) refl

  low_bit : (x : ℕ) → bit x octet ≡ false → strays x ≡ false
  low_bit x e = rw e refl

  -- no strobe is high
  pub stray_zero : octet ≡ 0 → octet_stray octet lane lower upper ≡ false
  stray_zero e = none_below 8 strays (λ x l. low_bit x (low-none 8 octet (rw e refl) x l))

  -- all lanes are inside
  pub stray_inside : lower ≤ lane → lane + 8 ≤ upper + 1 → octet_stray octet lane lower upper ≡ false
  stray_inside h l = none_below 8 strays (λ x m. inside x (omega arith) (omega arith))

  -- neither
  pub stray_none : (n m : ℕ) → n ≡ min 8 (lower - lane) → m ≡ min 8 (upper + 1 - lane) → octet % 2 ^ n ≡ 0 → octet < 2 ^ m
      → octet_stray octet lane lower upper ≡ false
  stray_none n m e f low high = none_below 8 strays each
    where
      each : (x : ℕ) → x < 8 → strays x ≡ false
      each x l =
          elim (dec_lt x n) [
            | yes a ↦ low_bit x (low-none n octet low x a)
            | no a ↦
                elim (dec_le m x) [ yes c ↦ low_bit x (high-none m octet high x c) | no c ↦ inside x (omega arith) (omega arith) ]
          ]

-- ---- the same as the code finds it: x is the octet as a wider number, and a one shifted by n places is 2 ^ n

module _ (octet lane lower upper x n : ℕ) (e : x ≡ octet) (small : x < 256) (below : n ≡ min 8 (lower - lane)) where
  pub told-low : (x % (1 * 2 ^ n % 4294967296) ≡ 0 → ⊥) → true ≡ octet_stray octet lane lower upper
  told-low h =
      sym (stray_low octet lane lower upper n below (λ f. h (rw (e, shifted n (omega arith)) f)))

  pub told-high : (m : ℕ) → m ≡ min 8 (upper + 1 - lane) → x % (1 * 2 ^ n % 4294967296) ≡ 0
      → leb (1 * 2 ^ m % 4294967296) x ≡ octet_stray octet lane lower upper
  told-high m end low = rw (e, shifted m (omega arith)) (go (leb (2 ^ m) octet) refl)
    where
      go : (t : Bool) → leb (2 ^ m) octet ≡ t → t ≡ octet_stray octet lane lower upper
      go true f = sym (stray_high octet lane lower upper m end (rw e at small) (leb-true (2 ^ m) octet f))
      go false f =
          sym
          (stray_none octet lane lower upper n m below end (rw (e, shifted n (omega arith)) at low) (leb-false (2 ^ m) octet f))

-- ---- an octet's high strobes

-- all 256 octets, by computing
every_octet : some_below 256 (λ o. not (eqb (count_ones o) (octet_high o))) ≡ false
unfolding some_below count_below count_ones
every_octet = refl

pub high-ones : (o : ℕ) → o < 256 → count_ones o ≡ octet_high o
high-ones o l =
    eqb-true (count_ones o) (octet_high o) (not-false (eqb (count_ones o) (octet_high o)) (each_below 256 (λ x. not (eqb (count_ones x) (octet_high x))) every_octet o l))
