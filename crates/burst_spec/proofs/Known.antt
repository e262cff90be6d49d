-- What is known of a burst that none of 7 to 11 refuses, as facts on numbers. Assumes nothing.
use mathlib.Core.Bool.{Bool, true, false, not, ◌||◌}
use mathlib.Core.List.{List, [], ◌∷◌}
use mathlib.Core.Path.{◌≡◌, refl, sym, ap, ◌∙◌}
use Prim.Native.Nat.{ℕ, ◌*◌, ◌^◌, ◌≤◌, ◌<◌}
use native.Mathlib.Decide.{dec_lt}
use native.Mathlib.Nat.{mul-le-mul_right}
use native.Mathlib.Omega.{arith}
use lib.Dec.{ltb, eqb}
use lib.Pow.{pow-lt, pow_mono}
use borrow.Author.Tests.{ltb-false, eqb-true, not-false}
use Rattle.burst_spec.specs.declared.Burst.{Burst}
use Rattle.burst_spec.specs.declared.Kind.TheVariants.{Wrap}
use Rattle.burst_spec.specs.Address.{beats, bytes}
use Rattle.burst_spec.specs.Checks.{among, axsize_most, axlen_most, bus_allowed, count_allowed, count_refused, too_wide}
use Rattle.burst_spec.specs.Legal.{Legal}

-- two constructors are never equal: `cc` finds this path from any two that are said to be
pub clash : true ≡ false → ⊥
clash e = let z : ◌≡◌ {A = ℕ} 0 1 = cc in omega arith

pub or-false : (a b : Bool) → (a || b) ≡ false → (a ≡ false) × (b ≡ false)
or-false true b e = absurd (clash cc)
or-false false b e = (refl, e)

-- a property of every number of a list is one of whatever is among them
abbrev pub Each : (ℕ → Type 0) → List ℕ → Type 0
Each P [] = Unit
Each P (y ∷ ys) = P y × Each P ys

pub among-each : (P : ℕ → Type 0) (x : ℕ) (ys : List ℕ) → Each P ys → among x ys ≡ true → P x
among-each P x [] ps e = absurd (clash cc)
among-each P x (y ∷ ys) ps e = go (eqb x y) refl (among-each P x ys ps.1)
  where
    go : (t : Bool) → eqb x y ≡ t → (among x ys ≡ true → P x) → P x
    go true f rest = rw (eqb-true x y f) ps.0
    go false f rest = rest (sym (ap (λ b. b || among x ys) f) ∙ e)

-- the power of two that a number is, at most 2 ^ n
pub record UpTo (n x : ℕ) : Type 0 where
  pub log : ℕ
  pub is : x ≡ 2 ^ log
  pub small : log ≤ n

up_to : (n log : ℕ) → log ≤ n → UpTo n (2 ^ log)
up_to n k h = record { log = k; is = refl; small = h }

pub bus_power : (bus : ℕ) → bus_allowed bus ≡ true → UpTo 7 bus
unfolding bus_allowed
bus_power bus =
    among-each (UpTo 7) bus (1 ∷ 2 ∷ 4 ∷ 8 ∷ 16 ∷ 32 ∷ 64 ∷ 128 ∷ []) (
      up_to 7 0 (omega arith),
      (
        up_to 7 1 (omega arith),
        (
          up_to 7 2 (omega arith),
          (
            up_to 7 3 (omega arith),
            (up_to 7 4 (omega arith), (up_to 7 5 (omega arith), (up_to 7 6 (omega arith), (up_to 7 7 (omega arith), tt)))),
          ),
        ),
      ),
    )

pub wrap_power : (n : ℕ) → count_allowed Wrap n ≡ true → UpTo 4 n
unfolding count_allowed
wrap_power n =
    among-each (UpTo 4) n (2 ∷ 4 ∷ 8 ∷ 16 ∷ [])
    (up_to 4 1 (omega arith), (up_to 4 2 (omega arith), (up_to 4 3 (omega arith), (up_to 4 4 (omega arith), tt))))

-- exponents are in the order of their powers
pub log_le : (i j : ℕ) → 2 ^ i ≤ 2 ^ j → i ≤ j
log_le i j h = elim (dec_lt j i) [ yes l ↦ absurd (go l (pow-lt l)) | no n ↦ omega arith ]
  where
    go : j < i → 2 ^ j < 2 ^ i → ⊥
    go l p = omega arith

pub record Known (x : Burst) : Type 0 where
  pub bus : UpTo 7 x.bus
  pub narrow : x.size ≤ bus.log
  pub few : x.len ≤ axlen_most
  pub count : count_allowed x.kind (beats x) ≡ true

module _ (x : Burst) where
  pub size-known : too_wide x ≡ false → (x.size ≤ axsize_most) × (bytes x ≤ x.bus)
  size-known e =
      let h : (ltb axsize_most x.size ≡ false) × (ltb x.bus (bytes x) ≡ false) = or-false _ _ e in
      (ltb-false axsize_most x.size h.0, ltb-false x.bus (bytes x) h.1)

  count-known : count_refused x ≡ false → (x.len ≤ axlen_most) × (count_allowed x.kind (beats x) ≡ true)
  count-known e =
      let h : (ltb axlen_most x.len ≡ false) × (not (count_allowed x.kind (beats x)) ≡ false) = or-false _ _ e in
      (ltb-false axlen_most x.len h.0, not-false _ h.1)

  pub known : Legal x → Known x
  known l = go (bus_power x.bus l.bus) (size-known l.size) (count-known l.count)
    where
      go : UpTo 7 x.bus → (x.size ≤ axsize_most) × (bytes x ≤ x.bus) → (x.len ≤ axlen_most) × (count_allowed x.kind (beats x) ≡ true) → Known x
      go p s c =
          record { bus = p; narrow = log_le x.size p.log (rw p.is at s.1); few = c.0; count = c.1 }

  pub size_small : Legal x → x.size ≤ axsize_most
  size_small l = (size-known l.size).0

  pub bytes_small : Legal x → bytes x ≤ 128
  bytes_small l = pow_mono (size_small l)

  -- so many beats have few bytes
  pub span_small : Legal x → (k : ℕ) → k ≤ beats x → k * bytes x ≤ 32768
  span_small l k h =
      omega (arith, (count-known l.count).0, bytes_small l, mul-le-mul_right (bytes x) h, mul-le-mul_right (bytes x) (le_beats l))
    where
      le_beats : Legal x → beats x ≤ 256
      le_beats l = omega (arith, (count-known l.count).0)
