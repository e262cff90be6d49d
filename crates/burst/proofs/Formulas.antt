-- The formulas that the code works out are the definitions, and no number on the way is too large. Assumes nothing.
use mathlib.Core.Bool.{false}
use mathlib.Core.Path.{◌≡◌, refl, sym, ap, ◌∙◌}
use Prim.Native.Nat.{ℕ, zero, suc, ◌+◌, ◌*◌, ◌%◌, ◌^◌, ◌≤◌, ◌<◌}
use native.Mathlib.Nat.{mod-add-mod, mod-lt}
use native.Mathlib.Omega.{arith}
use lib.Dec.{ltb}
use lib.Pow.{pow_pos, pow-add, pow_mono}
use Rattle.burst_spec.specs.declared.Burst.{Burst}
use Rattle.burst_spec.specs.declared.Kind.{Kind}
use Rattle.burst_spec.specs.declared.Kind.TheVariants.{Incr, Wrap}
use Rattle.burst_spec.specs.Address.{round_down, highest_byte, incr_address, address_by, beats, bytes, beat_address}
use Rattle.burst_spec.specs.Checks.{block, bus_most, crosses, crosses_by, count_allowed, misaligned}
use Rattle.burst_spec.specs.Legal.{Power, Legal, Accepted}
use Rattle.burst_spec.proofs.Known.{known, UpTo, wrap_power, size_small, span_small}
use Rattle.burst_spec.proofs.Rounding.{power_positive, highest_quotient, same_memory}
use Rattle.burst_spec.proofs.Block.{block_bits, incr_crosses, only_incr, address-block}
use Rattle.burst_spec.proofs.Wrap.{wrap_aligned, wrap_closed}

-- how many bits an `Address` has: the proofs say it here and nowhere else (T-10: 64)
abbrev pub address_bits : ℕ
address_bits = 32

-- a bound, carried along an equation
pub lt_by : {a b w : ℕ} → a ≡ b → b < w → a < w
lt_by e h = rw e h

pub power : (i : ℕ) → Power (2 ^ i)
power i = record { log = i; is = refl }

module _ (x : Burst) (l : Legal x) where
  pub bus-is_power : Power x.bus
  bus-is_power = record { log = (known x l).bus.log; is = (known x l).bus.is }

  -- a lane of the bus is a small number
  pub lane-small : (a : ℕ) → a % x.bus < bus_most
  lane-small a =
      omega (arith, mod-lt a (power_positive bus-is_power), (known x l).bus.is, pow_mono (known x l).bus.small)

  -- the 4KB test
  pub other-kind-inside : (m : Kind) → x.kind ≡ m → (m ≡ Incr → ⊥) → false ≡ crosses x
  other-kind-inside m e h = sym (only_incr x l (λ f. h (sym e ∙ f)))

  pub incr_test : x.kind ≡ Incr → (first b : ℕ) → first ≡ round_down x.start b → b ≡ bytes x
      → ltb block (first % block + beats x * b) ≡ crosses x
  incr_test e first b f g =
      rw (f, g)
      (sym (ap (λ m. crosses_by m x.start (bytes x) (beats x)) e
      ∙ incr_crosses x.start x.size (omega (arith, size_small x l)) (beats x) (omega arith)))

  -- a wrapping burst's container is a power of two
  pub container_power : x.kind ≡ Wrap → Power (bytes x * beats x)
  container_power e = go (wrap_power (beats x) (ap (λ m. count_allowed m (beats x)) (sym e) ∙ (known x l).count))
    where
      go : UpTo 4 (beats x) → Power (bytes x * beats x)
      go p = record { log = x.size + p.log; is = ap (λ n. bytes x * n) p.is ∙ sym (pow-add 2 x.size p.log) }

  -- the offset before it goes round
  pub offset_small : x.kind ≡ Wrap → (k : ℕ) → k ≤ beats x → x.start % (bytes x * beats x) + k * bytes x < 65536
  offset_small e k h =
      omega (
        arith,
        mod-lt x.start (power_positive (container_power e)),
        span_small x l k h,
        span_small x l (beats x) (omega arith),
      )

-- the addresses, by kind
module _ (x : Burst) (k : ℕ) where
  pub at-kind : (m : Kind) → x.kind ≡ m → address_by m x.start (bytes x) (beats x) k ≡ beat_address x k
  at-kind m e = ap (λ n. address_by n x.start (bytes x) (beats x) k) (sym e)

  pub incr_first : x.kind ≡ Incr → k ≡ 0 → x.start ≡ beat_address x k
  unfolding address_by incr_address
  incr_first e z = ap (λ j. incr_address x.start (bytes x) j) (sym z) ∙ at-kind Incr e

  pub incr_later : x.kind ≡ Incr → (k ≡ 0 → ⊥) → round_down x.start (bytes x) + k * bytes x ≡ beat_address x k
  unfolding address_by incr_address
  incr_later e z = go k z ∙ at-kind Incr e
    where
      go : (j : ℕ) → (j ≡ 0 → ⊥) → round_down x.start (bytes x) + j * bytes x ≡ incr_address x.start (bytes x) j
      go zero h = absurd (h refl)
      go (suc j) h = refl

  pub wrap_formula : Legal x → x.kind ≡ Wrap
      → round_down x.start (bytes x * beats x) + (x.start % (bytes x * beats x) + k * bytes x) % (bytes x * beats x) ≡ beat_address x k
  unfolding address_by
  wrap_formula l e =
      ap (λ o. round_down x.start (bytes x * beats x) + o) (mod-add-mod x.start (bytes x * beats x) (k * bytes x))
      ∙ sym (wrap_closed x.start (bytes x) (beats x) (pow_pos x.size) (omega arith) (wrap_aligned x.start (bytes x) start) k)
      ∙ at-kind Wrap e
    where
      start : misaligned Wrap x.start (bytes x) ≡ false
      start = ap (λ m. misaligned m x.start (bytes x)) (sym e) ∙ l.start

  -- an address of the burst lies in the memory of 2 ^ w bytes that the start lies in, and so does the highest byte of a beat
  pub address-fits : (w : ℕ) → block_bits ≤ w → x.start < 2 ^ w → Accepted x → k < beats x → beat_address x k < 2 ^ w
  address-fits w h s y l = same_memory {i = block_bits} w (beat_address x k) x.start h s (address-block x y k l)

pub highest_fits : (w i a : ℕ) → i ≤ w → a < 2 ^ w → highest_byte a (2 ^ i) < 2 ^ w
highest_fits w i a h l = same_memory w (highest_byte a (2 ^ i)) a h l (highest_quotient a (2 ^ i) (pow_pos i))
