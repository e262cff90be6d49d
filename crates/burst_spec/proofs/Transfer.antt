-- Arm's pseudo code gives our beats: the address and both lanes, at every beat of every burst that 7 to 11 leave. Assumes nothing.
use mathlib.Core.Bool.{Bool, true, false, cond}
use mathlib.Core.Path.{◌≡◌, refl, sym, ap, ◌∙◌}
use Prim.Native.Nat.{ℕ, zero, suc, ◌+◌, ◌-◌, ◌*◌, ◌/◌, ◌%◌, ◌^◌, ◌≤◌, ◌<◌}
use native.Mathlib.Omega.{arith}
use lib.Dec.{leb, eqb}
use lib.Pow.{pow_pos}
use borrow.Author.Tests.{eqb-true, eqb-false, eq-eqb, le-leb, lt-leb}
use Rattle.burst_spec.specs.declared.Burst.{Burst}
use Rattle.burst_spec.specs.declared.Kind.{Kind}
use Rattle.burst_spec.specs.declared.Kind.TheVariants.{Fixed, Incr, Wrap, Reserved}
use Rattle.burst_spec.specs.Address.{round_down, incr_address, wrap_address, wrap_boundary, address_by, beat_address, beat_of, beats, bytes, lower_lane, upper_lane}
use Rattle.burst_spec.specs.Checks.{count_allowed, misaligned}
use Rattle.burst_spec.specs.Legal.{Legal}
use Rattle.burst_spec.specs.Transfer.{Loop, enter, advance, loop_at, low_byte, high_byte, transfer_at, transfer}
use Rattle.burst_spec.proofs.Known.{clash, known, wrap_power}
use Rattle.burst_spec.proofs.Lanes.{InRow, in_row}
use Rattle.burst_spec.proofs.Rounding.{round_multiple, round_beats}
use Rattle.burst_spec.proofs.Wrap.{wrap_aligned, wrap_room, wrap_multiple}

-- What the loop's variables are as a beat begins: addr is the beat's address, a multiple of the beat's bytes if aligned is
-- true, and the start if not.
record Runs (s b address : ℕ) (l : Loop) : Type 0 where
  addr : l.addr ≡ address
  multiple : l.aligned ≡ true → round_down l.addr b ≡ l.addr
  first : l.aligned ≡ false → l.addr ≡ s

abbrev aligned_at : ℕ → Loop
aligned_at a = record { addr = a; aligned = true }

entered : (s b : ℕ) → Runs s b s (enter s b)
unfolding round_down
entered s b = record { addr = refl; multiple = eqb-true (s / b * b) s; first = λ e. refl }

running : (s b a : ℕ) → round_down a b ≡ a → Runs s b a (aligned_at a)
running s b a e = record { addr = refl; multiple = λ f. e; first = λ f. cc }

fixed_loop : (s b n k : ℕ) → loop_at Fixed s b n k ≡ enter s b
unfolding loop_at advance
fixed_loop s b n zero = refl
fixed_loop s b n (suc k) = fixed_loop s b n k

-- INCR: aligned from beat 1 on
incr_loop : (s b n k : ℕ) → loop_at Incr s b n (suc k) ≡ aligned_at (round_down s b + suc k * b)
unfolding loop_at advance round_down
incr_loop s b n zero = ap aligned_at (go (eqb (s / b * b) s) refl)
  where
    go : (t : Bool) → eqb (s / b * b) s ≡ t → cond t (s + b) (s / b * b + b) ≡ s / b * b + 1 * b
    go true e = omega (arith, eqb-true (s / b * b) s e)
    go false e = omega arith
incr_loop s b n (suc k) = ap (advance Incr s b n) (incr_loop s b n k) ∙ ap aligned_at (omega arith)

-- `>=` and "reaches" are the same where nothing goes past the boundary
reached : (a upper : ℕ) → a ≤ upper → leb upper a ≡ eqb a upper
reached a upper h = go (eqb a upper) refl
  where
    go : (t : Bool) → eqb a upper ≡ t → leb upper a ≡ t
    go true e = le-leb upper a (omega (arith, eqb-true a upper e))
    go false e = let ne : a ≡ upper → ⊥ = eqb-false a upper e in lt-leb upper a (omega (arith, ne))

wrap_loop : (s b n k : ℕ) → 0 < b → 0 < n → s % b ≡ 0 → loop_at Wrap s b n k ≡ aligned_at (wrap_address s b n k)
unfolding loop_at advance round_down wrap_address
wrap_loop s b n zero hb hn e =
    let whole : s / b * b ≡ s = unfold round_down in round_multiple s b e in
    rw (eq-eqb (s / b * b) s whole)
wrap_loop s b n (suc k) hb hn e =
    ap (advance Wrap s b n) (wrap_loop s b n k hb hn e)
    ∙ ap (λ t. aligned_at (cond t (wrap_boundary s b n) (wrap_address s b n k + b)))
    (reached (wrap_address s b n k + b) (wrap_boundary s b n + b * n) (wrap_room s b n hb hn e k))

module _ (s i n : ℕ) where
  wrap_runs : 0 < n → s % 2 ^ i ≡ 0 → (k : ℕ) → Runs s (2 ^ i) (wrap_address s (2 ^ i) n k) (loop_at Wrap s (2 ^ i) n k)
  wrap_runs hn e k =
      rw (wrap_loop s (2 ^ i) n k (pow_pos i) hn e)
      (running s (2 ^ i) (wrap_address s (2 ^ i) n k)
      (round_multiple (wrap_address s (2 ^ i) n k) (2 ^ i) (wrap_multiple s (2 ^ i) n (pow_pos i) hn e k)))

  runs : (m : Kind) → count_allowed m n ≡ true → misaligned m s (2 ^ i) ≡ false → (k : ℕ)
      → Runs s (2 ^ i) (address_by m s (2 ^ i) n k) (loop_at m s (2 ^ i) n k)
  unfolding address_by incr_address loop_at count_allowed
  runs Fixed c e k = rw (fixed_loop s (2 ^ i) n k) (entered s (2 ^ i))
  runs Incr c e zero = entered s (2 ^ i)
  runs Incr c e (suc k) =
      rw (incr_loop s (2 ^ i) n k) (running s (2 ^ i) (round_down s (2 ^ i) + suc k * 2 ^ i) (round_beats s (2 ^ i) (suc k) (pow_pos i)))
  runs Wrap c e k =
      wrap_runs (rw (wrap_power n c).is (pow_pos (wrap_power n c).log)) (wrap_aligned s (2 ^ i) e) k
  runs Reserved c e k = absurd (clash cc)

-- the lanes that the pseudo code works out are ours
module _ (s b bus a : ℕ) (l : Loop) (pos : 0 < b) (r : Runs s b a l) (y : InRow a b bus) where
  low_run : low_byte bus l ≡ lower_lane a bus
  low_run = rw r.addr (omega (arith, y.lower))

  high-run : high_byte s b bus l ≡ upper_lane a b bus
  unfolding round_down
  high-run = go l.aligned refl
    where
      go : (t : Bool) → l.aligned ≡ t → cond t (low_byte bus l + b - 1) (s / b * b + b - 1 - l.addr / bus * bus) ≡ upper_lane a b bus
      go true e =
          let m : a / b * b ≡ a = rw r.addr at (r.multiple e) in
          rw r.addr (omega (arith, y.lower, y.upper))
      go false e =
          let same : s ≡ a = sym (r.first e) ∙ r.addr in
          rw (r.addr, same) (omega (arith, y.upper))

-- A3.4.2 and paper 01 give the same beats
pub transfer-is : (x : Burst) → Legal x → (k : ℕ) → transfer x k ≡ beat_of x k
transfer-is x l k =
    go (loop_at x.kind x.start (bytes x) (beats x) k)
    (runs x.start x.size (beats x) x.kind (known x l).count l.start k) (in_row x l (beat_address x k))
  where
    go : (v : Loop) → Runs x.start (bytes x) (beat_address x k) v → InRow (beat_address x k) (bytes x) x.bus → transfer_at x v ≡ beat_of x k
    go v r y =
        λ i. record {
          address = r.addr i;
          lower = low_run x.start (bytes x) x.bus (beat_address x k) v (pow_pos x.size) r y i;
          upper = high-run x.start (bytes x) x.bus (beat_address x k) v (pow_pos x.size) r y i;
        }
