-- The octets of a beat record, and its fault as the code tests it. Assumes nothing.
use mathlib.Core.Bool.{Bool, true, false}
use mathlib.Core.List.{List, [], ◌∷◌}
use mathlib.Core.Path.{◌≡◌, refl, sym, ap, ap₂, ◌∙◌}
use Prim.Native.Nat.{ℕ, ◌+◌, ◌-◌, ◌*◌, ◌/◌, ◌%◌, ◌^◌, ◌≤◌, ◌<◌}
use native.Mathlib.Omega.{arith}
use lib.Dec.{leb}
use lib.ListN.{get_or}
use borrow.Author.Tests.{le-leb, lt-leb, leb-true, leb-false}
use Rattle.stream_spec.specs.Layout.{bit}
use Rattle.stream_spec.proofs.Bools.{neither}
use Rattle.stream_record.proofs.Field.{shifted}
use Rattle.burst_spec.specs.Checks.{bus_most, bus_allowed}
use Rattle.burst_spec.proofs.Below.{none_below, each_below}
use Rattle.burst_spec.proofs.Known.{among-each}
use Rattle.write_data_spec.specs.Layout.{lanes_each, strobes_at, strobe_octets, beat_size, flags, strobe}
use Rattle.write_data_spec.specs.Answers.{strobe_fault, field_fault}
use Rattle.write_data.proofs.Octets.{high-none, high-some}
use Rattle.write_data_spec.proofs.Sums.{some_at}

-- ---- the bus

-- a bus that is allowed: how wide it is, and that from 8 lanes on it fills its octets
pub record Fits (bus : ℕ) : Type 0 where
  pub least : 1 ≤ bus
  pub most : bus ≤ bus_most
  pub full : lanes_each ≤ bus → lanes_each * strobe_octets bus ≡ bus

pub bus-fits : (bus : ℕ) → bus_allowed bus ≡ true → Fits bus
unfolding bus_allowed
bus-fits bus =
    among-each Fits bus (1 ∷ 2 ∷ 4 ∷ 8 ∷ 16 ∷ 32 ∷ 64 ∷ 128 ∷ []) (
      narrow 1 (omega arith) (omega arith),
      (
        narrow 2 (omega arith) (omega arith),
        (
          narrow 4 (omega arith) (omega arith),
          (
            wide 8 refl (omega arith) (omega arith),
            (
              wide 16 refl (omega arith) (omega arith),
              (wide 32 refl (omega arith) (omega arith), (wide 64 refl (omega arith) (omega arith), (wide 128 refl (omega arith) (omega arith), tt))),
            ),
          ),
        ),
      ),
    )
  where
    narrow : (x : ℕ) → 1 ≤ x → x < 8 → Fits x
    narrow x l h = record { least = l; most = omega arith; full = λ e. absurd (omega arith) }

    wide : (x : ℕ) → 8 * ((x + 7) / 8) ≡ x → 1 ≤ x → x ≤ 128 → Fits x
    wide x e l h = record { least = l; most = h; full = λ f. e }

-- ---- a record's size

pub size_is : (bus : ℕ) → beat_size bus ≡ strobes_at + strobe_octets bus
unfolding beat_size
size_is bus = refl

pub size_pos : (bus : ℕ) → 0 < beat_size bus
size_pos bus = omega (arith, size_is bus)

-- ---- a lane's strobe, by its octet

pub strobe-at : (r : List ℕ) (j x : ℕ) → x < 8 → strobe r (8 * j + x) ≡ bit x (get_or r (1 + j) 0)
unfolding strobe
strobe-at r j x l =
    let low : (8 * j + x) % 8 ≡ x = omega arith in
    let up : (8 * j + x) / 8 ≡ j = omega arith in
    ap₂ (λ (i o : ℕ). bit i (get_or r (1 + o) 0)) low up

-- ---- a record's fault

pub fault_flags : (bus : ℕ) (r : List ℕ) → 1 < flags r → field_fault bus r ≡ true
unfolding field_fault
fault_flags bus r h = rw (le-leb 2 (flags r) (omega arith)) refl

fault_strobes : (bus : ℕ) (r : List ℕ) → flags r ≤ 1 → field_fault bus r ≡ strobe_fault bus r
unfolding field_fault
fault_strobes bus r h = rw (lt-leb 2 (flags r) (omega arith)) refl

-- a bus of 8 lanes or more has no strobe bits to spare
pub fault_wide : (bus : ℕ) (r : List ℕ) → bus_allowed bus ≡ true → flags r ≤ 1 → 8 ≤ bus → field_fault bus r ≡ false
fault_wide bus r a h w =
    let none : lanes_each * strobe_octets bus - bus ≡ 0 = omega (arith, (bus-fits bus a).full w) in
    fault_strobes bus r h ∙ none_below (lanes_each * strobe_octets bus - bus) (λ x. strobe r (bus + x)) (λ x l. absurd (omega arith))

-- of a narrower one the octet is too large
fault_narrow : (bus : ℕ) (r : List ℕ) → bus_allowed bus ≡ true → flags r ≤ 1 → bus < 8 → get_or r 1 0 < 256
    → leb (2 ^ bus) (get_or r 1 0) ≡ field_fault bus r
fault_narrow bus r a h w small = go (leb (2 ^ bus) (get_or r 1 0)) refl ∙ sym (fault_strobes bus r h)
  where
    one : 1 ≤ bus → lanes_each * strobe_octets bus ≡ 8
    one l = omega arith

    spare : lanes_each * strobe_octets bus - bus ≡ 8 - bus
    spare = omega (arith, one (bus-fits bus a).least)

    own : (x : ℕ) → bus + x < 8 → strobe r (bus + x) ≡ bit (bus + x) (get_or r 1 0)
    own x l = ap (strobe r) (sum x) ∙ strobe-at r 0 (bus + x) l
      where
        sum : (x : ℕ) → bus + x ≡ 8 * 0 + (bus + x)
        sum x = omega arith

    go : (t : Bool) → leb (2 ^ bus) (get_or r 1 0) ≡ t → t ≡ strobe_fault bus r
    go true e =
        let found = high-some bus (get_or r 1 0) small (leb-true (2 ^ bus) (get_or r 1 0) e) in
        let same : bus + (found.0 - bus) ≡ found.0 = omega (arith, found.1) in
        let below : found.0 - bus < lanes_each * strobe_octets bus - bus = omega (arith, spare, found.1, found.2) in
        sym
        (some_at (lanes_each * strobe_octets bus - bus) (λ x. strobe r (bus + x)) (found.0 - bus) below
        (own (found.0 - bus) (omega (arith, found.2)) ∙ ap (λ (i : ℕ). bit i (get_or r 1 0)) same ∙ found.3))
    go false e =
        sym
        (none_below (lanes_each * strobe_octets bus - bus) (λ x. strobe r (bus + x))
        (λ x l. own x (omega (arith, spare)) ∙ high-none bus (get_or r 1 0) (leb-false (2 ^ bus) (get_or r 1 0) e) (bus + x) (omega arith)))

-- the same as the code finds it: x is the octet as a wider number
pub told_narrow : (bus : ℕ) (r : List ℕ) → bus_allowed bus ≡ true → flags r ≤ 1 → bus < 8 → (x : ℕ) → x ≡ get_or r 1 0 → x < 256
    → leb (1 * 2 ^ bus % 4294967296) x ≡ field_fault bus r
told_narrow bus r a h w x e small = rw (e, shifted bus (omega arith)) (fault_narrow bus r a h w (rw e at small))

-- a sound record has no strobe at or above the bus
pub sound-above : (bus : ℕ) (r : List ℕ) → field_fault bus r ≡ false → (x : ℕ) → x < lanes_each * strobe_octets bus - bus → strobe r (bus + x) ≡ false
unfolding field_fault
sound-above bus r e x l =
    each_below (lanes_each * strobe_octets bus - bus) (λ y. strobe r (bus + y)) (neither (leb 2 (flags r)) (strobe_fault bus r) e).1 x l
