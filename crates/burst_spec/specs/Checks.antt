-- Which bursts are refused, and with what first (paper 01, 'Refusal numbers', 7 to 13; source 004, A3.4.1).
-- A burst of the reserved kind is refused with 9 before any later line for its kind is read.
use Rattle.std.specs.Prelude.{Bool, true, false, not, ◌&&◌, ◌||◌, List, [], ◌∷◌, ◌++◌, ◌≡◌, ℕ, zero, suc, ◌+◌, ◌-◌, ◌/◌, ◌%◌, ◌≤◌, ◌<◌, leb, ltb, eqb}
use Rattle.refusal.specs.Checks.{Check, check}
use Rattle.refusal.specs.declared.Refusal.{Refusal}
use Rattle.refusal.specs.declared.Refusal.TheVariants.{Bus, Size, Kind, Count, Align, Boundary, Index}
use Rattle.burst_spec.specs.declared.Burst.{Burst}
use Rattle.burst_spec.specs.declared.Kind as kind
use Rattle.burst_spec.specs.declared.Kind.TheVariants.{Fixed, Incr, Wrap, Reserved}
use Rattle.burst_spec.specs.Address.{beats, bytes, address_by, beat_address, highest_byte}

-- the bounds that the table names: "AxSIZE above 7", "AxLEN above 255"; and the "4,096-byte block", 2 ^ 12 bytes
abbrev pub axsize_most : ℕ
axsize_most = 7

abbrev pub axlen_most : ℕ
axlen_most = 255

abbrev pub block : ℕ
block = 0x1000

-- the widest bus that 7 allows
abbrev pub bus_most : ℕ
bus_most = 128

-- whether a number is one of a list, and whether it lies from low to high
abbrev pub among : ℕ → List ℕ → Bool
among x [] = false
among x (y ∷ ys) = eqb x y || among x ys

abbrev pub between : ℕ → ℕ → ℕ → Bool
between low high x = leb low x && leb x high

-- some number below n has the property
unfoldable pub some_below : ℕ → (ℕ → Bool) → Bool
some_below zero p = false
some_below (suc n) p = p n || some_below n p

-- 7 BUS: "bus is none of 1, 2, 4, 8, 16, 32, 64, 128"
unfoldable pub bus_allowed : ℕ → Bool
bus_allowed bus = among bus (1 ∷ 2 ∷ 4 ∷ 8 ∷ 16 ∷ 32 ∷ 64 ∷ 128 ∷ [])

-- 8 SIZE: "AxSIZE above 7, or a beat wider than the bus"
abbrev pub too_wide : Burst → Bool
too_wide x = ltb axsize_most x.size || ltb x.bus (bytes x)

-- 9 TYPE: "kind is 3 or more"
abbrev pub is_reserved : kind.Kind → Bool
is_reserved Fixed = false
is_reserved Incr = false
is_reserved Wrap = false
is_reserved Reserved = true

-- 10 COUNT: how many beats each kind allows. INCR: "N is 1 to 256." FIXED: "N is 1 to 16." WRAP: "N is 2, 4, 8 or 16."
unfoldable pub count_allowed : kind.Kind → ℕ → Bool
count_allowed Fixed n = between 1 16 n
count_allowed Incr n = between 1 256 n
count_allowed Wrap n = among n (2 ∷ 4 ∷ 8 ∷ 16 ∷ [])
count_allowed Reserved n = false

-- "N not allowed for the kind, or AxLEN above 255"
abbrev pub count_refused : Burst → Bool
count_refused x = ltb axlen_most x.len || not (count_allowed x.kind (beats x))

-- 11 ALIGN: "WRAP start not a multiple of B"
unfoldable pub misaligned : kind.Kind → ℕ → ℕ → Bool
misaligned Fixed s b = false
misaligned Incr s b = false
misaligned Wrap s b = not (eqb (s % b) 0)
misaligned Reserved s b = false

-- 12 FENCE, the 4KB rule: "some byte from a beat's address to its highest lane lies in another 4,096-byte block than S."
-- Here a is the beat's address, and j counts its bytes from that address on.
abbrev pub outside : ℕ → ℕ → Bool
outside s a = not (eqb (a / block) (s / block))

abbrev pub beat_outside : ℕ → ℕ → ℕ → Bool
beat_outside s b a = some_below (highest_byte a b - a + 1) (λ j. outside s (a + j))

unfoldable pub crosses_by : kind.Kind → ℕ → ℕ → ℕ → Bool
crosses_by m s b n = some_below n (λ k. beat_outside s b (address_by m s b n k))

abbrev pub crosses : Burst → Bool
crosses x = crosses_by x.kind x.start (bytes x) (beats x)

-- The same in the paper's words; that the two say the same is a law (proofs/Block, crosses-exactly).
pub record Crossing (x : Burst) : Type 0 where
  pub beat : ℕ
  pub byte : ℕ
  pub counted : beat < beats x
  pub from : beat_address x beat ≤ byte
  pub to : byte ≤ highest_byte (beat_address x beat) (bytes x)
  pub elsewhere : byte / block ≡ x.start / block → ⊥

-- "On bursts: 7 to 12 in order, then 13."
abbrev pub checks : Burst → List (Check Refusal)
checks x =
    check (not (bus_allowed x.bus)) Bus
    ∷ check (too_wide x) Size
    ∷ check (is_reserved x.kind) Kind
    ∷ check (count_refused x) Count
    ∷ check (misaligned x.kind x.start (bytes x)) Align
    ∷ check (crosses x) Boundary
    ∷ []

abbrev pub indexed_checks : Burst → Bool → List (Check Refusal)
indexed_checks x missing = checks x ++ (check missing Index ∷ [])

-- 13 INDEX: "no such .. beat; for a step, no next beat"
abbrev pub checks_of_beat : Burst → ℕ → List (Check Refusal)
checks_of_beat x k = indexed_checks x (leb (beats x) k)

abbrev pub checks_of_step : Burst → ℕ → List (Check Refusal)
checks_of_step x k = checks_of_beat x (k + 1)
