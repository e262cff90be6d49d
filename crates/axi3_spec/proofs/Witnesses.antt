-- Each statement with a premise, applied to a worked cut: so the premises can be met. Assumes nothing.
use Rattle.std.specs.Prelude.{Ok, Err}
use mathlib.Core.List.{List, [], ◌∷◌}
use mathlib.Core.Logic.{inl, inr}
use mathlib.Core.Path.{◌≡◌, refl}
use Prim.Native.Nat.{ℕ, ◌+◌}
use native.Mathlib.Omega.{arith}
use lib.ListN.{drop}
use Rattle.refusal.specs.declared.Refusal.TheVariants.{Room, Boundary}
use Rattle.burst_spec.specs.declared.Beat.{Beat}
use Rattle.burst_spec.specs.declared.Burst.{Burst}
use Rattle.burst_spec.specs.Address.{round_down, incr_address, wrap_address, address_by}
use Rattle.burst_spec.specs.Checks.{some_below, bus_allowed, count_allowed, misaligned, crosses_by}
use Rattle.burst_spec.specs.Answers.{burst_of}
use Rattle.burst_spec.proofs.Known.{clash}
use Rattle.axi3_spec.specs.Cut.{count_by, piece, run, joined, pieces, beats_of_all}
use Rattle.axi3_spec.specs.Answers.{cut_answer, Cut, CutNumbers}
use Rattle.axi3_spec.specs.Promises.{IsAccepted, InSixteens, read_back}
use Rattle.axi3_spec.proofs.Answers.{answered}
use Rattle.axi3_spec.proofs.Promises.{beats_kept, all_accepted, cut_in_sixteens, starts, itself, refused_as_judged, row_stands, row_kept, row_of_numbers_stands, row_of_numbers_kept}

-- 17 beats from an unaligned start, and the two bursts that they are cut into
abbrev long : Burst
long = burst_of 0x1002 16 2 1 4

abbrev first : Burst
first = burst_of 0x1002 15 2 1 4

abbrev second : Burst
second = burst_of 0x1040 0 2 1 4

long-accepted : IsAccepted long
unfolding round_down incr_address address_by some_below bus_allowed count_allowed misaligned crosses_by
long-accepted = refl

abbrev beat : ℕ → ℕ → ℕ → Beat
beat address lower upper = record { address = address; lower = lower; upper = upper }

-- its beats, typed by hand
pub beats : beats_of_all (first ∷ second ∷ [])
    ≡ beat 0x1002 2 3 ∷ beat 0x1004 0 3 ∷ beat 0x1008 0 3 ∷ beat 0x100C 0 3 ∷ beat 0x1010 0 3 ∷ beat 0x1014 0 3 ∷ beat 0x1018 0 3 ∷ beat 0x101C 0 3
    ∷ beat 0x1020 0 3 ∷ beat 0x1024 0 3 ∷ beat 0x1028 0 3 ∷ beat 0x102C 0 3 ∷ beat 0x1030 0 3 ∷ beat 0x1034 0 3 ∷ beat 0x1038 0 3 ∷ beat 0x103C 0 3
    ∷ beat 0x1040 0 3 ∷ []
unfolding round_down incr_address address_by count_by piece run joined
beats = beats_kept long long-accepted

pub accepted : IsAccepted first × IsAccepted second
unfolding round_down incr_address address_by count_by piece run
accepted = let h = all_accepted long long-accepted in (h.0, h.1.0)

pub sixteens : InSixteens 17 (first ∷ second ∷ [])
unfolding round_down incr_address address_by count_by piece run
sixteens = cut_in_sixteens long long-accepted

pub begins : 0x1002 ∷ 0x1040 ∷ [] ≡ 0x1002 ∷ (0x1000 + 0x40) ∷ []
unfolding round_down incr_address address_by count_by piece run
begins = starts long long-accepted refl

-- 16 beats; and a WRAP
abbrev wrapping : Burst
wrapping = burst_of 0x34 15 2 2 8

pub short : pieces first ≡ first ∷ []
short = itself first accepted.0 (inl (omega arith))

wrapping_accepted : IsAccepted wrapping
unfolding round_down wrap_address address_by some_below bus_allowed count_allowed misaligned crosses_by
wrapping_accepted = refl

pub wraps : pieces wrapping ≡ wrapping ∷ []
wraps = itself wrapping wrapping_accepted (inr (λ e. clash cc))

-- a burst that leaves its block, and an empty row
pub refused : cut_answer (burst_of 0xFFC 16 2 1 4) 0 ≡ Err Boundary
unfolding round_down incr_address address_by some_below bus_allowed count_allowed misaligned crosses_by
refused = refused_as_judged (burst_of 0xFFC 16 2 1 4) 0 Boundary refl

-- the contract of the call, met: into a row of three, and into one of one
cut-long : Cut long (wrapping ∷ long ∷ first ∷ []) (Ok 2) (first ∷ second ∷ first ∷ [])
unfolding round_down incr_address address_by some_below bus_allowed count_allowed misaligned crosses_by count_by piece run
cut-long = record { answers = answered long 3 (Ok 2) refl; leaves = refl }

pub beyond : drop 2 (first ∷ second ∷ first ∷ []) ≡ drop 2 (wrapping ∷ long ∷ first ∷ [])
beyond = (row_stands long (wrapping ∷ long ∷ first ∷ []) 2 (first ∷ second ∷ first ∷ []) cut-long).beyond

cut-none : Cut long (wrapping ∷ []) (Err Room) (wrapping ∷ [])
unfolding round_down incr_address address_by some_below bus_allowed count_allowed misaligned crosses_by count_by piece run
cut-none = record { answers = answered long 1 (Err Room) refl; leaves = refl }

pub untouched : wrapping ∷ [] ≡ wrapping ∷ []
untouched = row_kept long (wrapping ∷ []) Room (wrapping ∷ []) cut-none

-- the same of rows of numbers: eleven, and four
numbers-long : CutNumbers long (1 ∷ 2 ∷ 3 ∷ 4 ∷ 5 ∷ 6 ∷ 7 ∷ 8 ∷ 9 ∷ 10 ∷ 11 ∷ []) (Ok 2) (0x1002 ∷ 15 ∷ 2 ∷ 1 ∷ 4 ∷ 0x1040 ∷ 0 ∷ 2 ∷ 1 ∷ 4 ∷ 11 ∷ [])
unfolding round_down incr_address address_by some_below bus_allowed count_allowed misaligned crosses_by count_by piece run joined
numbers-long = record { answers = answered long 2 (Ok 2) refl; leaves = refl }

pub numbers-read : read_back 2 (0x1002 ∷ 15 ∷ 2 ∷ 1 ∷ 4 ∷ 0x1040 ∷ 0 ∷ 2 ∷ 1 ∷ 4 ∷ 11 ∷ []) ≡ first ∷ second ∷ []
unfolding round_down incr_address address_by count_by piece run
numbers-read =
    (row_of_numbers_stands long (1 ∷ 2 ∷ 3 ∷ 4 ∷ 5 ∷ 6 ∷ 7 ∷ 8 ∷ 9 ∷ 10 ∷ 11 ∷ []) 2
    (0x1002 ∷ 15 ∷ 2 ∷ 1 ∷ 4 ∷ 0x1040 ∷ 0 ∷ 2 ∷ 1 ∷ 4 ∷ 11 ∷ []) numbers-long).read

numbers-none : CutNumbers wrapping (1 ∷ 2 ∷ 3 ∷ 4 ∷ []) (Err Room) (1 ∷ 2 ∷ 3 ∷ 4 ∷ [])
unfolding round_down wrap_address address_by some_below bus_allowed count_allowed misaligned crosses_by count_by piece run joined
numbers-none = record { answers = answered wrapping 0 (Err Room) refl; leaves = refl }

pub numbers_untouched : ◌≡◌ {A = List ℕ} (1 ∷ 2 ∷ 3 ∷ 4 ∷ []) (1 ∷ 2 ∷ 3 ∷ 4 ∷ [])
numbers_untouched = row_of_numbers_kept wrapping (1 ∷ 2 ∷ 3 ∷ 4 ∷ []) Room (1 ∷ 2 ∷ 3 ∷ 4 ∷ []) numbers-none
