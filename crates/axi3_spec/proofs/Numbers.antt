-- Bursts as rows of numbers, five to a description. Assumes nothing.
use mathlib.Core.List.{List, [], ◌∷◌, ◌++◌, map}
use mathlib.Core.Path.{◌≡◌, refl, ap₂, ◌∙◌}
use Prim.Native.Nat.{ℕ, ◌*◌}
use native.Mathlib.Omega.{arith}
use lib.ListN.{length, length-append}
use Rattle.burst_spec.specs.declared.Burst.{Burst}
use Rattle.burst_spec.specs.declared.Kind.{Kind}
use Rattle.burst_spec.specs.declared.Kind.TheVariants.{Fixed, Incr, Wrap, Reserved}
use Rattle.burst_spec.specs.Answers.{burst_of, kind_of, kind_number}
use Rattle.axi3_spec.specs.Cut.{joined}
use Rattle.axi3_spec.specs.Answers.{numbers_each, numbers_of}
use Rattle.axi3_spec.specs.Promises.{read_back}

pub numbers-length : (ys : List Burst) → length (joined (map numbers_of ys)) ≡ numbers_each * length ys
unfolding joined
numbers-length [] = refl
numbers-length (y ∷ ys) = length-append (numbers_of y) (joined (map numbers_of ys)) ∙ omega (arith, numbers-length ys)

kind_back : (m : Kind) → kind_of (kind_number m) ≡ m
kind_back Fixed = refl
kind_back Incr = refl
kind_back Wrap = refl
kind_back Reserved = refl

-- five numbers say all of a burst
burst_back : (y : Burst) → burst_of y.start y.len y.size (kind_number y.kind) y.bus ≡ y
burst_back y = λ i. record { start = y.start; len = y.len; size = y.size; kind = kind_back y.kind i; bus = y.bus }

pub read_back_lem : (ys : List Burst) (rest : List ℕ) → read_back (length ys) (joined (map numbers_of ys) ++ rest) ≡ ys
unfolding joined read_back
read_back_lem [] rest = refl
read_back_lem (y ∷ ys) rest = ap₂ (λ z zs. z ∷ zs) (burst_back y) (read_back_lem ys rest)
