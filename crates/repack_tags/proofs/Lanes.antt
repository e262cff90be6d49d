-- Codes whose user bits fit: parts of them, and what they stand for. Assumes nothing.
use Rattle.std.specs.Prelude.{Some}
use mathlib.Core.Path.{◌≡◌}
use mathlib.Core.List.{List, [], ◌∷◌, ◌++◌, map}
use Prim.Native.Nat.{ℕ, zero, suc, ◌+◌, ◌/◌, ◌^◌, ◌≤◌, ◌<◌}
use native.Mathlib.Omega.{arith}
use lib.ListN.{length, get_or, take, drop, length-drop}
use lib.Seq.{length-take-le, get_or-take, get_or-drop}
use Rattle.stream_spec.proofs.Users.{LanesTagged}
use Rattle.repack_scratch.specs.Codes.{kept_of}
use Rattle.repack_scratch.proofs.Fitted.{bits_fit}
use Rattle.repack_tags.specs.Tags.{TagsFit, PartFits}

-- ---- bits that fit

pub lanes_fit : (m : ℕ) (xs : List ℕ) → TagsFit m xs → LanesTagged m (map Some (map kept_of xs))
lanes_fit m [] h = tt
lanes_fit m (x ∷ xs) h = (bits_fit m x h.0, lanes_fit m xs h.1)

pub fit_drop : (m n : ℕ) (xs : List ℕ) → TagsFit m xs → TagsFit m (drop n xs)
fit_drop m zero xs h = h
fit_drop m (suc n) [] h = tt
fit_drop m (suc n) (x ∷ xs) h = fit_drop m n xs h.1

pub fit_append : (m : ℕ) (xs ys : List ℕ) → TagsFit m xs → TagsFit m ys → TagsFit m (xs ++ ys)
fit_append m [] ys h k = k
fit_append m (x ∷ xs) ys h k = (h.0, fit_append m xs ys h.1 k)

-- ---- some of those that are held

fit_each : (m : ℕ) (xs : List ℕ) → ((i : ℕ) → i < length xs → get_or xs i 0 / 512 < 2 ^ m) → TagsFit m xs
fit_each m [] f = tt
fit_each m (x ∷ xs) f = (f 0 (omega arith), fit_each m xs (λ i h. f (suc i) (omega arith)))

-- a part of them
pub part_fits : (m from n : ℕ) (xs : List ℕ) → from + n ≤ length xs → PartFits m xs from n → TagsFit m (take n (drop from xs))
part_fits m from n xs h f =
    let long : length (take n (drop from xs)) ≡ n = length-take-le n (drop from xs) (omega (arith, length-drop from xs)) in
    fit_each m (take n (drop from xs))
    (λ i l.
    rw (get_or-take n (drop from xs) i 0 (omega (arith, long, l)), get_or-drop from xs i 0) (f (from + i) (omega arith) (omega (arith, long, l))))

pub tags_front : (m n : ℕ) (xs : List ℕ) → TagsFit m (take n xs) → n ≤ length xs → PartFits m xs 0 n
tags_front m (suc n) (x ∷ xs) t l zero a h = t.0
tags_front m (suc n) (x ∷ xs) t l (suc i) a h = tags_front m n xs t.1 (omega arith) i (omega arith) (omega (arith, h))
tags_front m zero xs t l i a h = absurd (omega (arith, h))
tags_front m (suc n) [] t l i a h = absurd (omega arith)
