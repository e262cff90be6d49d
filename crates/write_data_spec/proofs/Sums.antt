-- `some_below` and `count_below` over two runs of numbers, one behind the other. Assumes nothing.
use mathlib.Core.Bool.{Bool, true, false, ◌||◌, or_assoc}
use mathlib.Core.Path.{◌≡◌, refl, sym, ap, ap₂, ◌∙◌}
use Prim.Native.Nat.{ℕ, zero, suc, ◌+◌, ◌≤◌, ◌<◌}
use native.Mathlib.Nat.{add-zero, add-suc, zero-add, add_assoc}
use native.Mathlib.Omega.{arith}
use Rattle.stream_spec.specs.Layout.{bit_of}
use Rattle.stream_spec.proofs.Bits.{bit-one}
use Rattle.stream_spec.proofs.Bools.{no_such}
use Rattle.burst_spec.specs.Checks.{some_below}
use Rattle.burst_spec.proofs.Below.{each_below}
use Rattle.write_data_spec.specs.Layout.{count_below}

-- what is found at a number is found below all that are larger
pub some_at : (n : ℕ) (p : ℕ → Bool) (k : ℕ) → k < n → p k ≡ true → some_below n p ≡ true
some_at n p k l e = go (some_below n p) refl
  where
    go : (t : Bool) → some_below n p ≡ t → t ≡ true
    go true f = refl
    go false f = no_such (each_below n p f k l) e

pub some-add : (m n : ℕ) (p : ℕ → Bool) → some_below (m + n) p ≡ (some_below n (λ k. p (m + k)) || some_below m p)
unfolding some_below
some-add m zero p = ap (λ (k : ℕ). some_below k p) (add-zero m)
some-add m (suc n) p =
    ap (λ (k : ℕ). some_below k p) (add-suc m n)
    ∙ ap (λ (t : Bool). p (m + n) || t) (some-add m n p)
    ∙ sym (or_assoc (p (m + n)) (some_below n (λ k. p (m + k))) (some_below m p))

pub some_same : (n : ℕ) (p q : ℕ → Bool) → ((k : ℕ) → k < n → p k ≡ q k) → some_below n p ≡ some_below n q
unfolding some_below
some_same zero p q h = refl
some_same (suc n) p q h = ap₂ (λ (s t : Bool). s || t) (h n (omega arith)) (some_same n p q (λ k l. h k (omega arith)))

pub count_add : (m n : ℕ) (p : ℕ → Bool) → count_below (m + n) p ≡ count_below n (λ k. p (m + k)) + count_below m p
unfolding count_below
count_add m zero p = ap (λ (k : ℕ). count_below k p) (add-zero m) ∙ sym (zero-add (count_below m p))
count_add m (suc n) p =
    ap (λ (k : ℕ). count_below k p) (add-suc m n)
    ∙ ap (λ (k : ℕ). bit_of (p (m + n)) + k) (count_add m n p)
    ∙ sym (add_assoc (bit_of (p (m + n))) (count_below n (λ k. p (m + k))) (count_below m p))

pub count_same : (n : ℕ) (p q : ℕ → Bool) → ((k : ℕ) → k < n → p k ≡ q k) → count_below n p ≡ count_below n q
unfolding count_below
count_same zero p q h = refl
count_same (suc n) p q h = ap₂ (λ (s : Bool) (k : ℕ). bit_of s + k) (h n (omega arith)) (count_same n p q (λ k l. h k (omega arith)))

pub count_none : (n : ℕ) (p : ℕ → Bool) → ((k : ℕ) → k < n → p k ≡ false) → count_below n p ≡ 0
unfolding count_below
count_none zero p h = refl
count_none (suc n) p h = rw (h n (omega arith)) (ap (λ (k : ℕ). 0 + k) (count_none n p (λ k l. h k (omega arith))))

pub count_most : (n : ℕ) (p : ℕ → Bool) → count_below n p ≤ n
unfolding count_below
count_most zero p = omega arith
count_most (suc n) p = omega (arith, bit-one (p n), count_most n p)
