-- Lists that count up. Assumes nothing.
use mathlib.Core.List.{[], ◌∷◌, ◌++◌, map}
use mathlib.Core.Path.{◌≡◌, refl, sym, ap, ap₂, ◌∙◌}
use Prim.Native.Nat.{ℕ, zero, suc, ◌+◌, ◌<◌}
use native.Mathlib.Nat.{zero-add, add-zero, suc-add, add-suc}
use native.Mathlib.Numerals.{add-one}
use native.Mathlib.Omega.{arith}
use lib.ListN.{length, replicate}
use Rattle.axi3_spec.specs.Cut.{run}
use Rattle.axi3_spec.specs.Promises.{Every}

module _ {A : Type 0} where
  pub run-append : (f : ℕ → A) (a n m : ℕ) → run f a (n + m) ≡ run f a n ++ run f (a + n) m
  unfolding run
  run-append f a zero m = rw (zero-add, add-zero)
  run-append f a (suc n) m =
      rw (suc-add n m, add-suc a n) (ap (λ l. f a ∷ l) (run-append f (suc a) n m ∙ rw (suc-add a n)))

  -- two runs that agree at each place
  pub run-same : (f g : ℕ → A) (a c n : ℕ) → ((k : ℕ) → k < n → f (a + k) ≡ g (c + k)) → run f a n ≡ run g c n
  unfolding run
  run-same f g a c zero h = refl
  run-same f g a c (suc n) h =
      ap₂ (λ y l. y ∷ l) (sym (ap f (add-zero a)) ∙ h 0 (omega arith) ∙ ap g (add-zero c))
      (run-same f g (suc a) (suc c) n (λ k l. rw (suc-add a k, suc-add c k, ← add-suc a k, ← add-suc c k) (h (suc k) (omega arith))))

  -- a run of none may begin anywhere
  pub run_at : (f : ℕ → A) (a c n : ℕ) → (0 < n → a ≡ c) → run f a n ≡ run f c n
  unfolding run
  run_at f a c zero h = refl
  run_at f a c (suc n) h = ap (λ k. run f k (suc n)) (h (omega arith))

  pub run_length : (f : ℕ → A) (a n : ℕ) → length (run f a n) ≡ n
  unfolding run
  run_length f a zero = refl
  run_length f a (suc n) = ap suc (run_length f (suc a) n)

  pub run-last : (f : ℕ → A) (n : ℕ) → run f 0 (suc n) ≡ run f 0 n ++ (f n ∷ [])
  unfolding run
  run-last f n = ap (run f 0) (sym (add-one n)) ∙ run-append f 0 n 1 ∙ rw zero-add

  pub run_every : (P : A → Type 0) (f : ℕ → A) (a n : ℕ) → ((k : ℕ) → k < n → P (f (a + k))) → Every P (run f a n)
  unfolding run
  run_every P f a zero h = tt
  run_every P f a (suc n) h =
      (rw (add-zero a) at (h 0 (omega arith)), run_every P f (suc a) n (λ k l. rw (suc-add a k, ← add-suc a k) (h (suc k) (omega arith))))

  -- the same at each place
  pub run_constant : (f : ℕ → A) (y : A) (a n : ℕ) → ((k : ℕ) → k < n → f (a + k) ≡ y) → run f a n ≡ replicate n y
  unfolding run
  run_constant f y a zero h = refl
  run_constant f y a (suc n) h =
      ap₂ (λ z l. z ∷ l) (rw (add-zero a) at (h 0 (omega arith)))
      (run_constant f y (suc a) n (λ k l. rw (suc-add a k, ← add-suc a k) (h (suc k) (omega arith))))

pub run-map : {A B : Type 0} (g : A → B) (f : ℕ → A) (a n : ℕ) → map g (run f a n) ≡ run (λ k. g (f k)) a n
unfolding run
run-map g f a zero = refl
run-map g f a (suc n) = ap (λ l. g (f a) ∷ l) (run-map g f (suc a) n)
