-- Laws of items held in two arrays, an octet in the one and a mark in the other: they are taken, joined and stored in
-- like two lists side by side, and where no item is marked they are data. Assumes nothing.
use mathlib.Core.Path.{◌≡◌, refl, sym, ap, ◌∙◌}
use mathlib.Core.List.{List, [], ◌∷◌, ◌++◌, map}
use Prim.Native.Nat.{ℕ, zero, suc, ◌+◌, ◌-◌, ◌≤◌}
use native.Mathlib.Omega.{arith}
use lib.ListN.{length, get_or, take, drop, set, replicate, length-append, length-drop}
use lib.Seq.{length-take-le, take-add, get_or-drop}
use Rattle.repack_scratch.specs.Codes.{data_code, held_code, held_codes, Unmarked}

-- ---- two lists side by side

pub length-held : (ds ms : List ℕ) → length ds ≡ length ms → length (held_codes ds ms) ≡ length ds
length-held [] ms h = refl
length-held (d ∷ ds) [] h = absurd (omega arith)
length-held (d ∷ ds) (m ∷ ms) h = ap suc (length-held ds ms (omega arith))

pub take-held : (n : ℕ) (ds ms : List ℕ) → take n (held_codes ds ms) ≡ held_codes (take n ds) (take n ms)
take-held zero ds ms = refl
take-held (suc n) [] ms = refl
take-held (suc n) (d ∷ ds) [] = refl
take-held (suc n) (d ∷ ds) (m ∷ ms) = ap {B = List ℕ} (λ l. held_code d m ∷ l) (take-held n ds ms)

pub drop-held : (n : ℕ) (ds ms : List ℕ) → length ds ≡ length ms → drop n (held_codes ds ms) ≡ held_codes (drop n ds) (drop n ms)
drop-held zero ds ms h = refl
drop-held (suc n) [] ms h = refl
drop-held (suc n) (d ∷ ds) [] h = absurd (omega arith)
drop-held (suc n) (d ∷ ds) (m ∷ ms) h = drop-held n ds ms (omega arith)

pub held-append : (ds ms es ns : List ℕ) → length ds ≡ length ms → held_codes (ds ++ es) (ms ++ ns) ≡ held_codes ds ms ++ held_codes es ns
held-append [] [] es ns h = refl
held-append [] (m ∷ ms) es ns h = absurd (omega arith)
held-append (d ∷ ds) [] es ns h = absurd (omega arith)
held-append (d ∷ ds) (m ∷ ms) es ns h = ap {B = List ℕ} (λ l. held_code d m ∷ l) (held-append ds ms es ns (omega arith))

pub held-set : (n x y : ℕ) (ds ms : List ℕ) → held_codes (set ds n x) (set ms n y) ≡ set (held_codes ds ms) n (held_code x y)
held-set zero x y [] ms = refl
held-set (suc n) x y [] ms = refl
held-set zero x y (d ∷ ds) [] = refl
held-set (suc n) x y (d ∷ ds) [] = refl
held-set zero x y (d ∷ ds) (m ∷ ms) = refl
held-set (suc n) x y (d ∷ ds) (m ∷ ms) = ap {B = List ℕ} (λ l. held_code d m ∷ l) (held-set n x y ds ms)

-- ---- items that are not marked

-- octets with no mark are data
pub held_data : (ds : List ℕ) (n : ℕ) → length ds ≡ n → held_codes ds (replicate {A = ℕ} n 0) ≡ map data_code ds
held_data [] n h = refl
held_data (d ∷ ds) zero h = absurd (omega arith)
held_data (d ∷ ds) (suc n) h = ap {B = List ℕ} (λ l. (d + 256) ∷ l) (held_data ds n (omega arith))

pub unmarked-at : (ms : List ℕ) → Unmarked ms → (i : ℕ) → get_or ms i 0 ≡ 0
unmarked-at ms h i = ap (λ (l : List ℕ). get_or l i 0) h ∙ zeros-at (length ms) i
  where
    zeros-at : (n i : ℕ) → get_or (replicate {A = ℕ} n 0) i 0 ≡ 0
    zeros-at zero i = refl
    zeros-at (suc n) zero = refl
    zeros-at (suc n) (suc i) = zeros-at n i

pub unmarked-held : (ds ms : List ℕ) → length ds ≡ length ms → Unmarked ms → held_codes ds ms ≡ map data_code ds
unmarked-held ds ms e h = ap (held_codes ds) h ∙ held_data ds (length ms) e

-- marks that are zero from place a on
zeros-take : (n : ℕ) (ms : List ℕ) → n ≤ length ms → ((i : ℕ) → get_or ms i 0 ≡ 0) → take n ms ≡ replicate {A = ℕ} n 0
zeros-take zero ms l c = refl
zeros-take (suc n) [] l c = absurd (omega arith)
zeros-take (suc n) (m ∷ ms) l c = rw (c 0, zeros-take n ms (omega arith) (λ i. c (suc i))) refl

pub clear-take : (a n : ℕ) (ms : List ℕ) → a ≤ n → n ≤ length ms → ((i : ℕ) → a ≤ i → get_or ms i 0 ≡ 0)
    → take n ms ≡ take a ms ++ replicate {A = ℕ} (n - a) 0
clear-take a n ms h l c =
    let split : a + (n - a) ≡ n = omega arith in
    let rest : take (n - a) (drop a ms) ≡ replicate {A = ℕ} (n - a) 0 =
    zeros-take (n - a) (drop a ms) (rw (length-drop a ms) (omega arith)) (λ i. get_or-drop a ms i 0 ∙ c (a + i) (omega arith)) in
    ap (λ (k : ℕ). take k ms) (sym split) ∙ take-add a (n - a) ms ∙ rw rest refl

-- octets stored where no mark is are data items more
pub held_more : (octets after marks xs : List ℕ) (at r : ℕ) → length octets ≡ length marks → length after ≡ length octets
    → at ≤ r → r ≤ length octets → ((i : ℕ) → at ≤ i → get_or marks i 0 ≡ 0) → take r after ≡ take at octets ++ xs
    → take r (held_codes after marks) ≡ take at (held_codes octets marks) ++ map data_code xs
held_more octets after marks xs at r e s b w c h =
    let count : length (take at octets ++ xs) ≡ length (take at octets) + length xs = length-append (take at octets) xs in
    let new : length xs ≡ r - at = omega (arith, ap length h, length-take-le r after (omega arith), length-take-le at octets (omega arith)) in
    let same : length (take at octets) ≡ length (take at marks) = length-take-le at octets (omega arith) ∙ sym (length-take-le at marks (omega arith)) in
    take-held r after marks
    ∙ rw (h, clear-take at r marks b (omega arith) c)
    (held-append (take at octets) (take at marks) xs (replicate {A = ℕ} (r - at) 0) same
    ∙ rw (held_data xs (r - at) new, take-held at octets marks) refl)
