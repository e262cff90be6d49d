-- The bursts of a cut: how many there are, that beat k of burst j is beat 16*j + k of the old burst, and that each is accepted.
-- Assumes nothing.
use mathlib.Core.Bool.{Bool, true, false, ◌&&◌}
use mathlib.Core.List.{◌++◌}
use mathlib.Core.Logic.{◌⊎◌, inl, inr}
use mathlib.Core.Path.{◌≡◌, refl, sym, ap, ap₂, subst, ◌∙◌}
use Prim.Native.Nat.{ℕ, zero, suc, ◌+◌, ◌-◌, ◌*◌, ◌/◌, ◌≤◌, ◌<◌}
use native.Mathlib.Nat.{zero-add, add-zero, add-mul}
use native.Mathlib.Omega.{arith}
use lib.Dec.{leb}
use lib.Pow.{pow_pos, pow_mono}
use borrow.Author.Tests.{le-leb, le-ltb, leb-true}
use Rattle.burst_spec.specs.declared.Burst.{Burst}
use Rattle.burst_spec.specs.declared.Kind.{Kind}
use Rattle.burst_spec.specs.declared.Kind.TheVariants.{Fixed, Incr, Wrap, Reserved}
use Rattle.burst_spec.specs.Address.{incr_address, wrap_address, address_by, beats, bytes, beat_address, beat_at, beat_of}
use Rattle.burst_spec.specs.Checks.{between, axlen_most, block, crosses, count_allowed, count_refused, misaligned}
use Rattle.burst_spec.specs.Legal.{Legal, Accepted}
use Rattle.burst_spec.proofs.Block.{incr_round, all-inside, address-block}
use Rattle.burst_spec.proofs.Known.{clash, wrap_power, UpTo, known, size_small}
use Rattle.axi3_spec.specs.Cut.{beats_most, count_by, piece_count, piece_beats, piece, run, pieces, beats_of, joined, beats_of_all}
use Rattle.axi3_spec.specs.Promises.{sixteens}
use Rattle.axi3_spec.proofs.Runs.{run-append, run-same, run_at}

-- ---- how many

few : (n : ℕ) → UpTo 4 n → n ≤ 16
few n p = omega (arith, p.is, pow_mono p.small)

both : (s t : Bool) → (s && t) ≡ true → (s ≡ true) × (t ≡ true)
both true t e = (refl, e)
both false t e = absurd (clash cc)

in_range : (low high n : ℕ) → between low high n ≡ true → (low ≤ n) × (n ≤ high)
in_range low high n e =
    let h = both (leb low n) (leb n high) e in
    (leb-true low n h.0, leb-true n high h.1)

-- every kind but INCR has at most 16 beats, so it is one burst either way
counted : (m : Kind) (n : ℕ) → count_allowed m n ≡ true → count_by m n ≡ sixteens n
unfolding count_allowed count_by
counted Fixed n c = let h = in_range 1 16 n c in omega (arith, h.0, h.1)
counted Incr n c = refl
counted Wrap n c = wrapped (wrap_power n c)
  where
    wrapped : UpTo 4 n → 1 ≡ sixteens n
    wrapped p = omega (arith, few n p, p.is, pow_pos p.log)
counted Reserved n c = absurd (clash cc)

-- N/16, rounded up, for every kind
pub count-is : (x : Burst) → Legal x → piece_count x ≡ sixteens (beats x)
count-is x l = counted x.kind (beats x) (known x l).count

pub beats-most : (x : Burst) → Legal x → beats x ≤ 256
beats-most x l = omega (arith, (known x l).few)

-- 16 descriptions are room for every cut
pub count_most : (x : Burst) → Legal x → piece_count x ≤ 16
count_most x l = omega (arith, count-is x l, beats-most x l)

pub count-some : (x : Burst) → Legal x → 1 ≤ piece_count x
count-some x l = omega (arith, count-is x l)

-- the first beat of burst j is a beat of the old burst
pub first-beat : (x : Burst) → Legal x → (j : ℕ) → j < piece_count x → beats_most * j < beats x
first-beat x l j h = omega (arith, count-is x l)

-- ---- a burst that comes out as itself

address-zero : (m : Kind) (s b n : ℕ) → address_by m s b n 0 ≡ s
unfolding address_by incr_address wrap_address
address-zero Fixed s b n = refl
address-zero Incr s b n = refl
address-zero Wrap s b n = refl
address-zero Reserved s b n = refl

-- a burst of at most 16 beats is its own first piece
pub piece_itself : (x : Burst) → beats x ≤ 16 → piece x 0 ≡ x
unfolding piece
piece_itself x h =
    let len : piece_beats (beats x) 0 - 1 ≡ x.len = omega arith in
    λ i. record {
      start = address-zero x.kind x.start (bytes x) (beats x) i;
      len = len i;
      size = x.size;
      kind = x.kind;
      bus = x.bus;
    }

-- every kind but INCR has at most 16 beats
pub few_or_incr : (m : Kind) (n : ℕ) → count_allowed m n ≡ true → (n ≤ 16) ⊎ (m ≡ Incr)
unfolding count_allowed
few_or_incr Fixed n c = inl (in_range 1 16 n c).1
few_or_incr Incr n c = inr refl
few_or_incr Wrap n c = inl (few n (wrap_power n c))
few_or_incr Reserved n c = absurd (clash cc)

-- what holds of a burst of at most 16 beats, which is its only piece, and of the pieces of an INCR, holds of every piece
by_kind : (P : Burst → ℕ → Type 0) (x : Burst) → Legal x → P x 0 → (x.kind ≡ Incr → (j : ℕ) → j < piece_count x → P (piece x j) j)
    → (j : ℕ) → j < piece_count x → P (piece x j) j
by_kind P x l one many j h = go (few_or_incr x.kind (beats x) (known x l).count) j h
  where
    go : (beats x ≤ 16) ⊎ (x.kind ≡ Incr) → (j : ℕ) → j < piece_count x → P (piece x j) j
    go (inl n) zero h = subst (λ y. P y 0) (sym (piece_itself x n)) one
    go (inl n) (suc j) h = absurd (omega (arith, count-is x l))
    go (inr e) j h = many e j h

-- ---- the beats of burst j

-- k beats on, and then i beats on
incr_on : (s b k i : ℕ) → 0 < b → incr_address (incr_address s b k) b i ≡ incr_address s b (k + i)
unfolding incr_address
incr_on s b k zero h = ap (incr_address s b) (sym (add-zero k))
incr_on s b k (suc i) h =
    let more : k + suc i ≡ suc (k + i) = omega arith in
    rw (incr_round s b k h, more) (omega (arith, add-mul k (suc i) b, ap (λ n. n * b) more))

pub incr_is : (x : Burst) → x.kind ≡ Incr → (k : ℕ) → beat_address x k ≡ incr_address x.start (bytes x) k
unfolding address_by
incr_is x e k = ap (λ m. address_by m x.start (bytes x) (beats x) k) e

incr_piece : (x : Burst) → x.kind ≡ Incr → (j k : ℕ) → beat_address (piece x j) k ≡ beat_address x (beats_most * j + k)
unfolding piece
incr_piece x e j k =
    incr_is (piece x j) e k
    ∙ ap (λ s. incr_address s (bytes x) k) (incr_is x e (beats_most * j))
    ∙ incr_on x.start (bytes x) (beats_most * j) k (pow_pos x.size)
    ∙ sym (incr_is x e (beats_most * j + k))

-- beat k of burst j is at the address of beat 16*j + k
piece-address : (x : Burst) → Legal x → (j : ℕ) → j < piece_count x → (k : ℕ) → beat_address (piece x j) k ≡ beat_address x (beats_most * j + k)
piece-address x l j h k =
    by_kind (λ y j. beat_address y k ≡ beat_address x (beats_most * j + k)) x l (ap (beat_address x) (sym (zero-add k)))
    (λ e j h. incr_piece x e j k) j h

-- and so it is that beat, lanes and all
piece-beat : (x : Burst) → Legal x → (j : ℕ) → j < piece_count x → (k : ℕ) → beat_of (piece x j) k ≡ beat_of x (beats_most * j + k)
unfolding piece
piece-beat x l j h k = ap (beat_at x) (piece-address x l j h k)

-- so many beats has burst j
pub beats_are : (x : Burst) → Legal x → (j : ℕ) → j < piece_count x → beats (piece x j) ≡ piece_beats (beats x) j
unfolding piece
beats_are x l j h = omega (arith, first-beat x l j h)

-- the beats of p bursts from burst j on, up to the last one, are the beats from 16*j on
from-piece : (x : Burst) → Legal x → (p j : ℕ) → j + p ≡ piece_count x
    → beats_of_all (run (piece x) j p) ≡ run (beat_of x) (beats_most * j) (beats x - beats_most * j)
unfolding run joined
from-piece x l zero j e =
    let none : beats x - beats_most * j ≡ 0 = omega (arith, count-is x l) in
    rw none
from-piece x l (suc p) j e =
    let h : j < piece_count x = omega arith in
    let n : ℕ = piece_beats (beats x) j in
    let m : ℕ = beats x - beats_most * suc j in
    let whole : beats x - beats_most * j ≡ n + m = omega (arith, first-beat x l j h) in
    let here : beats_of (piece x j) ≡ run (beat_of x) (beats_most * j) n =
    ap (run (beat_of (piece x j)) 0) (beats_are x l j h)
    ∙ run-same (beat_of (piece x j)) (beat_of x) 0 (beats_most * j) n (λ k b. rw (zero-add k) (piece-beat x l j h k))
    in
    let next : run (beat_of x) (beats_most * suc j) m ≡ run (beat_of x) (beats_most * j + n) m =
    run_at (beat_of x) (beats_most * suc j) (beats_most * j + n) m (λ some. omega arith)
    in
    ap₂ (λ xs ys. xs ++ ys) here (from-piece x l p (suc j) (omega arith) ∙ next)
    ∙ sym (run-append (beat_of x) (beats_most * j) n m)
    ∙ ap (run (beat_of x) (beats_most * j)) (sym whole)

pub beats-kept : (x : Burst) → Legal x → beats_of_all (pieces x) ≡ beats_of x
beats-kept x l =
    let all : beats x - beats_most * 0 ≡ beats x = omega arith in
    from-piece x l (piece_count x) 0 (zero-add (piece_count x)) ∙ ap (run (beat_of x) 0) all

-- ---- each burst of the cut is accepted

counts : (len : ℕ) → len ≤ 15 → count_allowed Incr (len + 1) ≡ true
unfolding count_allowed
counts len h =
    let low : 1 ≤ len + 1 = omega arith in
    let high : len + 1 ≤ 256 = omega arith in
    rw (le-leb 1 (len + 1) low, le-leb (len + 1) 256 high)

few-beats : (x : Burst) → x.kind ≡ Incr → x.len ≤ 15 → count_refused x ≡ false
few-beats x e h =
    let c : count_allowed x.kind (beats x) ≡ true = ap (λ m. count_allowed m (beats x)) e ∙ counts x.len h in
    let few : x.len ≤ axlen_most = omega arith in
    rw (le-ltb axlen_most x.len few, c)

pub len_most : (x : Burst) (j : ℕ) → (piece x j).len ≤ 15
unfolding piece
len_most x j = omega arith

incr_legal : (x : Burst) → Legal x → x.kind ≡ Incr → (j : ℕ) → Legal (piece x j)
unfolding piece misaligned
incr_legal x l e j =
    record {
      bus = l.bus;
      size = l.size;
      kind = l.kind;
      count = few-beats (piece x j) e (len_most x j);
      start = ap (λ m. misaligned m (piece x j).start (bytes x)) e;
    }

-- its beats are beats of the old burst, so they are in the block that it starts in
incr_inside : (x : Burst) → Accepted x → (j : ℕ) → j < piece_count x → crosses (piece x j) ≡ false
unfolding piece
incr_inside x y j h =
    let l : Legal x = y.legal in
    all-inside (piece x j).start x.size (omega (arith, size_small x l)) x.kind (beats (piece x j))
    (λ k b.
    let counted : beats_most * j + k < beats x = omega (arith, first-beat x l j h, beats_are x l j h) in
    ap (λ a. a / block) (piece-address x l j h k)
    ∙ address-block x y (beats_most * j + k) counted
    ∙ sym (address-block x y (beats_most * j) (first-beat x l j h)))

pub piece-accepted : (x : Burst) → Accepted x → (j : ℕ) → j < piece_count x → Accepted (piece x j)
piece-accepted x y j h =
    by_kind (λ z _. Accepted z) x y.legal y
    (λ e j h. record { legal = incr_legal x y.legal e j; inside = incr_inside x y j h }) j h
