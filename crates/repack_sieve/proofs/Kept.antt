-- The octets of the lanes that a mask keeps: of some lanes and of those behind them; stored one behind the other. Assumes
-- nothing.
use mathlib.Core.Path.{◌≡◌, refl, sym, ap, ◌∙◌}
use mathlib.Core.Bool.{Bool, true, false, cond}
use mathlib.Core.List.{List, [], ◌∷◌, ◌++◌, append_assoc}
use Prim.Native.Nat.{ℕ, zero, suc, ◌+◌, ◌*◌, ◌/◌, ◌%◌, ◌^◌, ◌≤◌, ◌<◌}
use native.Mathlib.Nat.{pow-suc}
use native.Mathlib.Omega.{arith}
use lib.Pow.{mod-pow-add, shr-shr}
use lib.ListN.{length, get_or, take, drop, length-append}
use lib.Seq.{drop-drop, length-take-le, take-append-add, take-append-le}
use Rattle.stream_spec.specs.Layout.{odd}
use Rattle.words.specs.Splice.{splice}
use Rattle.words.specs.Words.{padded}
use Rattle.words.proofs.Splice.{splice-long}
use Rattle.repack_sieve.specs.Kept.{kept_octet, kept_octets, Collected}

-- ---- what a mask keeps

kept-few : (w k : ℕ) (ds : List ℕ) → length (kept_octets w k ds) ≤ w
kept-few zero k ds = omega arith
kept-few (suc w) k ds =
    rw (length-append (kept_octet k (get_or ds 0 0)) (kept_octets w (k / 2) (drop 1 ds)))
    (omega (arith, kept-few w (k / 2) (drop 1 ds), one (odd k)))
  where
    one : (b : Bool) → length (cond b (get_or ds 0 0 ∷ []) []) ≤ 1
    one true = omega arith
    one false = omega arith

-- some lanes, and those behind them
pub kept_split : (a b k : ℕ) (ds : List ℕ) → kept_octets (a + b) k ds ≡ kept_octets a k ds ++ kept_octets b (k / 2 ^ a) (drop a ds)
kept_split zero b k ds =
    let none : 0 + b ≡ b = omega arith in
    let all : k / 2 ^ 0 ≡ k = omega arith in
    rw (none, all) refl
kept_split (suc a) b k ds =
    let one : suc a + b ≡ suc (a + b) = omega arith in
    let past : suc a ≡ 1 + a = omega arith in
    let rest : k / 2 / 2 ^ a ≡ k / 2 ^ (1 + a) = shr-shr k 1 a in
    rw one
    (ap (λ (l : List ℕ). kept_octet k (get_or ds 0 0) ++ l) (kept_split a b (k / 2) (drop 1 ds) ∙ rw (rest, drop-drop a 1 ds, ← past) refl)
    ∙ sym (append_assoc (kept_octet k (get_or ds 0 0)) (kept_octets a (k / 2) (drop 1 ds)) (kept_octets b (k / 2 ^ suc a) (drop (suc a) ds))))

-- only the bits of these lanes count
pub kept-bits : (w k : ℕ) (ds : List ℕ) → kept_octets w (k % 2 ^ w) ds ≡ kept_octets w k ds
kept-bits zero k ds = refl
kept-bits (suc w) k ds =
    let more : suc w ≡ w + 1 = omega arith in
    let split : k % 2 ^ (w + 1) ≡ (k / 2 % 2 ^ w) * 2 + k % 2 = mod-pow-add k w 1 in
    let low : ((k / 2 % 2 ^ w) * 2 + k % 2) % 2 ≡ k % 2 = omega arith in
    let high : ((k / 2 % 2 ^ w) * 2 + k % 2) / 2 ≡ k / 2 % 2 ^ w = omega arith in
    rw (more, split, low, high, kept-bits w (k / 2) (drop 1 ds)) refl

-- lanes that are filled up with zeros
pub kept-padded : (v w k : ℕ) (ds : List ℕ) → w ≤ v → k < 2 ^ w → kept_octets v k (padded v w ds) ≡ kept_octets w k ds
kept-padded zero zero k ds h l = refl
kept-padded zero (suc w) k ds h l = absurd (omega arith)
kept-padded (suc v) zero k ds h l =
    let none : k ≡ 0 = omega arith in
    rw none (kept-padded v zero 0 (drop 1 ds) (omega arith) (omega arith))
kept-padded (suc v) (suc w) k ds h l =
    ap (λ (r : List ℕ). kept_octet k (get_or ds 0 0) ++ r) (kept-padded v w (k / 2) (drop 1 ds) (omega arith) (omega (arith, pow-suc 2 w)))

-- ---- what is collected

module _ (c keep at r : ℕ) (ds o after : List ℕ) (same : length after ≡ length o) (beyond : at ≤ r) (room : r ≤ length o)
    (is : take r after ≡ take at o ++ kept_octets c keep ds) where
  collected : Collected c keep ds o at after r
  collected =
      let long : r ≡ at + length (kept_octets c keep ds) =
      sym (length-take-le r after (omega arith))
      ∙ ap length is
      ∙ length-append (take at o) (kept_octets c keep ds)
      ∙ ap (λ (n : ℕ). n + length (kept_octets c keep ds)) (length-take-le at o (omega arith)) in
      record { same = same; beyond = beyond; within = omega (arith, long, kept-few c keep ds); is = is }

-- the same octets, told otherwise
pub collected_as : (a c k keep at r : ℕ) (xs ds o after : List ℕ) → at + a ≤ length o → kept_octets c keep ds ≡ kept_octets a k xs
    → Collected a k xs o at after r → Collected c keep ds o at after r
collected_as a c k keep at r xs ds o after h e f =
    collected c keep at r ds o after f.same f.beyond (omega (arith, f.within)) (f.is ∙ rw e refl)

-- some, and more behind them
pub collected_on : (a b c k k' keep at n r : ℕ) (xs ys ds o o1 o2 : List ℕ) → at + a + b ≤ length o
    → kept_octets c keep ds ≡ kept_octets a k xs ++ kept_octets b k' ys → Collected a k xs o at o1 n → Collected b k' ys o1 n o2 r
    → Collected c keep ds o at o2 r
collected_on a b c k k' keep at n r xs ys ds o o1 o2 h e f g =
    collected c keep at r ds o o2 (g.same ∙ f.same) (omega (arith, f.beyond, g.beyond)) (omega (arith, f.within, g.within))
    (g.is ∙ rw (f.is, e) (append_assoc (take at o) (kept_octets a k xs) (kept_octets b k' ys)))

-- the first n of some octets that were stored
pub stored_kept : (c keep at n : ℕ) (ds xs o after : List ℕ) → at + length xs ≤ length o → n ≤ length xs → take n xs ≡ kept_octets c keep ds
    → after ≡ splice at xs o → Collected c keep ds o at after (at + n)
stored_kept c keep at n ds xs o after h l k e =
    let before : length (take at o) ≡ at = length-take-le at o (omega arith) in
    let before : take (at + n) (splice at xs o) ≡ take at o ++ take n (xs ++ drop (at + length xs) o) =
    rw before at (take-append-add (take at o) (xs ++ drop (at + length xs) o) n) in
    collected c keep at (at + n) ds o after (ap length e ∙ splice-long at xs o h) (omega arith) (omega arith)
    (ap (take (at + n)) e ∙ before ∙ rw (take-append-le n xs (drop (at + length xs) o) l, k) refl)
