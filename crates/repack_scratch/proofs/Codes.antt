-- Laws of the codes: what is packed into a code comes out of it again; the codes of a record's kept lanes stand for what
-- those lanes carry; a table grows by one stretch with each entry. Assumes nothing.
use mathlib.Core.Path.{◌≡◌, refl, ap, ap₂, ◌∙◌}
use mathlib.Core.Bool.{Bool, true, false}
use mathlib.Core.List.{List, [], ◌∷◌, ◌++◌, map}
use Prim.Native.Nat.{ℕ, zero, suc, ◌+◌, ◌*◌, ◌/◌, ◌%◌, ◌^◌, ◌≤◌, ◌<◌}
use native.Mathlib.Omega.{arith}
use borrow.Author.Tests.{eqb-true, eqb-false}
use lib.ListN.{length, get_or, take, drop, length-drop}
use lib.Seq.{take-append-le, drop-append-le, take_all, drop-drop}
use Rattle.stream_spec.specs.Items.{kept}
use Rattle.stream_spec.specs.Packed.{Stretch}
use Rattle.stream_spec.specs.Layout.{odd, lane_type, lane_of, lanes_of, types_of, Kept, octet, position}
use Rattle.stream_spec.specs.Legal.{Octets}
use Rattle.repack_scratch.specs.declared.Entry.{Entry}
use Rattle.repack_scratch.specs.Codes.{item_code, tagged_code, kept_of, sifted, tagged, pair_from, entry_of, entry_count, entry_last, entry_pair, stretch_of, stretches_of, total}

-- ---- items

pub item_data : (t u d : ℕ) → d < 256 → odd t ≡ true → kept_of (tagged_code t u d) ≡ octet d u
unfolding kept_of
item_data t u d h e =
    let bit : t % 2 ≡ 1 = eqb-true (t % 2) 1 e in
    let code : d + 256 * (t % 2) + 512 * u ≡ d + 256 + 512 * u = omega arith in
    let odd' : (d + 256 + 512 * u) / 256 % 2 ≡ 1 = omega arith in
    let low : (d + 256 + 512 * u) % 256 ≡ d = omega arith in
    let high : (d + 256 + 512 * u) / 512 ≡ u = omega arith in
    rw (code, odd', low, high) refl

pub item_position : (t u d : ℕ) → d < 256 → odd t ≡ false → kept_of (tagged_code t u d) ≡ position u
unfolding kept_of
item_position t u d h e =
    let bit : t % 2 ≡ 1 → ⊥ = eqb-false (t % 2) 1 e in
    let code : d + 256 * (t % 2) + 512 * u ≡ d + 512 * u = omega arith in
    let even : (d + 512 * u) / 256 % 2 ≡ 0 = omega arith in
    let high : (d + 512 * u) / 512 ≡ u = omega arith in
    rw (code, even, high) refl

-- the codes of the kept lanes stand for what the lanes carry
pub tagged-kept : (m w k t u : ℕ) (ds : List ℕ) → Octets ds → map kept_of (tagged m w k t u ds) ≡ kept (lanes_of m (types_of w k t) u ds)
tagged-kept m zero k t u ds h = refl
tagged-kept m (suc w) k t u [] h = go (tagged-kept m w (k / 2) (t / 2) (u / 2 ^ m) [] tt) (odd k) refl (odd t) refl
  where
    go : map kept_of (tagged m w (k / 2) (t / 2) (u / 2 ^ m) []) ≡ kept (lanes_of m (types_of w (k / 2) (t / 2)) (u / 2 ^ m) [])
        → (a : Bool) → odd k ≡ a → (b : Bool) → odd t ≡ b
        → map kept_of (tagged m (suc w) k t u [])
        ≡ kept (lane_of (lane_type (odd k) (odd t)) 0 (u % 2 ^ m) ∷ lanes_of m (types_of w (k / 2) (t / 2)) (u / 2 ^ m) [])
    go ih true e true f = rw (e, f) (rw (item_data t (u % 2 ^ m) 0 (omega arith) f, ih) refl)
    go ih true e false f = rw (e, f) (rw (item_position t (u % 2 ^ m) 0 (omega arith) f, ih) refl)
    go ih false e true f = rw (e, f) ih
    go ih false e false f = rw (e, f) ih
tagged-kept m (suc w) k t u (d ∷ ds) h = go (tagged-kept m w (k / 2) (t / 2) (u / 2 ^ m) ds h.1) (odd k) refl (odd t) refl
  where
    go : map kept_of (tagged m w (k / 2) (t / 2) (u / 2 ^ m) ds) ≡ kept (lanes_of m (types_of w (k / 2) (t / 2)) (u / 2 ^ m) ds)
        → (a : Bool) → odd k ≡ a → (b : Bool) → odd t ≡ b
        → map kept_of (tagged m (suc w) k t u (d ∷ ds))
        ≡ kept (lane_of (lane_type (odd k) (odd t)) d (u % 2 ^ m) ∷ lanes_of m (types_of w (k / 2) (t / 2)) (u / 2 ^ m) ds)
    go ih true e true f = rw (e, f) (rw (item_data t (u % 2 ^ m) d h.0 f, ih) refl)
    go ih true e false f = rw (e, f) (rw (item_position t (u % 2 ^ m) d h.0 f, ih) refl)
    go ih false e true f = rw (e, f) ih
    go ih false e false f = rw (e, f) ih

-- without user bits, whatever is said of them: no code has any
pub sifted-tagged : (w k t u : ℕ) (ds : List ℕ) → sifted w k t ds ≡ tagged 0 w k t u ds
sifted-tagged zero k t u ds = refl
sifted-tagged (suc w) k t u ds = go (sifted-tagged w (k / 2) (t / 2) (u / 2 ^ 0) (drop 1 ds)) (odd k) refl
  where
    bare : item_code t (get_or ds 0 0) ≡ tagged_code t (u % 2 ^ 0) (get_or ds 0 0)
    bare = omega arith

    go : sifted w (k / 2) (t / 2) (drop 1 ds) ≡ tagged 0 w (k / 2) (t / 2) (u / 2 ^ 0) (drop 1 ds)
        → (b : Bool) → odd k ≡ b → sifted (suc w) k t ds ≡ tagged 0 (suc w) k t u ds
    go ih true e = rw e (ap₂ {C = List ℕ} (λ (x : ℕ) (l : List ℕ). x ∷ l) bare ih)
    go ih false e = rw e ih

-- ---- entries

pub entry-count : (n : ℕ) (last : Bool) (pair : ℕ) → n < 0x10000 → entry_count (entry_of n last pair) ≡ n
entry-count n true pair h = omega arith
entry-count n false pair h = omega arith

entry-last : (n : ℕ) (last : Bool) (pair : ℕ) → n < 0x10000 → entry_last (entry_of n last pair) ≡ last
entry-last n true pair h = rw (odd-one n pair h) refl
  where
    odd-one : (n pair : ℕ) → n < 0x10000 → (n + 0x10000 * (1 + 2 * pair)) / 0x10000 % 2 ≡ 1
    odd-one n pair h = omega arith
entry-last n false pair h = rw (odd-none n pair h) refl
  where
    odd-none : (n pair : ℕ) → n < 0x10000 → (n + 0x10000 * (0 + 2 * pair)) / 0x10000 % 2 ≡ 0
    odd-none n pair h = omega arith

entry-pair : (n : ℕ) (last : Bool) (pair : ℕ) → n < 0x10000 → entry_pair (entry_of n last pair) ≡ pair
entry-pair n true pair h = omega arith
entry-pair n false pair h = omega arith

pub entry_stretch : (n : ℕ) (last : Bool) (pair : ℕ) (codes : List ℕ) → n < 0x10000
    → stretch_of (entry_of n last pair) codes ≡ record { pair = pair_from pair; bytes = map kept_of codes; ended = last }
entry_stretch n last pair codes h =
    λ i. record { pair = pair_from (entry-pair n last pair h i); bytes = map kept_of codes; ended = entry-last n last pair h i }

-- ---- tables

pub total_more : (es : List Entry) (e : Entry) → total (es ++ e ∷ []) ≡ total es + entry_count e
total_more [] e = omega arith
total_more (f ∷ es) e = omega (arith, total_more es e)

-- codes behind those of a table do not matter
pub stretches_more : (es : List Entry) (xs ys : List ℕ) → total es ≤ length xs → stretches_of es (xs ++ ys) ≡ stretches_of es xs
stretches_more [] xs ys h = refl
stretches_more (e ∷ es) xs ys h =
    let fits : entry_count e ≤ length xs = omega arith in
    rw (take-append-le (entry_count e) xs ys fits, drop-append-le (entry_count e) xs ys fits)
    (ap {B = List (Stretch Kept)} (λ l. stretch_of e (take (entry_count e) xs) ∷ l)
    (stretches_more es (drop (entry_count e) xs) ys (rw length-drop (omega arith))))

-- an entry more, with all the codes that are left, is a stretch more
pub stretches_one : (es : List Entry) (e : Entry) (xs : List ℕ) → total es + entry_count e ≡ length xs
    → stretches_of (es ++ e ∷ []) xs ≡ stretches_of es xs ++ stretch_of e (drop (total es) xs) ∷ []
stretches_one [] e xs h = rw (take_all (entry_count e) xs (omega arith)) refl
stretches_one (f ∷ es) e xs h =
    let rest : total es + entry_count e ≡ length (drop (entry_count f) xs) = rw length-drop (omega arith) in
    ap {B = List (Stretch Kept)} (λ l. stretch_of f (take (entry_count f) xs) ∷ l)
    (stretches_one es e (drop (entry_count f) xs) rest ∙ rw (drop-drop (total es) (entry_count f) xs) refl)
