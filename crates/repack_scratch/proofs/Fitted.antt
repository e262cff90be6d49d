-- What the codes of items say of a record's lanes, masks and user bits; null lanes add nothing to them. Assumes nothing.
use Rattle.std.specs.Prelude.{Option, Some}
use mathlib.Core.Path.{◌≡◌, refl, ap, ◌∙◌}
use mathlib.Core.Bool.{Bool, true, false, cond}
use mathlib.Core.List.{List, [], ◌∷◌, ◌++◌, map}
use Prim.Native.Nat.{ℕ, zero, suc, ◌-◌, ◌*◌, ◌/◌, ◌%◌, ◌^◌, ◌≤◌, ◌<◌}
use native.Mathlib.Nat.{pow-suc, mul-zero}
use native.Mathlib.Omega.{arith}
use borrow.Author.Tests.{eqb-true, eqb-false}
use lib.Dec.{eqb}
use lib.Pow.{pow_pos}
use lib.ListN.{length, replicate}
use Rattle.stream_spec.specs.Packed.{fitted}
use Rattle.stream_spec.specs.Layout.{bit_of, mask_of, Kept, octet, position, keep_bit, strb_bit, lane_octet, lane_user, users_of}
use Rattle.stream_spec.proofs.Users.{BitsFit}
use Rattle.repack_scratch.specs.Codes.{kept_of}

-- ---- an item

pub octet-is : (x : ℕ) → x % 256 * (x / 256 % 2) ≡ lane_octet (Some (kept_of x))
unfolding kept_of
octet-is x = go (eqb (x / 256 % 2) 1) refl
  where
    go : (b : Bool) → eqb (x / 256 % 2) 1 ≡ b
        → x % 256 * (x / 256 % 2) ≡ lane_octet (Some (cond (eqb (x / 256 % 2) 1) (octet (x % 256) (x / 512)) (position (x / 512))))
    go true e = rw e (let one : x / 256 % 2 ≡ 1 = eqb-true (x / 256 % 2) 1 e in rw one (omega arith))
    go false e =
        rw e
        (let low : x / 256 % 2 ≡ 1 → ⊥ = eqb-false (x / 256 % 2) 1 e in
        let zero : x / 256 % 2 ≡ 0 = omega arith in
        rw zero (omega arith))

pub strobe-is : (x : ℕ) → x / 256 % 2 ≡ bit_of (strb_bit (Some (kept_of x)))
unfolding kept_of
strobe-is x = go (eqb (x / 256 % 2) 1) refl
  where
    go : (b : Bool) → eqb (x / 256 % 2) 1 ≡ b
        → x / 256 % 2 ≡ bit_of (strb_bit (Some (cond (eqb (x / 256 % 2) 1) (octet (x % 256) (x / 512)) (position (x / 512)))))
    go true e = rw e (eqb-true (x / 256 % 2) 1 e)
    go false e = rw e (let low : x / 256 % 2 ≡ 1 → ⊥ = eqb-false (x / 256 % 2) 1 e in omega arith)

pub user-is : (x : ℕ) → x / 512 ≡ lane_user (Some (kept_of x))
unfolding kept_of
user-is x = go (eqb (x / 256 % 2) 1) refl
  where
    go : (b : Bool) → eqb (x / 256 % 2) 1 ≡ b
        → x / 512 ≡ lane_user (Some (cond (eqb (x / 256 % 2) 1) (octet (x % 256) (x / 512)) (position (x / 512))))
    go true e = rw e refl
    go false e = rw e refl

pub bits_fit : (m x : ℕ) → x / 512 < 2 ^ m → BitsFit m (kept_of x)
unfolding kept_of
bits_fit m x h = go (eqb (x / 256 % 2) 1) refl
  where
    go : (b : Bool) → eqb (x / 256 % 2) 1 ≡ b → BitsFit m (cond (eqb (x / 256 % 2) 1) (octet (x % 256) (x / 512)) (position (x / 512)))
    go true e = rw e h
    go false e = rw e h

-- ---- the lanes of a record: its items, then nulls

nulls-octets : (v : ℕ) → map lane_octet (fitted v []) ≡ replicate {A = ℕ} v 0
nulls-octets zero = refl
nulls-octets (suc v) = ap {B = List ℕ} (λ l. 0 ∷ l) (nulls-octets v)

nulls-strb : (v : ℕ) → mask_of (map strb_bit (fitted v [])) ≡ 0
nulls-strb zero = refl
nulls-strb (suc v) = rw (nulls-strb v) refl

nulls-keep : (v : ℕ) → mask_of (map keep_bit (fitted {A = Kept} v [])) ≡ 0
nulls-keep zero = refl
nulls-keep (suc v) = rw (nulls-keep v) refl

nulls_users : (m v : ℕ) → users_of m (fitted v []) ≡ 0
nulls_users m zero = refl
nulls_users m (suc v) = rw (nulls_users m v) (omega (arith, mul-zero (2 ^ m)))

pub fitted-octets : (v : ℕ) (ls : List (Option Kept)) → length ls ≤ v
    → map lane_octet (fitted v ls) ≡ map lane_octet ls ++ replicate {A = ℕ} (v - length ls) 0
fitted-octets v [] h = nulls-octets v ∙ (let all : v - 0 ≡ v = omega arith in rw all refl)
fitted-octets zero (l ∷ ls) h = absurd (omega arith)
fitted-octets (suc v) (l ∷ ls) h =
    let one : suc v - suc (length ls) ≡ v - length ls = omega arith in
    rw one (ap {B = List ℕ} (λ r. lane_octet l ∷ r) (fitted-octets v ls (omega arith)))

pub fitted-strb : (v : ℕ) (ls : List (Option Kept)) → length ls ≤ v → mask_of (map strb_bit (fitted v ls)) ≡ mask_of (map strb_bit ls)
fitted-strb v [] h = nulls-strb v
fitted-strb zero (l ∷ ls) h = absurd (omega arith)
fitted-strb (suc v) (l ∷ ls) h = rw (fitted-strb v ls (omega arith)) refl

pub fitted_users : (m v : ℕ) (ls : List (Option Kept)) → length ls ≤ v → users_of m (fitted v ls) ≡ users_of m ls
fitted_users m v [] h = nulls_users m v
fitted_users m zero (l ∷ ls) h = absurd (omega arith)
fitted_users m (suc v) (l ∷ ls) h = rw (fitted_users m v ls (omega arith)) refl

-- each item's lane is kept
pub fitted-keep : (v : ℕ) (ks : List Kept) → length ks ≤ v → mask_of (map keep_bit (fitted v (map Some ks))) ≡ 2 ^ length ks - 1
fitted-keep v [] h = nulls-keep v
fitted-keep zero (k ∷ ks) h = absurd (omega arith)
fitted-keep (suc v) (k ∷ ks) h = rw (fitted-keep v ks (omega arith)) (omega (arith, pow-suc 2 (length ks), pow_pos (length ks)))
