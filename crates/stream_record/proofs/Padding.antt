-- A record's padding as the code tests it: by its last octet, and by a shift. Assumes nothing.
use mathlib.Core.Path.{◌≡◌, sym, ap, ◌∙◌}
use mathlib.Core.Bool.{false}
use mathlib.Core.List.{List}
use Prim.Native.Nat.{ℕ, ◌-◌, ◌*◌, ◌%◌, ◌^◌, ◌<◌}
use native.Mathlib.Nat.{one-mul, mod-eq_of_lt}
use native.Mathlib.Omega.{arith}
use lib.Dec.{leb}
use lib.ListN.{length, get_or}
use lib.Pow.{pow-lt}
use Rattle.stream_spec.specs.declared.Shape.{Shape}
use Rattle.stream_spec.specs.Layout.{size}
use Rattle.stream_spec.specs.Checks.{user_fault}
use Rattle.stream_spec.proofs.Users.{padding_none, padding_told}

-- a one shifted to a place of an octet
pub shifted_octet : (n : ℕ) → n < 8 → 1 * 2 ^ n % 256 ≡ 2 ^ n
shifted_octet n h = ap (λ (x : ℕ). x % 256) (one-mul (2 ^ n)) ∙ mod-eq_of_lt (pow-lt {j = 8} h)

module _ (s : Shape) (rec : List ℕ) (octets : (i : ℕ) → get_or rec i 0 < 256) (n : ℕ) (is : n ≡ s.width * s.user % 8) where
  pub padding_clear : n ≡ 0 → false ≡ user_fault s rec
  padding_clear e = sym (padding_none s rec octets (sym is ∙ e))

  pub padding_set : length rec ≡ size s → n < 8 → (n ≡ 0 → ⊥) → leb (1 * 2 ^ n % 256) (get_or rec (length rec - 1) 0) ≡ user_fault s rec
  padding_set long small some =
      rw (shifted_octet n small, long, is) (sym (padding_told s rec octets (omega (arith, is, some))))
