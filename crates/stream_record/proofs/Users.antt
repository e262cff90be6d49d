-- A record's user bits as they are loaded: a word that ends with the record, and the octets before them shifted out. Assumes nothing.
use mathlib.Core.Path.{◌≡◌, sym, ap, ◌∙◌}
use mathlib.Core.List.{List}
use Prim.Native.Nat.{ℕ, ◌+◌, ◌-◌, ◌≤◌}
use native.Mathlib.Omega.{arith}
use lib.ListN.{length}
use Rattle.words.specs.Words.{word_at}
use Rattle.stream_spec.specs.declared.Shape.{Shape}
use Rattle.stream_spec.specs.Layout.{head_octets, user_octets, user_number, size}
use Rattle.stream_spec.proofs.Size.{size_is}

module _ (s : Shape) (r : List ℕ) (k : ℕ) (is : k ≡ user_octets s.width s.user) where
  -- there are none
  pub none_loaded : k ≡ 0 → 0 ≡ user_number s r
  none_loaded e = ap (λ (n : ℕ). word_at n r (head_octets + s.width)) (sym e ∙ is)

  -- eight octets lie before the record's end
  pub eight-before : (k ≡ 0 → ⊥) → length r ≡ size s → 8 ≤ length r
  eight-before some long = omega (arith, is, some, long, size_is s)

  -- the last octets of a record are its user bits
  pub user_loaded : (x : ℕ) → length r ≡ size s → x ≡ word_at k r (length r - k) → x ≡ user_number s r
  user_loaded x long e =
      let there : length r - k ≡ head_octets + s.width = omega (arith, is, long, size_is s) in
      e ∙ ap (word_at k r) there ∙ ap (λ (n : ℕ). word_at n r (head_octets + s.width)) is
