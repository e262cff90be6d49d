-- The grammar's first line and key, as std's `position` and `strip_prefix` find them. Assumes nothing.
use Rattle.std.specs.Prelude.{Option, None, Some}
use Rattle.std.specs.List.{position, position_or_len}
use Rattle.std.specs.Cmp.Lexicographic.{pointwise}
use Rattle.std.proofs.Common.{arith}
use Rattle.std.proofs.lemmas.Grind.{common_steps}
use mathlib.Core.Bool.{Bool, true, false, not, cond}
use mathlib.Core.List.{List, [], ◌∷◌}
use mathlib.Core.Path.{◌≡◌, refl, ◌∙◌}
use Prim.Native.Nat.{ℕ, suc, ◌+◌, ◌-◌}
use lib.Dec.{eqb, ltb}
use lib.ListN.{length, take, drop, length-drop}
use lib.Seq.{take_all}
use Rattle.report_setup_spec.specs.declared.Setup.{Setup}
use Rattle.report_setup_spec.specs.Grammar.{Line, line, longer, on, first_line, after, entry, ending}

abbrev is_line_feed : ℕ → Bool
is_line_feed octet = eqb octet 10

-- ---- the first line, cut at its LF

abbrev cut : List ℕ → ℕ → Option (Line (List ℕ))
cut xs n = cond (ltb n (length xs)) (Some (line (take n xs) (drop (suc n) xs))) None

cut-longer : (x : ℕ) (xs : List ℕ) (n : ℕ) → on (cut xs n) (λ (l : Line (List ℕ)). Some (longer x l)) ≡ cut (x ∷ xs) (1 + n)
cut-longer x xs n = grind (arith, common_steps)

pub first_line-is : (xs : List ℕ) → first_line xs ≡ cut xs (position_or_len is_line_feed xs)
first_line-is [] = refl
first_line-is (x ∷ xs) = go (eqb x 10) (first_line-is xs)
  where
    go : (b : Bool) → first_line xs ≡ cut xs (position_or_len is_line_feed xs)
        → cond b (Some (line [] xs)) (on (first_line xs) (λ (l : Line (List ℕ)). Some (longer x l)))
        ≡ cut (x ∷ xs) (cond (not b) (1 + position_or_len is_line_feed xs) 0)
    go true e = grind (arith, common_steps)
    go false e = rw e (cut-longer x xs (position_or_len is_line_feed xs))

-- ---- a key in front

pub after-is : (key xs : List ℕ) → after key xs ≡ cond (pointwise eqb (take (length key) xs) key) (Some (drop (length key) xs)) None
after-is [] xs = refl
after-is (k ∷ ks) [] = refl
after-is (k ∷ ks) (x ∷ xs) = let h = after-is ks xs in grind (arith, common_steps)

-- ---- the line that the two find

pub entry-found : (key xs value : List ℕ) (n : ℕ) → position is_line_feed xs ≡ Some n
    → pointwise eqb (take (length key) (take n xs)) key ≡ true → value ≡ drop (length key) (take n xs)
    → entry key xs ≡ Some (line value (take (length xs - (n + 1)) (drop (n + 1) xs)))
entry-found key xs value n e b v =
    let f : first_line xs ≡ Some (line (take n xs) (drop (n + 1) xs)) = first_line-is xs ∙ cut-at (position_or_len is_line_feed xs) e in
    let w : after key (take n xs) ≡ Some value = grind (arith, common_steps, after-is) in
    let all : take (length xs - (n + 1)) (drop (n + 1) xs) ≡ drop (n + 1) xs = take_all _ _ (omega (arith, length-drop (n + 1) xs)) in
    rw (f, w, all)
  where
    cut-at : (m : ℕ) → cond (ltb m (length xs)) (Some m) None ≡ Some n → cut xs m ≡ Some (line (take n xs) (drop (n + 1) xs))
    cut-at m h = grind (arith, common_steps)

-- ---- the end of a sheet

pub ending_is : (xs : List ℕ) (s : Option Setup) → ending xs s ≡ cond (eqb (length xs) 0) s None
ending_is [] s = refl
ending_is (x ∷ xs) s = grind (arith, common_steps)
