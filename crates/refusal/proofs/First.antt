-- The first of a list of checks that finds something: none found is found nowhere, and what is found is the first.
-- Assumes nothing.
use Rattle.std.specs.Prelude.{Option, None, Some}
use mathlib.Core.Path.{◌≡◌, refl, ap, ◌∙◌}
use mathlib.Core.Bool.{Bool, true, false, cond}
use mathlib.Core.List.{List, [], ◌∷◌, ◌++◌}
use Prim.Native.Nat.{ℕ}
use native.Mathlib.Omega.{arith}
use Rattle.refusal.specs.Checks.{Check, first, FoundAt, FirstInOrder}

module _ {X : Type 0} where
  pub cond-none : (b : Bool) (x : X) (y : Option X) → cond b (Some x) y ≡ None → (b ≡ false) × (y ≡ None)
  cond-none true x y e = let z : ◌≡◌ {A = ℕ} 0 1 = cc in absurd (omega arith)
  cond-none false x y e = (refl, e)

  -- where nothing is found, the first check finds nothing, and neither do the others
  pub first-none : (c : Check X) (cs : List (Check X)) → first (c ∷ cs) ≡ None → (c.found ≡ false) × (first cs ≡ None)
  first-none c cs e = cond-none c.found c.gives (first cs) e

  pub none_first : (c : Check X) (cs : List (Check X)) → c.found ≡ false → first cs ≡ None → first (c ∷ cs) ≡ None
  none_first c cs h k = rw h k

  pub append-none : (cs ds : List (Check X)) → first (cs ++ ds) ≡ None → (first cs ≡ None) × (first ds ≡ None)
  append-none [] ds e = (refl, e)
  append-none (c ∷ cs) ds e =
      let h = first-none c (cs ++ ds) e in
      let k = append-none cs ds h.1 in
      (none_first c cs h.0 k.0, k.1)

  pub none-append : (cs ds : List (Check X)) → first cs ≡ None → first ds ≡ None → first (cs ++ ds) ≡ None
  none-append [] ds h k = k
  none-append (c ∷ cs) ds h k = let e = first-none c cs h in none_first c (cs ++ ds) e.0 (none-append cs ds e.1 k)

  -- a check of the front list that finds something is the first, and where none does the others decide
  pub append-found : (cs ds : List (Check X)) (x : X) → first cs ≡ Some x → first (cs ++ ds) ≡ Some x
  append-found [] ds x e = let z : ◌≡◌ {A = ℕ} 0 1 = cc in absurd (omega arith)
  append-found (c ∷ cs) ds x e = go c.found refl (append-found cs ds x)
    where
      go : (b : Bool) → c.found ≡ b → (first cs ≡ Some x → first (cs ++ ds) ≡ Some x) → first ((c ∷ cs) ++ ds) ≡ Some x
      go true h ih = rw h (rw h at e)
      go false h ih = rw h (ih (rw h at e))

  pub append-passed : (cs ds : List (Check X)) → first cs ≡ None → first (cs ++ ds) ≡ first ds
  append-passed [] ds e = refl
  append-passed (c ∷ cs) ds e = let k = first-none c cs e in rw k.0 (append-passed cs ds k.1)

  -- what is found stands in the list, and nothing before it finds anything
  pub first_some : (cs : List (Check X)) (x : X) → first cs ≡ Some x → FoundAt X cs x
  first_some [] x e = let z : ◌≡◌ {A = ℕ} 0 1 = cc in absurd (omega arith)
  first_some (c ∷ cs) x e = go (first_some cs x) c.found refl
    where
      go : (first cs ≡ Some x → FoundAt X cs x) → (b : Bool) → c.found ≡ b → FoundAt X (c ∷ cs) x
      go ih true h =
          let same : Some c.gives ≡ Some x = rw h at e in
          record { before = []; at = c; after = cs; is = refl; found = h; gives = cc; earlier = refl }
      go ih false h =
          let r = ih (rw h at e) in
          record {
            before = c ∷ r.before;
            at = r.at;
            after = r.after;
            is = ap {B = List (Check X)} (λ l. c ∷ l) r.is;
            found = r.found;
            gives = r.gives;
            earlier = none_first c r.before h r.earlier;
          }

  pub some_first : (cs : List (Check X)) (x : X) → FoundAt X cs x → first cs ≡ Some x
  some_first cs x f = ap first f.is ∙ go f.before f.earlier ∙ ap {B = Option X} Some f.gives
    where
      go : (ds : List (Check X)) → first ds ≡ None → first (ds ++ f.at ∷ f.after) ≡ Some f.at.gives
      go [] e = rw f.found refl
      go (d ∷ ds) e = let h = first-none d ds e in rw h.0 (go ds h.1)

pub first_in_order : FirstInOrder
first_in_order X cs x = (first_some cs x, some_first cs x)
