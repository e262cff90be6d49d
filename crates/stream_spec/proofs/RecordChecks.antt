-- The checks of records, one record after the other: a record's fault is the first, and where it has none the others decide.
-- Assumes nothing.
use Rattle.std.specs.Prelude.{Option, None, Some}
use mathlib.Core.Path.{◌≡◌, refl, sym, ap, ◌∙◌}
use mathlib.Core.List.{List, [], ◌∷◌}
use Prim.Native.Nat.{ℕ, zero, suc, ◌+◌, ◌<◌}
use native.Mathlib.Nat.{add-zero, add-suc, suc-add}
use native.Mathlib.Omega.{arith}
use lib.ListN.{length, get_or}
use Rattle.refusal.specs.Checks.{Check, first}
use Rattle.refusal.proofs.First.{append-found, append-passed, append-none, none-append}
use Rattle.stream_spec.specs.Checks.{each}

module _ {X : Type 0} (checks : ℕ → List ℕ → List (Check X)) (k : ℕ) (r : List ℕ) (rs : List (List ℕ)) where
  -- what is found in the first record is found in all
  pub each-found : (x : X) → first (checks k r) ≡ Some x → first (each checks k (r ∷ rs)) ≡ Some x
  each-found x e = append-found (checks k r) (each checks (suc k) rs) x e

  -- a first record without fault leaves it to the others
  pub each-passed : first (checks k r) ≡ None → first (each checks k (r ∷ rs)) ≡ first (each checks (suc k) rs)
  each-passed e = append-passed (checks k r) (each checks (suc k) rs) e

  -- no fault in all is none in the first and none in the others, and the other way round
  pub each_none : first (each checks k (r ∷ rs)) ≡ None → (first (checks k r) ≡ None) × (first (each checks (suc k) rs) ≡ None)
  each_none e = append-none (checks k r) (each checks (suc k) rs) e

  pub none_each : first (checks k r) ≡ None → first (each checks (suc k) rs) ≡ None → first (each checks k (r ∷ rs)) ≡ None
  none_each e f = none-append (checks k r) (each checks (suc k) rs) e f

-- where in the records the first fault stands: at a record, and no record before it has one
pub record FoundIn (X : Type 0) (checks : ℕ → List ℕ → List (Check X)) (k : ℕ) (rs : List (List ℕ)) (x : X) : Type 0 where
  pub place : ℕ
  pub within : place < length rs
  pub here : first (checks (k + place) (get_or rs place [])) ≡ Some x
  pub earlier : (j : ℕ) → j < place → first (checks (k + j) (get_or rs j [])) ≡ None

module _ {X : Type 0} (checks : ℕ → List ℕ → List (Check X)) where
  -- the record k + (1 + j) is the record (1 + k) + j
  next : (k j : ℕ) (r : List ℕ) → first (checks (suc k + j) r) ≡ first (checks (k + suc j) r)
  next k j r = ap (λ (n : ℕ). first (checks n r)) (suc-add k j ∙ sym (add-suc k j))

  at_zero : (k : ℕ) (r : List ℕ) → first (checks (k + 0) r) ≡ first (checks k r)
  at_zero k r = ap (λ (n : ℕ). first (checks n r)) (add-zero k)

  -- no fault in all records is no fault in any, and the other way round
  pub each_all : (k : ℕ) (rs : List (List ℕ)) → first (each checks k rs) ≡ None
      → (j : ℕ) → j < length rs → first (checks (k + j) (get_or rs j [])) ≡ None
  each_all k [] e j l = absurd (omega arith)
  each_all k (r ∷ rs) e zero l = at_zero k r ∙ (each_none checks k r rs e).0
  each_all k (r ∷ rs) e (suc j) l =
      sym (next k j (get_or rs j [])) ∙ each_all (suc k) rs (each_none checks k r rs e).1 j (omega arith)

  pub all-each : (k : ℕ) (rs : List (List ℕ)) → ((j : ℕ) → j < length rs → first (checks (k + j) (get_or rs j [])) ≡ None)
      → first (each checks k rs) ≡ None
  all-each k [] h = refl
  all-each k (r ∷ rs) h =
      none_each checks k r rs (sym (at_zero k r) ∙ h 0 (omega arith))
      (all-each (suc k) rs (λ j l. next k j (get_or rs j []) ∙ h (suc j) (omega arith)))

  -- the first fault of all records stands at some record, and the other way round
  pub each_at : (k : ℕ) (rs : List (List ℕ)) (x : X) → first (each checks k rs) ≡ Some x → FoundIn X checks k rs x
  each_at k [] x e = let z : ◌≡◌ {A = ℕ} 0 1 = cc in absurd (omega arith)
  each_at k (r ∷ rs) x e = go (first (checks k r)) refl (each_at (suc k) rs x)
    where
      go : (o : Option X) → first (checks k r) ≡ o → (first (each checks (suc k) rs) ≡ Some x → FoundIn X checks (suc k) rs x)
          → FoundIn X checks k (r ∷ rs) x
      go (Some y) h ih =
          let same : Some y ≡ Some x = sym (each-found checks k r rs y h) ∙ e in
          record { place = 0; within = omega arith; here = at_zero k r ∙ h ∙ same; earlier = λ j l. absurd (omega arith) }
      go None h ih =
          let f = ih (sym (each-passed checks k r rs h) ∙ e) in
          record {
            place = suc f.place;
            within = omega (arith, f.within);
            here = sym (next k f.place (get_or rs f.place [])) ∙ f.here;
            earlier = earlier f;
          }
        where
          earlier : (f : FoundIn X checks (suc k) rs x) (j : ℕ) → j < suc f.place → first (checks (k + j) (get_or (r ∷ rs) j [])) ≡ None
          earlier f zero l = at_zero k r ∙ h
          earlier f (suc j) l = sym (next k j (get_or rs j [])) ∙ f.earlier j (omega arith)

  pub at_each : (k : ℕ) (rs : List (List ℕ)) (x : X) → FoundIn X checks k rs x → first (each checks k rs) ≡ Some x
  at_each k [] x f = absurd (omega (arith, f.within))
  at_each k (r ∷ rs) x f = go f.place f.within f.here f.earlier (at_each (suc k) rs x)
    where
      go : (p : ℕ) → p < suc (length rs) → first (checks (k + p) (get_or (r ∷ rs) p [])) ≡ Some x
          → ((j : ℕ) → j < p → first (checks (k + j) (get_or (r ∷ rs) j [])) ≡ None)
          → (FoundIn X checks (suc k) rs x → first (each checks (suc k) rs) ≡ Some x) → first (each checks k (r ∷ rs)) ≡ Some x
      go zero w h e ih = each-found checks k r rs x (sym (at_zero k r) ∙ h)
      go (suc p) w h e ih =
          each-passed checks k r rs (sym (at_zero k r) ∙ e 0 (omega arith))
          ∙ ih
          (record {
            place = p;
            within = omega arith;
            here = next k p (get_or rs p []) ∙ h;
            earlier = λ j l. next k j (get_or rs j []) ∙ e (suc j) (omega arith);
          })
