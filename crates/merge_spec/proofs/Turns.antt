-- Turns over any type: all that a port has is passed on, record by record as code goes, and what holds of each turn. Assumes nothing.
use mathlib.Core.Bool.{Bool, true, false, not}
use mathlib.Core.List.{List, [], ◌∷◌, ◌++◌, map, append_assoc, cons≢nil}
use mathlib.Core.Logic.{◌⊎◌, inl, inr}
use mathlib.Core.Path.{◌≡◌, refl, sym, ap, ap₂, ◌∙◌}
use Prim.Native.Nat.{ℕ, zero, suc}
use lib.ListN.{get_or}
use Rattle.stream_spec.proofs.Pack.{map-append}
use Rattle.merge_spec.specs.Turns.{into_first, turns_of, alternate, passed, those, sending, goes_out}

-- ---- what holds of each of a list

module _ {A : Type 0} (P : A → Type 0) where
  abbrev pub EachIn : List A → Type 0
  EachIn [] = Unit {0}
  EachIn (x ∷ xs) = P x × EachIn xs

  each_append : (xs ys : List A) → EachIn xs → EachIn ys → EachIn (xs ++ ys)
  each_append [] ys h k = k
  each_append (x ∷ xs) ys h k = (h.0, each_append xs ys h.1 k)

  -- at any place
  pub each_at : (d : A) → P d → (xs : List A) → EachIn xs → (k : ℕ) → P (get_or xs k d)
  each_at d z [] h k = z
  each_at d z (x ∷ xs) h zero = h.0
  each_at d z (x ∷ xs) h (suc k) = each_at d z xs h.1 k

-- what holds of each turn of both ports holds of all
pub each-alternate : {A : Type 0} (P : List A → Type 0) (ts us : List (List A)) → EachIn P ts → EachIn P us → EachIn P (alternate ts us)
each-alternate P [] us h k = k
each-alternate P (t ∷ ts) [] h k = h
each-alternate P (t ∷ ts) (u ∷ us) h k = (h.0, (k.0, each-alternate P ts us h.1 k.1))

module _ {A : Type 0} (P : A → Type 0) where
  -- of each turn
  abbrev pub EachTurn : List (List A) → Type 0
  EachTurn ts = EachIn (EachIn P) ts

  pub each-passed : (ts : List (List A)) → EachTurn ts → EachIn P (passed ts)
  each-passed [] h = tt
  each-passed (t ∷ ts) h = each_append P t (passed ts) h.0 (each-passed ts h.1)

  each_front : (x : A) (ts : List (List A)) → P x → EachTurn ts → EachTurn (into_first x ts)
  each_front x [] h k = ((h, tt), tt)
  each_front x (t ∷ ts) h k = ((h, k.0), k.1)

  pub each-turns : (last : A → Bool) (xs : List A) → EachIn P xs → EachTurn (turns_of last xs)
  each-turns last [] h = tt
  each-turns last (x ∷ xs) h = go (last x) refl (each-turns last xs h.1)
    where
      go : (c : Bool) → last x ≡ c → EachTurn (turns_of last xs) → EachTurn (turns_of last (x ∷ xs))
      go true e ih = rw e ((h.0, tt), ih)
      go false e ih = rw e (each_front x (turns_of last xs) h.0 ih)

-- ---- those of a list

module _ {A : Type 0} (is : A → Bool) where
  pub those-append : (xs ys : List A) → those is (xs ++ ys) ≡ those is xs ++ those is ys
  those-append [] ys = refl
  those-append (x ∷ xs) ys = go (is x) refl (those-append xs ys)
    where
      go : (b : Bool) → is x ≡ b → those is (xs ++ ys) ≡ those is xs ++ those is ys
          → those is (x ∷ xs ++ ys) ≡ those is (x ∷ xs) ++ those is ys
      go true e ih = rw e (ap {B = List A} (λ l. x ∷ l) ih)
      go false e ih = rw e ih

  -- so is each of them, or none of them
  abbrev pub All : Bool → List A → Type 0
  All b xs = EachIn (λ x. is x ≡ b) xs

  abbrev pub AllTurns : Bool → List (List A) → Type 0
  AllTurns b ts = EachTurn (λ x. is x ≡ b) ts

  pub all-those : (xs : List A) → All true xs → those is xs ≡ xs
  all-those [] h = refl
  all-those (x ∷ xs) h = rw h.0 (ap {B = List A} (λ l. x ∷ l) (all-those xs h.1))

  pub none-those : (xs : List A) → All false xs → those is xs ≡ []
  none-those [] h = refl
  none-those (x ∷ xs) h = rw h.0 (none-those xs h.1)

  pub those-none : (xs : List A) → those is xs ≡ [] → All false xs
  those-none [] e = tt
  those-none (x ∷ xs) e = go (is x) refl (those-none xs)
    where
      go : (b : Bool) → is x ≡ b → (those is xs ≡ [] → All false xs) → All false (x ∷ xs)
      go true h ih = let some : x ∷ those is xs ≡ [] = rw h at e in absurd (cons≢nil some)
      go false h ih = (h, ih (rw h at e))

  all-passed : (b : Bool) (ts : List (List A)) → AllTurns b ts → All b (passed ts)
  all-passed b ts h = each-passed (λ x. is x ≡ b) ts h

  pub all_twice : (b : Bool) (ts : List (List A)) → AllTurns b ts → AllTurns (not (not b)) ts
  all_twice true ts h = h
  all_twice false ts h = h

  pub all-turns : (last : A → Bool) (b : Bool) (xs : List A) → All b xs → AllTurns b (turns_of last xs)
  all-turns last b xs h = each-turns (λ x. is x ≡ b) last xs h

-- those of a list that another one is made of
module _ {A B : Type 0} (f : A → B) (is : B → Bool) (was : A → Bool) (same : (a : A) → is (f a) ≡ was a) where
  pub those-map : (xs : List A) → those is (map f xs) ≡ map f (those was xs)
  those-map [] = refl
  those-map (x ∷ xs) = go (was x) refl (those-map xs)
    where
      go : (b : Bool) → was x ≡ b → those is (map f xs) ≡ map f (those was xs) → those is (map f (x ∷ xs)) ≡ map f (those was (x ∷ xs))
      go true e ih = rw (same x, e) (ap {B = List B} (λ l. f x ∷ l) ih)
      go false e ih = rw (same x, e) ih

-- ---- what turns pass on

module _ {A : Type 0} where
  passed_front : (a : A) (ts : List (List A)) → passed (into_first a ts) ≡ a ∷ passed ts
  passed_front a [] = refl
  passed_front a (t ∷ ts) = refl

  pub alternate-nil : (ts : List (List A)) → alternate ts [] ≡ ts
  alternate-nil [] = refl
  alternate-nil (t ∷ ts) = refl

  -- one turn, then the other port's
  pub alternate_swap : (t : List A) (ts us : List (List A)) → alternate (t ∷ ts) us ≡ t ∷ alternate us ts
  alternate_swap t ts [] = refl
  alternate_swap t [] (u ∷ us) = ap {B = List (List A)} (λ l. t ∷ l) (sym (alternate-nil (u ∷ us)))
  alternate_swap t (s ∷ ts) (u ∷ us) = ap {B = List (List A)} (λ l. t ∷ u ∷ l) (alternate_swap s ts us)

  -- those of the turns of two ports, where all of the first port are such and none of the second
  module _ (is : A → Bool) where
    pub those-first : (ts us : List (List A)) → AllTurns is true ts → AllTurns is false us → those is (passed (alternate ts us)) ≡ passed ts
    those-first [] us h k = none-those is (passed us) (all-passed is false us k)
    those-first (t ∷ ts) [] h k = all-those is (passed (t ∷ ts)) (all-passed is true (t ∷ ts) h)
    those-first (t ∷ ts) (u ∷ us) h k =
        those-append is t (u ++ passed (alternate ts us))
        ∙ ap₂ (λ (a b : List A). a ++ b) (all-those is t h.0)
        (those-append is u (passed (alternate ts us))
        ∙ ap₂ (λ (a b : List A). a ++ b) (none-those is u k.0) (those-first ts us h.1 k.1))

    -- and where all of the second port are such and none of the first
    pub those-second : (ts us : List (List A)) → AllTurns is false ts → AllTurns is true us → those is (passed (alternate ts us)) ≡ passed us
    those-second [] us h k = all-those is (passed us) (all-passed is true us k)
    those-second (t ∷ ts) [] h k = none-those is (passed (t ∷ ts)) (all-passed is false (t ∷ ts) h)
    those-second (t ∷ ts) (u ∷ us) h k =
        those-append is t (u ++ passed (alternate ts us))
        ∙ ap₂ (λ (a b : List A). a ++ b) (none-those is t h.0)
        (those-append is u (passed (alternate ts us))
        ∙ ap₂ (λ (a b : List A). a ++ b) (all-those is u k.0) (those-second ts us h.1 k.1))

-- ---- the turns of one port

module _ {A : Type 0} (last : A → Bool) where
  -- all its records are passed on, in order
  pub turns_pass : (xs : List A) → passed (turns_of last xs) ≡ xs
  turns_pass [] = refl
  turns_pass (x ∷ xs) = go (last x) refl (turns_pass xs)
    where
      go : (b : Bool) → last x ≡ b → passed (turns_of last xs) ≡ xs → passed (turns_of last (x ∷ xs)) ≡ x ∷ xs
      go true e ih = rw e (ap {B = List A} (λ l. x ∷ l) ih)
      go false e ih = rw e (passed_front x (turns_of last xs) ∙ ap {B = List A} (λ l. x ∷ l) ih)

  -- none but the last of a turn ends it, and that one does, or it is the last of the list
  pub record Ends (t : List A) (later : List (List A)) : Type 0 where
    pub before : List A
    pub final : A
    pub is : t ≡ before ++ final ∷ []
    pub unended : those last before ≡ []
    pub ends : (last final ≡ true) ⊎ (later ≡ [])

  abbrev pub Ended : List (List A) → Type 0
  Ended [] = Unit {0}
  Ended (t ∷ ts) = Ends t ts × Ended ts

  ended_front : (x : A) (ts : List (List A)) → last x ≡ false → Ended ts → Ended (into_first x ts)
  ended_front x [] e h = (record { before = []; final = x; is = refl; unended = refl; ends = inr refl }, tt)
  ended_front x (t ∷ ts) e h = (
    record {
      before = x ∷ h.0.before;
      final = h.0.final;
      is = ap {B = List A} (λ l. x ∷ l) h.0.is;
      unended = rw e h.0.unended;
      ends = h.0.ends;
    },
    h.1,
  )

  pub turns-end : (xs : List A) → Ended (turns_of last xs)
  turns-end [] = tt
  turns-end (x ∷ xs) = go (last x) refl (turns-end xs)
    where
      go : (b : Bool) → last x ≡ b → Ended (turns_of last xs) → Ended (turns_of last (x ∷ xs))
      go true e ih = rw e (record { before = []; final = x; is = refl; unended = refl; ends = inl e }, ih)
      go false e ih = rw e (ended_front x (turns_of last xs) e ih)

-- ---- turns of what another list is made of

module _ {A B : Type 0} (f : A → B) (last : B → Bool) (was : A → Bool) (same : (a : A) → last (f a) ≡ was a) where
  map_front : (x : A) (ts : List (List A)) → into_first (f x) (map (map f) ts) ≡ map (map f) (into_first x ts)
  map_front x [] = refl
  map_front x (t ∷ ts) = refl

  turns-map : (xs : List A) → turns_of last (map f xs) ≡ map (map f) (turns_of was xs)
  turns-map [] = refl
  turns-map (x ∷ xs) = go (was x) refl (turns-map xs)
    where
      go : (b : Bool) → was x ≡ b → turns_of last (map f xs) ≡ map (map f) (turns_of was xs)
          → turns_of last (map f (x ∷ xs)) ≡ map (map f) (turns_of was (x ∷ xs))
      go true e ih = rw (same x, e) (ap {B = List (List B)} (λ l. (f x ∷ []) ∷ l) ih)
      go false e ih = rw (same x, e) (ap (into_first (f x)) ih ∙ map_front x (turns_of was xs))

pub alternate-map : {A B : Type 0} (f : List A → List B) (ts us : List (List A)) → alternate (map f ts) (map f us) ≡ map f (alternate ts us)
alternate-map f [] us = refl
alternate-map f (t ∷ ts) [] = refl
alternate-map f (t ∷ ts) (u ∷ us) = ap {B = List (List _)} (λ l. f t ∷ f u ∷ l) (alternate-map f ts us)

pub passed-append : {A : Type 0} (ts us : List (List A)) → passed (ts ++ us) ≡ passed ts ++ passed us
passed-append [] us = refl
passed-append (t ∷ ts) us = ap (λ (l : List _). t ++ l) (passed-append ts us) ∙ sym (append_assoc t (passed ts) (passed us))

pub passed-map : {A B : Type 0} (f : A → B) (ts : List (List A)) → passed (map (map f) ts) ≡ map f (passed ts)
passed-map f [] = refl
passed-map f (t ∷ ts) = ap (λ (l : List _). map f t ++ l) (passed-map f ts) ∙ sym (map-append f t (passed ts))

module _ {A B : Type 0} (f : A → B) (last : B → Bool) (was : A → Bool) (same : (a : A) → last (f a) ≡ was a) where
  pub both_map : (xs ys : List A) → alternate (turns_of last (map f xs)) (turns_of last (map f ys)) ≡ map (map f) (alternate (turns_of was xs) (turns_of was ys))
  both_map xs ys =
      ap₂ (λ (a b : List (List B)). alternate a b) (turns-map f last was same xs) (turns-map f last was same ys)
      ∙ alternate-map (map f) (turns_of was xs) (turns_of was ys)

  pub passed_both : (xs ys : List A) → passed (alternate (turns_of last (map f xs)) (turns_of last (map f ys))) ≡ map f (passed (alternate (turns_of was xs) (turns_of was ys)))
  passed_both xs ys = ap passed (both_map xs ys) ∙ passed-map f (alternate (turns_of was xs) (turns_of was ys))

-- ---- record by record, as code goes

module _ {A : Type 0} (last : A → Bool) where
  -- a record in front of a turn that is not over
  front_sent : (x : A) (ts us : List (List A)) → passed (alternate (into_first x ts) us) ≡ x ∷ passed (alternate ts us)
  front_sent x [] us = ap passed (alternate_swap (x ∷ []) [] us) ∙ ap (λ (l : List (List A)). x ∷ passed l) (alternate-nil us)
  front_sent x (t ∷ ts) us =
      ap passed (alternate_swap (x ∷ t) ts us) ∙ ap (λ (l : List (List A)). x ∷ passed l) (sym (alternate_swap t ts us))

  -- a record of the port that has the turn is sent; the turn goes over where the record is the last of its turn, and else stays
  sent_last : (x : A) (xs ys : List A) → last x ≡ true → sending last (x ∷ xs) ys ≡ x ∷ sending last ys xs
  sent_last x xs ys e = rw e (ap passed (alternate_swap (x ∷ []) (turns_of last xs) (turns_of last ys)))

  sent_more : (x : A) (xs ys : List A) → last x ≡ false → sending last (x ∷ xs) ys ≡ x ∷ sending last xs ys
  sent_more x xs ys e = rw e (front_sent x (turns_of last xs) (turns_of last ys))

  sent_skip : (ys : List A) → sending last [] ys ≡ sending last ys []
  sent_skip ys = ap passed (sym (alternate-nil (turns_of last ys)))

  pub goes_first : (x : A) (xs ys : List A) → goes_out last false (x ∷ xs) ys ≡ x ∷ goes_out last (last x) xs ys
  goes_first x xs ys = go (last x) refl
    where
      go : (b : Bool) → last x ≡ b → goes_out last false (x ∷ xs) ys ≡ x ∷ goes_out last b xs ys
      go true e = sent_last x xs ys e
      go false e = sent_more x xs ys e

  pub goes_second : (xs : List A) (y : A) (ys : List A) → goes_out last true xs (y ∷ ys) ≡ y ∷ goes_out last (not (last y)) xs ys
  goes_second xs y ys = go (last y) refl
    where
      go : (b : Bool) → last y ≡ b → goes_out last true xs (y ∷ ys) ≡ y ∷ goes_out last (not b) xs ys
      go true e = sent_last y ys xs e
      go false e = sent_more y ys xs e

  -- a port with nothing left is skipped
  pub skip_first : (ys : List A) → goes_out last false [] ys ≡ goes_out last true [] ys
  skip_first ys = sent_skip ys

  pub skip_second : (xs : List A) → goes_out last true xs [] ≡ goes_out last false xs []
  skip_second xs = sent_skip xs

  -- and the other's list is passed on as it is
  pub goes_no-first : (b : Bool) (ys : List A) → goes_out last b [] ys ≡ ys
  goes_no-first true ys = sym (sent_skip ys) ∙ turns_pass last ys
  goes_no-first false ys = turns_pass last ys

  pub goes_no-second : (b : Bool) (xs : List A) → goes_out last b xs [] ≡ xs
  goes_no-second true xs = turns_pass last xs
  goes_no-second false xs = sym (sent_skip xs) ∙ turns_pass last xs
