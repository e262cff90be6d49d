-- Two records compared in groups of octets that may overlap, a group as one word, and by the lowest bit of octet 0.
-- Assumes nothing.
use Rattle.std.specs.Prelude.{Some}
use mathlib.Core.Path.{◌≡◌, refl, sym, ap, ap₂, ◌∙◌}
use mathlib.Core.Bool.{Bool, true, false, not, ◌&&◌, beq}
use mathlib.Core.List.{List, [], ◌∷◌}
use Prim.Native.Nat.{ℕ, zero, suc, ◌+◌, ◌-◌, ◌*◌, ◌%◌, ◌≤◌, ◌<◌}
use native.Mathlib.Nat.{div-one}
use native.Mathlib.Numerals.{add-one}
use native.Mathlib.Omega.{arith}
use borrow.Author.Tests.{eq-eqb, ne_eqb, eqb-true, eqb-false, le-ltb, ltb-true, ltb-false, not-true, not-false}
use lib.Dec.{eqb, ltb}
use lib.ListN.{length, get_or, take, drop, length-drop}
use lib.Seq.{drop-cons, drop-drop, get_or-take, get_or-drop, ext_get_or}
use Rattle.stream_spec.specs.Layout.{bit}
use Rattle.stream_spec.specs.Handshake.{same_octets, differs}
use Rattle.stream_spec.proofs.Bools.{and_left, and_right, no_such, beq_refl}
use Rattle.words.specs.Words.{word_at}

-- ---- lists of octets

same_refl : (xs : List ℕ) → same_octets xs xs ≡ true
same_refl [] = refl
same_refl (x ∷ xs) = rw (eq-eqb x x refl) (same_refl xs)

same_true : (xs ys : List ℕ) → same_octets xs ys ≡ true → xs ≡ ys
same_true [] [] e = refl
same_true [] (y ∷ ys) e = no_such refl e
same_true (x ∷ xs) [] e = no_such refl e
same_true (x ∷ xs) (y ∷ ys) e =
    ap₂ (λ (a : ℕ) (l : List ℕ). a ∷ l) (eqb-true x y (and_left (eqb x y) (same_octets xs ys) e)) (same_true xs ys (and_right (eqb x y) (same_octets xs ys) e))

-- ---- a group as one word

first-octet : (a b x y : ℕ) → a < 256 → b < 256 → eqb (a + 256 * x) (b + 256 * y) ≡ (eqb a b && eqb x y)
first-octet a b x y h k = go (eqb a b) refl (eqb x y) refl
  where
    go : (s : Bool) → eqb a b ≡ s → (t : Bool) → eqb x y ≡ t → eqb (a + 256 * x) (b + 256 * y) ≡ (eqb a b && eqb x y)
    go true e true f = rw (e, f) (eq-eqb (a + 256 * x) (b + 256 * y) (omega (arith, eqb-true a b e, eqb-true x y f)))
    go true e false f = rw (e, f) (ne_eqb (a + 256 * x) (b + 256 * y) (λ q. eqb-false x y f (omega arith)))
    go false e t f = rw e (ne_eqb (a + 256 * x) (b + 256 * y) (λ q. eqb-false a b e (omega arith)))

word_group : (p r : List ℕ) (k i : ℕ) → ((j : ℕ) → get_or p j 0 < 256) → ((j : ℕ) → get_or r j 0 < 256) → i + k ≤ length p → i + k ≤ length r
    → eqb (word_at k p i) (word_at k r i) ≡ same_octets (take k (drop i p)) (take k (drop i r))
word_group p r zero i b c h l = refl
word_group p r (suc k) i b c h l =
    rw (drop-cons p i 0 (omega arith), drop-cons r i 0 (omega arith), ← add-one i)
    (first-octet (get_or p i 0) (get_or r i 0) (word_at k p (i + 1)) (word_at k r (i + 1)) (b i) (c i)
    ∙ ap (λ (t : Bool). eqb (get_or p i 0) (get_or r i 0) && t) (word_group p r k (i + 1) b c (omega arith) (omega arith)))

pub words_differ : (p r : List ℕ) (k i : ℕ) → ((j : ℕ) → get_or p j 0 < 256) → ((j : ℕ) → get_or r j 0 < 256) → i + k ≤ length p → i + k ≤ length r
    → (x y : ℕ) → x ≡ word_at k p i → y ≡ word_at k r i → not (eqb x y) ≡ not (same_octets (take k (drop i p)) (take k (drop i r)))
words_differ p r k i b c h l x y e f = ap₂ (λ (x y : ℕ). not (eqb x y)) e f ∙ ap not (word_group p r k i b c h l)

-- ---- TLAST is the lowest bit

last-same : (a b : ℕ) → a % 2 ≡ b % 2 → beq (bit 0 a) (bit 0 b) ≡ true
last-same a b e = rw (div-one a, div-one b, e) (beq_refl (eqb (b % 2) 1))

last-other : (a b : ℕ) → (a % 2 ≡ b % 2 → ⊥) → beq (bit 0 a) (bit 0 b) ≡ false
last-other a b h = rw (div-one a, div-one b) (go (eqb (a % 2) 1) refl (eqb (b % 2) 1) refl)
  where
    go : (s : Bool) → eqb (a % 2) 1 ≡ s → (t : Bool) → eqb (b % 2) 1 ≡ t → beq (eqb (a % 2) 1) (eqb (b % 2) 1) ≡ false
    go true e true f = absurd (h (eqb-true (a % 2) 1 e ∙ sym (eqb-true (b % 2) 1 f)))
    go true e false f = rw (e, f) refl
    go false e true f = rw (e, f) refl
    go false e false f = let x = eqb-false (a % 2) 1 e in let y = eqb-false (b % 2) 1 f in absurd (h (omega arith))

-- ---- two records

-- the octets from i to before e are the same
abbrev pub Same : List ℕ → List ℕ → ℕ → ℕ → Type 0
Same p r i e = (j : ℕ) → i ≤ j → j < e → get_or p j 0 ≡ get_or r j 0

-- two groups that touch or overlap are one
pub joined : (p r : List ℕ) (a b c d : ℕ) → Same p r a b → Same p r c d → c ≤ b → Same p r a d
joined p r a b c d f g l j h k = go (ltb j b) refl
  where
    go : (t : Bool) → ltb j b ≡ t → get_or p j 0 ≡ get_or r j 0
    go true e = f j h (ltb-true j b e)
    go false e = g j (omega (arith, ltb-false j b e)) k

-- whether some of the k octets from i on differ
abbrev Differ : List ℕ → List ℕ → ℕ → ℕ → Bool
Differ p r k i = not (same_octets (take k (drop i p)) (take k (drop i r)))

module _ (p r : List ℕ) where
  -- a group that differs
  pub differs_group : (k i : ℕ) (d : Bool) → 1 ≤ i → d ≡ Differ p r k i → d ≡ true → true ≡ differs (Some p) r
  differs_group k i d h e f = go (same_octets (drop 1 p) (drop 1 r)) refl
    where
      go : (t : Bool) → same_octets (drop 1 p) (drop 1 r) ≡ t → true ≡ differs (Some p) r
      go false q = rw q refl
      go true q =
          let from : (xs : List ℕ) → drop i xs ≡ drop (i - 1) (drop 1 xs) =
          λ xs. let n : i ≡ 1 + (i - 1) = omega arith in ap (λ (n : ℕ). drop n xs) n ∙ sym (drop-drop (i - 1) 1 xs) in
          let tail : drop i p ≡ drop i r = from p ∙ ap (drop (i - 1)) (same_true (drop 1 p) (drop 1 r) q) ∙ sym (from r) in
          no_such (not-true (same_octets (take k (drop i p)) (take k (drop i r))) (sym e ∙ f))
          (ap (λ (l : List ℕ). same_octets (take k l) (take k (drop i r))) tail ∙ same_refl (take k (drop i r)))

  -- a group that does not
  pub group_same : (k i : ℕ) (d : Bool) → d ≡ Differ p r k i → d ≡ false → Same p r i (i + k)
  group_same k i d e f j h l =
      let there : i + (j - i) ≡ j = omega arith in
      let at : (xs : List ℕ) → get_or (take k (drop i xs)) (j - i) 0 ≡ get_or xs j 0 =
      λ xs. get_or-take k (drop i xs) (j - i) 0 (omega arith) ∙ get_or-drop i xs (j - i) 0 ∙ ap (λ (n : ℕ). get_or xs n 0) there in
      let alike = not-false (same_octets (take k (drop i p)) (take k (drop i r))) (sym e ∙ f) in
      sym (at p) ∙ ap (λ (l : List ℕ). get_or l (j - i) 0) (same_true (take k (drop i p)) (take k (drop i r)) alike) ∙ at r

  module _ (long : length p ≡ length r) (last : get_or p 0 0 % 2 ≡ get_or r 0 0 % 2) where
    -- no octet from 1 on differs
    differs_not : Same p r 1 (length r) → false ≡ differs (Some p) r
    differs_not f =
        let rest : drop 1 p ≡ drop 1 r =
        ext_get_or 0 (drop 1 p) (drop 1 r) (length-drop 1 p ∙ ap (λ (n : ℕ). n - 1) long ∙ sym (length-drop 1 r))
        (λ i h. get_or-drop 1 p i 0 ∙ f (1 + i) (omega arith) (omega (arith, length-drop 1 p)) ∙ sym (get_or-drop 1 r i 0)) in
        let alike : same_octets (drop 1 p) (drop 1 r) ≡ true = ap (λ (l : List ℕ). same_octets l (drop 1 r)) rest ∙ same_refl (drop 1 r) in
        rw (alike, last-same (get_or p 0 0) (get_or r 0 0) last) refl

    -- the last group decides
    differs-rest : (k i : ℕ) (d : Bool) → 1 ≤ i → d ≡ Differ p r k i → (Same p r i (i + k) → Same p r 1 (length r)) → d ≡ differs (Some p) r
    differs-rest k i d h e f = go d refl
      where
        go : (t : Bool) → d ≡ t → d ≡ differs (Some p) r
        go true q = q ∙ differs_group k i d h e q
        go false q = q ∙ differs_not (f (group_same k i d e q))

    -- longer ones: the groups from 1 on and the last eight meet ..
    pub ends_same : (e : ℕ) → Same p r 1 e → Same p r (length r - 8) (length r) → length r ≤ e + 8 → false ≡ differs (Some p) r
    ends_same e s t n = differs_not (joined p r 1 e (length r - 8) (length r) s t (omega arith))

    -- .. or one group more decides
    pub ends_more : (e : ℕ) → 1 ≤ e → Same p r 1 e → Same p r (length r - 8) (length r) → length r ≤ e + 16 → (d : Bool) → d ≡ Differ p r 8 e
        → d ≡ differs (Some p) r
    ends_more e h s t n d q =
        differs-rest 8 e d h q (λ x. joined p r 1 (e + 8) (length r - 8) (length r) (joined p r 1 e e (e + 8) s x (omega arith)) t (omega arith))

-- what an answer over some groups tells: they differ, or what is the same
pub record Told (p r : List ℕ) (v : Bool) (P : Type 0) : Type 0 where
  pub yes' : v ≡ true → true ≡ differs (Some p) r
  pub no : v ≡ false → P

-- the same answer is told by an equal one
pub told_as : (p r : List ℕ) (P : Type 0) (v w : Bool) → v ≡ w → Told p r w P → Told p r v P
told_as p r P v w e t = record { yes' = λ h. t.yes' (sym e ∙ h); no = λ h. t.no (sym e ∙ h) }

-- the first eight octets from 1 on, and the last eight, are the same
abbrev pub Ends : List ℕ → List ℕ → Type 0
Ends p r = Same p r 1 9 × Same p r (length r - 8) (length r)

-- and so are those from 9 on that follow, where the record has them
abbrev pub More : List ℕ → List ℕ → Type 0
More p r = Ends p r × (17 < length r → Same p r 9 17)

module _ (p r : List ℕ) where
  pub first_differs : (P : Type 0) (k i : ℕ) (d : Bool) → 1 ≤ i → d ≡ Differ p r k i → d ≡ true → Told p r d P
  first_differs P k i d h e f = record { yes' = differs_group p r k i d h e; no = λ g. no_such g f }

  pub ends-told : 9 ≤ length r → (a b : Bool) → a ≡ Differ p r 8 1 → b ≡ Differ p r 8 (length r - 8) → a ≡ false → Told p r b (Ends p r)
  ends-told l a b e f g =
      record {
        yes' = differs_group p r 8 (length r - 8) b (omega arith) f;
        no = λ h. (group_same p r 8 1 a e g, λ j x y. group_same p r 8 (length r - 8) b f h j x (omega arith));
      }

  pub more-told : (v : Bool) → Told p r v (Ends p r) → v ≡ false → (d : Bool) → d ≡ Differ p r 8 9 → Told p r d (More p r)
  more-told v t h d e = record { yes' = differs_group p r 8 9 d (omega arith) e; no = λ g. (t.no h, λ n. group_same p r 8 9 d e g) }

  pub more_none : (v : Bool) → Told p r v (Ends p r) → v ≡ false → length r ≤ 17 → (d : Bool) → d ≡ ltb 17 (length r) → Told p r d (More p r)
  more_none v t h l d e = record { yes' = λ g. no_such (e ∙ le-ltb 17 (length r) l) g; no = λ g. (t.no h, λ n. absurd (omega arith)) }

  pub more_differs : (v : Bool) → Told p r v (Ends p r) → v ≡ true → Told p r v (More p r)
  more_differs v t h = record { yes' = t.yes'; no = λ g. no_such g h }

  module _ (long : length p ≡ length r) (last : get_or p 0 0 % 2 ≡ get_or r 0 0 % 2) (more : More p r) where
    pub all_same : length r ≤ 25 → (v : Bool) → v ≡ ltb 25 (length r) → v ≡ differs (Some p) r
    all_same l v e = e ∙ le-ltb 25 (length r) l ∙ go (ltb 17 (length r)) refl
      where
        go : (t : Bool) → ltb 17 (length r) ≡ t → false ≡ differs (Some p) r
        go true h = ends_same p r long last 17 (joined p r 1 9 9 17 more.0.0 (more.1 (ltb-true 17 (length r) h)) (omega arith)) more.0.1 (omega arith)
        go false h = ends_same p r long last 9 more.0.0 more.0.1 (omega (arith, ltb-false 17 (length r) h))

    pub last-told : 25 < length r → length r ≤ 31 → (d : Bool) → d ≡ Differ p r 8 17 → d ≡ differs (Some p) r
    last-told l h d e =
        ends_more p r long last 17 (omega arith) (joined p r 1 9 9 17 more.0.0 (more.1 (omega arith)) (omega arith)) more.0.1 (omega arith) d e
