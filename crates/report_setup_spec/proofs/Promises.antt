-- The readers take what specs/Promises says, and nothing else. Assumes nothing.
use Rattle.std.specs.Prelude.{Option, None, Some}
use mathlib.Core.Bool.{Bool, true, false, not, cond, ◌&&◌}
use mathlib.Core.List.{List, [], ◌∷◌, ◌++◌, append_assoc, append-nil}
use mathlib.Core.Logic.{◌≢◌}
use mathlib.Core.Path.{◌≡◌, refl, sym, ap, ap₂, ◌∙◌, subst}
use Prim.Native.Nat.{ℕ, ◌+◌, ◌-◌, ◌*◌, ◌/◌, ◌%◌, ◌≤◌, ◌<◌}
use native.Mathlib.Omega.{arith}
use lib.Dec.{eqb, ltb}
use borrow.Author.Tests.{lt-ltb, le-ltb, ltb-true, ltb-false, eq-eqb, ne_eqb, eqb-true, eqb-false, not-true}
use Rattle.report_setup_spec.specs.Grammar.{is_digit, digit, number, Line, line, longer, on, first_line, after, entry, line_of, Word, one_of, is_word, nothing_left, modes, tlasts, text, on_line, ending, sheet_of}
use Rattle.report_setup_spec.specs.declared.Mode.{Mode}
use Rattle.report_setup_spec.specs.declared.Mode.TheVariants.{Pack, Lanes}
use Rattle.report_setup_spec.specs.declared.Tlast.{Tlast}
use Rattle.report_setup_spec.specs.declared.Tlast.TheVariants.{Wired, Absent, Low}
use Rattle.report_setup_spec.specs.declared.Setup.{Setup}
use Rattle.report_setup_spec.specs.Answers.{mode_word, tlast_word}
use Rattle.report_setup_spec.specs.Promises.{numeral, DigitsExactly, NumbersExactly, WordsExactly, line_text, sheet_text, SheetsExactly}
use Rattle.report_setup_spec.proofs.Digits.{both, digit-yes, digit_range}

-- ---- each number is read

one-digit : (n : ℕ) → n ≤ 9 → digit ((48 + n) ∷ []) ≡ Some n
one-digit n h =
    let e : 48 + n - 48 ≡ n = omega arith in
    rw (digit-yes (48 + n) (omega arith) (omega arith)) (ap Some e)

two_digits : (d e n : ℕ) → 1 ≤ d → d ≤ 9 → e ≤ 9 → 10 * d + e ≡ n → number ((48 + d) ∷ (48 + e) ∷ []) ≡ Some n
two_digits d e n l h k s =
    let ne : 48 + d ≡ 48 → ⊥ = λ q. omega arith in
    let is : 10 * (48 + d - 48) + (48 + e - 48) ≡ n = omega arith in
    rw (ne_eqb (48 + d) 48 ne, digit-yes (48 + d) (omega arith) (omega arith), digit-yes (48 + e) (omega arith) (omega arith)) (ap Some is)

each_by : (n : ℕ) (b : Bool) → ltb n 10 ≡ b → n ≤ 99 → number (cond b ((48 + n) ∷ []) ((48 + n / 10) ∷ (48 + n % 10) ∷ [])) ≡ Some n
each_by n true e h = let l : n < 10 = ltb-true n 10 e in one-digit n (omega arith)
each_by n false e h =
    let l : 10 ≤ n = ltb-false n 10 e in
    two_digits (n / 10) (n % 10) n (omega arith) (omega arith) (omega arith) (omega arith)

-- ---- nothing else is

some-taken : (b : Bool) (m n : ℕ) → cond b (Some m) None ≡ Some n → (b ≡ true) × (m ≡ n)
some-taken true m n e = (refl, cc)
some-taken false m n e = let z : ◌≡◌ {A = ℕ} 0 1 = cc in absurd (omega arith)

numeral-short : (n : ℕ) → n < 10 → numeral n ≡ (48 + n) ∷ []
numeral-short n l = rw (lt-ltb n 10 l)

numeral-long : (n : ℕ) → 10 ≤ n → numeral n ≡ (48 + n / 10) ∷ (48 + n % 10) ∷ []
numeral-long n l = rw (le-ltb n 10 l)

one_only : (x n : ℕ) → (is_digit x ≡ true) × (x - 48 ≡ n) → (n ≤ 9) × ((x ∷ []) ≡ (48 + n) ∷ [])
one_only x n h =
    let r : (48 ≤ x) × (x ≤ 57) = digit_range x h.0 in
    let e : x ≡ 48 + n = omega (arith, r.0, h.1) in
    (omega (arith, r.1, h.1), ap (λ (y : ℕ). y ∷ []) e)

digit-only : (value : List ℕ) (n : ℕ) → digit value ≡ Some n → (n ≤ 9) × (value ≡ (48 + n) ∷ [])
digit-only [] n e = let z : ◌≡◌ {A = ℕ} 0 1 = cc in absurd (omega arith)
digit-only (x ∷ []) n e = one_only x n (some-taken (is_digit x) (x - 48) n e)
digit-only (x ∷ y ∷ ys) n e = let z : ◌≡◌ {A = ℕ} 0 1 = cc in absurd (omega arith)

pub digits_exactly : DigitsExactly
digits_exactly = record { each = one-digit; only = digit-only }

digit-numeral : (value : List ℕ) (n : ℕ) → digit value ≡ Some n → (n ≤ 9) × (value ≡ numeral n)
digit-numeral value n e =
    let p : (n ≤ 9) × (value ≡ (48 + n) ∷ []) = digit-only value n e in
    (p.0, p.1 ∙ sym (numeral-short n (omega (arith, p.0))))

two-only : (x y n : ℕ) → ((not (eqb x 48) && (is_digit x && is_digit y)) ≡ true) × (10 * (x - 48) + (y - 48) ≡ n)
    → (n ≤ 99) × ((x ∷ y ∷ []) ≡ numeral n)
two-only x y n h =
    let p : (not (eqb x 48) ≡ true) × ((is_digit x && is_digit y) ≡ true) = both (not (eqb x 48)) (is_digit x && is_digit y) h.0 in
    let q : (is_digit x ≡ true) × (is_digit y ≡ true) = both (is_digit x) (is_digit y) p.1 in
    let r : (48 ≤ x) × (x ≤ 57) = digit_range x q.0 in
    let s : (48 ≤ y) × (y ≤ 57) = digit_range y q.1 in
    let ne : x ≡ 48 → ⊥ = eqb-false x 48 (not-true (eqb x 48) p.0) in
    let d : x ≡ 48 + n / 10 = omega (arith, r.0, r.1, s.0, s.1, h.1) in
    let e : y ≡ 48 + n % 10 = omega (arith, r.0, r.1, s.0, s.1, h.1) in
    (omega (arith, r.1, s.1, h.1), ap₂ (λ (u v : ℕ). u ∷ v ∷ []) d e ∙ sym (numeral-long n (omega (arith, r.0, s.0, h.1, ne))))

only_by : (value : List ℕ) (n : ℕ) → number value ≡ Some n → (n ≤ 99) × (value ≡ numeral n)
only_by [] n e = let z : ◌≡◌ {A = ℕ} 0 1 = cc in absurd (omega arith)
only_by (x ∷ []) n e = let p : (n ≤ 9) × ((x ∷ []) ≡ numeral n) = digit-numeral (x ∷ []) n e in (omega (arith, p.0), p.1)
only_by (x ∷ y ∷ []) n e = two-only x y n (some-taken (not (eqb x 48) && (is_digit x && is_digit y)) (10 * (x - 48) + (y - 48)) n e)
only_by (x ∷ y ∷ z ∷ zs) n e = let z : ◌≡◌ {A = ℕ} 0 1 = cc in absurd (omega arith)

pub numbers_exactly : NumbersExactly
numbers_exactly = record { each = λ n h. each_by n (ltb n 10) refl h; only = only_by }

-- ---- a line that is read

absurd_none : {A B : Type 0} {a : A} → ◌≡◌ {A = Option A} None (Some a) → B
absurd_none e = let z : ◌≡◌ {A = ℕ} 0 1 = cc in absurd (omega arith)

value_in : {A : Type 0} → A → Option (Line A) → A
value_in a None = a
value_in a (Some l) = l.value

rest_in : {A : Type 0} → Option (Line A) → List ℕ
rest_in None = []
rest_in (Some l) = l.rest

first_step : (x : ℕ) (xs : List ℕ) (l : Line (List ℕ)) (b : Bool) (o : Option (Line (List ℕ))) → eqb x 10 ≡ b
    → ((m : Line (List ℕ)) → o ≡ Some m → xs ≡ m.value ++ (10 ∷ m.rest))
    → cond b (Some (line [] xs)) (on o (λ (m : Line (List ℕ)). Some (longer x m))) ≡ Some l → x ∷ xs ≡ l.value ++ (10 ∷ l.rest)
unfolding value_in rest_in
first_step x xs l true o p h e =
    ap₂ (λ (n : ℕ) (r : List ℕ). n ∷ r) (eqb-true x 10 p) (ap rest_in e) ∙ ap (λ (v : List ℕ). v ++ (10 ∷ l.rest)) (ap (value_in []) e)
first_step x xs l false None p h e = absurd_none e
first_step x xs l false (Some m) p h e =
    ap (λ (r : List ℕ). x ∷ r) (h m refl)
    ∙ ap₂ (λ (v r : List ℕ). v ++ (10 ∷ r)) (ap (value_in []) e) (ap rest_in e)

first-only : (xs : List ℕ) (l : Line (List ℕ)) → first_line xs ≡ Some l → xs ≡ l.value ++ (10 ∷ l.rest)
first-only [] l e = absurd_none e
first-only (x ∷ xs) l e = first_step x xs l (eqb x 10) (first_line xs) refl (λ m p. first-only xs m p) e

after-step : (k x : ℕ) (ks xs w : List ℕ) (b : Bool) → eqb k x ≡ b → (after ks xs ≡ Some w → xs ≡ ks ++ w)
    → cond b (after ks xs) None ≡ Some w → x ∷ xs ≡ k ∷ (ks ++ w)
after-step k x ks xs w true p h e = ap₂ (λ (n : ℕ) (r : List ℕ). n ∷ r) (sym (eqb-true k x p)) (h e)
after-step k x ks xs w false p h e = absurd_none e

after-only : (key xs w : List ℕ) → after key xs ≡ Some w → xs ≡ key ++ w
after-only [] xs w e = cc
after-only (k ∷ ks) [] w e = absurd_none e
after-only (k ∷ ks) (x ∷ xs) w e = after-step k x ks xs w (eqb k x) refl (λ p. after-only ks xs w p) e

-- what was gone on with
on_some : {A B : Type 0} (o : Option A) (f : A → Option B) (c : B) → on o f ≡ Some c → (a : A) × (o ≡ Some a) × (f a ≡ Some c)
on_some None f c e = absurd_none e
on_some (Some a) f c e = (a, refl, e)

entry-from : (key xs : List ℕ) (m k : Line (List ℕ)) (v : List ℕ) → first_line xs ≡ Some k → after key k.value ≡ Some v
    → Some (line v k.rest) ≡ Some m → xs ≡ line_text key m.value m.rest
unfolding value_in rest_in
entry-from key xs m k v e f g =
    first-only xs k e
    ∙ ap (λ (ys : List ℕ). ys ++ (10 ∷ k.rest)) (after-only key k.value v f)
    ∙ append_assoc key v (10 ∷ k.rest)
    ∙ ap₂ (λ (w r : List ℕ). key ++ (w ++ (10 ∷ r))) (ap (value_in []) g) (ap rest_in g)

entry-only : (key xs : List ℕ) (m : Line (List ℕ)) → entry key xs ≡ Some m → xs ≡ line_text key m.value m.rest
entry-only key xs m e =
    let p : (k : Line (List ℕ)) × (first_line xs ≡ Some k) × (on (after key k.value) (λ (v : List ℕ). Some (line v k.rest)) ≡ Some m) =
    on_some (first_line xs) (λ (k : Line (List ℕ)). on (after key k.value) (λ (v : List ℕ). Some (line v k.rest))) m e in
    let q : (v : List ℕ) × (after key p.0.value ≡ Some v) × (Some (line v p.0.rest) ≡ Some m) =
    on_some (after key p.0.value) (λ (v : List ℕ). Some (line v p.0.rest)) m p.2 in
    entry-from key xs m p.0 q.0 p.1 q.1 q.2

line-from : {A : Type 0} (key : List ℕ) (reader : List ℕ → Option A) (xs : List ℕ) (l : Line A) (m : Line (List ℕ)) (a : A)
    → entry key xs ≡ Some m → reader m.value ≡ Some a → Some (line a m.rest) ≡ Some l
    → (reader m.value ≡ Some l.value) × (xs ≡ line_text key m.value l.rest)
unfolding value_in rest_in
line-from key reader xs l m a e f g =
    (f ∙ ap Some (ap (value_in a) g), entry-only key xs m e ∙ ap (line_text key m.value) (ap rest_in g))

line-only : {A : Type 0} (key : List ℕ) (reader : List ℕ → Option A) (xs : List ℕ) (l : Line A) → line_of key reader xs ≡ Some l
    → (w : List ℕ) × (reader w ≡ Some l.value) × (xs ≡ line_text key w l.rest)
line-only {A} key reader xs l e =
    let p : (m : Line (List ℕ)) × (entry key xs ≡ Some m) × (on (reader m.value) (λ (a : A). Some (line a m.rest)) ≡ Some l) =
    on_some (entry key xs) (λ (m : Line (List ℕ)). on (reader m.value) (λ (a : A). Some (line a m.rest))) l e in
    let q : (a : A) × (reader p.0.value ≡ Some a) × (Some (line a p.0.rest) ≡ Some l) =
    on_some (reader p.0.value) (λ (a : A). Some (line a p.0.rest)) l p.2 in
    let r : (reader p.0.value ≡ Some l.value) × (xs ≡ line_text key p.0.value l.rest) =
    line-from key reader xs l p.0 q.0 p.1 q.1 q.2 in
    (p.0.value, r.0, r.1)

-- ---- words

nothing-only : (o : Option (List ℕ)) → nothing_left o ≡ true → o ≡ Some []
nothing-only None e = let z : ◌≡◌ {A = ℕ} 0 1 = cc in absurd (omega arith)
nothing-only (Some []) e = refl
nothing-only (Some (x ∷ xs)) e = let z : ◌≡◌ {A = ℕ} 0 1 = cc in absurd (omega arith)

word-only : (w v : List ℕ) → is_word w v ≡ true → v ≡ w
word-only w v e = after-only w v [] (nothing-only (after w v) e) ∙ append-nil w

-- each word is spelt as what it means is
abbrev Spelt : {A : Type 0} → (A → List ℕ) → List (Word A) → Type 0
Spelt spelling [] = Unit {0}
Spelt spelling (w ∷ ws) = (w.spelt ≡ spelling w.means) × Spelt spelling ws

-- so a value that is read is the spelling of what it is read as
words_only : {A : Type 0} (spelling : A → List ℕ) (ws : List (Word A)) → Spelt spelling ws
    → (v : List ℕ) (a : A) → one_of ws v ≡ Some a → v ≡ spelling a
words_only spelling [] h v a e = absurd_none e
words_only spelling (w ∷ ws) h v a e = go (is_word w.spelt v) refl (words_only spelling ws h.1 v a) e
  where
    go : (b : Bool) → is_word w.spelt v ≡ b → (one_of ws v ≡ Some a → v ≡ spelling a) → cond b (Some w.means) (one_of ws v) ≡ Some a → v ≡ spelling a
    go true p later q = let same : w.means ≡ a = cc in word-only w.spelt v p ∙ h.0 ∙ ap spelling same
    go false p later q = later q

modes-spelt : Spelt mode_word modes
modes-spelt = (refl, (refl, tt))

tlasts-spelt : Spelt tlast_word tlasts
tlasts-spelt = (refl, (refl, (refl, tt)))

tlast-word : (t : Tlast) → one_of tlasts (tlast_word t) ≡ Some t
tlast-word Wired = refl
tlast-word Absent = refl
tlast-word Low = refl

unread_word : (v : List ℕ) → one_of tlasts v ≡ None → (t : Tlast) → v ≢ tlast_word t
unread_word v e t p = absurd_none (sym e ∙ ap (one_of tlasts) p ∙ tlast-word t)

other_word : (v : List ℕ) → (v ≢ text "wired") × (v ≢ text "none") × (v ≢ text "low") → one_of tlasts v ≡ None
other_word v h = go (one_of tlasts v) refl
  where
    none_of : (t : Tlast) → v ≡ tlast_word t → ⊥
    none_of Wired p = h.0 p
    none_of Absent p = h.1 p
    none_of Low p = h.2 p

    go : (o : Option Tlast) → one_of tlasts v ≡ o → one_of tlasts v ≡ None
    go None e = e
    go (Some t) e = absurd (none_of t (words_only tlast_word tlasts tlasts-spelt v t e))

pub words_exactly : WordsExactly
words_exactly =
    record {
      each = tlast-word;
      only = words_only tlast_word tlasts tlasts-spelt;
      refused = λ v. ((λ e. (unread_word v e Wired, unread_word v e Absent, unread_word v e Low)), other_word v);
    }

-- ---- the lines of a sheet

-- a line with a number that has this reader, and that is at most `most`
numeral-line : (reader : List ℕ → Option ℕ) (most : ℕ) → ((w : List ℕ) (n : ℕ) → reader w ≡ Some n → (n ≤ most) × (w ≡ numeral n))
    → (key xs : List ℕ) (l : Line ℕ) → line_of key reader xs ≡ Some l → (l.value ≤ most) × (xs ≡ line_text key (numeral l.value) l.rest)
numeral-line reader most only key xs l e =
    let p : (w : List ℕ) × (reader w ≡ Some l.value) × (xs ≡ line_text key w l.rest) = line-only key reader xs l e in
    let q : (l.value ≤ most) × (p.0 ≡ numeral l.value) = only p.0 l.value p.1 in
    (q.0, p.2 ∙ ap (λ (w : List ℕ). line_text key w l.rest) q.1)

word_line : {A : Type 0} (key : List ℕ) (spelling : A → List ℕ) (ws : List (Word A)) → Spelt spelling ws
    → (xs : List ℕ) (l : Line A) → line_of key (one_of ws) xs ≡ Some l → xs ≡ line_text key (spelling l.value) l.rest
word_line key spelling ws h xs l e =
    let p : (w : List ℕ) × (one_of ws w ≡ Some l.value) × (xs ≡ line_text key w l.rest) = line-only key (one_of ws) xs l e in
    p.2 ∙ ap (λ (w : List ℕ). line_text key w l.rest) (words_only spelling ws h p.0 l.value p.1)

absurd_refused : {B : Type 0} {u : Setup} → ◌≡◌ {A = Option Setup} None (Some u) → B
absurd_refused e = let z : ◌≡◌ {A = ℕ} 0 1 = cc in absurd (omega arith)

line_taken : {A : Type 0} (o : Option (Line A)) (f : Line A → Option Setup) (u : Setup) → on_line o f ≡ Some u → (l : Line A) × (o ≡ Some l) × (f l ≡ Some u)
line_taken None f u e = absurd_refused e
line_taken (Some l) f u e = (l, refl, e)

ending-only : (r : List ℕ) (s u : Setup) → ending r (Some s) ≡ Some u → (r ≡ []) × (s ≡ u)
ending-only [] s u e = (refl, cc)
ending-only (x ∷ r) s u e = absurd_refused e

abbrev Exact : List ℕ → Setup → Type 0
Exact xs u = (u.width_in ≤ 99) × (u.width_out ≤ 99) × (u.user ≤ 9) × (xs ≡ sheet_text u)

abbrev said : Line ℕ → Line ℕ → Line Mode → Line Tlast → Line ℕ → Setup
said a b m t u = record { width_in = a.value; width_out = b.value; mode = m.value; tlast = t.value; user = u.value }

assembled : (xs : List ℕ) (a b : Line ℕ) (m : Line Mode) (t : Line Tlast) (u : Line ℕ)
    → line_of (text "width_in=") number xs ≡ Some a
    → line_of (text "width_out=") number a.rest ≡ Some b
    → line_of (text "mode=") (one_of modes) b.rest ≡ Some m
    → line_of (text "tlast=") (one_of tlasts) m.rest ≡ Some t
    → line_of (text "user=") digit t.rest ≡ Some u
    → u.rest ≡ [] → Exact xs (said a b m t u)
assembled xs a b m t u e f g h i j =
    let p : (a.value ≤ 99) × (xs ≡ line_text (text "width_in=") (numeral a.value) a.rest) =
    numeral-line number 99 only_by (text "width_in=") xs a e in
    let q : (b.value ≤ 99) × (a.rest ≡ line_text (text "width_out=") (numeral b.value) b.rest) =
    numeral-line number 99 only_by (text "width_out=") a.rest b f in
    let r : (u.value ≤ 9) × (t.rest ≡ line_text (text "user=") (numeral u.value) u.rest) =
    numeral-line digit 9 digit-numeral (text "user=") t.rest u i in (
      p.0,
      q.0,
      r.0,
      p.1 ∙ ap (line_text (text "width_in=") (numeral a.value))
          (q.1 ∙ ap (line_text (text "width_out=") (numeral b.value))
          (word_line (text "mode=") mode_word modes modes-spelt b.rest m g ∙ ap (line_text (text "mode=") (mode_word m.value))
          (word_line (text "tlast=") tlast_word tlasts tlasts-spelt m.rest t h ∙ ap (line_text (text "tlast=") (tlast_word t.value))
          (r.1 ∙ ap (line_text (text "user=") (numeral u.value)) j)))),
    )

-- what `sheet_of` goes on with after each line
abbrev after_fifth : Line ℕ → Line ℕ → Line Mode → Line Tlast → Line ℕ → Option Setup
after_fifth a b m t u = ending u.rest (Some (said a b m t u))

abbrev after_fourth : Line ℕ → Line ℕ → Line Mode → Line Tlast → Option Setup
after_fourth a b m t = on_line (line_of (text "user=") digit t.rest) (after_fifth a b m t)

abbrev after_third : Line ℕ → Line ℕ → Line Mode → Option Setup
after_third a b m = on_line (line_of (text "tlast=") (one_of tlasts) m.rest) (after_fourth a b m)

abbrev after_second : Line ℕ → Line ℕ → Option Setup
after_second a b = on_line (line_of (text "mode=") (one_of modes) b.rest) (after_third a b)

abbrev after_first : Line ℕ → Option Setup
after_first a = on_line (line_of (text "width_out=") number a.rest) (after_second a)

sheets_only : (xs : List ℕ) (u : Setup) → sheet_of xs ≡ Some u → Exact xs u
unfolding sheet_of
sheets_only xs u e =
    let a : (l : Line ℕ) × (line_of (text "width_in=") number xs ≡ Some l) × (after_first l ≡ Some u) =
    line_taken (line_of (text "width_in=") number xs) after_first u e in
    let b : (l : Line ℕ) × (line_of (text "width_out=") number a.0.rest ≡ Some l) × (after_second a.0 l ≡ Some u) =
    line_taken (line_of (text "width_out=") number a.0.rest) (after_second a.0) u a.2 in
    let m : (l : Line Mode) × (line_of (text "mode=") (one_of modes) b.0.rest ≡ Some l) × (after_third a.0 b.0 l ≡ Some u) =
    line_taken (line_of (text "mode=") (one_of modes) b.0.rest) (after_third a.0 b.0) u b.2 in
    let t : (l : Line Tlast) × (line_of (text "tlast=") (one_of tlasts) m.0.rest ≡ Some l) × (after_fourth a.0 b.0 m.0 l ≡ Some u) =
    line_taken (line_of (text "tlast=") (one_of tlasts) m.0.rest) (after_fourth a.0 b.0 m.0) u m.2 in
    let v : (l : Line ℕ) × (line_of (text "user=") digit t.0.rest ≡ Some l) × (after_fifth a.0 b.0 m.0 t.0 l ≡ Some u) =
    line_taken (line_of (text "user=") digit t.0.rest) (after_fifth a.0 b.0 m.0 t.0) u t.2 in
    let n : (v.0.rest ≡ []) × (said a.0 b.0 m.0 t.0 v.0 ≡ u) =
    ending-only v.0.rest (said a.0 b.0 m.0 t.0 v.0) u v.2 in
    subst (Exact xs) {x = said a.0 b.0 m.0 t.0 v.0} n.1 (assembled xs a.0 b.0 m.0 t.0 v.0 a.1 b.1 m.1 t.1 v.1 n.0)

-- ---- each sheet is read

-- no octet is an LF
abbrev plain : List ℕ → Bool
plain [] = true
plain (x ∷ xs) = not (eqb x 10) && plain xs

first-each : (v r : List ℕ) → plain v ≡ true → first_line (v ++ (10 ∷ r)) ≡ Some (line v r)
first-each [] r e = refl
first-each (x ∷ v) r e =
    let p : (not (eqb x 10) ≡ true) × (plain v ≡ true) = both (not (eqb x 10)) (plain v) e in
    rw (not-true (eqb x 10) p.0, first-each v r p.1)

after-each : (key w : List ℕ) → after key (key ++ w) ≡ Some w
after-each [] w = refl
after-each (k ∷ key) w = rw (eq-eqb k k refl) (after-each key w)

plain-append : (v w : List ℕ) → plain v ≡ true → plain w ≡ true → plain (v ++ w) ≡ true
plain-append [] w e f = f
plain-append (x ∷ v) w e f =
    let p : (not (eqb x 10) ≡ true) × (plain v ≡ true) = both (not (eqb x 10)) (plain v) e in
    rw p.0 (plain-append v w p.1 f)

plain_by : (n : ℕ) (b : Bool) → plain (cond b ((48 + n) ∷ []) ((48 + n / 10) ∷ (48 + n % 10) ∷ [])) ≡ true
plain_by n true = let a : 48 + n ≡ 10 → ⊥ = λ q. omega arith in rw (ne_eqb (48 + n) 10 a)
plain_by n false =
    let a : 48 + n / 10 ≡ 10 → ⊥ = λ q. omega arith in
    let b : 48 + n % 10 ≡ 10 → ⊥ = λ q. omega arith in
    rw (ne_eqb (48 + n / 10) 10 a, ne_eqb (48 + n % 10) 10 b)

entry-each : (key w r : List ℕ) → plain key ≡ true → plain w ≡ true → entry key (line_text key w r) ≡ Some (line w r)
entry-each key w r e f =
    let split : line_text key w r ≡ (key ++ w) ++ (10 ∷ r) = sym (append_assoc key w (10 ∷ r)) in
    rw (split, first-each (key ++ w) r (plain-append key w e f), after-each key w)

line-each : {A : Type 0} (key w r : List ℕ) (reader : List ℕ → Option A) (a : A) → plain key ≡ true → plain w ≡ true → reader w ≡ Some a
    → line_of key reader (line_text key w r) ≡ Some (line a r)
line-each key w r reader a e f g = rw (entry-each key w r e f, g)

number-each : (key r : List ℕ) (n : ℕ) → plain key ≡ true → n ≤ 99 → line_of key number (line_text key (numeral n) r) ≡ Some (line n r)
number-each key r n e h = line-each key (numeral n) r number n e (plain_by n (ltb n 10)) (each_by n (ltb n 10) refl h)

digit-each : (key r : List ℕ) (n : ℕ) → plain key ≡ true → n ≤ 9 → line_of key digit (line_text key (numeral n) r) ≡ Some (line n r)
digit-each key r n e h =
    let short : numeral n ≡ (48 + n) ∷ [] = numeral-short n (omega arith) in
    line-each key (numeral n) r digit n e (plain_by n (ltb n 10)) (ap digit short ∙ one-digit n h)

mode-each : (r : List ℕ) (m : Mode) → line_of (text "mode=") (one_of modes) (line_text (text "mode=") (mode_word m) r) ≡ Some (line m r)
mode-each r Pack = refl
mode-each r Lanes = refl

tlast-each : (r : List ℕ) (t : Tlast) → line_of (text "tlast=") (one_of tlasts) (line_text (text "tlast=") (tlast_word t) r) ≡ Some (line t r)
tlast-each r Wired = refl
tlast-each r Absent = refl
tlast-each r Low = refl

sheets_each : (u : Setup) → u.width_in ≤ 99 → u.width_out ≤ 99 → u.user ≤ 9 → sheet_of (sheet_text u) ≡ Some u
unfolding sheet_of
sheets_each u h k l =
    let fifth : List ℕ = line_text (text "user=") (numeral u.user) [] in
    let fourth : List ℕ = line_text (text "tlast=") (tlast_word u.tlast) fifth in
    let third : List ℕ = line_text (text "mode=") (mode_word u.mode) fourth in
    let second : List ℕ = line_text (text "width_out=") (numeral u.width_out) third in
    rw (number-each (text "width_in=") second u.width_in refl h, number-each (text "width_out=") third u.width_out refl k, mode-each fourth u.mode, tlast-each fifth u.tlast, digit-each (text "user=") [] u.user refl l)

pub sheets_exactly : SheetsExactly
sheets_exactly = record { each = sheets_each; only = sheets_only }
