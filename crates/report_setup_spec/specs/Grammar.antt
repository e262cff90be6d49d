-- Paper 01, 'The report program': what a setup sheet says. "four LF-ended lines in this order: `width_in=`, `width_out=`
-- (0 to 99, no leading zeros), `mode=pack` or `mode=lanes`, `tlast=wired` or `tlast=none`"; 02's T-03: "the new word
-- `tlast=low`"; 02's T-06: "The sheet gets a fifth line `user=`, 0 to 9." Nothing else is a sheet: no other order or spelling,
-- no CR, no line less or more, nothing after the fifth LF.
-- A new word is one line of `modes` or `tlasts`, and what it means; a new line of the sheet is one line of `sheet_of` and one
-- field of `Setup`.
use Rattle.std.specs.Prelude.{Bool, true, false, not, ◌&&◌, cond, List, [], ◌∷◌, ℕ, zero, suc, ◌+◌, ◌-◌, ◌*◌, eqb, leb, Option, None, Some}
use Prim.Native.Char.{code}
use Prim.Native.String.{String, len, char_at}
use Rattle.report_setup_spec.specs.declared.Setup.{Setup}
use Rattle.report_setup_spec.specs.declared.Mode.{Mode}
use Rattle.report_setup_spec.specs.declared.Mode.TheVariants.{Pack, Lanes}
use Rattle.report_setup_spec.specs.declared.Tlast.{Tlast}
use Rattle.report_setup_spec.specs.declared.Tlast.TheVariants.{Wired, Absent, Low}

-- ---- texts

-- n octets of an ASCII text, from place i on
abbrev pub text_from : String → ℕ → ℕ → List ℕ
text_from s i zero = []
text_from s i (suc n) = code (char_at s i) ∷ text_from s (suc i) n

-- the octets of an ASCII text
abbrev pub text : String → List ℕ
text s = text_from s 0 (len s)

abbrev pub line_feed : ℕ
line_feed = 10

-- goes on with what was read, if anything was
abbrev pub on : {A : Type 0} → {B : Type 0} → Option A → (A → Option B) → Option B
on None f = None
on (Some a) f = f a

-- ---- lines

-- what a line holds, and the octets after its LF
pub record Line (A : Type 0) : Type 0 where
  pub value : A
  pub rest : List ℕ

abbrev pub line : {A : Type 0} → A → List ℕ → Line A
line value rest = record { value = value; rest = rest }

abbrev pub longer : ℕ → Line (List ℕ) → Line (List ℕ)
longer x l = line (x ∷ l.value) l.rest

-- the first line, without its LF; none where no LF ends it
abbrev pub first_line : List ℕ → Option (Line (List ℕ))
first_line [] = None
first_line (x ∷ xs) = cond (eqb x line_feed) (Some (line [] xs)) (on (first_line xs) (λ (l : Line (List ℕ)). Some (longer x l)))

-- what follows a key; none where it does not stand in front
abbrev pub after : List ℕ → List ℕ → Option (List ℕ)
after [] xs = Some xs
after (k ∷ ks) [] = None
after (k ∷ ks) (x ∷ xs) = cond (eqb k x) (after ks xs) None

-- the first line's text after this key
abbrev pub entry : List ℕ → List ℕ → Option (Line (List ℕ))
entry key xs =
    on (first_line xs) (λ (l : Line (List ℕ)). on (after key l.value) (λ (v : List ℕ). Some (line v l.rest)))

-- the first line, as this key with a value that this reader takes
abbrev pub line_of : {A : Type 0} → List ℕ → (List ℕ → Option A) → List ℕ → Option (Line A)
line_of {A} key reader xs =
    on (entry key xs) (λ (l : Line (List ℕ)). on (reader l.value) (λ (a : A). Some (line a l.rest)))

-- ---- values

abbrev pub is_digit : ℕ → Bool
is_digit x = leb 48 x && leb x 57

-- T-06: "0 to 9": exactly one digit
abbrev pub digit : List ℕ → Option ℕ
digit [] = None
digit (x ∷ []) = cond (is_digit x) (Some (x - 48)) None
digit (x ∷ y ∷ ys) = None

-- "0 to 99, no leading zeros"
abbrev pub number : List ℕ → Option ℕ
number [] = None
number (x ∷ []) = digit (x ∷ [])
number (x ∷ y ∷ []) = cond (not (eqb x 48) && (is_digit x && is_digit y)) (Some (10 * (x - 48) + (y - 48))) None
number (x ∷ y ∷ z ∷ zs) = None

-- a word of the sheet, and what it means
pub record Word (A : Type 0) : Type 0 where
  pub spelt : List ℕ
  pub means : A

abbrev pub word : {A : Type 0} → String → A → Word A
word spelt means = record { spelt = text spelt; means = means }

abbrev pub nothing_left : Option (List ℕ) → Bool
nothing_left None = false
nothing_left (Some []) = true
nothing_left (Some (x ∷ xs)) = false

-- the value is this word, and nothing more
abbrev pub is_word : List ℕ → List ℕ → Bool
is_word spelt value = nothing_left (after spelt value)

abbrev pub one_of : {A : Type 0} → List (Word A) → List ℕ → Option A
one_of [] value = None
one_of (w ∷ ws) value = cond (is_word w.spelt value) (Some w.means) (one_of ws value)

abbrev pub modes : List (Word Mode)
modes = word "pack" Pack ∷ word "lanes" Lanes ∷ []

abbrev pub tlasts : List (Word Tlast)
tlasts = word "wired" Wired ∷ word "none" Absent ∷ word "low" Low ∷ []

-- ---- the sheet

abbrev pub on_line : {A : Type 0} → Option (Line A) → (Line A → Option Setup) → Option Setup
on_line None f = None
on_line (Some l) f = f l

-- nothing stands after the last LF
abbrev pub ending : List ℕ → Option Setup → Option Setup
ending [] s = s
ending (x ∷ xs) s = None

unfoldable pub sheet_of : List ℕ → Option Setup
sheet_of xs =
    on_line (line_of (text "width_in=") number xs) (λ (a : Line ℕ).
    on_line (line_of (text "width_out=") number a.rest) (λ (b : Line ℕ).
    on_line (line_of (text "mode=") (one_of modes) b.rest) (λ (m : Line Mode).
    on_line (line_of (text "tlast=") (one_of tlasts) m.rest) (λ (t : Line Tlast).
    on_line (line_of (text "user=") digit t.rest) (λ (u : Line ℕ).
    ending u.rest (Some (record { width_in = a.value; width_out = b.value; mode = m.value; tlast = t.value; user = u.value })))))))
