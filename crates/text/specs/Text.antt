-- Text as ASCII octets: "all other values are decimal" and "LF-ended" key=value lines (paper 01, 'The report program'), and
-- what writing some octets at a place leaves in a lent slice.
use Rattle.std.specs.Prelude.{◌≡◌, cond, List, [], ◌∷◌, ◌++◌, ℕ, zero, suc, ◌+◌, ◌-◌, ◌*◌, ◌/◌, ◌%◌, ◌≤◌, ◌<◌, ltb, length}
use Rattle.words.specs.Splice.{splice}

-- the octet of a digit, 0 to 9: ASCII `0` is 48
abbrev pub digit : ℕ → ℕ
digit d = 48 + d

-- the last `most` digits of n, or fewer where n has fewer, the highest first
abbrev pub digits : ℕ → ℕ → List ℕ
digits zero n = []
digits (suc most) n = cond (ltb n 10) (digit n ∷ []) (digits most (n / 10) ++ (digit (n % 10) ∷ []))

-- a number in decimal, without leading zeros: n has at most n + 1 digits
unfoldable pub decimal : ℕ → List ℕ
decimal n = digits (suc n) n

abbrev pub lf : ℕ
lf = 10

-- the line of a key, which has its `=`, and a number
abbrev pub line : List ℕ → ℕ → List ℕ
line key n = key ++ (decimal n ++ (lf ∷ []))

-- the contract of what writes octets xs at a place: they stand there, nothing else has changed, and the answer is the place
-- after them
pub record Put (at : ℕ) (xs before after : List ℕ) (r : ℕ) : Type 0 where
  pub leaves : after ≡ splice at xs before
  pub next : r ≡ at + length xs

-- ---- what a reader of the text gets back

-- the number that these digits stand for, after those that stand for n
abbrev pub read_on : ℕ → List ℕ → ℕ
read_on n [] = n
read_on n (d ∷ ds) = read_on (n * 10 + (d - 48)) ds

abbrev pub read : List ℕ → ℕ
read ds = read_on 0 ds

abbrev pub ReadsBack : Type 0
ReadsBack = (n : ℕ) → read (decimal n) ≡ n

-- the text begins with a digit 1 to 9
abbrev pub LeadingDigit : List ℕ → Type 0
LeadingDigit [] = ⊥
LeadingDigit (d ∷ ds) = (digit 1 ≤ d) × (d ≤ digit 9)

abbrev pub NoLeadingZero : Type 0
NoLeadingZero = (n : ℕ) → 0 < n → LeadingDigit (decimal n)

-- ---- worked cases: a number and its text, as typed

pub record Case : Type 0 where
  pub number : ℕ
  pub text : List ℕ

abbrev case : ℕ → List ℕ → Case
case n ds = record { number = n; text = ds }

unfoldable pub cases : List Case
cases =
    case 0 (0x30 ∷ [])
    ∷ case 7 (0x37 ∷ [])
    ∷ case 9 (0x39 ∷ [])
    ∷ case 10 (0x31 ∷ 0x30 ∷ [])
    ∷ case 105 (0x31 ∷ 0x30 ∷ 0x35 ∷ [])
    ∷ case 65536 (0x36 ∷ 0x35 ∷ 0x35 ∷ 0x33 ∷ 0x36 ∷ [])
    ∷ []

-- `at=12` and its LF
unfoldable pub line_case : List ℕ
line_case = 0x61 ∷ 0x74 ∷ 0x3D ∷ 0x31 ∷ 0x32 ∷ 0x0A ∷ []
