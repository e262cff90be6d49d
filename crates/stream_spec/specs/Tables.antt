-- What the premises of the promises let in: a promise says nothing where a premise never holds. There is a table, typed by
-- hand, of the premise or of a test that computes and says the same both ways. The proofs are in proofs/Tables;
-- examples that meet all premises of a promise are in Witnesses.
use Rattle.std.specs.Prelude.{◌≡◌, Bool, true, false, ◌&&◌, List, [], ◌∷◌, ◌++◌, map, ◌↔◌, ℕ, ◌*◌, ◌%◌, ◌≤◌, eqb, leb, ltb, length, Option, None, Some, Ok, Err}
use Rattle.refusal.specs.declared.Refusal.{Refusal}
use Rattle.refusal.specs.declared.Refusal.TheVariants.{Room}
use Rattle.stream_spec.specs.declared.Shape.{Shape}
use Rattle.stream_spec.specs.Items.{Pair, Item, byte, end}
use Rattle.stream_spec.specs.Packed.{apart, parted}
use Rattle.stream_spec.specs.Layout.{user_most, shaped, of_width, Kept, position, size, records, stream_items}
use Rattle.refusal.specs.Checks.{first}
use Rattle.stream_spec.specs.Checks.{width_check, transfer_checks}
use Rattle.stream_spec.specs.Legal.{Legal}
use Rattle.stream_spec.specs.Promises.{Width}
use Rattle.stream_spec.specs.Demand3.{answer_to, accepted, Standing, Part, whole, part_call, AllAccepted, Divides}

abbrev pub lanes : ℕ → Shape
lanes w = of_width w

-- a record of width 1 with this octet 0, TID, TDEST, TKEEP, TSTRB and data
abbrev pub one : ℕ → ℕ → ℕ → ℕ → ℕ → ℕ → List ℕ
one flags tid tdest tkeep tstrb octet = flags ∷ tid ∷ tdest ∷ tkeep ∷ 0x00 ∷ tstrb ∷ 0x00 ∷ octet ∷ []

-- the test tells the same of every row
abbrev pub AllTold : {A : Type 0} → (A → Bool) → Bool → List A → Type 0
AllTold test told rows = map test rows ≡ map (λ row. told) rows

-- ---- widths

-- a width that is not refused is just that: 1 finds nothing
abbrev pub WidthTested : Type 0
WidthTested = (v : ℕ) → Width v ↔ ((width_check v).found ≡ false)

-- ---- legal streams

abbrev pub are_octets : List ℕ → Bool
are_octets [] = true
are_octets (x ∷ xs) = ltb x 256 && are_octets xs

abbrev pub is_none : Option Refusal → Bool
is_none None = true
is_none (Some r) = false

abbrev pub is_legal : Shape → List ℕ → Bool
is_legal s xs =
    leb 1 s.width && leb s.width 16 && leb s.user 4 && are_octets xs && eqb (length xs % size s) 0
    && is_none (first (transfer_checks s 0 (records s xs)))

abbrev pub LegalTested : Type 0
LegalTested = (s : Shape) (xs : List ℕ) → Legal s xs ↔ (is_legal s xs ≡ true)

abbrev pub stream : ℕ → List ℕ → Standing
stream w xs = record { shape = lanes w; octets = xs }

-- the same with so many user bits to a byte
abbrev pub tagged : ℕ → ℕ → List ℕ → Standing
tagged w m xs = record { shape = shaped w m; octets = xs }

-- empty at the narrowest and the widest; all-null; the highest of every field, and TLAST; several records; width 16. With user bits:
-- empty at the most; the highest bit of one lane, and of three lanes whose bits take two octets
abbrev pub legal_streams : List Standing
legal_streams =
    stream 1 [] ∷ stream 16 [] ∷ stream 1 (one 0 0 0 0 0 0) ∷ stream 1 (one 1 255 15 1 1 255)
    ∷ stream 1 (one 0 0 0 1 0 0 ++ (one 1 255 15 1 1 255 ++ one 0 1 2 0 0 7))
    ∷ stream 16 (1 ∷ 1 ∷ 2 ∷ 255 ∷ 255 ∷ 255 ∷ 127 ∷ 0 ∷ 1 ∷ 2 ∷ 3 ∷ 4 ∷ 5 ∷ 6 ∷ 7 ∷ 8 ∷ 9 ∷ 10 ∷ 11 ∷ 12 ∷ 13 ∷ 14 ∷ 15 ∷ [])
    ∷ tagged 16 4 [] ∷ tagged 1 4 (one 1 255 15 1 1 255 ++ (8 ∷ [])) ∷ tagged 3 3 (0 ∷ 0 ∷ 0 ∷ 7 ∷ 0 ∷ 7 ∷ 0 ∷ 1 ∷ 2 ∷ 3 ∷ 0 ∷ 1 ∷ [])
    ∷ []

-- width 0 and 17; a number that is no octet; an octet too many, and too few; FIELD by octet 0, TDEST and TKEEP; RESERVED. With user
-- bits: more than the most; no octet for them; the lowest bit of the padding, behind one lane and behind three
abbrev pub illegal_streams : List Standing
illegal_streams =
    stream 0 [] ∷ stream 17 [] ∷ stream 1 (one 0 0 0 1 1 256) ∷ stream 1 (one 0 0 0 1 1 7 ++ (0 ∷ []))
    ∷ stream 1 (0 ∷ 0 ∷ 0 ∷ 1 ∷ 0 ∷ 1 ∷ 0 ∷ []) ∷ stream 1 (one 2 0 0 0 0 0) ∷ stream 1 (one 0 0 16 0 0 0)
    ∷ stream 1 (one 0 0 0 2 0 0) ∷ stream 1 (one 0 0 0 1 1 7 ++ one 0 0 0 0 1 7)
    ∷ tagged 1 5 [] ∷ tagged 1 4 (one 1 255 15 1 1 255) ∷ tagged 1 4 (one 1 255 15 1 1 255 ++ (16 ∷ []))
    ∷ tagged 3 3 (0 ∷ 0 ∷ 0 ∷ 7 ∷ 0 ∷ 7 ∷ 0 ∷ 1 ∷ 2 ∷ 3 ∷ 0 ∷ 2 ∷ []) ∷ []

abbrev pub is_legal_now : Standing → Bool
is_legal_now st = is_legal st.shape st.octets

abbrev pub LegalTable : Type 0
LegalTable = AllTold is_legal_now true legal_streams × AllTold is_legal_now false illegal_streams

-- "It .. may be longer than a take": legal streams have any number of records.
pub record Long (s : Shape) (n : ℕ) : Type 0 where
  pub octets : List ℕ
  pub legal : Legal s octets
  pub count : length octets ≡ n * size s

abbrev pub LegalLong : Type 0
LegalLong = (s : Shape) (n : ℕ) → Width s.width → s.user ≤ user_most → Long s n

-- ---- divisions

abbrev pub pair : ℕ → ℕ → Pair
pair tid tdest = record { tid = tid; tdest = tdest }

-- nothing, then an end and a byte of the pair (1, 2)
abbrev pub lasts : List (Option (Item Kept))
lasts = None ∷ Some (end (pair 1 2)) ∷ Some (byte (pair 1 2) (position 0)) ∷ []

-- nothing, then a byte and an end of the same pair, of another TID, and of another TDEST
abbrev pub firsts : List (Option (Item Kept))
firsts =
    None ∷ Some (byte (pair 1 2) (position 0)) ∷ Some (end (pair 1 2)) ∷ Some (byte (pair 3 2) (position 0)) ∷ Some (end (pair 3 2))
    ∷ Some (byte (pair 1 3) (position 0)) ∷ Some (end (pair 1 3)) ∷ []

-- a row for each last item before a division, in it a column for each first item after it
abbrev pub ApartTable : Type 0
ApartTable =
    map (λ (last : Option (Item Kept)). map (apart last) firsts) lasts
    ≡ (true ∷ true ∷ true ∷ true ∷ true ∷ true ∷ true ∷ [])
    ∷ (true ∷ true ∷ true ∷ true ∷ true ∷ true ∷ true ∷ [])
    ∷ (true ∷ false ∷ false ∷ true ∷ true ∷ true ∷ true ∷ []) ∷ []

-- each division of a list of parts, one after the other: the parts before it are in order
abbrev pub divides_from : Shape → List Part → List Part → Bool
divides_from s before [] = parted (stream_items s (whole before)) (stream_items s (whole []))
divides_from s before (p ∷ ps) =
    parted (stream_items s (whole before)) (stream_items s (whole (p ∷ ps))) && divides_from s (before ++ p ∷ []) ps

abbrev pub divides : Shape → List Part → Bool
divides s ps = divides_from s [] ps

abbrev pub DividesTested : Type 0
DividesTested = (s : Shape) (ps : List Part) → Divides s ps ↔ (divides s ps ≡ true)

-- a part, and the 18 octets of two records of width 2 lent to the call on it
abbrev pub part : List ℕ → Part
part xs = record { octets = xs; lent = 0 ∷ 0 ∷ 0 ∷ 0 ∷ 0 ∷ 0 ∷ 0 ∷ 0 ∷ 0 ∷ 0 ∷ 0 ∷ 0 ∷ 0 ∷ 0 ∷ 0 ∷ 0 ∷ 0 ∷ 0 ∷ [] }

-- records of width 1: a data byte of the pair (1, 2), of another TID, of another TDEST; the end of (1, 2); all-null
abbrev pub seven : List ℕ
seven = one 0 1 2 1 1 7

abbrev pub other_tid : List ℕ
other_tid = one 0 3 2 1 1 8

abbrev pub other_tdest : List ℕ
other_tdest = one 0 1 3 1 1 9

abbrev pub ended : List ℕ
ended = one 1 1 2 0 0 0

abbrev pub nulls : List ℕ
nulls = one 0 5 6 0 0 0

-- no part; one; nothing before, or nothing after; an end before; another TID or TDEST after, past parts with no item
abbrev pub divided : List (List (List ℕ))
divided =
    [] ∷ (seven ∷ []) ∷ ([] ∷ [] ∷ []) ∷ ([] ∷ nulls ∷ seven ∷ []) ∷ (seven ∷ nulls ∷ [] ∷ []) ∷ (ended ∷ seven ∷ [])
    ∷ ((seven ++ ended) ∷ [] ∷ seven ∷ []) ∷ (seven ∷ other_tid ∷ []) ∷ (seven ∷ other_tdest ∷ [])
    ∷ (other_tid ∷ nulls ∷ seven ∷ [] ∷ other_tdest ∷ []) ∷ []

-- a byte or an end of the same pair after, at the only division, past parts with no item, and at the last of several
abbrev pub undivided : List (List (List ℕ))
undivided =
    (seven ∷ seven ∷ []) ∷ (seven ∷ ended ∷ []) ∷ (seven ∷ [] ∷ nulls ∷ seven ∷ []) ∷ (ended ∷ seven ∷ seven ∷ []) ∷ []

abbrev pub divides_parts : List (List ℕ) → Bool
divides_parts xss = divides (lanes 1) (map part xss)

abbrev pub DividesTable : Type 0
DividesTable = AllTold divides_parts true divided × AllTold divides_parts false undivided

-- ---- accepted calls

abbrev pub AcceptedTable : Type 0
AcceptedTable = map accepted (Ok 0 ∷ Ok 3 ∷ Err Room ∷ []) ≡ Some 0 ∷ Some 3 ∷ None ∷ []

-- these numbers, and no refused call among them
abbrev pub numbers_are : List (Option ℕ) → List ℕ → Bool
numbers_are [] [] = true
numbers_are [] (n ∷ ns) = false
numbers_are (a ∷ rest) [] = false
numbers_are (None ∷ rest) (n ∷ ns) = false
numbers_are (Some m ∷ rest) (n ∷ ns) = eqb m n && numbers_are rest ns

abbrev pub all_accepted : Shape → ℕ → List Part → List ℕ → Bool
all_accepted s v ps ns = numbers_are (map (λ (p : Part). accepted (answer_to s p.octets (part_call v p))) ps) ns

abbrev pub AllAcceptedTested : Type 0
AllAcceptedTested = (s : Shape) (v : ℕ) (ps : List Part) (ns : List ℕ) → AllAccepted s v ps ns ↔ (all_accepted s v ps ns ≡ true)

-- parts of width 1, and the numbers that the calls to width 2 on them are said to answer
pub record Said : Type 0 where
  pub parts : List (List ℕ)
  pub numbers : List ℕ

abbrev pub said : List (List ℕ) → List ℕ → Said
said parts numbers = record { parts = parts; numbers = numbers }

abbrev pub answered : List Said
answered =
    said [] [] ∷ said (seven ∷ []) (1 ∷ []) ∷ said (seven ∷ [] ∷ nulls ∷ (seven ++ other_tid) ∷ []) (1 ∷ 0 ∷ 0 ∷ 2 ∷ []) ∷ []

-- a number too many, one too few, a wrong one; a part refused for its length, and one for want of room
abbrev pub unanswered : List Said
unanswered =
    said [] (0 ∷ []) ∷ said (seven ∷ []) (1 ∷ 0 ∷ []) ∷ said (seven ∷ []) [] ∷ said (seven ∷ nulls ∷ []) (1 ∷ [])
    ∷ said (seven ∷ []) (2 ∷ []) ∷ said ((0 ∷ []) ∷ []) (0 ∷ []) ∷ said ((seven ++ (other_tid ++ other_tdest)) ∷ []) (3 ∷ []) ∷ []

abbrev pub is_answered : Said → Bool
is_answered r = all_accepted (lanes 1) 2 (map part r.parts) r.numbers

abbrev pub AllAcceptedTable : Type 0
AllAcceptedTable = AllTold is_answered true answered × AllTold is_answered false unanswered
