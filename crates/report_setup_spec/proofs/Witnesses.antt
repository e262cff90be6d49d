-- The statements of specs/Promises at examples, typed by hand: both ends of the range are in it, and what is beside a numeral
-- or behind a sheet is not read. A premise that is narrowed, or a conclusion that is dropped, breaks one. Assumes nothing.
use Rattle.std.specs.Prelude.{None, Some}
use mathlib.Core.List.{List}
use mathlib.Core.Logic.{◌≢◌}
use mathlib.Core.Path.{◌≡◌, refl, sym, ◌∙◌}
use Prim.Native.Nat.{ℕ, ◌≤◌}
use native.Mathlib.Omega.{arith}
use Rattle.report_setup_spec.specs.declared.Mode.{Mode}
use Rattle.report_setup_spec.specs.declared.Mode.TheVariants.{Pack, Lanes}
use Rattle.report_setup_spec.specs.declared.Tlast.{Tlast}
use Rattle.report_setup_spec.specs.declared.Tlast.TheVariants.{Wired, Absent, Low}
use Rattle.report_setup_spec.specs.declared.Setup.{Setup}
use Rattle.report_setup_spec.specs.Grammar.{text, digit, number, one_of, tlasts, sheet_of}
use Rattle.report_setup_spec.proofs.Promises.{digits_exactly, numbers_exactly, words_exactly, sheets_exactly}

-- ---- numbers

pub least : number (text "0") ≡ Some 0
least = numbers_exactly.each 0 (omega arith)

pub greatest : number (text "99") ≡ Some 99
greatest = numbers_exactly.each 99 (omega arith)

-- whatever is read is at most 99, and spelt in one way
pub at_most : (value : List ℕ) (n : ℕ) → number value ≡ Some n → n ≤ 99
at_most value n e = (numbers_exactly.only value n e).0

pub one_way : (v w : List ℕ) (n : ℕ) → number v ≡ Some n → number w ≡ Some n → v ≡ w
one_way v w n e f = (numbers_exactly.only v n e).1 ∙ sym (numbers_exactly.only w n f).1

-- ---- one digit

pub no_bits : digit (text "0") ≡ Some 0
no_bits = digits_exactly.each 0 (omega arith)

pub most-bits : digit (text "9") ≡ Some 9
most-bits = digits_exactly.each 9 (omega arith)

-- whatever is read is at most 9, and spelt in one way
pub at-most_9 : (value : List ℕ) (n : ℕ) → digit value ≡ Some n → n ≤ 9
at-most_9 value n e = (digits_exactly.only value n e).0

pub one-digit_way : (v w : List ℕ) (n : ℕ) → digit v ≡ Some n → digit w ≡ Some n → v ≡ w
one-digit_way v w n e f = (digits_exactly.only v n e).1 ∙ sym (digits_exactly.only w n f).1

-- ---- words

pub low_read : one_of tlasts (text "low") ≡ Some Low
low_read = words_exactly.each Low

pub high-is-no-word : (text "high" ≢ text "wired") × (text "high" ≢ text "none") × (text "high" ≢ text "low")
high-is-no-word = (words_exactly.refused (text "high")).0 refl

pub high-refused : one_of tlasts (text "high") ≡ None
high-refused = (words_exactly.refused (text "high")).1 high-is-no-word

-- what is read as `none` is that word, and no other
pub only_none : (value : List ℕ) → one_of tlasts value ≡ Some Absent → value ≡ text "none"
only_none value e = words_exactly.only value Absent e

-- ---- sheets

abbrev setup : ℕ → ℕ → Mode → Tlast → ℕ → Setup
setup a b m t u = record { width_in = a; width_out = b; mode = m; tlast = t; user = u }

pub low-high : sheet_of (text "width_in=0\nwidth_out=99\nmode=pack\ntlast=wired\nuser=0\n") ≡ Some (setup 0 99 Pack Wired 0)
low-high = sheets_exactly.each (setup 0 99 Pack Wired 0) (omega arith) (omega arith) (omega arith)

pub high-low : sheet_of (text "width_in=99\nwidth_out=0\nmode=lanes\ntlast=none\nuser=9\n") ≡ Some (setup 99 0 Lanes Absent 9)
high-low = sheets_exactly.each (setup 99 0 Lanes Absent 9) (omega arith) (omega arith) (omega arith)

pub low_word : sheet_of (text "width_in=4\nwidth_out=2\nmode=pack\ntlast=low\nuser=4\n") ≡ Some (setup 4 2 Pack Low 4)
low_word = sheets_exactly.each (setup 4 2 Pack Low 4) (omega arith) (omega arith) (omega arith)

-- whatever is read has widths of at most 99 and at most 9 user bits, and two sheets that say the same are the same octets
pub widths : (xs : List ℕ) (u : Setup) → sheet_of xs ≡ Some u → (u.width_in ≤ 99) × (u.width_out ≤ 99)
widths xs u e = let p = sheets_exactly.only xs u e in (p.0, p.1)

pub user-bits : (xs : List ℕ) (u : Setup) → sheet_of xs ≡ Some u → u.user ≤ 9
user-bits xs u e = (sheets_exactly.only xs u e).2

pub one-sheet : (xs ys : List ℕ) (u : Setup) → sheet_of xs ≡ Some u → sheet_of ys ≡ Some u → xs ≡ ys
one-sheet xs ys u e f = (sheets_exactly.only xs u e).3 ∙ sym (sheets_exactly.only ys u f).3
