-- The usual record, which is most of a take: no fault, no position lane, and the pair of the record before it.
use Rattle.std.specs.Prelude.{◌≡◌, List, Bool, ◌&&◌, ℕ, ◌+◌, ◌-◌, ◌*◌, ◌%◌, ◌≤◌, eqb, leb}
use Rattle.stream_spec.specs.Legal.{Octets}
use Rattle.words.specs.Words.{word_at}
use Rattle.stream_record.specs.declared.Header.{Header}
use Rattle.stream_record.specs.Header.{header_of}

-- A header that is usual: TLAST may be high, the pair is this one, every kept lane is data and lies in the full mask.
-- TLAST and TKEEP are read from its two words.
pub record Usual (lo hi pair full : ℕ) (h : Header) : Type 0 where
  pub flags : h.flags ≡ lo % 2
  pub paired : h.tid + 0x100 * h.tdest ≡ pair
  pub keep : h.keep ≡ hi % 0x10000
  pub strb : h.strb ≡ hi % 0x10000
  pub within : hi % 0x10000 ≤ full

-- The test of two words: without TLAST the low one is the pair and the low octet of TKEEP, the high one has TKEEP twice, and
-- no lane beyond the full mask is kept.
abbrev pub usual_test : ℕ → ℕ → ℕ → ℕ → Bool
usual_test lo hi pair full =
    eqb (lo - lo % 2) (0x100 * pair + 0x1000000 * (hi % 0x100)) && (eqb hi (0x10001 * (hi % 0x10000)) && leb (hi % 0x10000) full)

-- the header of every record whose octets 0 to 3 and 3 to 6 are these two words
abbrev pub UsualWords : ℕ → ℕ → ℕ → ℕ → Type 0
UsualWords lo hi pair full =
    (rec : List ℕ) → Octets rec → lo ≡ word_at 4 rec 0 → hi ≡ word_at 4 rec 3 → Usual lo hi pair full (header_of rec)
