-- How a burst is cut for a board that takes at most 16 beats (paper 02, T-02): which bursts come out, and what their beats are.
-- Words in quotes are the request's. What the calls answer is in Answers; what a burst and a beat is, in burst_spec.
use Rattle.std.specs.Prelude.{List, [], ◌∷◌, ◌++◌, map, ℕ, zero, suc, ◌+◌, ◌-◌, ◌*◌, ◌/◌, min}
use Rattle.burst_spec.specs.declared.Beat.{Beat}
use Rattle.burst_spec.specs.declared.Burst.{Burst}
use Rattle.burst_spec.specs.declared.Kind.{Kind}
use Rattle.burst_spec.specs.declared.Kind.TheVariants.{Fixed, Incr, Wrap, Reserved}
use Rattle.burst_spec.specs.Address.{beats, beat_address, beat_of}

-- "Older boards take at most 16 beats": AXI3's AxLEN has 4 bits (source 002, table 4-1)
abbrev pub beats_most : ℕ
beats_most = 16

-- How many bursts an INCR of n beats is cut into: n/16, rounded up. ".. and every FIXED or WRAP, comes out as itself"; a burst
-- of the reserved kind is refused before its line here is read.
unfoldable pub count_by : Kind → ℕ → ℕ
count_by Fixed n = 1
count_by Incr n = (n + (beats_most - 1)) / beats_most
count_by Wrap n = 1
count_by Reserved n = 1

abbrev pub piece_count : Burst → ℕ
piece_count x = count_by x.kind (beats x)

-- "each of 16 beats but perhaps the last": the beats of burst j of the list, of n beats in all
abbrev pub piece_beats : ℕ → ℕ → ℕ
piece_beats n j = min beats_most (n - beats_most * j)

-- Burst j of the list, from 0 on: it begins at beat 16*j of the old burst, so "the first at the old start, the later ones at
-- their aligned beat address, size, kind and bus unchanged".
unfoldable pub piece : Burst → ℕ → Burst
piece x j =
    record {
      start = beat_address x (beats_most * j);
      len = piece_beats (beats x) j - 1;
      size = x.size;
      kind = x.kind;
      bus = x.bus;
    }

-- what f gives for a, a + 1 and so on: n of them
unfoldable pub run : {A : Type 0} → (ℕ → A) → ℕ → ℕ → List A
run f a zero = []
run f a (suc n) = f a ∷ run f (suc a) n

-- the "list of bursts"
abbrev pub pieces : Burst → List Burst
pieces x = run (piece x) 0 (piece_count x)

-- the beats of a burst in order, each with its address and its lanes
abbrev pub beats_of : Burst → List Beat
beats_of x = run (beat_of x) 0 (beats x)

-- "one burst after another"
unfoldable pub joined : {A : Type 0} → List (List A) → List A
joined [] = []
joined (xs ∷ xss) = xs ++ joined xss

-- "The beats of the list, one burst after another"
abbrev pub beats_of_all : List Burst → List Beat
beats_of_all ys = joined (map beats_of ys)
