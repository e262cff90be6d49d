-- What holds while a take is read, stated by what remains of it.
use Rattle.std.specs.Prelude.{◌≡◌, List, ◌++◌, map, ℕ, ◌+◌, length, drop}
use Rattle.stream_spec.specs.Items.{Item, byte}
use Rattle.stream_spec.specs.Packed.{Stretch, cut}
use Rattle.stream_spec.specs.Layout.{Kept}
use Rattle.repack_scratch.specs.declared.Entry.{Entry}
use Rattle.repack_scratch.specs.Codes.{kept_of, pair_from, stretches_of, total}
use Rattle.repack_parse.specs.declared.state.Open.{Open}

-- nothing is read
abbrev pub at_start : Open
at_start = record { items = 0; start = 0; closed = 0; pair = 0 }

-- the state with the open stretch closed and another one, of any pair, open
abbrev pub closed_at : Open → ℕ → Open
closed_at st pair = record { items = st.items; start = st.items; closed = st.closed + 1; pair = pair }

-- the state with another pair, and with so many items
abbrev pub paired_at : Open → ℕ → Open
paired_at st pair = record { items = st.items; start = st.start; closed = st.closed; pair = pair }

abbrev pub kept_at : Open → ℕ → Open
kept_at st n = record { items = n; start = st.start; closed = st.closed; pair = st.pair }

-- Of the stretches of the whole take (`all`) the closed ones are in the table; the others are those of the open stretch's
-- bytes and of the items still to come (`rest`).
pub record Stands (codes : List ℕ) (entries : List Entry) (st : Open) (rest : List (Item Kept)) (all : List (Stretch Kept)) : Type 0 where
  pub kept : length codes ≡ st.items
  pub closed : length entries ≡ st.closed
  pub started : total entries ≡ st.start
  pub is : all ≡ stretches_of entries codes ++ cut (map (byte (pair_from st.pair)) (map kept_of (drop st.start codes)) ++ rest)
