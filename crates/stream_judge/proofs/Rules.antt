-- What `rule_of` asks of its flags and of the record before: whether that waited, and that there is one to compare with. Assumes nothing.
use Rattle.std.specs.Prelude.{Option, None, Some}
use mathlib.Core.Path.{◌≡◌, refl, sym, ap, ◌∙◌}
use mathlib.Core.Bool.{Bool, true}
use mathlib.Core.List.{List, [], ◌∷◌}
use Prim.Native.Nat.{ℕ, ◌<◌}
use native.Mathlib.Omega.{arith}
use lib.ListN.{length}
use Rattle.stream_spec.specs.declared.Shape.{Shape}
use Rattle.stream_spec.specs.Handshake.{waited}
use Rattle.stream_spec.proofs.Bools.{no_such}
use Rattle.stream_spec.proofs.Size.{size-least, size-most}
use Rattle.stream_record.specs.declared.Header.{Header}
use Rattle.stream_judge.specs.Scan.{waits_by, Alike, before_of, flags_before, CycleAt}

-- a cycle waits, or is in reset, by its flags
waits-by : (b : Option (List ℕ)) → waits_by (flags_before b) ≡ waited b
waits-by None = refl
waits-by (Some b) = refl

module _ {s : Shape} {h : Header} {prevFlags : ℕ} {prev rec : List ℕ} (c : CycleAt s h prevFlags prev rec) where
  -- w tells whether the record before waited
  module _ (w : Bool) (told : w ≡ waits_by prevFlags) where
    waits : w ≡ waited (before_of prev)
    waits = told ∙ ap waits_by c.flagged ∙ waits-by (before_of prev)

    -- a record that waited is a whole one
    prev_some : w ≡ true → 0 < length prev
    prev_some e = go prev (sym waits ∙ e)
      where
        go : (p : List ℕ) → waited (before_of p) ≡ true → 0 < length p
        go [] e = no_such refl e
        go (f ∷ r) e = omega arith

    pub moved_needs : w ≡ true → Alike prev rec
    moved_needs e =
        record {
          long = c.prev_whole (prev_some e) ∙ sym c.whole;
          low = rw c.whole (size-least s c.low);
          high = rw c.whole (omega (arith, size-most s c.high c.user));
        }
