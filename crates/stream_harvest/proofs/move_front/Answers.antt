-- `stream_harvest::move_front` meets its contract: the word without the bits of octet 0 that are not TLAST. Assumes nothing.
use mathlib.Core.List.{List}
use mathlib.Core.Path.{ap, ◌∙◌}
use Prim.Native.Nat.{ℕ, ◌+◌, ◌-◌, ◌%◌}
use native.Mathlib.Omega.{arith}
use Rattle.words.specs.Splice.{splice}
use Rattle.words.specs.Words.{octets_of_word}
use Rattle.stream_harvest.proofs.Copied.{front_is}
use Rattle.stream_harvest.proofs.move_front.Goals as goal

pub returns : goal.returns
returns c =
    c.store.ensures
    ∙ ap (λ (w : ℕ). splice 0 (octets_of_word 8 (w - w % 256 + w % 2)) c.args.out.now) c.load-word.ensures
    ∙ ap (λ (xs : List ℕ). splice 0 xs c.args.out.now) (front_is c.args.rec.now (λ j. omega (arith, c.type_inv.rec j)) c.requires.low)
