-- `stream_harvest::move_word` meets its contract: a word's octets are those it was read from. Assumes nothing.
use mathlib.Core.List.{List}
use mathlib.Core.Path.{ap, ◌∙◌}
use Prim.Native.Nat.{ℕ}
use native.Mathlib.Omega.{arith}
use Rattle.words.specs.Splice.{splice}
use Rattle.words.specs.Words.{octets_of_word}
use Rattle.words.proofs.Words.{word-take}
use Rattle.stream_harvest.proofs.move_word.Goals as goal

pub returns : goal.returns
returns c =
    let word = c.load in
    c.store.ensures
    ∙ ap (λ (x : ℕ). splice c.args.at (octets_of_word 8 x) c.args.out.now) word.ensures
    ∙ ap (λ (xs : List ℕ). splice c.args.at xs c.args.out.now)
    (word-take 8 c.args.rec.now c.args.at (λ j. omega (arith, c.type_inv.rec j)) c.requires.0)
