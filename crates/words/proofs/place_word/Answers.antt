-- `words::place_word` meets its contract: a word is loaded, cut off and stored. Assumes nothing.
use native.Mathlib.Omega.{arith}
use Rattle.words.proofs.Words.{first_stored}
use Rattle.words.proofs.place_word.Goals as goal

pub returns : goal.returns
returns g c =
    let a = c.args in
    let w = g.W.Word in
    first_stored w.OCTETS a.n (w.value c.load-word.result) (w.value c.first.result) a.i a.at a.from.now a.to.now c.store.new.s
    (λ j. omega (arith, c.type_inv.from j)) c.load-word.ensures c.first.ensures c.store.ensures
