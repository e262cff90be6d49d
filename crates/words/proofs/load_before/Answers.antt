-- `words::load_before` meets its contract: a word is loaded, and the octets before the last n are shifted out. Assumes nothing.
use native.Mathlib.Omega.{arith}
use Rattle.words.proofs.Words.{word_before}
use Rattle.words.proofs.load_before.Goals as goal

pub returns : goal.returns
returns g c =
    let a = c.args in
    let w = g.W.Word in
    word_before w.OCTETS a.n a.end c.OCTETS.result (w.value c.load-word.result) (w.value c.last.result) a.s.now
    (λ j. omega (arith, c.type_inv.s j)) c.requires.1 c.requires.2 c.OCTETS.ensures c.load-word.ensures c.last.ensures
