-- `stream_judge::differ` meets its contract: words are equal where their octets are. Assumes nothing.
use native.Mathlib.Omega.{arith}
use Rattle.std.proofs.Common.{not, ap, ◌∙◌}
use Rattle.stream_judge.proofs.Groups.{words_differ}
use Rattle.stream_judge.proofs.differ.Goals as goal

pub returns : goal.returns
returns g c =
    let a = c.args in
    let x = g.W.Word.value c.load.result in
    let y = g.W.Word.value c.load-2.result in
    c.ne.ensures
    ∙ ap not (g.met.W.Word.equal c.load.result c.load-2.result)
    ∙ words_differ a.prev.now a.rec.now g.W.Word.OCTETS a.i (λ j. omega (arith, c.type_inv.prev j)) (λ j. omega (arith, c.type_inv.rec j))
    c.requires.0 c.requires.1 x y c.load.ensures c.load-2.ensures
