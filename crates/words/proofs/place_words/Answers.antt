-- `words::place_words` meets its contract: two words that may overlap. Assumes nothing.
use Rattle.std.proofs.Common.{◌-◌, arith}
use Rattle.words.proofs.Words.{rows}
use Rattle.words.proofs.place_words.Goals as goal

pub returns-then-OCTETS-v : goal.returns-then-OCTETS-v
returns-then-OCTETS-v g c =
    let a = c.args in
    let p = c.requires in
    let size = c.OCTETS-then-OCTETS-v in
    rows a.to.now a.from.now c.place_word.new.to c.place_word-then-OCTETS-v.new.to a.at a.n g.W.Word.OCTETS a.v (a.v - size.result) c.saturating_sub.result
    p.0 p.1 p.3 (omega (arith, size.ensures)) c.saturating_sub.ensures c.place_word.ensures c.place_word-then-OCTETS-v.ensures
