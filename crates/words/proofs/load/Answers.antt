-- `words::load` meets its contract: the front of what stands at the place is read. Assumes nothing.
use Rattle.std.proofs.Common.{◌∙◌}
use Rattle.words.proofs.Words.{word_rest}
use Rattle.words.proofs.load.Goals as goal

pub returns : goal.returns
returns g c = c.read.ensures ∙ word_rest g.W.Word.OCTETS c.args.i c.args.s.now
