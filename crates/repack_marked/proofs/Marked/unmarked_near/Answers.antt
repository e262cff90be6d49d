-- `Marked::unmarked_near` meets its contract: where four octets are zero no mark of theirs stands. Assumes nothing.
use mathlib.Core.Path.{sym, ◌∙◌}
use native.Mathlib.Omega.{arith}
use borrow.Author.Tests.{eqb-true}
use Rattle.repack_marked.proofs.Near.{unmarked-word}
use Rattle.repack_marked.proofs.Marked.unmarked_near.Goals as goal

pub returns : goal.returns
returns c = λ e i h. unmarked-word c.args.self.now.marks.now c.args.from (omega (arith, c.args.self.now.same, c.requires)) (sym c.load.ensures ∙ eqb-true c.load.result 0 e) i h
