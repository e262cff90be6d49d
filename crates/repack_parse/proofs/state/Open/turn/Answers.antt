-- `Open::turn` meets its contract, by a law for each way it goes. Assumes nothing.
use Rattle.repack_parse.proofs.Steps.{turn_empty, turn_close}
use Rattle.repack_parse.proofs.state.Open.turn.Goals as goal
use Rattle.repack_parse.proofs.state.Open.turn.Goals.{then-self, else-self}

pub returns : goal.returns
returns c =
    let a = c.args in
    elim c.if-self.branch [
      | then-self w ↦ rw (w.self-is, w.table-is, w.close.ensures.state, w.close.ensures.table) (turn_close a.table.now a.self.now c.requires a.pair c.if-self-pair.false w.if-self.true)
      | else-self w ↦ rw (w.self-is, w.table-is) (turn_empty a.table.now a.self.now a.pair w.if-self.false)
    ]
