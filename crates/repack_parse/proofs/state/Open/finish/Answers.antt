-- `Open::finish` meets its contract, by a law for each way it goes. Assumes nothing.
use Rattle.repack_parse.proofs.Steps.{finished, finish_close}
use Rattle.repack_parse.proofs.state.Open.finish.Goals as goal

pub returns-then-self : goal.returns-then-self
returns-then-self c =
    let a = c.args in
    rw (c.close.ensures.state, c.close.ensures.table) (λ items all h. finish_close items a.table.now a.self all c.requires c.if-self.true h)

pub returns-else-self : goal.returns-else-self
returns-else-self c = λ items all h. finished items c.args.table.now c.args.self all c.if-self.false h
