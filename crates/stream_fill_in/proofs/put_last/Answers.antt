-- `stream_fill_in::put_last` meets its contract: one octet is stored. Assumes nothing.
use Rattle.stream_fill_in.proofs.Laws.{bit_told, last_set}
use Rattle.stream_fill_in.proofs.put_last.Goals as goal

pub returns : goal.returns
returns c = last_set c.args.level c.args.rec.now c.from.result c.requires (bit_told c.args.level c.from.result c.from.ensures)
