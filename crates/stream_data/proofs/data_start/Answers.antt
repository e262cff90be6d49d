-- `stream_data::data_start` meets its contract: it is 0 where the call is refused. Assumes nothing.
use Rattle.stream_data.proofs.DataPart.{start-of}
use Rattle.stream_data.proofs.data_start.Goals as goal

pub returns : goal.returns
returns c =
    let a = c.args in
    let found = c.find_start in
    rw c.unwrap_or.ensures (start-of a.s a.capture.now a.k found.result found.ensures.looked found.ensures.start)
