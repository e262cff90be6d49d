-- `stream_data::data_octets` meets its contract: it is empty where the call is refused. Assumes nothing.
use Rattle.std.proofs.Common.{refl}
use Rattle.stream_data.proofs.DataPart.{part-of}
use Rattle.stream_data.proofs.data_octets.Goals as goal

pub returns : goal.returns
returns c =
    let a = c.args in
    let found = c.find_data in
    rw c.unwrap_or.ensures (part-of a.s a.capture.now a.k found.result found.ensures.looked found.ensures.part _ refl)
