-- `stream_data::find_data` meets its contract: the part starts where `find_start` says. Assumes nothing.
use Rattle.stream_data.proofs.DataPart.{part-present}
use Rattle.stream_data.proofs.find_data.Goals as goal

pub returns-clause-part : goal.returns-clause-part
returns-clause-part c =
    let a = c.args in
    part-present a.s a.capture.now a.k c.in_ok-start.start c.in_ok-start.ensures.start c.in_ok-start.ensures.looked
