-- `stream_record::read_header` meets its contract: it reads the fields where the layout has them. Assumes nothing.
use Rattle.stream_record.proofs.read_header.Goals as goal

pub returns : goal.returns
returns c = cc
