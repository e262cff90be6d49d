-- `write_data::judge_take` meets its contract: the length, then the fields. Assumes nothing.
use Rattle.write_data.proofs.Fields.{bus-fits}
use Rattle.write_data.proofs.judge_take.Goals as goal

pub bad_length-requires : goal.bad_length-requires
bad_length-requires c = (bus-fits c.args.bus c.requires).most
