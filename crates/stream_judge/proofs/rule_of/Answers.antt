-- `stream_judge::rule_of` asks `moved` of two whole records: one that waited is no empty one. Assumes nothing.
use Rattle.stream_judge.proofs.Rules.{moved_needs}
use Rattle.stream_judge.proofs.rule_of.Goals as goal

pub moved-requires : goal.moved-requires
moved-requires c = moved_needs c.requires c.waiting-waited.result c.waiting-waited.ensures
