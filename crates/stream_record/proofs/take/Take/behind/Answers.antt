-- `Take::behind`: what lies behind whole records is whole records. Assumes nothing.
use Rattle.stream_record.proofs.Walking.{passed_behind}
use Rattle.stream_record.proofs.take.Take.behind.Goals as goal

pub invariant_of-result : goal.invariant_of-result
invariant_of-result c =
    let t = c.args.self.now in
    record { passed = passed_behind t.shape t.octets.now t.passed c.args.k c.requires c.record_size.result c.record_size.ensures }
