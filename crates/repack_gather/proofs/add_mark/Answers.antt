-- `repack_gather::add_mark` meets its contract: no bit is carried. Assumes nothing.
use Rattle.repack_scratch.proofs.Marks.{bit-fits}
use Rattle.stream_record.proofs.Padding.{shifted_octet}
use Rattle.std.proofs.Common.{rules}
use Rattle.repack_gather.proofs.add_mark.Goals as goal

pub overflow_add-result : goal.overflow_add-result
overflow_add-result c = rw (shifted_octet c.args.i c.requires.0) (record { fits = bit-fits 8 c.args.i c.args.octet c.args.m c.requires.0 c.requires.1 (search rules) c.requires.2 })
