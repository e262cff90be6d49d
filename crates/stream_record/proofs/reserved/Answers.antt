-- `stream_record::reserved` meets its contract, by the law of the mask. Assumes nothing.
use Rattle.stream_record.proofs.Field.{reserved_mask}
use Rattle.stream_record.proofs.reserved.Goals as goal

pub returns : goal.returns
returns c = λ w h. reserved_mask w c.args.h.keep c.args.h.strb h
