-- A record of items that are data. Assumes nothing.
use Rattle.repack_plain.proofs.Stretches.{lent_codes}
use Rattle.repack_plain.proofs.PlainItems.put_record.Goals as goal

pub returns : goal.returns
returns c = rw (lent_codes c.args.self.now.octets.now c.args.from) at c.put_plain.ensures
