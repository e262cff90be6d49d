-- `repack_tagged_parse::read_record` meets its contract: the fault that was found is the record's first check, and a sound record is
-- added. Assumes nothing.
use mathlib.Core.Path.{sym}
use native.Mathlib.Omega.{arith}
use Rattle.stream_spec.proofs.Size.{size_holds}
use Rattle.repack_parse.proofs.Records.{added_none}
use Rattle.repack_tagged_parse.proofs.read_record.Goals as goal

pub read_header-h-requires : goal.read_header-h-requires
read_header-h-requires c = omega (arith, c.requires.1, size_holds c.args.s)

pub returns-else-h-ne0 : goal.returns-else-h-ne0
returns-else-h-ne0 c =
    let a = c.args in
    let p = c.requires in (
      sym c.in_ok-record_fault.ensures,
      added_none a.s a.rec.now a.items.now a.table.now c.read_header-h.result a.state.now
          (λ i. omega (arith, c.type_inv.rec i)) p.1 c.read_header-h.ensures p.2 a.items.now c.if-h-ne0.false,
    )
