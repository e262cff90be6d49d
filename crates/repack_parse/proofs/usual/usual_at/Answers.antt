-- `repack_parse::usual::usual_at` meets its contract: its words are those of the record. Assumes nothing.
use native.Mathlib.Omega.{arith}
use Rattle.repack_parse.proofs.Skimming.{usual_told}
use Rattle.repack_parse.proofs.usual.usual_at.Goals as goal

pub returns : goal.returns
returns c =
    let a = c.args in
    λ t. usual_told a.transfers.now a.at a.pair a.full c.load-lo.result c.load-hi.result (λ i. omega (arith, c.type_inv.transfers i))
    c.load-lo.ensures c.load-hi.ensures (c.is_usual.ensures.1 t)
