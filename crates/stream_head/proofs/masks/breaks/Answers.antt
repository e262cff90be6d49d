-- `stream_head::breaks` meets its contract: each word's test is the tests of its octets. Assumes nothing.
use native.Mathlib.Omega.{arith}
use Rattle.stream_head.proofs.ZeroBits.{breaks-both}
use Rattle.stream_head.proofs.masks.breaks.Goals as goal

pub returns : goal.returns
returns c =
    let a = c.args in
    λ used s u w e. breaks-both used s a.rec.now a.z u w e (λ j. omega (arith, c.type_inv.rec j)) c.load.result c.load-2.result c.load.ensures c.load-2.ensures
