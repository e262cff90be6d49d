-- `repack_emit::count` meets its contract: entry by entry, what is left to count gets less. Assumes nothing.
use mathlib.Core.Path.{◌≡◌, ap}
use Prim.Native.Nat.{◌+◌}
use native.Mathlib.Omega.{arith}
use lib.ListN.{drop_of_length-le}
use Rattle.repack_emit.specs.Emit.{count_of}
use Rattle.repack_emit.proofs.Tables.{entry_at}
use Rattle.repack_emit.proofs.count.Goals as goal

pub loop-e-preserved : goal.loop-e-preserved
loop-e-preserved c =
    let l = c.loop-e in
    let table = c.args.table.now in
    let here = ap (count_of c.args.v) (entry_at table l.e-index c.loop-e-test.true) in
    let is = rw c.count.ensures at c.counted.ensures.0 in
    (omega (arith, c.counted.ensures.1), omega (arith, here, is, l.invariant.1))

pub returns : goal.returns
returns c =
    let l = c.loop-e in
    let table = c.args.table.now in
    let all : l.n + 0 ≡ count_of c.args.v table = rw (drop_of_length-le table {i = l.e-index} c.loop-e-test.false) at l.invariant.1 in
    (omega arith, omega arith)
