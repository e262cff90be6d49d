-- `Open::end` meets its contract: TLAST has one bit. Assumes nothing.
use Rattle.repack_parse.proofs.Steps.{end_close}
use mathlib.Core.Path.{◌≡◌}
use native.Mathlib.Omega.{arith}
use Rattle.repack_parse.proofs.state.Open.end.Goals as goal

pub returns-then-flags-ne0 : goal.returns-then-flags-ne0
returns-then-flags-ne0 c =
    let a = c.args in
    let one : a.flags ≡ 1 = omega (arith, c.requires.1, c.if-flags-ne0.true) in
    rw (one, c.close.ensures.state, c.close.ensures.table) (end_close a.table.now a.self.now c.requires.0)
