-- `repack_tagged_parse::add_record` meets its contract: turned, sifted with its user bits and ended. Assumes nothing.
use mathlib.Core.Path.{◌≡◌, refl}
use Prim.Native.Nat.{◌+◌, ◌-◌}
use native.Mathlib.Omega.{arith}
use lib.ListN.{take, drop}
use Rattle.stream_spec.proofs.Size.{size_holds}
use Rattle.repack_tagged_parse.proofs.Parsing.{added-tagged}
use Rattle.repack_tagged_parse.proofs.add_record.Goals as goal

pub slice_bounds-lanes-end : goal.slice_bounds-lanes-end
slice_bounds-lanes-end c = omega (arith, c.requires.1.long, size_holds c.args.s)

pub returns : goal.returns
returns c =
    let sift = c.sift_tagged-state in
    let a = c.args in
    let p = c.requires in
    added-tagged a.s a.rec.now a.items.now a.table.now c.turn.new.table a.h a.state.now c.turn.new.self
    (λ i. omega (arith, c.type_inv.rec i)) p.1 p.2 c.pair_code.result c.pair_code.ensures
    c.turn.ensures (take (7 + a.s.width - 7) (drop 7 a.rec.now)) (let same : 7 + a.s.width - 7 ≡ a.s.width = omega arith in rw same refl)
    sift.new.items c.end.new.table c.end.new.self sift.result c.load_user-user.result c.load_user-user.ensures sift.ensures c.end.ensures
