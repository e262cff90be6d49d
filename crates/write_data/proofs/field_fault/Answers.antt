-- `write_data::field_fault` meets its contract. Assumes nothing.
use mathlib.Core.Path.{sym, ◌∙◌}
use native.Mathlib.Omega.{arith}
use borrow.Author.Tests.{lt-ltb, le-ltb}
use lib.ListN.{get_or}
use Rattle.write_data.proofs.Fields.{bus-fits, size_is, fault_flags, fault_wide, told_narrow}
use Rattle.write_data.proofs.field_fault.Goals as goal

pub bounds-rec-0 : goal.bounds-rec-0
bounds-rec-0 c = omega (arith, c.requires.1, size_is c.args.bus)

pub returns-then-rec-gt1 : goal.returns-then-rec-gt1
returns-then-rec-gt1 c =
    lt-ltb 1 (get_or c.args.rec.now 0 0) c.if-rec-gt1.true ∙ sym (fault_flags c.args.bus c.args.rec.now c.if-rec-gt1.true)

pub bounds-rec-1 : goal.bounds-rec-1
bounds-rec-1 c =
    omega (arith, c.requires.1, size_is c.args.bus, (bus-fits c.args.bus c.requires.0).least)

pub returns-then-bus-lt-LANES_EACH : goal.returns-then-bus-lt-LANES_EACH
returns-then-bus-lt-LANES_EACH c =
    told_narrow c.args.bus c.args.rec.now c.requires.0 c.if-rec-gt1.false c.if-bus-lt-LANES_EACH.true c.from.result
    c.from.ensures (rw c.from.ensures (c.type_inv.rec 1).fits)

pub returns-else-bus-lt-LANES_EACH : goal.returns-else-bus-lt-LANES_EACH
returns-else-bus-lt-LANES_EACH c =
    le-ltb c.args.bus 8 c.if-bus-lt-LANES_EACH.false
    ∙ sym (fault_wide c.args.bus c.args.rec.now c.requires.0 c.if-rec-gt1.false c.if-bus-lt-LANES_EACH.false)
