-- `Job::of_transfers` meets its contract: ROOM, or clean. Assumes nothing.
use Rattle.std.proofs.Common.{rules}
use native.Mathlib.Omega.{arith}
use Rattle.report_call.proofs.Convert.{room-short, long-fits, all-written}
use Rattle.report_call.proofs.outcome.Job.of_transfers.Goals as goal

pub returns-in_err-records : goal.returns-in_err-records
returns-in_err-records c =
    room-short _ c.args.count _ _ _ _ c.convert.ensures c.in_err-records.field-0.0 c.in_err-records.was c.from_residual.result (search rules)

pub overflow_mul-result : goal.overflow_mul-result
overflow_mul-result c =
    omega
    (arith, long-fits _ c.args.count _ _ _ _ c.convert.ensures _ c.in_ok-records.was _ c.out_shape.ensures _ c.record_size.ensures, c.well_formed)

pub returns : goal.returns
returns c =
    all-written _ c.args.count _ _ _ _ c.convert.ensures _ c.in_ok-records.was _ c.out_shape.ensures _ c.record_size.ensures _ _ c.packets-packets.ensures
    c.requires
