-- `Job::of_clean` meets its contract: the transfers are at the front of the array, and nothing else is read. Assumes nothing.
use mathlib.Core.List.{List}
use mathlib.Core.Path.{◌≡◌, subst}
use Prim.Native.Nat.{ℕ}
use native.Mathlib.Omega.{arith}
use lib.ListN.{length, replicate, length-replicate}
use Rattle.report_call.specs.Steps.{OfTransfers}
use Rattle.report_call.proofs.Sound.{is_harvested, short, part-is, part-fits, part-long, part-passed}
use Rattle.report_call.proofs.outcome.Job.of_clean.Goals as goal

-- the array before the transfers are put there
room : length (replicate {A = ℕ} 65536 0) ≡ 65536
room = length-replicate {A = ℕ} 65536 0

pub unwrap-requires : goal.unwrap-requires
unwrap-requires c = is_harvested _ _ _ c.requires _ c.shape_of-shape.ensures _ _ room _ c.harvest.ensures

pub overflow_mul-transfers : goal.overflow_mul-transfers
overflow_mul-transfers c =
    omega (arith, short _ _ _ c.requires _ c.shape_of-shape.ensures _ _ room _ c.harvest.ensures _ c.record_size.ensures)

pub slice_bounds-transfers-end : goal.slice_bounds-transfers-end
slice_bounds-transfers-end c = part-fits _ _ _ c.requires _ c.shape_of-shape.ensures _ _ room _ c.harvest.ensures _ c.record_size.ensures

pub slice_bounds-octets-end : goal.slice_bounds-octets-end
slice_bounds-octets-end c = part-long _ _ _ c.requires _ c.shape_of-shape.ensures _ _ room _ c.harvest.ensures _ c.record_size.ensures

pub invariant_of-of_transfers : goal.invariant_of-of_transfers
invariant_of-of_transfers c =
    record { passed = part-passed _ _ _ c.requires _ c.shape_of-shape.ensures _ _ room _ c.harvest.ensures _ c.record_size.ensures }

pub returns : goal.returns
returns c =
    let a = c.args in
    subst (λ (ys : List ℕ). OfTransfers a.self.setup a.count ys a.out.now c.of_transfers.new.out c.of_transfers.result)
    (part-is _ _ _ c.requires _ c.shape_of-shape.ensures _ _ room _ c.harvest.ensures _ c.record_size.ensures) c.of_transfers.ensures
