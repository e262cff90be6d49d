-- `repack_gather::gather_all` meets its contract: the lanes are the first of the octets that are moved. Assumes nothing.
use native.Mathlib.Omega.{arith}
use lib.ListN.{drop}
use Rattle.stream_spec.proofs.Memory.{lent-rest}
use Rattle.repack_gather.proofs.Lanes.{all-kept}
use Rattle.repack_gather.proofs.gather_all.Goals as goal

pub returns-then-from-transfers : goal.returns-then-from-transfers
returns-then-from-transfers c =
    let a = c.args in
    let p = c.requires in
    all-kept a.w 16 (drop a.from a.transfers.now) a.octets.now c.place.new.to a.at (omega (arith, p.1)) (omega (arith, p.1, p.3))
    (rw (lent-rest a.transfers.now a.from) at c.place.ensures)

pub returns : goal.returns
returns c =
    let a = c.args in
    let p = c.requires in
    all-kept a.w a.w (drop a.from a.transfers.now) a.octets.now c.place-2.new.to a.at (omega (arith, p.1)) (omega (arith, p.1, p.3))
    (rw (lent-rest a.transfers.now a.from) at c.place-2.ensures)
