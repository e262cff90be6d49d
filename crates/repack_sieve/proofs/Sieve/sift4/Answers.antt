-- `Sieve::sift4` meets its contract: four lanes closed up by their row and stored. Assumes nothing.
use native.Mathlib.Omega.{arith}
use Prim.Native.Nat.{◌%◌}
use lib.ListN.{get_or}
use Rattle.repack_sieve.specs.Sieve.{row_of}
use Rattle.repack_sieve.proofs.Sifted.{row_read, sifted4}
use Rattle.repack_sieve.proofs.Sieve.sift4.Goals as goal

pub returns : goal.returns
returns c =
    let a = c.args in
    let row = get_or a.self.now.rows (a.keep % 16) (row_of 0 0 0 0) in
    sifted4 a.at a.x c.close-y.result a.keep row.kept row.odd row.far row.count a.octets.now c.store.new.s
    (row_read a.self.now.rows a.keep a.self.now.made) c.requires (omega (arith, c.ranges.x))
    (rw c.from.ensures at c.close-y.ensures) c.store.ensures
