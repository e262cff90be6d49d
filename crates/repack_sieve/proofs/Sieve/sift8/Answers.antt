-- `Sieve::sift8` meets its contract: two times four lanes closed up in one word, the upper four stored behind the lower. Assumes
-- nothing.
use native.Mathlib.Omega.{arith}
use Prim.Native.Nat.{◌+◌, ◌/◌, ◌%◌}
use mathlib.Core.Path.{refl}
use lib.ListN.{get_or}
use Rattle.repack_sieve.specs.Sieve.{row_of}
use Rattle.repack_sieve.proofs.Sifted.{row_read, sifted8}
use Rattle.repack_sieve.proofs.Sieve.sift8.Goals as goal

pub both-requires : goal.both-requires
both-requires c =
    let s = c.args.self.now in
    ((row_read s.rows c.args.keep s.made).kept_small, (row_read s.rows (c.args.keep / 16) s.made).kept_small)

pub both-requires-2 : goal.both-requires-2
both-requires-2 c =
    let s = c.args.self.now in
    ((row_read s.rows c.args.keep s.made).odd_small, (row_read s.rows (c.args.keep / 16) s.made).odd_small)

pub both-requires-3 : goal.both-requires-3
both-requires-3 c =
    let s = c.args.self.now in
    ((row_read s.rows c.args.keep s.made).far_small, (row_read s.rows (c.args.keep / 16) s.made).far_small)

pub overflow_add-result : goal.overflow_add-result
overflow_add-result c =
    let s = c.args.self.now in
    omega (arith, (row_read s.rows c.args.keep s.made).count, (row_read s.rows (c.args.keep / 16) s.made).count, c)

pub returns : goal.returns
returns c =
    let a = c.args in
    let rows = a.self.now.rows in
    let low = get_or rows (a.keep % 16) (row_of 0 0 0 0) in
    let high = get_or rows (a.keep / 16 % 16) (row_of 0 0 0 0) in
    sifted8 a.at (a.at + low.count) a.x c.close-y.result a.keep low.kept low.odd low.far low.count high.kept high.odd high.far high.count
    c.both.result c.both-2.result c.both-3.result a.octets.now c.store.new.s c.store-2.new.s
    (row_read rows a.keep a.self.now.made) (row_read rows (a.keep / 16) a.self.now.made) c.requires (omega (arith, c.ranges.x))
    c.both.ensures c.both-2.ensures c.both-3.ensures c.close-y.ensures c.store.ensures refl c.store-2.ensures
