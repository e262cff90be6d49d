-- `Sieve::sift` meets its contract: one word of lanes, or two. Assumes nothing.
use native.Mathlib.Omega.{arith}
use Prim.Native.Nat.{◌+◌, ◌-◌}
use Rattle.repack_sieve.proofs.Loaded.{loaded-octets}
use Rattle.repack_sieve.proofs.Sifted.{few-lanes, many-lanes}
use Rattle.repack_sieve.proofs.Sieve.sift.Goals as goal

pub returns-then-w-le4 : goal.returns-then-w-le4
returns-then-w-le4 c =
    let a = c.args in
    let p = c.requires in
    let word = c.load_before in
    few-lanes 4 a.w a.from a.keep a.at c.sift4.result word.result a.transfers.now a.octets.now c.sift4.new.octets
    c.if-w-le4.true (omega (arith, p.4)) p.5
    (loaded-octets a.transfers.now (λ j. omega (arith, c.type_inv.transfers j)) 4 a.w (a.from + a.w - a.w) word.result c.if-w-le4.true word.ensures)
    c.sift4.ensures

pub returns-then-w-le8 : goal.returns-then-w-le8
returns-then-w-le8 c =
    let a = c.args in
    let p = c.requires in
    let word = c.load_before-then-w-le8 in
    few-lanes 8 a.w a.from a.keep a.at c.sift8.result word.result a.transfers.now a.octets.now c.sift8.new.octets
    c.if-w-le8.true (omega (arith, p.4)) p.5
    (loaded-octets a.transfers.now (λ j. omega (arith, c.type_inv.transfers j)) 8 a.w (a.from + a.w - a.w) word.result c.if-w-le8.true word.ensures)
    c.sift8.ensures

pub returns : goal.returns
returns c =
    let a = c.args in
    let p = c.requires in
    let word = c.load_before-2 in
    many-lanes a.w a.from a.keep a.at c.sift8-n.result c.sift8-2.result c.load.result word.result a.transfers.now a.octets.now c.sift8-n.new.octets c.sift8-2.new.octets
    (λ j. omega (arith, c.type_inv.transfers j)) (omega (arith, c.if-w-le8.false)) p.1 p.4 p.5 c.load.ensures
    (loaded-octets a.transfers.now (λ j. omega (arith, c.type_inv.transfers j)) 8 (a.w - 8) (a.from + a.w - (a.w - 8)) word.result (omega (arith, p.1)) word.ensures)
    c.sift8-n.ensures c.sift8-2.ensures
