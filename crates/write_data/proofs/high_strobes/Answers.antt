-- `write_data::high_strobes` meets its contract: the ones of the strobes' octets are summed up. Assumes nothing.
use Rattle.std.specs.Int.RustNames.{count_ones}
use Rattle.std.proofs.Common.{rules, tests, ◌^◌}
use Rattle.std.proofs.lemmas.Iterator.{YieldsList-from_slice, YieldsList-from_map}
use Rattle.std.proofs.lemmas.Iterator.Consumers.{sum_by_from_yields_List, fits_by_from_yields_list}
use mathlib.Core.Path.{◌∙◌}
use native.Mathlib.Omega.{arith}
use Rattle.write_data.proofs.Fields.{bus-fits, size_is}
use Rattle.write_data.proofs.Lanes.{wstrb, ones-all, ones_most}
use Rattle.write_data.proofs.high_strobes.Goals as goal

pub slice_bounds-iter-count : goal.slice_bounds-iter-count
slice_bounds-iter-count c = omega (arith, c.requires.long, size_is c.args.bus)

pub slice_bounds-iter-start : goal.slice_bounds-iter-start
slice_bounds-iter-start c = omega (arith, c.requires.long, size_is c.args.bus)

pub sum-requires-clause-fits : goal.sum-requires-clause-fits
sum-requires-clause-fits c =
    let r = c.args.rec.now in
    fits_by_from_yields_list count_ones (wstrb r) c.map.result (2 ^ 64)
    (YieldsList-from_map _ count_ones (YieldsList-from_slice (wstrb r) cc) c.map.ensures.closure (λ x q p k. search (rules, tests)))
    (omega (arith, ones_most c.args.bus r c.requires (λ i. (c.type_inv.rec i).fits), (bus-fits c.args.bus c.requires.allowed).most))

pub returns : goal.returns
returns c =
    let r = c.args.rec.now in
    let sum = sum_by_from_yields_List count_ones (wstrb r) c.map.result c.sum.result c.sum.ensures.ran
    (YieldsList-from_map _ count_ones (YieldsList-from_slice (wstrb r) cc) c.map.ensures.closure (λ x q p k. search (rules, tests))) in
    let most = ones_most c.args.bus r c.requires (λ i. (c.type_inv.rec i).fits) in
    (sum ∙ ones-all c.args.bus r c.requires (λ i. (c.type_inv.rec i).fits), omega (arith, sum, most, (bus-fits c.args.bus c.requires.allowed).most))
