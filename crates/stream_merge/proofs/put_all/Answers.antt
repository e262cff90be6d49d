-- `stream_merge::put_all` meets its contract: what is written, with what the records left will add, is the merged list. Assumes nothing.
use native.Mathlib.Omega.{arith}
use Rattle.stream_merge.proofs.Pass.{asks, goes_on}
use Rattle.stream_merge.proofs.Answer.{pos, least, most, lists-start, lists-end}
use Rattle.stream_merge.proofs.put_all.Goals as goal

pub nonzero_div-z : goal.nonzero_div-z
nonzero_div-z c = pos _ _ _ c.requires _ c.record_size-z.ensures

pub loop-to-init : goal.loop-to-init
loop-to-init c = lists-start _ _ _ c.requires _ c.record_size-z.ensures _ c.new-t.ensures

pub pass_on-t-requires : goal.pass_on-t-requires
pass_on-t-requires c =
    let z = c.record_size-z.ensures in
    asks _ (least _ _ _ c.requires _ z) (most _ _ _ c.requires _ z) _ _ _ _ _ _ c.loop-to.invariant c.loop-to-test.true

pub loop-to-preserved : goal.loop-to-preserved
loop-to-preserved c =
    let z = c.record_size-z.ensures in
    goes_on _ (least _ _ _ c.requires _ z) (most _ _ _ c.requires _ z) _ _ _ _ _ _ c.loop-to.invariant c.loop-to-test.true _ _ c.pass_on-t.ensures

-- no record is left: the list is empty, or the last one was passed on
pub returns : goal.returns
returns c = lists-end _ _ _ c.requires _ c.record_size-z.ensures _ _ _ c.loop-to.invariant c.loop-to-test.false

pub returns-2 : goal.returns-2
returns-2 c =
    let z = c.record_size-z.ensures in
    let on = goes_on _ (least _ _ _ c.requires _ z) (most _ _ _ c.requires _ z) _ _ _ _ _ _ c.loop-to.invariant c.loop-to-test.true _ _ c.pass_on-t.ensures in
    lists-end _ _ _ c.requires _ z _ _ _ on (omega arith)
