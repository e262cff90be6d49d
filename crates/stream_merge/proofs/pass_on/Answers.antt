-- `stream_merge::pass_on` meets its contract: the picked record stands at its place, and the turn behind it is told. Assumes nothing.
use Rattle.stream_merge.proofs.Pass.{passes_of}
use Rattle.stream_merge.proofs.pass_on.Goals as goal

pub returns : goal.returns
returns c =
    let put = c.put_picked in
    passes_of _ _ _ _ c.requires _ c.pick-rec.ensures _ put.ensures _ c.ends_turn.ensures _ c.behind.ensures
