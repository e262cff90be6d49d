use Prim.Native.Nat.{◌-◌, ◌*◌}
use Rattle.stream_downsize.specs.Slices.{record_slices}
use Rattle.stream_downsize.proofs.Slices.{Slicing}
use Rattle.stream_downsize.proofs.put_slices.Given as goal

abbrev pub invariant-loop-k : goal.invariant-loop-k
invariant-loop-k l =
    Slicing l.t l.rec l.h l.user l.initial.out l.fn.at (record_slices l.fn.s l.t l.rec) l.out l.to (l.count - l.k) (l.k * l.t.width)
