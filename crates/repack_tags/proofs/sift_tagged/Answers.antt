-- `repack_tags::sift_tagged` meets its contract: lane by lane, what is left to keep gets shorter. Assumes nothing.
use mathlib.Core.Path.{ap}
use native.Mathlib.Omega.{arith}
use Prim.Native.Nat.{ℕ, ◌%◌}
use Rattle.repack_tags.proofs.Sifting.{shifted, lane-bits, sifting_lane}
use Rattle.repack_tags.proofs.sift_tagged.Goals as goal

pub keep_tagged-n-requires : goal.keep_tagged-n-requires
keep_tagged-n-requires c =
    let l = c.loop-lane in (
      omega (arith, l.invariant.near, l.invariant.same, c.requires.1, c.loop-lane-test.true),
      rw (shifted c.args.m c.requires.0) (lane-bits c.args.m l.u c.requires.0),
    )

pub loop-lane-preserved : goal.loop-lane-preserved
loop-lane-preserved c =
    let keeps = c.keep_tagged-n in
    let a = c.args in
    let l = c.loop-lane in
    sifting_lane a.m a.keep a.strb a.user a.lanes.now a.items.now a.at l.items l.n l.k l.t l.u l.lane-index l.invariant
    c.requires.1 c.loop-lane-test.true _ (ap (λ (x : ℕ). l.u % x) (shifted a.m c.requires.0)) keeps.new.items keeps.result keeps.ensures.value keeps.ensures.after
