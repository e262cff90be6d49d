-- `stream_downsize::put_slices` meets its contract: slice by slice. Assumes nothing.
use Prim.Native.Nat.{ℕ, suc, ◌+◌, ◌-◌, ◌*◌, ◌/◌, ◌<◌}
use mathlib.Core.List.{List}
use mathlib.Core.Path.{◌≡◌, refl}
use native.Mathlib.Omega.{arith}
use lib.Dec.{eqb}
use lib.ListN.{length, take, drop, length-drop}
use lib.Seq.{take_all}
use Rattle.stream_spec.proofs.Size.{size_holds}
use Rattle.stream_downsize.proofs.Slices.{user_from, header_low, slice_told, last_told, input_narrow, output_narrow, slicing_starts, slicing_lanes, slicing_unreserved, slicing_room, slicing_next, slicing_done}
use Rattle.stream_downsize.proofs.put_slices.Goals as goal

pub read_header-h-requires : goal.read_header-h-requires
read_header-h-requires c = omega (arith, c.requires.whole, size_holds c.args.s)

pub load_user-user-requires : goal.load_user-user-requires
load_user-user-requires c = (input_narrow c.requires.cuts, c.requires.whole)

pub loop-k-init : goal.loop-k-init
loop-k-init c =
    let h = c.read_header-h in
    slicing_starts c.requires h.result h.ensures c.load_user-user.result c.load_user-user.ensures _ _ (omega arith) (omega arith)

-- what is lent of a record are its octets from there on
lent : (rec : List ℕ) (at : ℕ) → take (length rec - at) (drop at rec) ≡ drop at rec
lent rec at = take_all (length rec - at) (drop at rec) (omega (arith, length-drop at rec))

-- one slice is left, and others
more : (k n : ℕ) → k < n → n - k ≡ suc (n - (k + 1))
more k n h = omega arith

pub put_at-to-requires : goal.put_at-to-requires
put_at-to-requires c =
    let a = c.args in
    let l = c.loop-k in
    let n = a.s.width / a.t.width in
    let from = l.k * a.t.width in
    let i = n - (l.k + 1) in
    let one = more l.k n c.loop-k-test.true in
    rw (c.slice_header-head.ensures, lent a.rec.now (7 + from)) (
      output_narrow c.requires.cuts,
      omega (arith, slicing_lanes l.invariant i one, length-drop (7 + from) a.rec.now),
      slicing_room l.invariant i one (eqb i 0) refl,
      slicing_unreserved l.invariant i one,
      header_low from (eqb (l.k + 1) n) c.read_header-h.result,
    )

pub loop-k-preserved : goal.loop-k-preserved
loop-k-preserved c =
    let a = c.args in
    let l = c.loop-k in
    let n = a.s.width / a.t.width in
    let from = l.k * a.t.width in
    let i = n - (l.k + 1) in
    let h = c.read_header-h.result in
    let u = user_from a.t from c.load_user-user.result in
    let last = eqb (l.k + 1) n in
    let put = c.put_at-to in
    slicing_next l.invariant i (more l.k n c.loop-k-test.true) last (last_told l.k n c.loop-k-test.true) _ _ _ put.ensures.0 (omega arith) put.ensures.1.same
    (slice_told a.t from last h _ u (drop (7 + from) a.rec.now) _ _ _ _ _ c.slice_header-head.ensures (lent a.rec.now (7 + from)) put.ensures.1.writes)

pub returns : goal.returns
returns c =
    let l = c.loop-k in
    record { same = l.invariant.same; writes = slicing_done l.invariant (omega (arith, c.loop-k-test.false)) }
