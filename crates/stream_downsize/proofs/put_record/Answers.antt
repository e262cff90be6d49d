-- `stream_downsize::put_record` meets its contract: data octets, user bits and header make the slice. Assumes nothing.
use mathlib.Core.Path.{◌≡◌, refl}
use Prim.Native.Nat.{◌*◌, ◌%◌, ◌^◌}
use native.Mathlib.Nat.{mod-lt}
use native.Mathlib.Omega.{arith}
use lib.Pow.{pow_pos, pow_mono}
use Rattle.stream_record.proofs.Field.{shifted}
use Rattle.stream_spec.proofs.Size.{size_is, size_holds}
use Rattle.stream_downsize.proofs.Lanes.{slice_written}
use Rattle.stream_downsize.proofs.put_record.Goals as goal

pub put_lanes-requires : goal.put_lanes-requires
put_lanes-requires c = (c.requires.0.width, c.requires.1, omega (arith, size_holds c.args.t, c.requires.2), c.requires.3)

pub write_user-requires : goal.write_user-requires
write_user-requires c = omega (arith, size_is c.args.t, c.requires.2, c.put_lanes.auto.out, c.user_octets-k.ensures.0)

pub write_header-requires : goal.write_header-requires
write_header-requires c =
    let a = c.args in
    let wide = c.requires.0.width in
    rw (shifted a.t.width wide) (
      omega (arith, size_holds a.t, c.requires.2, c.put_lanes.auto.out, c.write_user.auto.out),
      omega (arith, c.requires.4),
      omega (arith, mod-lt a.h.keep (pow_pos a.t.width), pow_mono wide),
      omega (arith, mod-lt a.h.strb (pow_pos a.t.width), pow_mono wide),
    )

pub returns : goal.returns
returns c =
    let a = c.args in
    let masks : 1 * 2 ^ a.t.width % 4294967296 ≡ 2 ^ a.t.width = shifted a.t.width c.requires.0.width in
    let lanes = c.put_lanes in
    let user = c.write_user in
    let bits = c.slice_user-bits in
    slice_written a.t a.h a.user a.lanes.now a.out.now lanes.new.out user.new.out c.write_header.new.out a.h.flags
    _ _ bits.result c.user_octets-k.result c.requires.2 c.requires.3 c.requires.4 (rw masks refl) (rw masks refl)
    (bits.ensures a.h.strb a.lanes.now) c.user_octets-k.ensures.0 lanes.ensures user.ensures c.write_header.ensures
