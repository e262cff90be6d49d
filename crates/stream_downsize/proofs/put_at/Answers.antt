-- `stream_downsize::put_at` meets its contract: what the lent part comes back as. Assumes nothing.
use mathlib.Core.Path.{refl}
use Prim.Native.Nat.{◌-◌}
use lib.ListN.{length}
use Rattle.stream_spec.specs.Layout.{size, odd, octets_of}
use Rattle.stream_downsize.specs.Slices.{slice_of}
use Rattle.stream_spec.proofs.Memory.{lent-long, lent-writes}
use Rattle.stream_downsize.proofs.Slices.{slice_long}
use Rattle.stream_downsize.proofs.put_at.Goals as goal

pub returns : goal.returns
returns c =
    let a = c.args in
    let slice = octets_of a.t.user (slice_of a.t a.h a.user a.lanes.now (odd a.h.flags)) in
    let long = slice_long a.t a.h a.user a.lanes.now (odd a.h.flags) in
    let lent = length a.out.now - a.to in
    rw (c.put_record.ensures, c.record_size.ensures) (
      refl,
      record {
        same = lent-long a.out.now slice a.to (size a.t) long c.requires.2 lent refl;
        writes = lent-writes a.out.now slice a.to (size a.t) long c.requires.2 lent refl;
      },
    )
