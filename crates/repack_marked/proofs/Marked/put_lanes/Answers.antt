-- `Marked::put_lanes` meets its contract: items, nulls and header make the record. Assumes nothing.
use mathlib.Core.Path.{◌≡◌}
use Prim.Native.Nat.{◌≤◌}
use native.Mathlib.Omega.{arith}
use lib.Pow.{pow_mono}
use lib.ListN.{length, drop}
use lib.Seq.{length-take-le}
use Rattle.stream_spec.proofs.Size.{size_bare}
use Rattle.repack_scratch.specs.Codes.{codes_in, mark_bits}
use Rattle.repack_scratch.proofs.Held.{length-held}
use Rattle.repack_plain.proofs.Lanes.{strb-fits, bit-small}
use Rattle.repack_plain.proofs.Memory.{record_written}
use Rattle.repack_marked.specs.Marked.{items_from}
use Rattle.repack_marked.proofs.Near.{marks-same, length_from}
use Rattle.repack_marked.proofs.Marked.put_lanes.Goals as goal

pub put_items-strb-requires : goal.put_items-strb-requires
put_items-strb-requires c =
    let p = c.requires.1 in
    (omega (arith, p.few, p.high), c.requires.0, omega (arith, size_bare c.args.v, p.few, p.room))

pub write_nulls-requires : goal.write_nulls-requires
write_nulls-requires c = (c.requires.1.few, omega (arith, size_bare c.args.v, c.requires.1.room, c.put_items-strb.auto.out))

pub header-requires : goal.header-requires
header-requires c = omega (arith, c.requires.1.few, c.requires.1.high)

pub write_header-requires : goal.write_header-requires
write_header-requires c =
    let a = c.args in
    let p = c.requires.1 in
    let octets = a.self.now.octets.now in
    let marks = a.self.now.marks.now in
    let few : a.n ≤ 16 = omega (arith, p.few, p.high) in
    let long : length (items_from octets marks a.from a.n) ≡ a.n =
    length-take-le a.n (drop a.from (codes_in octets marks)) (omega (arith, c.requires.0, length_from octets marks a.from a.self.now.same)) in
    rw c.header.ensures (
      omega (arith, size_bare a.v, p.room, c.put_items-strb.auto.out, c.write_nulls.auto.out),
      omega (arith, bit-small a.head.last),
      omega (arith, pow_mono few),
      omega (arith, c.put_items-strb.ensures.value, rw long at (strb-fits (items_from octets marks a.from a.n)), pow_mono few),
    )

pub returns : goal.returns
returns c =
    let a = c.args in
    let p = c.requires.1 in
    let octets = a.self.now.octets.now in
    let marks = a.self.now.marks.now in
    record_written a.v a.head a.out.now c.put_items-strb.new.out c.write_nulls.new.out c.write_header.new.out (codes_in octets marks) a.from a.n c.put_items-strb.result
    p.few (omega (arith, c.requires.0, length-held octets (mark_bits marks) (marks-same octets marks a.self.now.same))) p.room
    c.put_items-strb.ensures.value c.put_items-strb.ensures.out_after c.write_nulls.ensures (rw c.header.ensures at c.write_header.ensures)
