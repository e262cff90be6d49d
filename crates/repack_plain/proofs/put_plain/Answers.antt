-- `repack_plain::put_plain` meets its contract: the header's word and the lanes' groups make the record. Assumes nothing.
use mathlib.Core.Path.{refl}
use native.Mathlib.Omega.{arith}
use Rattle.stream_spec.proofs.Size.{size_bare}
use Rattle.repack_plain.proofs.Memory.{plain-written}
use Rattle.repack_plain.proofs.put_plain.Goals as goal

pub write_data_header-requires : goal.write_data_header-requires
write_data_header-requires c =
    let p = c.requires.1 in
    (omega (arith, size_bare c.args.v, p.room, p.low), c.args.head.fits, omega (arith, p.few, p.high))

pub place-requires : goal.place-requires
place-requires c =
    let p = c.requires.1 in
    (p.low, p.high, p.few, c.requires.0, omega (arith, size_bare c.args.v, p.room, c.write_data_header.auto.out))

pub returns : goal.returns
returns c =
    let a = c.args in
    let p = c.requires.1 in
    plain-written a.v a.head a.out.now c.write_data_header.new.out c.place.new.to a.octets.now a.n _ _
    p.few p.low c.requires.0 refl refl (λ i. omega (arith, c.type_inv.octets i)) c.write_data_header.ensures c.place.ensures
