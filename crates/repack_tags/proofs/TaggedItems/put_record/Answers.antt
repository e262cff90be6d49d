-- A record of items with user bits: items, nulls, user bits and header make it. Assumes nothing.
use mathlib.Core.Path.{◌≡◌, ap, ◌∙◌}
use mathlib.Core.List.{List}
use Prim.Native.Nat.{ℕ, ◌+◌, ◌≤◌}
use native.Mathlib.Omega.{arith}
use lib.Pow.{pow_mono}
use lib.ListN.{length, take, drop, length-drop}
use lib.Seq.{length-take-le}
use Rattle.stream_spec.specs.declared.Shape.{Shape}
use Rattle.stream_spec.specs.Layout.{shaped, user_octets}
use Rattle.stream_spec.specs.Walk.{Narrow}
use Rattle.stream_spec.proofs.Size.{size_is}
use Rattle.repack_tags.specs.declared.Tags.{Tags}
use Rattle.repack_plain.proofs.Lanes.{bit-small}
use Rattle.repack_tags.proofs.Lanes.{part_fits}
use Rattle.repack_tags.proofs.Putting.{strobes-small, record_written}
use Rattle.repack_tags.proofs.TaggedItems.put_record.Goals as goal

few : (items : List ℕ) (from n : ℕ) → from + n ≤ length items → length (take n (drop from items)) ≡ n
few items from n h = length-take-le n (drop from items) (omega (arith, length-drop from items))

narrow : (s : Shape) (v m : ℕ) → v ≤ 16 → m ≤ 4 → s ≡ shaped v m → Narrow s
narrow s v m h l e = rw e (record { width = h; user = l })

octets-of : (s : Shape) (k v m : ℕ) → s ≡ shaped v m → k ≡ user_octets s.width s.user → k ≡ user_octets v m
octets-of s k v m e f = f ∙ ap (λ (t : Shape). user_octets t.width t.user) e

pub put_items-tags-requires : goal.put_items-tags-requires
put_items-tags-requires c =
    let a = c.args in
    let p = c.requires.1 in
    let h = c.requires.0 in
    record {
      few = (omega (arith, p.few, p.high), h.0, omega (arith, size_is (shaped a.v a.self.now.user), p.few, p.room));
      fits = part_fits a.self.now.user a.from a.n a.self.now.items.now h.0 h.1;
    }

pub write_nulls-requires : goal.write_nulls-requires
write_nulls-requires c =
    (c.requires.1.few, omega (arith, size_is (shaped c.args.v c.args.self.now.user), c.requires.1.room, c.put_items-tags.auto.out))

pub write_user-requires : goal.write_user-requires
write_user-requires c =
    let a = c.args in
    omega (
      arith,
      size_is (shaped a.v a.self.now.user),
      octets-of c.shape_of.result c.user_octets.result a.v a.self.now.user c.shape_of.ensures c.user_octets.ensures.0,
      c.requires.1.room,
      c.put_items-tags.auto.out,
      c.write_nulls.auto.out,
    )

pub write_header-requires : goal.write_header-requires
write_header-requires c =
    let a = c.args in
    let p = c.requires.1 in
    let most : a.n ≤ 16 = omega (arith, p.few, p.high) in
    let codes = take a.n (drop a.from a.self.now.items.now) in
    rw c.header.ensures (
      omega (arith, size_is (shaped a.v a.self.now.user), p.room, c.put_items-tags.auto.out, c.write_nulls.auto.out, c.write_user.auto.out),
      omega (arith, bit-small a.head.last),
      omega (arith, pow_mono most),
      omega (arith, ap (λ (t : Tags). t.strb) c.put_items-tags.ensures.value, strobes-small codes (omega (arith, most, few a.self.now.items.now a.from a.n c.requires.0.0))),
    )

pub returns : goal.returns
returns c =
    let a = c.args in
    let p = c.requires.1 in
    let most : a.n ≤ 16 = omega (arith, p.few, p.high) in
    let k = c.user_octets in
    let shape = c.shape_of in
    record_written a.self.now.user a.v a.head a.out.now c.put_items-tags.new.out c.write_nulls.new.out c.write_user.new.out c.write_header.new.out (take a.n (drop a.from a.self.now.items.now))
    a.n k.result c.put_items-tags.result
    (few a.self.now.items.now a.from a.n c.requires.0.0) p.few p.room
    (octets-of shape.result k.result a.v a.self.now.user shape.ensures k.ensures.0)
    c.put_items-tags.ensures.value c.put_items-tags.ensures.out_after c.write_nulls.ensures c.write_user.ensures (rw c.header.ensures at c.write_header.ensures)
