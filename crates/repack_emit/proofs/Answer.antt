-- What writing all stretches answers, with any number m of user bits to a byte: ROOM, or the number of records. Assumes nothing.
use mathlib.Core.Path.{◌≡◌, refl, ◌∙◌}
use mathlib.Core.List.{List}
use Prim.Native.Nat.{ℕ, ◌+◌, ◌*◌, ◌^◌, ◌≤◌, ◌<◌}
use native.Mathlib.Nat.{mul-le-mul_left}
use native.Mathlib.Omega.{arith}
use borrow.Author.Tests.{lt-ltb, le-ltb}
use lib.ListN.{length}
use Rattle.refusal.specs.declared.Refusal.TheVariants.{Room}
use Rattle.std.specs.Prelude.{Ok, Err}
use Rattle.stream_spec.specs.Packed.{pack_stretches}
use Rattle.stream_spec.specs.Layout.{size, size_most, shaped}
use Rattle.stream_spec.specs.Memory.{in_front}
use Rattle.stream_spec.proofs.Records.{length-octets}
use Rattle.repack_scratch.specs.declared.Entry.{Entry}
use Rattle.repack_scratch.specs.Codes.{stretch_room, stretches_of, total}
use Rattle.repack_emit.specs.Emit.{packed_from, count_of, Emitted}
use Rattle.repack_emit.proofs.Tables.{count-is, wide_stretches}

-- a record has at most 31 octets, so that the product fits
pub product_fits : (n z : ℕ) → z ≤ size_most → n ≤ 0x10000 * stretch_room → n * z < 2 ^ 64
product_fits n z h l = omega (arith, mul-le-mul_left n h)

module _ (m v : ℕ) (items : List ℕ) (table : List Entry) (out : List ℕ) (n z : ℕ) (held : 0 + total table ≤ length items) (counted : n ≡ count_of v table)
    (sized : z ≡ size (shaped v m)) where
  number : n ≡ length (pack_stretches v (stretches_of table items))
  number = counted ∙ count-is v table items (omega (arith, held))

  pub packed-long : length (packed_from m v table items) ≡ n * z
  packed-long =
      length-octets (shaped v m) (pack_stretches v (stretches_of table items)) (wide_stretches v (stretches_of table items))
      ∙ rw (← number, ← sized) refl

  pub emit_refused : length out < n * z → Emitted m v items table out out (Err Room)
  emit_refused h =
      let short : length out < length (packed_from m v table items) = rw packed-long h in
      record {
        answer = rw (lt-ltb (length out) (length (packed_from m v table items)) short) refl;
        memory = rw (lt-ltb (length out) (length (packed_from m v table items)) short) refl;
      }

  pub emit_written : (after : List ℕ) → n * z ≤ length out
      → after ≡ in_front (packed_from m v table items) out
      → Emitted m v items table out after (Ok n)
  emit_written after h e =
      let room : length (packed_from m v table items) ≤ length out = rw packed-long h in
      record {
        answer = rw (le-ltb (length out) (length (packed_from m v table items)) room, number) refl;
        memory = rw (le-ltb (length out) (length (packed_from m v table items)) room) e;
      }
