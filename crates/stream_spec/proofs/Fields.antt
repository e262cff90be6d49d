-- The fields of a record: no field fault is just that all of them fit. Assumes nothing.
use mathlib.Core.Path.{◌≡◌, refl}
use mathlib.Core.Bool.{false, ◌||◌}
use mathlib.Core.List.{List}
use Prim.Native.Nat.{ℕ, ◌*◌, ◌^◌}
use borrow.Author.Tests.{leb-false, ltb-false, lt-leb, le-ltb}
use lib.Dec.{leb, ltb}
use Rattle.stream_spec.specs.declared.Shape.{Shape}
use Rattle.stream_spec.specs.Layout.{tdest_most, flags, pair_of, tkeep, tstrb, user_number}
use Rattle.stream_spec.specs.Checks.{head_fault, user_fault, field_fault, HeadFits, Fields}
use Rattle.stream_spec.proofs.Bools.{neither}

-- of the numbers that a record's head holds
module _ (used : ℕ) (s : Shape) (flags tdest keep strb : ℕ) where
  pub head-fits : head_fault used s flags tdest keep strb ≡ false → HeadFits used s flags tdest keep strb
  head-fits e =
      let flagsHigh = leb (2 ^ used) flags in
      let destHigh = ltb tdest_most tdest in
      let keepHigh = leb (2 ^ s.width) keep in
      let strbHigh = leb (2 ^ s.width) strb in
      let d = neither (flagsHigh || destHigh || keepHigh) strbHigh e in
      let c = neither (flagsHigh || destHigh) keepHigh d.0 in
      let b = neither flagsHigh destHigh c.0 in
      record {
        flags = leb-false (2 ^ used) flags b.0;
        tdest = ltb-false tdest_most tdest b.1;
        keep = leb-false (2 ^ s.width) keep c.1;
        strb = leb-false (2 ^ s.width) strb d.1;
      }

  pub fits_head : HeadFits used s flags tdest keep strb → head_fault used s flags tdest keep strb ≡ false
  fits_head f =
      rw (
        lt-leb (2 ^ used) flags f.flags,
        le-ltb tdest_most tdest f.tdest,
        lt-leb (2 ^ s.width) keep f.keep,
        lt-leb (2 ^ s.width) strb f.strb,
      ) refl

-- of a record
pub fields_of : (used : ℕ) (s : Shape) (r : List ℕ) → field_fault used s r ≡ false → Fields used s r
fields_of used s r e =
    let h = neither (head_fault used s (flags r) (pair_of r).tdest (tkeep r) (tstrb r)) (user_fault s r) e in
    record {
      head = head-fits used s (flags r) (pair_of r).tdest (tkeep r) (tstrb r) h.0;
      user = leb-false (2 ^ (s.width * s.user)) (user_number s r) h.1;
    }

pub of_fields : (used : ℕ) (s : Shape) (r : List ℕ) → Fields used s r → field_fault used s r ≡ false
of_fields used s r f =
    rw (
      fits_head used s (flags r) (pair_of r).tdest (tkeep r) (tstrb r) f.head,
      lt-leb (2 ^ (s.width * s.user)) (user_number s r) f.user,
    ) refl
