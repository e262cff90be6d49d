-- Counting the records that have TLAST, by what is left of the records. Assumes nothing.
use mathlib.Core.Path.{◌≡◌, ap}
use mathlib.Core.Bool.{Bool, true, false}
use mir.Val.{bool_byte}
use mathlib.Core.List.{List, ◌++◌}
use Prim.Native.Nat.{ℕ, ◌+◌, ◌%◌, ◌≤◌, ◌<◌}
use native.Mathlib.Omega.{arith}
use lib.ListN.{length, length-append}
use Rattle.stream_spec.specs.declared.Shape.{Shape}
use Rattle.stream_spec.specs.Layout.{bit_of, tlast, size}
use Rattle.stream_spec.proofs.Size.{size_pos}
use Rattle.stream_spec.proofs.Walk.{records_front, records_behind, no_records_short}
use Rattle.report_spec.specs.Report.{lasts, packet_count}

-- the records of xs before `rest` have n TLASTs
pub record Counting (s : Shape) (xs rest : List ℕ) (n : ℕ) : Type 0 where
  pub whole : length rest % size s ≡ 0
  pub few : n + length rest ≤ length xs
  pub same : n + packet_count s rest ≡ packet_count s xs

pub counting_start : (s : Shape) (xs rest : List ℕ) → length xs % size s ≡ 0 → rest ≡ xs → Counting s xs rest 0
counting_start s xs rest w e = rw e (record { whole = w; few = omega arith; same = omega arith })

module _ (s : Shape) (xs rest : List ℕ) (n : ℕ) (c : Counting s xs rest n) where
  -- the record in front
  module _ (r after : List ℕ) (cut : rest ≡ r ++ after) (long : length r ≡ size s) where
    room : 1 + n + length after ≤ length xs
    room = omega (arith, c.few, ap length cut, length-append r after, long, size_pos s)

    counted_next : (b : ℕ) → b ≡ bit_of (tlast r) → b ≤ 1 → Counting s xs after (n + b)
    counted_next b e small =
        record {
          whole = records_behind s rest r after cut long c.whole;
          few = omega (arith, room, small);
          same = omega (arith, c.same, ap lasts (records_front s rest r after cut long c.whole), e);
        }

    pub counted_flag : (b : Bool) → b ≡ tlast r → Counting s xs after (n + bool_byte b)
    counted_flag true e = counted_next 1 (ap bit_of e) (omega arith)
    counted_flag false e = counted_next 0 (ap bit_of e) (omega arith)

  pub counted : length rest < size s → n ≡ packet_count s xs
  counted h = omega (arith, c.same, ap lasts (no_records_short s rest h))
