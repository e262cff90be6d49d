-- Arm's DataTransfer (source 004, A3.4.2), run beat by beat: what a supplier's engineer will compare with. It decides over
-- the formulas of A3.4.1; that our definitions give the same for every allowed burst is a law (proofs/Transfer).
-- 004 has lost the indentation. We read it as Arm prints it: both wrap boundaries belong to `if mode == WRAP`; the loop is
-- all from Lower_Byte_Lane to the end; the last `else` belongs to `if aligned`, and `aligned = TRUE` to that `else`. Were
-- `aligned = TRUE` done for FIXED too, B2's second beat would have lanes 2 to 5, which paper 01 calls wrong.
use Rattle.std.specs.Prelude.{Bool, true, cond, ℕ, zero, suc, ◌+◌, ◌-◌, ◌*◌, ◌/◌, leb, eqb}
use Rattle.burst_spec.specs.declared.Beat.{Beat}
use Rattle.burst_spec.specs.declared.Burst.{Burst}
use Rattle.burst_spec.specs.declared.Kind.{Kind}
use Rattle.burst_spec.specs.declared.Kind.TheVariants.{Fixed, Incr, Wrap, Reserved}
use Rattle.burst_spec.specs.Address.{beats, bytes}

-- the two variables that the loop changes: addr, and aligned
pub record Loop : Type 0 where
  pub addr : ℕ
  pub aligned : Bool

-- addr = Start_Address; aligned = (Aligned_Address == addr)
abbrev pub enter : ℕ → ℕ → Loop
enter s b = record { addr = s; aligned = eqb (s / b * b) s }

-- if addr >= Upper_Wrap_Boundary then addr = Lower_Wrap_Boundary
abbrev pub wrapped : ℕ → ℕ → ℕ → ℕ
wrapped lower upper a = cond (leb upper a) lower a

-- if aligned: addr = addr + Number_Bytes, wrapped if mode == WRAP; else addr = Aligned_Address + Number_Bytes, aligned = TRUE
abbrev pub increment : (ℕ → ℕ) → ℕ → ℕ → Loop → Loop
increment wrap s b l =
    record { addr = cond l.aligned (wrap (l.addr + b)) (s / b * b + b); aligned = true }

-- "Increment address if necessary": not if mode is FIXED. (`assert Mode IN {FIXED, WRAP, INCR}`: the reserved kind's line says nothing.)
unfoldable pub advance : Kind → ℕ → ℕ → ℕ → Loop → Loop
advance Fixed s b n l = l
advance Incr s b n l = increment (λ a. a) s b l
advance Wrap s b n l =
    increment (wrapped (s / (b * n) * (b * n)) (s / (b * n) * (b * n) + b * n)) s b l
advance Reserved s b n l = l

-- the loop's variables as beat k begins, counted from 0
unfoldable pub loop_at : Kind → ℕ → ℕ → ℕ → ℕ → Loop
loop_at m s b n zero = enter s b
loop_at m s b n (suc k) = advance m s b n (loop_at m s b n k)

-- Lower_Byte_Lane = addr - (INT(addr/Data_Bus_Bytes)) * Data_Bus_Bytes
abbrev pub low_byte : ℕ → Loop → ℕ
low_byte bus l = l.addr - l.addr / bus * bus

-- Upper_Byte_Lane, if aligned: Lower_Byte_Lane + Number_Bytes - 1; else: Aligned_Address + Number_Bytes - 1
-- - (INT(addr/Data_Bus_Bytes)) * Data_Bus_Bytes
abbrev pub high_byte : ℕ → ℕ → ℕ → Loop → ℕ
high_byte s b bus l =
    cond l.aligned (low_byte bus l + b - 1) (s / b * b + b - 1 - l.addr / bus * bus)

-- what dread and dwrite are given at beat k
abbrev pub transfer_at : Burst → Loop → Beat
transfer_at x l =
    record { address = l.addr; lower = low_byte x.bus l; upper = high_byte x.start (bytes x) x.bus l }

abbrev pub transfer : Burst → ℕ → Beat
transfer x k = transfer_at x (loop_at x.kind x.start (bytes x) (beats x) k)
