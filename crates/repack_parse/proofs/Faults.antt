-- A record of data lanes without user bits has no fault where the fields of its head are as they should be. Assumes nothing.
use Rattle.std.specs.Prelude.{None}
use mathlib.Core.Path.{◌≡◌, refl, ◌∙◌}
use mathlib.Core.Bool.{Bool, true, false, ◌||◌}
use mathlib.Core.List.{List}
use Prim.Native.Nat.{ℕ, zero, suc, ◌/◌}
use Rattle.refusal.specs.Checks.{first}
use Rattle.stream_spec.specs.Layout.{of_width, odd, lane_type, types_of, is_reserved, any_reserved, flags, pair_of, tkeep, tstrb}
use Rattle.stream_spec.specs.Checks.{HeadFits, transfer_flags, field_fault, transfer_faults}
use Rattle.stream_spec.proofs.Bare.{bare_field}
use Rattle.stream_spec.proofs.Fields.{fits_head}

-- where TKEEP and TSTRB are one mask, no lane is reserved
reserved-none : (w k : ℕ) → any_reserved (types_of w k k) ≡ false
reserved-none zero k = refl
reserved-none (suc w) k = go (reserved-none w (k / 2)) (odd k) refl
  where
    go : any_reserved (types_of w (k / 2) (k / 2)) ≡ false → (b : Bool) → odd k ≡ b
        → (is_reserved (lane_type (odd k) (odd k)) || any_reserved (types_of w (k / 2) (k / 2))) ≡ false
    go ih true e = rw e ih
    go ih false e = rw e ih

-- so a record of data lanes whose fields are as they should be has no fault
pub data_faultless : (w : ℕ) (rec : List ℕ) (k : ℕ) → HeadFits transfer_flags (of_width w) (flags rec) (pair_of rec).tdest (tkeep rec) (tstrb rec)
    → tkeep rec ≡ tstrb rec → first (transfer_faults (of_width w) k rec) ≡ None
data_faultless w rec k f e =
    let field : field_fault transfer_flags (of_width w) rec ≡ false =
    bare_field transfer_flags w rec ∙ fits_head transfer_flags (of_width w) (flags rec) (pair_of rec).tdest (tkeep rec) (tstrb rec) f in
    rw (field, e, reserved-none w (tstrb rec)) refl
