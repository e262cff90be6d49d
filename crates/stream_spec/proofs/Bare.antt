-- Records without user bits: size, faults and octets are paper 01's formulas, written out. So with m = 0 all else in 01 stays octet for
-- octet, and code for such records may know them by their width. Assumes nothing.
use Rattle.std.specs.Prelude.{Option}
use mathlib.Core.Path.{◌≡◌, refl, ap, ◌∙◌}
use mathlib.Core.Bool.{false, or-false}
use mathlib.Core.List.{List, [], ◌∷◌, ◌++◌, map, append-nil}
use Prim.Native.Nat.{ℕ, ◌+◌, ◌*◌, ◌/◌, ◌%◌, ◌^◌}
use native.Mathlib.Nat.{mul-zero}
use native.Mathlib.Omega.{arith}
use lib.ListN.{length, get_or, take, drop}
use borrow.Author.Tests.{lt-leb}
use Rattle.words.specs.Words.{word_at, octets_of_word}
use Rattle.stream_spec.specs.Items.{Transfer}
use Rattle.stream_spec.specs.Layout.{bit, head_octets, flags, pair_of, tkeep, tstrb, user_number, of_width, LaneType, lanes_of, Kept, lane_octet, users_of, lane_octets}
use Rattle.stream_spec.specs.Checks.{head_fault, user_fault, field_fault}
use Rattle.stream_spec.specs.Promises.{bare_types, bare_lanes, WithoutUserBits}
use Rattle.stream_spec.proofs.Size.{no_users, size_bare}

-- ---- no octet is read for them, and no padding is there

bare_number : (w : ℕ) (r : List ℕ) → user_number (of_width w) r ≡ 0
bare_number w r = ap (λ (k : ℕ). word_at k r (head_octets + w)) (no_users w)

pub bare_user : (w : ℕ) (r : List ℕ) → user_fault (of_width w) r ≡ false
bare_user w r = lt-leb (2 ^ (w * 0)) (user_number (of_width w) r) (rw (bare_number w r, mul-zero w) (omega arith))

pub bare_field : (used w : ℕ) (r : List ℕ) → field_fault used (of_width w) r ≡ head_fault used (of_width w) (flags r) (pair_of r).tdest (tkeep r) (tstrb r)
bare_field used w r =
    rw (bare_user w r) (or-false (head_fault used (of_width w) (flags r) (pair_of r).tdest (tkeep r) (tstrb r)))

-- ---- lanes

pub bare-lanes : (ts : List LaneType) (u : ℕ) (ds : List ℕ) → lanes_of 0 ts u ds ≡ bare_lanes ts ds
bare-lanes [] u ds = refl
bare-lanes (t ∷ ts) u [] =
    let None : u % 2 ^ 0 ≡ 0 = omega arith in
    rw (None, bare-lanes ts (u / 2 ^ 0) []) refl
bare-lanes (t ∷ ts) u (d ∷ ds) =
    let None : u % 2 ^ 0 ≡ 0 = omega arith in
    rw (None, bare-lanes ts (u / 2 ^ 0) ds) refl

pub bare_octets : (ls : List (Option Kept)) → lane_octets 0 ls ≡ map lane_octet ls
bare_octets ls =
    ap (λ (k : ℕ). map lane_octet ls ++ octets_of_word k (users_of 0 ls)) (no_users (length ls)) ∙ append-nil (map lane_octet ls)

-- a transfer by its lanes, with 01's octets for the rest
abbrev transfer_with : List ℕ → List (Option Kept) → Transfer Kept
transfer_with r ls = record { pair = record { tid = get_or r 1 0; tdest = get_or r 2 0 }; lanes = ls; last = bit 0 (get_or r 0 0) }

pub without_user-bits : WithoutUserBits
without_user-bits w =
    record {
      size = size_bare w;
      field = λ used r. bare_field used w r;
      reserved = λ r. refl;
      reads = λ r. ap (transfer_with r) (bare-lanes (bare_types w r) (user_number (of_width w) r) (take w (drop 7 r)));
      writes = λ t. rw (bare_octets t.lanes) refl;
    }
