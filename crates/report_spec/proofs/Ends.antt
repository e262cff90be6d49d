-- Packet ends: a stream's records with TLAST are the end items it carries, so two streams with the same items have as many;
-- and how many a stream has that was filled in.
-- Assumes nothing.
use mathlib.Core.Path.{◌≡◌, refl, sym, ap, ◌∙◌}
use mathlib.Core.Bool.{Bool, true, false, cond}
use mathlib.Core.List.{List, [], ◌∷◌, ◌++◌, map}
use Prim.Native.Nat.{ℕ, suc, ◌+◌, ◌*◌}
use native.Mathlib.Nat.{mul-zero, mul-suc}
use native.Mathlib.Omega.{arith}
use lib.ListN.{length}
use Rattle.stream_spec.specs.declared.Shape.{Shape}
use Rattle.stream_spec.specs.Items.{Pair, Transfer, Item, byte, end, kept, transfer_items, items}
use Rattle.stream_spec.specs.Layout.{bit_of, Kept, records, transfer_of, stream_items}
use Rattle.stream_spec.specs.Handshake.{as_filled}
use Rattle.stream_spec.proofs.Fill.{filled-last}
use Rattle.report_spec.specs.Report.{lasts, packet_count}

-- of records that are filled in at a level, all have TLAST or none
pub lasts-filled : (level : Bool) (cs : List (List ℕ)) → lasts (map (as_filled level) cs) ≡ bit_of level * length cs
lasts-filled level [] = sym (mul-zero (bit_of level))
lasts-filled level (c ∷ cs) =
    omega (
      arith,
      ap bit_of (filled-last level c),
      lasts-filled level cs,
      mul-suc (bit_of level) (length cs),
    )

abbrev ends : List (Item Kept) → ℕ
ends [] = 0
ends (byte p a ∷ is) = ends is
ends (end p ∷ is) = suc (ends is)

ends-append : (is js : List (Item Kept)) → ends (is ++ js) ≡ ends is + ends js
ends-append [] js = omega arith
ends-append (byte p a ∷ is) js = ends-append is js
ends-append (end p ∷ is) js = omega (arith, ends-append is js)

ends-bytes : (p : Pair) (bytes : List Kept) → ends (map (byte p) bytes) ≡ 0
ends-bytes p [] = refl
ends-bytes p (a ∷ rest) = ends-bytes p rest

ends_last : (p : Pair) (b : Bool) → ends (cond b (end p ∷ []) []) ≡ bit_of b
ends_last p true = refl
ends_last p false = refl

ends-transfer : (t : Transfer Kept) → ends (transfer_items t) ≡ bit_of t.last
ends-transfer t =
    omega (
      arith,
      ends-append (map (byte t.pair) (kept t.lanes)) (cond t.last (end t.pair ∷ []) []),
      ends-bytes t.pair (kept t.lanes),
      ends_last t.pair t.last,
    )

lasts-ends : (s : Shape) (rs : List (List ℕ)) → lasts rs ≡ ends (items (map (transfer_of s) rs))
lasts-ends s [] = refl
lasts-ends s (r ∷ rs) =
    omega (
      arith,
      ends-append (transfer_items (transfer_of s r)) (items (map (transfer_of s) rs)),
      ends-transfer (transfer_of s r),
      lasts-ends s rs,
    )

pub same_ends : (s t : Shape) (xs ys : List ℕ) → stream_items s xs ≡ stream_items t ys → packet_count s xs ≡ packet_count t ys
same_ends s t xs ys e = lasts-ends s (records s xs) ∙ ap ends e ∙ sym (lasts-ends t (records t ys))
