-- A record's size: everything that a proof or code needs to know of it. No other law unfolds `size` (worked cases, tables
-- and witnesses compute with it), so that a record that grows is proved again here. Assumes nothing.
use mathlib.Core.Path.{◌≡◌, refl, ap, ◌∙◌}
use mathlib.Core.List.{List, map}
use Prim.Native.Nat.{ℕ, ◌+◌, ◌-◌, ◌*◌, ◌≤◌, ◌<◌}
use native.Mathlib.Nat.{mul-zero, mul-le-mul}
use native.Mathlib.Omega.{arith}
use lib.ListN.{length, take, drop, length-map, length-drop, length-append}
use lib.Seq.{length-take-le, take-take, take-add, drop_at}
use Rattle.words.specs.Words.{octets_of_word}
use Rattle.words.proofs.Words as words
use Rattle.stream_spec.specs.declared.Shape.{Shape}
use Rattle.stream_spec.specs.Items.{Transfer}
use Rattle.stream_spec.specs.Layout.{width_most, user_most, head_octets, user_octets, size, of_width, size_least, size_most, data_octets, lane_octet, Kept, users_of, octets_of}

-- the equation: a header, an octet for each lane, the user bits. For what computes a size, or writes a record's last octet.
pub size_is : (s : Shape) → size s ≡ head_octets + s.width + user_octets s.width s.user
unfolding size
size_is s = refl

-- without user bits: "A record has 7 + w octets."
pub no_users : (w : ℕ) → user_octets w 0 ≡ 0
no_users w = omega (arith, mul-zero w)

pub size_bare : (w : ℕ) → size (of_width w) ≡ head_octets + w
size_bare w = omega (arith, size_is (of_width w), no_users w)

pub size_pos : (s : Shape) → 0 < size s
size_pos s = omega (arith, size_is s)

-- the header and the lanes lie in the record
pub size_holds : (s : Shape) → head_octets + s.width ≤ size s
size_holds s = omega (arith, size_is s)

pub size-least : (s : Shape) → 1 ≤ s.width → size_least ≤ size s
size-least s h = omega (arith, size_is s)

-- no record has more than 64 user bits
pub users_most : (s : Shape) → s.width ≤ width_most → s.user ≤ user_most → s.width * s.user ≤ width_most * user_most
users_most s h u = mul-le-mul h u

pub size-most : (s : Shape) → s.width ≤ width_most → s.user ≤ user_most → size s ≤ size_most
size-most s h u = omega (arith, size_is s, users_most s h u)

-- the octets of a transfer of the shape's width are a record
pub length-octets_of : (s : Shape) (t : Transfer Kept) → length t.lanes ≡ s.width → length (octets_of s.user t) ≡ size s
length-octets_of s t h =
    let m = s.user in
    let us = octets_of_word (user_octets (length t.lanes) m) (users_of m t.lanes) in
    let long : length us ≡ user_octets s.width m = rw (words.length-octets (user_octets (length t.lanes) m) (users_of m t.lanes), h) refl in
    omega (arith, size_is s, length-map t.lanes lane_octet, length-append (map lane_octet t.lanes) us, long)

-- ---- the data octets lie in the record

-- a record has all of them
pub data_long : (s : Shape) (xs : List ℕ) → size s ≤ length xs → length (data_octets s xs) ≡ s.width
data_long s xs h =
    length-take-le s.width (drop head_octets xs) (omega (arith, size_holds s, length-drop head_octets xs))

-- and they are found from where the record starts as well as in the record alone
pub data_inside : (s : Shape) (xs : List ℕ) → size s ≤ length xs → data_octets s (take (size s) xs) ≡ data_octets s xs
data_inside s xs h =
    let split : size s ≡ head_octets + (size s - head_octets) = omega (arith, size_holds s) in
    let head : length (take head_octets xs) ≡ head_octets = length-take-le head_octets xs (omega (arith, size_holds s)) in
    let rest : drop head_octets (take (size s) xs) ≡ take (size s - head_octets) (drop head_octets xs) =
    ap (λ (n : ℕ). drop head_octets (take n xs)) split
    ∙ ap (drop head_octets) (take-add head_octets (size s - head_octets) xs)
    ∙ drop_at (take head_octets xs) (take (size s - head_octets) (drop head_octets xs)) head_octets head in
    ap (take s.width) rest ∙ take-take s.width (size s - head_octets) (drop head_octets xs) (omega (arith, size_holds s))
