-- User bits (T-06): all lanes' bits as one number, which lies behind the data octets; a lane's bits in that number; and that lanes
-- come back from their octets. Assumes nothing.
use Rattle.std.specs.Prelude.{Option, None, Some}
use mathlib.Core.Path.{◌≡◌, refl, sym, ap, ◌∙◌}
use mathlib.Core.Bool.{Bool, true, false}
use mathlib.Core.List.{List, [], ◌∷◌, map}
use Prim.Native.Nat.{ℕ, suc, ◌+◌, ◌-◌, ◌*◌, ◌/◌, ◌%◌, ◌^◌, ◌≤◌, ◌<◌}
use native.Mathlib.Nat.{add-zero, zero-mul, suc-mul, mul_comm, mul-add, mul-le-mul_left, div-eq_of_lt, mod-eq_of_lt, zero-add, add-mul-div_left, add-mul-mod_self_left, mod-lt}
use native.Mathlib.Omega.{arith}
use borrow.Author.Tests.{leb-true, leb-false, le-leb, lt-leb}
use lib.Dec.{leb}
use lib.Pow.{pow-add, pow_pos, pow_mono}
use lib.ListN.{length, get_or, drop, length-map}
use lib.Seq.{drop-drop, drop_at}
use Rattle.words.specs.Words.{word_at, octets_of_word}
use Rattle.words.proofs.Words.{word-drop, word_back, word_fits, word_split}
use Rattle.stream_spec.specs.declared.Shape.{Shape}
use Rattle.stream_spec.specs.Items.{Pair, Transfer}
use Rattle.stream_spec.specs.Layout.{mask_of, head_octets, user_octets, user_number, size, data_octets, lane_types, types_of, lane_type, LaneType, data_lane, position_lane, null_lane, reserved_lane, lane_of, lanes_of, Kept, octet, position, keep_bit, strb_bit, lane_octet, lane_user, users_of, transfer_of, octets_of}
use Rattle.stream_spec.specs.Checks.{user_fault}
use Rattle.stream_spec.proofs.Size.{size_is}
use Rattle.stream_spec.proofs.Bits.{odd_mask, half_mask}
use Rattle.stream_spec.proofs.Each.{EachLane, EachTransfer}

-- ---- where the number stands

-- it is the one at the front of what follows the data octets
pub users_behind : (s : Shape) (r : List ℕ) → user_number s r ≡ word_at (user_octets s.width s.user) (drop s.width (drop head_octets r)) 0
users_behind s r =
    let k = user_octets s.width s.user in
    let at = head_octets + s.width in
    ap (word_at k r) (sym (add-zero at)) ∙ word-drop k at r 0 ∙ ap (λ (l : List ℕ). word_at k l 0) (sym (drop-drop s.width head_octets r))

-- octet 0 is no part of it
pub users_body : (s : Shape) (x y : ℕ) (r : List ℕ) → user_number s (x ∷ r) ≡ user_number s (y ∷ r)
users_body s x y r = users_behind s (x ∷ r) ∙ sym (users_behind s (y ∷ r))

-- ---- bits that fit: a lane has m of them

abbrev pub BitsFit : ℕ → Kept → Type 0
BitsFit m (octet d u) = u < 2 ^ m
BitsFit m (position u) = u < 2 ^ m

-- of pairs nothing is asked
abbrev pub AnyPair : Pair → Type 0
AnyPair p = Unit {0}

abbrev pub LanesTagged : ℕ → List (Option Kept) → Type 0
LanesTagged m ls = EachLane AnyPair (BitsFit m) ls

abbrev pub Tagged : ℕ → List (Transfer Kept) → Type 0
Tagged m ts = EachTransfer AnyPair (BitsFit m) ts

-- what is read from octets fits
lane-tagged : (m : ℕ) (t : LaneType) (d u : ℕ) (ls : List (Option Kept)) → u < 2 ^ m → LanesTagged m ls → LanesTagged m (lane_of t d u ∷ ls)
lane-tagged m data_lane d u ls h k = (h, k)
lane-tagged m position_lane d u ls h k = (h, k)
lane-tagged m null_lane d u ls h k = k
lane-tagged m reserved_lane d u ls h k = k

pub lanes-tagged : (m : ℕ) (ts : List LaneType) (u : ℕ) (ds : List ℕ) → LanesTagged m (lanes_of m ts u ds)
lanes-tagged m [] u ds = tt
lanes-tagged m (t ∷ ts) u [] =
    lane-tagged m t 0 (u % 2 ^ m) (lanes_of m ts (u / 2 ^ m) []) (mod-lt u (pow_pos m)) (lanes-tagged m ts (u / 2 ^ m) [])
lanes-tagged m (t ∷ ts) u (d ∷ ds) =
    lane-tagged m t d (u % 2 ^ m) (lanes_of m ts (u / 2 ^ m) ds) (mod-lt u (pow_pos m)) (lanes-tagged m ts (u / 2 ^ m) ds)

pub transfers-tagged : (s : Shape) (rs : List (List ℕ)) → Tagged s.user (map (transfer_of s) rs)
transfers-tagged s [] = tt
transfers-tagged s (r ∷ rs) =
    (tt, lanes-tagged s.user (lane_types s r) (user_number s r) (data_octets s r), transfers-tagged s rs)

-- ---- lanes whose bits fit, as one number

-- lane 0's bits, and those of the others
pub lane_first : (m : ℕ) (l : Option Kept) (ls : List (Option Kept)) → LanesTagged m (l ∷ ls) → (lane_user l < 2 ^ m) × LanesTagged m ls
lane_first m None ls h = (pow_pos m, h)
lane_first m (Some (octet d u)) ls h = (h.0, h.1)
lane_first m (Some (position u)) ls h = (h.0, h.1)

pub users_low : (m a b : ℕ) → a < 2 ^ m → (a + 2 ^ m * b) % 2 ^ m ≡ a
users_low m a b h = add-mul-mod_self_left a (2 ^ m) b ∙ mod-eq_of_lt h

pub users_high : (m a b : ℕ) → a < 2 ^ m → (a + 2 ^ m * b) / 2 ^ m ≡ b
users_high m a b h = add-mul-div_left a b (pow_pos m) ∙ ap (λ (n : ℕ). n + b) (div-eq_of_lt h) ∙ zero-add b

-- so many lanes have so many bits, and their octets hold them
pub users_fit : (m : ℕ) (ls : List (Option Kept)) → LanesTagged m ls → users_of m ls < 2 ^ (length ls * m)
users_fit m [] h = rw (zero-mul m) (omega arith)
users_fit m (l ∷ ls) h =
    let k = lane_first m l ls h in
    let more : 2 ^ (suc (length ls) * m) ≡ 2 ^ (length ls * m) * 2 ^ m = rw (suc-mul (length ls) m) (pow-add 2 (length ls * m) m) in
    let step = mul-le-mul_left (2 ^ m) (users_fit m ls k.1) in
    omega (arith, k.0, step, more, mul-add (2 ^ m) (users_of m ls) 1, mul_comm (2 ^ m) (2 ^ (length ls * m)))

pub users_held : (w m : ℕ) → 2 ^ (w * m) ≤ 2 ^ (8 * user_octets w m)
users_held w m = pow_mono (omega arith)

-- a lane comes back from its two bits, its octet and its user bits
lane_back : (l : Option Kept) → lane_of (lane_type (keep_bit l) (strb_bit l)) (lane_octet l) (lane_user l) ≡ l
lane_back None = refl
lane_back (Some (octet d u)) = refl
lane_back (Some (position u)) = refl

pub lanes_back : (m : ℕ) (ls : List (Option Kept)) → LanesTagged m ls
    → lanes_of m (types_of (length ls) (mask_of (map keep_bit ls)) (mask_of (map strb_bit ls))) (users_of m ls) (map lane_octet ls) ≡ ls
lanes_back m [] h = refl
lanes_back m (l ∷ ls) h =
    let k = lane_first m l ls h in
    rw (odd_mask (keep_bit l) (mask_of (map keep_bit ls)), odd_mask (strb_bit l) (mask_of (map strb_bit ls)))
    (rw (half_mask (keep_bit l) (mask_of (map keep_bit ls)), half_mask (strb_bit l) (mask_of (map strb_bit ls)))
    (rw (users_low m (lane_user l) (users_of m ls) k.0, users_high m (lane_user l) (users_of m ls) k.0)
    (rw (lane_back l, lanes_back m ls k.1) refl)))

-- what a transfer's octets hold behind its data
pub users_back : (s : Shape) (t : Transfer Kept) → length t.lanes ≡ s.width → LanesTagged s.user t.lanes
    → user_number s (octets_of s.user t) ≡ users_of s.user t.lanes
users_back s t h k =
    let m = s.user in
    let ls = t.lanes in
    let us = octets_of_word (user_octets (length ls) m) (users_of m ls) in
    users_behind s (octets_of m t)
    ∙ ap (λ (l : List ℕ). word_at (user_octets s.width m) l 0) (drop_at (map lane_octet ls) us s.width (length-map ls lane_octet ∙ h))
    ∙ ap (λ (n : ℕ). word_at (user_octets n m) us 0) (sym h)
    ∙ word_back (user_octets (length ls) m) (users_of m ls) (omega (arith, users_fit m ls k, users_held (length ls) m))

-- ---- padding: it is told by the last octet of a record, where lanes and octets do not end together

module _ (s : Shape) (r : List ℕ) (o : (i : ℕ) → get_or r i 0 < 256) where
  abbrev bits : ℕ
  bits = s.width * s.user

  pub padding_none : bits % 8 ≡ 0 → user_fault s r ≡ false
  padding_none e =
      let all : 8 * user_octets s.width s.user ≡ bits = omega arith in
      let limit : 2 ^ (8 * user_octets s.width s.user) ≡ 2 ^ bits = ap (λ (n : ℕ). 2 ^ n) all in
      lt-leb (2 ^ bits) (user_number s r)
      (omega (arith, limit, word_fits (user_octets s.width s.user) r (head_octets + s.width) o))

  -- the octets before the last one, and the last one
  last-octet : 0 < bits % 8
      → user_number s r
      ≡ word_at (bits / 8) r (head_octets + s.width) + 2 ^ (8 * (bits / 8)) * get_or r (size s - 1) 0
  last-octet h =
      let all : user_octets s.width s.user ≡ bits / 8 + 1 = omega arith in
      let at : head_octets + s.width + bits / 8 ≡ size s - 1 = omega (arith, size_is s) in
      ap (λ (k : ℕ). word_at k r (head_octets + s.width)) all
      ∙ word_split (bits / 8) 1 r (head_octets + s.width)
      ∙ ap (λ (x : ℕ). word_at (bits / 8) r (head_octets + s.width) + 2 ^ (8 * (bits / 8)) * x)
      (add-zero (get_or r (head_octets + s.width + bits / 8) 0) ∙ ap (λ (i : ℕ). get_or r i 0) at)

  pub padding_told : 0 < bits % 8 → user_fault s r ≡ leb (2 ^ (bits % 8)) (get_or r (size s - 1) 0)
  padding_told h = go (leb (2 ^ (bits % 8)) (get_or r (size s - 1) 0)) refl
    where
      last : ℕ
      last = get_or r (size s - 1) 0

      place : ℕ
      place = 2 ^ (8 * (bits / 8))

      limit : 2 ^ bits ≡ place * 2 ^ (bits % 8)
      limit = let parts : bits ≡ 8 * (bits / 8) + bits % 8 = omega arith in ap (λ (n : ℕ). 2 ^ n) parts ∙ pow-add 2 (8 * (bits / 8)) (bits % 8)

      go : (b : Bool) → leb (2 ^ (bits % 8)) last ≡ b → user_fault s r ≡ b
      go true e =
          let up = mul-le-mul_left place (leb-true (2 ^ (bits % 8)) last e) in
          le-leb (2 ^ bits) (user_number s r) (omega (arith, limit, last-octet h, up))
      go false e =
          let up = mul-le-mul_left place (leb-false (2 ^ (bits % 8)) last e) in
          lt-leb (2 ^ bits) (user_number s r)
          (omega (arith, limit, last-octet h, up, mul-add place last 1, word_fits (bits / 8) r (head_octets + s.width) o))
