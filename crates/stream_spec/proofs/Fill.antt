-- Fill-in of TLAST: it keeps a record's length and all other wires, so the same cycles are transfers; what is then harvested;
-- and how records that all have TLAST are packed. Assumes nothing.
use Rattle.std.specs.Prelude.{Option, None, Some, Ok, slice_get}
use mathlib.Core.Path.{◌≡◌, refl, sym, ap, ap₂, ◌∙◌, subst}
use mathlib.Core.Bool.{Bool, true, false}
use mathlib.Core.List.{List, [], ◌∷◌, ◌++◌, map, append-nil}
use Prim.Native.Nat.{ℕ, suc, ◌+◌, ◌*◌, ◌/◌, ◌%◌, ◌≤◌, ◌<◌}
use native.Mathlib.Omega.{arith}
use lib.ListN.{length, length-map, drop_of_length-le}
use Rattle.refusal.specs.declared.Refusal.{Refusal}
use Rattle.stream_spec.specs.declared.Shape.{Shape}
use Rattle.stream_spec.specs.declared.Verdict.TheVariants.{Clean}
use Rattle.stream_spec.specs.Items.{Pair, Transfer, Item, byte, end, kept, transfer_items, items}
use Rattle.stream_spec.specs.Packed.{pack, apart, parted}
use Rattle.stream_spec.specs.Layout.{bit, odd, bit_of, size, tlast, last_set, Kept, records, record_count, joined, transfer_of, octets, packed}
use Rattle.stream_spec.specs.Handshake.{high, transferred, handshakes, as_transfer, with_last, filled_in, as_filled}
use Rattle.stream_spec.specs.Legal.{Octets}
use Rattle.stream_spec.specs.Answers.{lent_after, judge_answer, fill_refusal, fill_after}
use Rattle.stream_spec.specs.Promises.{FilledHarvest, AllLast, EachItsPacket}
use Rattle.stream_spec.proofs.Bits.{bit-zero, bit-suc, bit-one, odd_mask, bit_back}
use Rattle.stream_spec.proofs.Size.{size_pos}
use Rattle.stream_spec.proofs.Cut.{last-append}
use Rattle.stream_spec.proofs.Pack.{pack-parted}
use Rattle.stream_spec.proofs.Passed.{checks-passed}
use Rattle.stream_spec.proofs.Legal.{octets-append as octets-join, EachOctets, pieces-octets}
use Rattle.stream_spec.proofs.Harvest.{kept_sized}
use Rattle.stream_spec.proofs.Clean.{clean-taken}
use Rattle.stream_spec.proofs.Records.{Sized, length-joined, records-joined, record_alone, records_sized, length-pieces, whole-count, octets-append}

-- ---- one record

pub length_last : (level : Bool) (r : List ℕ) → length (with_last level r) ≡ length r
length_last level [] = refl
length_last level (f ∷ r) = refl

-- TLAST is the level, and every other flag is as it was
pub set-zero : (level : Bool) (f : ℕ) → bit 0 (last_set level f) ≡ level
set-zero level f =
    let same : last_set level f ≡ bit_of level + 2 * (f / 2) = omega arith in
    bit-zero (last_set level f) ∙ ap odd same ∙ odd_mask level (f / 2)

pub set-above : (level : Bool) (x f : ℕ) → bit (suc x) (last_set level f) ≡ bit (suc x) f
set-above level x f =
    let half : last_set level f / 2 ≡ f / 2 = omega (arith, bit-one level) in
    bit-suc x (last_set level f) ∙ ap (bit x) half ∙ sym (bit-suc x f)

-- so a cycle is a transfer filled in exactly where it is one as sampled
filled-transferred : (level : Bool) (c : List ℕ) → transferred (with_last level c) ≡ transferred c
filled-transferred level [] = refl
filled-transferred level (f ∷ r) = rw (set-above level 2 f, set-above level 0 f, set-above level 1 f) refl

filled-kept : (level : Bool) (n : ℕ) (c : List ℕ) → 0 < n → length c ≡ n → as_transfer (with_last level c) ≡ as_filled level c
filled-kept level n [] h e = absurd (omega arith)
filled-kept level n (f ∷ r) h e = rw (set-zero level f) refl

-- ---- all records of a take

sized_last : (level : Bool) (n : ℕ) (rs : List (List ℕ)) → Sized n rs → Sized n (map (with_last level) rs)
sized_last level n [] h = tt
sized_last level n (r ∷ rs) h = (length_last level r ∙ h.0, sized_last level n rs h.1)

-- the records of a filled take
pub filled-records : (level : Bool) (s : Shape) (xs : List ℕ) → records s (filled_in level s xs) ≡ map (with_last level) (records s xs)
filled-records level s xs = records-joined s (map (with_last level) (records s xs)) (sized_last level (size s) (records s xs) (records_sized s xs))

-- a filled take is as long as the take
pub filled-long : (level : Bool) (s : Shape) (xs : List ℕ) → length xs % size s ≡ 0 → length (filled_in level s xs) ≡ length xs
filled-long level s xs whole =
    length-joined (size s) (map (with_last level) (records s xs)) (sized_last level (size s) (records s xs) (records_sized s xs))
    ∙ ap (λ (n : ℕ). n * size s) (length-map (records s xs) (with_last level) ∙ length-pieces (size s) (record_count s xs) xs)
    ∙ sym (whole-count s xs whole)

pub filled-handshakes : (level : Bool) (n : ℕ) (cs : List (List ℕ)) → 0 < n → Sized n cs
    → map as_transfer (handshakes (map (with_last level) cs)) ≡ map (as_filled level) (handshakes cs)
filled-handshakes level n [] h z = refl
filled-handshakes level n (c ∷ cs) h z = go (transferred c) refl (filled-handshakes level n cs h z.1)
  where
    go : (b : Bool) → transferred c ≡ b → map as_transfer (handshakes (map (with_last level) cs)) ≡ map (as_filled level) (handshakes cs)
        → map as_transfer (handshakes (map (with_last level) (c ∷ cs))) ≡ map (as_filled level) (handshakes (c ∷ cs))
    go true e rest =
        rw (filled-transferred level c, e) (ap₂ {C = List (List ℕ)} (λ r rs. r ∷ rs) (filled-kept level n c h z.0) rest)
    go false e rest = rw (filled-transferred level c, e) rest

pub filled-harvest : FilledHarvest
filled-harvest level s xs =
    ap (λ (rs : List (List ℕ)). joined (map as_transfer (handshakes rs))) (filled-records level s xs)
    ∙ ap joined (filled-handshakes level (size s) (records s xs) (size_pos s) (records_sized s xs))

-- refused, the lent take is as it was; else it is the filled one
pub refused-kept : (level : Bool) (s : Shape) (xs : List ℕ) (r : Refusal) → fill_refusal s xs ≡ Some r → fill_after level s xs ≡ xs
unfolding fill_after
refused-kept level s xs r e = ap (λ (o : Option Refusal). lent_after o (filled_in level s xs) xs) e

pub taken-filled : (level : Bool) (s : Shape) (xs : List ℕ) → fill_refusal s xs ≡ None → fill_after level s xs ≡ filled_in level s xs
unfolding fill_after
taken-filled level s xs e =
    let all : length xs ≤ length (filled_in level s xs) = omega (arith, filled-long level s xs (checks-passed s xs e).whole) in
    rw e (ap (λ (ys : List ℕ). filled_in level s xs ++ ys) (drop_of_length-le xs all) ∙ append-nil (filled_in level s xs))

-- a take that is judged clean after fill-in was filled in
pub clean-filled : (level : Bool) (s : Shape) (xs : List ℕ) (n : ℕ) → judge_answer s (fill_after level s xs) ≡ Ok (Clean n) → fill_after level s xs ≡ filled_in level s xs
clean-filled level s xs n clean = go (fill_refusal s xs) refl
  where
    go : (o : Option Refusal) → fill_refusal s xs ≡ o → fill_after level s xs ≡ filled_in level s xs
    go (Some r) e =
        let taken : Some r ≡ None = sym e ∙ clean-taken s xs n (sym (ap (judge_answer s) (refused-kept level s xs r e)) ∙ clean) in
        let z : ◌≡◌ {A = ℕ} 0 1 = cc in absurd (omega arith)
    go None e = taken-filled level s xs e

-- ---- octets stay octets

last-octets : (level : Bool) (r : List ℕ) → Octets r → Octets (with_last level r)
last-octets level [] h = h
last-octets level (f ∷ r) h = (omega (arith, h.0, bit-one level), h.1)

each-octets : (level : Bool) (rs : List (List ℕ)) → EachOctets rs → Octets (joined (map (with_last level) rs))
each-octets level [] h = tt
each-octets level (r ∷ rs) h =
    octets-join (with_last level r) (joined (map (with_last level) rs)) (last-octets level r h.0) (each-octets level rs h.1)

pub filled-octets : (level : Bool) (s : Shape) (xs : List ℕ) → Octets xs → Octets (fill_after level s xs)
filled-octets level s xs h = go (fill_refusal s xs) refl
  where
    go : (o : Option Refusal) → fill_refusal s xs ≡ o → Octets (fill_after level s xs)
    go (Some r) e = subst Octets (sym (refused-kept level s xs r e)) h
    go None e =
        subst Octets (sym (taken-filled level s xs e)) (each-octets level (records s xs) (pieces-octets (record_count s xs) (size s) xs h))

-- ---- the transfers that were sampled, at a level

pub sized_filled : (level : Bool) (n : ℕ) (cs : List (List ℕ)) → 0 < n → Sized n cs → Sized n (map (as_filled level) (handshakes cs))
sized_filled level n cs h z = subst (Sized n) (filled-handshakes level n cs h z) (kept_sized n (map (with_last level) cs) h (sized_last level n cs z))

-- they are the records of what is harvested
pub harvest-records : (level : Bool) (s : Shape) (xs : List ℕ)
    → records s (joined (map (as_filled level) (handshakes (records s xs)))) ≡ map (as_filled level) (handshakes (records s xs))
harvest-records level s xs =
    records-joined s (map (as_filled level) (handshakes (records s xs))) (sized_filled level (size s) (records s xs) (size_pos s) (records_sized s xs))

pub filled-last : (level : Bool) (c : List ℕ) → tlast (as_filled level c) ≡ level
filled-last level c = bit_back level

pub all-last : (cs : List (List ℕ)) → AllLast (map (as_filled high) cs)
all-last [] = tt
all-last (c ∷ cs) = (filled-last high c, all-last cs)

-- ---- records that all have TLAST

-- the items of a transfer with TLAST end in an end, so what follows is packed apart
end-apart : (p : Pair) (next : Option (Item Kept)) → apart (Some (end p)) next ≡ true
end-apart p None = refl
end-apart p (Some i) = refl

last-parted : (t : Transfer Kept) (is : List (Item Kept)) → t.last ≡ true → parted (transfer_items t) is ≡ true
last-parted t is e = rw (e, last-append (map (byte t.pair) (kept t.lanes)) (end t.pair) []) (end-apart t.pair (slice_get is 0))

-- a record alone has its own transfer's items, and nothing more
alone : (s : Shape) (v : ℕ) (r : List ℕ) → length r ≡ size s → packed s v r ≡ octets s.user (pack v (transfer_items (transfer_of s r)))
alone s v r e =
    ap (λ (rs : List (List ℕ)). octets s.user (pack v (items (map (transfer_of s) rs)))) (record_alone s r e)
    ∙ ap (λ (is : List (Item Kept)). octets s.user (pack v is)) (append-nil (transfer_items (transfer_of s r)))

each_alone : (s : Shape) (v : ℕ) (rs : List (List ℕ)) → Sized (size s) rs → AllLast rs
    → octets s.user (pack v (items (map (transfer_of s) rs))) ≡ joined (map (packed s v) rs)
each_alone s v [] z h = refl
each_alone s v (r ∷ rs) z h =
    let t = transfer_of s r in
    let rest = items (map (transfer_of s) rs) in
    ap (octets s.user) (pack-parted v (transfer_items t) rest (last-parted t rest h.0))
    ∙ octets-append s.user (pack v (transfer_items t)) (pack v rest)
    ∙ ap₂ (λ (a b : List ℕ). a ++ b) (sym (alone s v r z.0)) (each_alone s v rs z.1 h.1)

pub each-its-packet : EachItsPacket
each-its-packet s v xs h = each_alone s v (records s xs) (records_sized s xs) h
