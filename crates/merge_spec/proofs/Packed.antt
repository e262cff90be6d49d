-- The packed octets of a merged list: each port's share of them, and turns packed apart. Assumes nothing.
use mathlib.Core.Bool.{Bool, true, false}
use mathlib.Core.List.{List, [], ◌∷◌, ◌++◌, map, append_assoc}
use mathlib.Core.Path.{◌≡◌, refl, sym, ap, ap₂, ◌∙◌}
use Prim.Native.Nat.{ℕ, ◌+◌, ◌*◌, ◌≤◌}
use native.Mathlib.Omega.{arith}
use lib.ListN.{length, length-append, length-map}
use Rattle.stream_spec.specs.declared.Shape.{Shape}
use Rattle.stream_spec.specs.Items.{Transfer, items}
use Rattle.stream_spec.specs.Packed.{pack}
use Rattle.stream_spec.specs.Layout.{Kept, tlast, size, at_width, transfer_of, octets_of, records, record_count, joined, transfers, octets, packed_transfers, packed}
use Rattle.stream_spec.specs.Checks.{capture_most}
use Rattle.stream_spec.proofs.Pack.{wide-pack}
use Rattle.stream_spec.proofs.Records.{Sized, length-joined, records-joined, records_sized, length-pieces, whole-count, octets_sized, octets-append}
use Rattle.merge_spec.specs.Turns.{turns_of, alternate, passed, those}
use Rattle.merge_spec.specs.Merge.{raised, restored, high_tid, low_tid, turns, merged}
use Rattle.merge_spec.specs.Promises.{PackedSplit, TurnsPack}
use Rattle.merge_spec.proofs.Turns.{EachIn, each_at, each-alternate, each-passed, each-turns, All, those-map, turns_pass, passed-map, both_map, passed_both}
use Rattle.merge_spec.proofs.Tags.{raise_transfer, raised_back, transfer-raised, sized_two, AllLow, high-raised}
use Rattle.merge_spec.proofs.Merge.{Taken, Long, sized_each, each_sized, merged-records, raised_sized}
use Rattle.merge_spec.proofs.Packing.{high_one, low_one, last_one, packed_turn, pack_by_groups, pack-first, pack-second, pack-raised}

-- ---- the transfers of the merged list

module _ (s : Shape) (xs ys : List ℕ) where
  abbrev firsts : List (Transfer Kept)
  firsts = transfers s xs

  abbrev seconds : List (Transfer Kept)
  seconds = map (transfer_of s) (map raised (records s ys))

  -- by turns, as the records are
  abbrev both : List (List (Transfer Kept))
  both = alternate (turns_of last_one firsts) (turns_of last_one seconds)

  merged-transfers : transfers s (merged s xs ys) ≡ passed both
  merged-transfers =
      ap (map (transfer_of s)) (merged-records s xs ys)
      ∙ sym (passed_both (transfer_of s) last_one tlast (λ r. refl) (records s xs) (map raised (records s ys)))

  pub merged-packed : (v : ℕ) → packed_transfers s v (merged s xs ys) ≡ pack v (items (passed both))
  merged-packed v = ap (λ (ts : List (Transfer Kept)). pack v (items ts)) merged-transfers

-- whose they are
all_of : (s : Shape) (b : Bool) (rs : List (List ℕ)) → All high_tid b rs → All high_one b (map (transfer_of s) rs)
all_of s b [] h = tt
all_of s b (r ∷ rs) h = (h.0, all_of s b rs h.1)

second-raised : (s : Shape) (rs : List (List ℕ)) → Sized (size s) rs → map (transfer_of s) (map raised rs) ≡ map raise_transfer (map (transfer_of s) rs)
second-raised s [] h = refl
second-raised s (r ∷ rs) h =
    ap₂ (λ (t : Transfer Kept) (ts : List (Transfer Kept)). t ∷ ts) (transfer-raised s r (sized_two s r h.0)) (second-raised s rs h.1)

-- ---- each port's share

-- packed octets are the records of packed transfers
packed-records : (s : Shape) (v : ℕ) (xs : List ℕ) → records (at_width s v) (packed s v xs) ≡ map (octets_of s.user) (packed_transfers s v xs)
packed-records s v xs =
    records-joined (at_width s v) (map (octets_of s.user) (packed_transfers s v xs))
    (octets_sized (at_width s v) (packed_transfers s v xs) (wide-pack v (items (transfers s xs))))

octets_back : (m : ℕ) (ts : List (Transfer Kept)) → map restored (map (octets_of m) (map raise_transfer ts)) ≡ map (octets_of m) ts
octets_back m [] = refl
octets_back m (t ∷ ts) = ap₂ (λ (x : List ℕ) (xs : List (List ℕ)). x ∷ xs) (raised_back (octets_of m t)) (octets_back m ts)

module _ (s : Shape) (v : ℕ) (xs ys : List ℕ) (low : AllLow (records s xs)) where
  abbrev m : ℕ
  m = s.user

  abbrev whole : List (Transfer Kept)
  whole = packed_transfers s v (merged s xs ys)

  lows : All high_one false (firsts s xs ys)
  lows = all_of s false (records s xs) low

  highs : All high_one true (seconds s xs ys)
  highs = all_of s true (map raised (records s ys)) (high-raised s (records s ys) (records_sized s ys))

  first_share : those low_one whole ≡ packed_transfers s v xs
  first_share = ap (those low_one) (merged-packed s xs ys v) ∙ pack-first v (firsts s xs ys) (seconds s xs ys) lows highs

  second_share : those high_one whole ≡ map raise_transfer (packed_transfers s v ys)
  second_share =
      ap (those high_one) (merged-packed s xs ys v) ∙ pack-second v (firsts s xs ys) (seconds s xs ys) lows highs
      ∙ ap (λ (ts : List (Transfer Kept)). pack v (items ts)) (second-raised s (records s ys) (records_sized s ys))
      ∙ pack-raised v (transfers s ys)

  pub packed_split : PackedSplit s v xs ys
  packed_split =
      record {
        first =
            ap (those low_tid) (packed-records s v (merged s xs ys)) ∙ those-map (octets_of m) low_tid low_one (λ t. refl) whole
            ∙ ap (map (octets_of m)) first_share ∙ sym (packed-records s v xs);
        second =
            ap (λ (rs : List (List ℕ)). map restored (those high_tid rs)) (packed-records s v (merged s xs ys))
            ∙ ap (map restored) (those-map (octets_of m) high_tid high_one (λ t. refl) whole ∙ ap (map (octets_of m)) second_share)
            ∙ octets_back m (packed_transfers s v ys) ∙ sym (packed-records s v ys);
      }

-- ---- turn by turn

joined-append : (rs qs : List (List ℕ)) → joined (rs ++ qs) ≡ joined rs ++ joined qs
joined-append [] qs = refl
joined-append (r ∷ rs) qs = ap (λ (l : List ℕ). r ++ l) (joined-append rs qs) ∙ sym (append_assoc r (joined rs) (joined qs))

-- no turn is longer than its list
turns-short : (n : ℕ) (ts : List (List (List ℕ))) → length (joined (passed ts)) ≤ n → EachIn (λ t. length (joined t) ≤ n) ts
turns-short n [] h = tt
turns-short n (t ∷ ts) h =
    let long : length (joined (t ++ passed ts)) ≡ length (joined t) + length (joined (passed ts)) =
    ap length (joined-append t (passed ts)) ∙ length-append (joined t) (joined (passed ts)) in
    (omega arith, turns-short n ts (omega arith))

octets-turns : (m : ℕ) (ts : List (List (Transfer Kept))) → octets m (passed ts) ≡ joined (map (octets m) ts)
octets-turns m [] = refl
octets-turns m (t ∷ ts) = octets-append m t (passed ts) ∙ ap (λ (l : List ℕ). octets m t ++ l) (octets-turns m ts)

-- a group of turns of whole records, packed by itself
groups_apart : (s : Shape) (v : ℕ) (gs : List (List (List (List ℕ)))) → EachIn (EachIn (Long s)) (passed gs)
    → joined (map (octets s.user) (map (λ g. packed_turn v (passed g)) (map (map (map (transfer_of s))) gs)))
    ≡ joined (map (λ g. packed s v (joined (passed g))) gs)
groups_apart s v [] h = refl
groups_apart s v (g ∷ gs) h =
    ap₂ (λ (a b : List ℕ). a ++ b)
    (ap (λ (ts : List (Transfer Kept)). octets s.user (pack v (items ts)))
    (passed-map (transfer_of s) g ∙ ap (map (transfer_of s)) (sym (records-joined s (passed g) (each_sized s (passed g) (each-passed (Long s) g (front g (passed gs) h)))))))
    (groups_apart s v gs (behind g (passed gs) h))
  where
    front : (ts us : List (List (List ℕ))) → EachIn (EachIn (Long s)) (ts ++ us) → EachIn (EachIn (Long s)) ts
    front [] us h = tt
    front (t ∷ ts) us h = (h.0, front ts us h.1)

    behind : (ts us : List (List (List ℕ))) → EachIn (EachIn (Long s)) (ts ++ us) → EachIn (EachIn (Long s)) us
    behind [] us h = h
    behind (t ∷ ts) us h = behind ts us h.1

-- the turns of a list of records are as long as it, all together
list-short : (s : Shape) (rs : List (List ℕ)) (n : ℕ) → Sized (size s) rs → length rs * size s ≤ n
    → EachIn (λ t. length (joined t) ≤ n) (turns_of tlast rs)
list-short s rs n z h =
    turns-short n (turns_of tlast rs) (rw (turns_pass tlast rs, length-joined (size s) rs z) h)

module _ (s : Shape) (v : ℕ) (xs ys : List ℕ) (t : Taken s xs) (u : Taken s ys) where
  long-turns : EachIn (EachIn (Long s)) (turns s xs ys)
  long-turns =
      each-alternate (EachIn (Long s)) (turns_of tlast (records s xs)) (turns_of tlast (map raised (records s ys)))
      (each-turns (Long s) tlast (records s xs) (sized_each s (records s xs) (records_sized s xs)))
      (each-turns (Long s) tlast (map raised (records s ys)) (sized_each s (map raised (records s ys)) (raised_sized s xs ys)))

  -- the records of a list, and their number
  first-few : length (records s xs) * size s ≤ capture_most
  first-few = rw (length-pieces (size s) (record_count s xs) xs, ← whole-count s xs t.passed.whole) t.passed.short

  second-few : length (map raised (records s ys)) * size s ≤ capture_most
  second-few =
      rw (length-map (records s ys) raised, length-pieces (size s) (record_count s ys) ys, ← whole-count s ys u.passed.whole) u.passed.short

  pub turns-pack : TurnsPack s v xs ys
  turns-pack =
      record {
        short = λ k.
            each_at (λ (t : List (List ℕ)). length (joined t) ≤ capture_most) [] (omega arith) (turns s xs ys)
            (each-alternate (λ (t : List (List ℕ)). length (joined t) ≤ capture_most) (turns_of tlast (records s xs)) (turns_of tlast (map raised (records s ys)))
            (list-short s (records s xs) capture_most (records_sized s xs) first-few)
            (list-short s (map raised (records s ys)) capture_most (raised_sized s xs ys) second-few))
            k;
        same = λ gs e.
            ap (octets s.user)
            (merged-packed s xs ys v
            ∙ pack_by_groups v (firsts s xs ys) (seconds s xs ys) (lows s v xs ys t.low) (highs s v xs ys t.low) (map (map (map (transfer_of s))) gs)
            (passed-map (map (transfer_of s)) gs ∙ ap (map (map (transfer_of s))) e
            ∙ sym (both_map (transfer_of s) last_one tlast (λ r. refl) (records s xs) (map raised (records s ys)))))
            ∙ octets-turns s.user (map (λ g. packed_turn v (passed g)) (map (map (map (transfer_of s))) gs))
            ∙ groups_apart s v gs (rw e long-turns);
      }
