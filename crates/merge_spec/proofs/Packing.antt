-- The packed form of a merged list: turns are packed apart, so each port's share of it is that port's own packed form, and another TID
-- changes nothing else in it. Assumes nothing.
use Rattle.std.specs.Prelude.{Option, None, Some, slice_get}
use Rattle.std.specs.List.{last_or}
use mathlib.Core.Bool.{Bool, true, false, not, ◌&&◌}
use mathlib.Core.List.{List, [], ◌∷◌, ◌++◌, map, append_assoc, append-nil}
use mathlib.Core.Logic.{◌⊎◌, inl, inr}
use mathlib.Core.Path.{◌≡◌, refl, sym, ap, ap₂, ◌∙◌}
use Prim.Native.Nat.{ℕ, zero, suc, ◌+◌, ◌-◌, ◌/◌}
use native.Mathlib.Omega.{arith}
use borrow.Author.Tests.{leb-true, leb-false, eq-eqb, ne_eqb, eqb-true, eqb-false}
use lib.Dec.{eqb, leb}
use lib.ListN.{length, drop}
use Rattle.stream_spec.specs.Items.{Pair, same_pair, Transfer, Item, byte, end, item_pair, kept, items_of, transfer_items, items}
use Rattle.stream_spec.specs.Packed.{Stretch, attach, cut, fitted, spread, pack_stretch, pack_stretches, pack, apart, parted}
use Rattle.stream_spec.specs.Layout.{Kept}
use Rattle.stream_spec.proofs.Cut.{last-append}
use Rattle.stream_spec.proofs.Pack.{map-append, items-append, pack-parted}
use Rattle.stream_spec.proofs.Each.{EachLane, EachTransfer, EachItem, each-items, each-pack}
use Rattle.merge_spec.specs.Turns.{turns_of, alternate, passed, those}
use Rattle.merge_spec.specs.Merge.{tid_added}
use Rattle.merge_spec.proofs.Turns.{each-passed, All, AllTurns, all_twice, those-first, those-second, Ends, Ended, alternate-nil, alternate-map, passed-append, turns_pass, turns-end, all-turns}
use Rattle.merge_spec.proofs.Tags.{raise_transfer}

-- ---- whose a transfer is

abbrev pub high_pair : Pair → Bool
high_pair p = leb tid_added p.tid

abbrev pub high_one : Transfer Kept → Bool
high_one t = high_pair t.pair

abbrev pub low_one : Transfer Kept → Bool
low_one t = not (high_one t)

abbrev pub last_one : Transfer Kept → Bool
last_one t = t.last

-- of pairs: whose they are; of bytes nothing is asked
abbrev Of : Bool → Pair → Type 0
Of port p = high_pair p ≡ port

abbrev Any : Kept → Type 0
Any k = Unit {0}

-- pairs of two ports differ
pairs_differ : (port : Bool) (p q : Pair) → Of port p → Of (not port) q → same_pair p q ≡ false
pairs_differ true p q h k = rw (ne_eqb p.tid q.tid (λ e. absurd (omega (arith, leb-true tid_added p.tid h, leb-false tid_added q.tid k)))) refl
pairs_differ false p q h k = rw (ne_eqb p.tid q.tid (λ e. absurd (omega (arith, leb-false tid_added p.tid h, leb-true tid_added q.tid k)))) refl

-- ---- a turn and what follows it are packed apart

item-pair : (port : Bool) (i : Item Kept) (is : List (Item Kept)) → EachItem (Of port) Any (i ∷ is) → Of port (item_pair i)
item-pair port (byte p a) is h = h.0.0
item-pair port (end p) is h = h.0

last_apart : (port : Bool) (is : List (Item Kept)) (j : Item Kept) → EachItem (Of port) Any is → Of (not port) (item_pair j)
    → apart (last_or None is) (Some j) ≡ true
last_apart port [] j h k = refl
last_apart port (end p ∷ []) j h k = refl
last_apart port (byte p a ∷ []) j h k = rw (pairs_differ port p (item_pair j) h.0.0 k) refl
last_apart port (i ∷ i' ∷ is) j h k = last_apart port (i' ∷ is) j h.1 k

-- anything before nothing
none_after : (o : Option (Item Kept)) → apart o None ≡ true
none_after None = refl
none_after (Some (byte p a)) = refl
none_after (Some (end p)) = refl

-- items of one port before items of the other
ports_parted : (port : Bool) (is js : List (Item Kept)) → EachItem (Of port) Any is → EachItem (Of (not port)) Any js → parted is js ≡ true
ports_parted port is [] h k = none_after (last_or None is)
ports_parted port is (j ∷ js) h k = last_apart port is j h (item-pair (not port) j js k)

-- items that end with a packet's end before any
ended-parted : (is : List (Item Kept)) (p : Pair) (js : List (Item Kept)) → parted (is ++ end p ∷ []) js ≡ true
ended-parted is p js = rw (last-append is (end p) []) (ends (slice_get js 0))
  where
    ends : (o : Option (Item Kept)) → apart (Some (end p)) o ≡ true
    ends None = refl
    ends (Some j) = refl

last_end : (t : Transfer Kept) → t.last ≡ true → transfer_items t ≡ map (byte t.pair) (kept t.lanes) ++ end t.pair ∷ []
last_end t e = rw e refl

-- a turn whose last transfer has TLAST
turn-parted : (before : List (Transfer Kept)) (final : Transfer Kept) (js : List (Item Kept)) → final.last ≡ true
    → parted (items (before ++ final ∷ [])) js ≡ true
turn-parted before final js e =
    let bytes = map (byte final.pair) (kept final.lanes) in
    let whole : items (before ++ final ∷ []) ≡ (items before ++ bytes) ++ end final.pair ∷ [] =
    items-append before (final ∷ [])
    ∙ ap (λ (l : List (Item Kept)). items before ++ l) (append-nil (transfer_items final) ∙ last_end final e)
    ∙ sym (append_assoc (items before) bytes (end final.pair ∷ [])) in
    rw whole (ended-parted (items before ++ bytes) final.pair js)

-- ---- turns are packed apart

any_lanes : (port : Bool) (ls : List (Option Kept)) → EachLane (Of port) Any ls
any_lanes port [] = tt
any_lanes port (None ∷ ls) = any_lanes port ls
any_lanes port (Some k ∷ ls) = (tt, any_lanes port ls)

transfers_of : (port : Bool) (ts : List (Transfer Kept)) → All high_one port ts → EachTransfer (Of port) Any ts
transfers_of port [] h = tt
transfers_of port (t ∷ ts) h = (h.0, any_lanes port t.lanes, transfers_of port ts h.1)

of_transfers : (port : Bool) (ts : List (Transfer Kept)) → EachTransfer (Of port) Any ts → All high_one port ts
of_transfers port [] h = tt
of_transfers port (t ∷ ts) h = (h.0, of_transfers port ts h.2)

items-of : (port : Bool) (ts : List (Transfer Kept)) → All high_one port ts → EachItem (Of port) Any (items ts)
items-of port ts h = each-items (Of port) Any ts (transfers_of port ts h)

turns-of : (port : Bool) (ts : List (List (Transfer Kept))) → AllTurns high_one port ts → EachItem (Of port) Any (items (passed ts))
turns-of port ts h = items-of port (passed ts) (each-passed (λ t. high_one t ≡ port) ts h)

-- each turn before those behind it
abbrev Parts : List (List (Transfer Kept)) → Type 0
Parts [] = Unit {0}
Parts (t ∷ ts) = (parted (items t) (items (passed ts)) ≡ true) × Parts ts

-- by its TLAST, or because what follows is the other port's
turn-apart : (port : Bool) (t : List (Transfer Kept)) (ts us : List (List (Transfer Kept))) → Ends last_one t ts → All high_one port t
    → (ts ≡ [] → EachItem (Of (not port)) Any (items (passed us))) → parted (items t) (items (passed us)) ≡ true
turn-apart port t ts us e h f = go e.ends
  where
    go : (e.final.last ≡ true) ⊎ (ts ≡ []) → parted (items t) (items (passed us)) ≡ true
    go (inl q) = rw e.is (turn-parted e.before e.final (items (passed us)) q)
    go (inr q) = ports_parted port (items t) (items (passed us)) (items-of port t h) (f q)

parts_alone : (port : Bool) (ts : List (List (Transfer Kept))) → Ended last_one ts → AllTurns high_one port ts → Parts ts
parts_alone port [] e h = tt
parts_alone port (t ∷ ts) e h = (turn-apart port t ts ts e.0 h.0 (λ q. rw q tt), parts_alone port ts e.1 h.1)

parts_both : (port : Bool) (ts us : List (List (Transfer Kept))) → Ended last_one ts → Ended last_one us → AllTurns high_one port ts
    → AllTurns high_one (not port) us → Parts (alternate ts us)
parts_both port [] us d e h k = parts_alone (not port) us e k
parts_both port (t ∷ ts) [] d e h k = parts_alone port (t ∷ ts) d h
parts_both port (t ∷ ts) (u ∷ us) d e h k = (
  turn-apart port t ts (u ∷ alternate ts us) d.0 h.0 (λ q. rw q (turns-of (not port) (u ∷ us) k)),
  (
    turn-apart (not port) u us (alternate ts us) e.0 k.0 (λ q. rw (q, alternate-nil ts) (turns-of (not (not port)) ts (all_twice high_one port ts h.1))),
    parts_both port ts us d.1 e.1 h.1 k.1,
  ),
)

-- one list of turns
abbrev pub packed_turn : ℕ → List (Transfer Kept) → List (Transfer Kept)
packed_turn v t = pack v (items t)

pack-turns : (v : ℕ) (ts : List (List (Transfer Kept))) → Parts ts → pack v (items (passed ts)) ≡ passed (map (packed_turn v) ts)
pack-turns v [] h = refl
pack-turns v (t ∷ ts) h =
    ap (pack v) (items-append t (passed ts)) ∙ pack-parted v (items t) (items (passed ts)) h.0
    ∙ ap (λ (l : List (Transfer Kept)). packed_turn v t ++ l) (pack-turns v ts h.1)

-- groups of turns
parted_front : (is js ks : List (Item Kept)) → parted is (js ++ ks) ≡ true → parted is js ≡ true
parted_front is [] ks h = none_after (last_or None is)
parted_front is (j ∷ js) ks h = h

parts_front : (ts us : List (List (Transfer Kept))) → Parts (ts ++ us) → Parts ts
parts_front [] us h = tt
parts_front (t ∷ ts) us h =
    let both : items (passed (ts ++ us)) ≡ items (passed ts) ++ items (passed us) =
    ap items (passed-append ts us) ∙ items-append (passed ts) (passed us) in
    (parted_front (items t) (items (passed ts)) (items (passed us)) (rw both at h.0), parts_front ts us h.1)

parts-behind : (ts us : List (List (Transfer Kept))) → Parts (ts ++ us) → Parts us
parts-behind [] us h = h
parts-behind (t ∷ ts) us h = parts-behind ts us h.1

pack_groups : (v : ℕ) (gs : List (List (List (Transfer Kept)))) → Parts (passed gs)
    → pack v (items (passed (passed gs))) ≡ passed (map (λ g. packed_turn v (passed g)) gs)
pack_groups v [] h = refl
pack_groups v (g ∷ gs) h =
    pack-turns v (g ++ passed gs) h
    ∙ ap passed (map-append (packed_turn v) g (passed gs)) ∙ passed-append (map (packed_turn v) g) (map (packed_turn v) (passed gs))
    ∙ ap₂ (λ (a b : List (Transfer Kept)). a ++ b) (sym (pack-turns v g (parts_front g (passed gs) h)))
    (sym (pack-turns v (passed gs) (parts-behind g (passed gs) h)) ∙ pack_groups v gs (parts-behind g (passed gs) h))

packed_of : (v : ℕ) (port : Bool) (t : List (Transfer Kept)) → All high_one port t → All high_one port (packed_turn v t)
packed_of v port t h = of_transfers port (packed_turn v t) (each-pack (Of port) Any v (items t) (items-of port t h))

packed-turns : (v : ℕ) (port : Bool) (ts : List (List (Transfer Kept))) → AllTurns high_one port ts → AllTurns high_one port (map (packed_turn v) ts)
packed-turns v port [] h = tt
packed-turns v port (t ∷ ts) h = (packed_of v port t h.0, packed-turns v port ts h.1)

-- ---- the transfers of two ports by turns, and their packed form

lows_of : (b : Bool) (ts : List (List (Transfer Kept))) → AllTurns high_one b ts → AllTurns low_one (not b) ts
lows_of b [] h = tt
lows_of b (t ∷ ts) h = (all_lows t h.0, lows_of b ts h.1)
  where
    all_lows : (t : List (Transfer Kept)) → All high_one b t → All low_one (not b) t
    all_lows [] h = tt
    all_lows (u ∷ t) h = (ap not h.0, all_lows t h.1)

module _ (v : ℕ) (ts us : List (Transfer Kept)) (low : All high_one false ts) (high : All high_one true us) where
  abbrev firsts : List (List (Transfer Kept))
  firsts = turns_of last_one ts

  abbrev seconds : List (List (Transfer Kept))
  seconds = turns_of last_one us

  low-turns : AllTurns high_one false firsts
  low-turns = all-turns high_one last_one false ts low

  high-turns : AllTurns high_one true seconds
  high-turns = all-turns high_one last_one true us high

  parts : Parts (alternate firsts seconds)
  parts = parts_both false firsts seconds (turns-end last_one ts) (turns-end last_one us) low-turns high-turns

  -- turns by groups
  pub pack_by_groups : (gs : List (List (List (Transfer Kept)))) → passed gs ≡ alternate firsts seconds
      → pack v (items (passed (alternate firsts seconds))) ≡ passed (map (λ g. packed_turn v (passed g)) gs)
  pack_by_groups gs e = rw (← e) (pack_groups v gs (rw e parts))

  -- one port's turns, each packed, are all of them packed
  pack_one : (port : Bool) (zs : List (Transfer Kept)) → All high_one port zs → passed (map (packed_turn v) (turns_of last_one zs)) ≡ pack v (items zs)
  pack_one port zs h =
      sym (pack-turns v (turns_of last_one zs) (parts_alone port (turns_of last_one zs) (turns-end last_one zs) (all-turns high_one last_one port zs h)))
      ∙ ap (λ (l : List (Transfer Kept)). pack v (items l)) (turns_pass last_one zs)

  by_ports : pack v (items (passed (alternate firsts seconds))) ≡ passed (alternate (map (packed_turn v) firsts) (map (packed_turn v) seconds))
  by_ports = pack-turns v (alternate firsts seconds) parts ∙ ap passed (sym (alternate-map (packed_turn v) firsts seconds))

  pub pack-first : those low_one (pack v (items (passed (alternate firsts seconds)))) ≡ pack v (items ts)
  pack-first =
      ap (those low_one) by_ports
      ∙ those-first low_one (map (packed_turn v) firsts) (map (packed_turn v) seconds)
      (lows_of false (map (packed_turn v) firsts) (packed-turns v false firsts low-turns))
      (lows_of true (map (packed_turn v) seconds) (packed-turns v true seconds high-turns))
      ∙ pack_one false ts low

  pub pack-second : those high_one (pack v (items (passed (alternate firsts seconds)))) ≡ pack v (items us)
  pack-second =
      ap (those high_one) by_ports
      ∙ those-second high_one (map (packed_turn v) firsts) (map (packed_turn v) seconds) (packed-turns v false firsts low-turns)
      (packed-turns v true seconds high-turns)
      ∙ pack_one true us high

-- ---- another TID changes nothing else in the packed form

abbrev raise_pair : Pair → Pair
raise_pair p = record { tid = p.tid + tid_added; tdest = p.tdest }

abbrev raise_item : Item Kept → Item Kept
raise_item (byte p a) = byte (raise_pair p) a
raise_item (end p) = end (raise_pair p)

abbrev raise_stretch : Stretch Kept → Stretch Kept
raise_stretch s = record { pair = raise_pair s.pair; bytes = s.bytes; ended = s.ended }

items-raised : (ts : List (Transfer Kept)) → items (map raise_transfer ts) ≡ map raise_item (items ts)
items-raised [] = refl
items-raised (t ∷ ts) =
    ap₂ (λ (a b : List (Item Kept)). a ++ b) (one t.pair (kept t.lanes) t.last) (items-raised ts)
    ∙ sym (map-append raise_item (transfer_items t) (items ts))
  where
    one : (p : Pair) (bs : List Kept) (last : Bool) → items_of (raise_pair p) bs last ≡ map raise_item (items_of p bs last)
    one p [] true = refl
    one p [] false = refl
    one p (b ∷ bs) last = ap {B = List (Item Kept)} (λ l. byte (raise_pair p) b ∷ l) (one p bs last)

same-raised : (p q : Pair) → same_pair (raise_pair p) (raise_pair q) ≡ same_pair p q
same-raised p q = ap (λ (b : Bool). b && eqb p.tdest q.tdest) (go (eqb p.tid q.tid) refl)
  where
    go : (b : Bool) → eqb p.tid q.tid ≡ b → eqb (p.tid + tid_added) (q.tid + tid_added) ≡ eqb p.tid q.tid
    go true e = eq-eqb (p.tid + tid_added) (q.tid + tid_added) (omega (arith, eqb-true p.tid q.tid e)) ∙ sym e
    go false e =
        ne_eqb (p.tid + tid_added) (q.tid + tid_added) (λ f. absurd (eqb-false p.tid q.tid e (omega arith))) ∙ sym e

attach-raised : (i : Item Kept) (ss : List (Stretch Kept)) → attach (raise_item i) (map raise_stretch ss) ≡ map raise_stretch (attach i ss)
attach-raised (end p) ss = refl
attach-raised (byte p a) [] = refl
attach-raised (byte p a) (s ∷ ss) = go (same_pair p s.pair) refl
  where
    go : (b : Bool) → same_pair p s.pair ≡ b
        → attach (byte (raise_pair p) a) (raise_stretch s ∷ map raise_stretch ss) ≡ map raise_stretch (attach (byte p a) (s ∷ ss))
    go true e = rw (same-raised p s.pair, e) refl
    go false e = rw (same-raised p s.pair, e) refl

cut-raised : (is : List (Item Kept)) → cut (map raise_item is) ≡ map raise_stretch (cut is)
cut-raised [] = refl
cut-raised (i ∷ is) = ap (attach (raise_item i)) (cut-raised is) ∙ attach-raised i (cut is)

spread-raised : (k v : ℕ) (p : Pair) (ls : List (Option Kept)) (last : Bool)
    → spread k v (raise_pair p) ls last ≡ map raise_transfer (spread k v p ls last)
spread-raised zero v p ls last = refl
spread-raised (suc k) v p ls last =
    ap {B = List (Transfer Kept)} (λ l. record { pair = raise_pair p; lanes = fitted v ls; last = false } ∷ l) (spread-raised k v p (drop v ls) last)

stretches_raised : (v : ℕ) (ss : List (Stretch Kept)) → pack_stretches v (map raise_stretch ss) ≡ map raise_transfer (pack_stretches v ss)
stretches_raised v [] = refl
stretches_raised v (s ∷ ss) =
    ap₂ (λ (a b : List (Transfer Kept)). a ++ b)
    (spread-raised ((length s.bytes - 1) / v) v s.pair (map Some s.bytes) s.ended) (stretches_raised v ss)
    ∙ sym (map-append raise_transfer (pack_stretch v s) (pack_stretches v ss))

pub pack-raised : (v : ℕ) (ts : List (Transfer Kept)) → pack v (items (map raise_transfer ts)) ≡ map raise_transfer (pack v (items ts))
pack-raised v ts =
    ap (pack v) (items-raised ts) ∙ ap (pack_stretches v) (cut-raised (items ts)) ∙ stretches_raised v (cut (items ts))
