-- Cutting items into stretches: the stretches hold the items, in order; they are as long as can be; and they are the only
-- such division. Where demand 3's condition holds, two lists of items are cut apart. Assumes nothing.
use Rattle.std.specs.Prelude.{Some, slice_get, None}
use Rattle.std.specs.List.{last_or}
use mathlib.Core.Path.{◌≡◌, refl, ap, ◌∙◌}
use mathlib.Core.Bool.{Bool, true, false, not, ◌||◌, cond, or-true}
use mathlib.Core.List.{List, [], ◌∷◌, ◌++◌, map, append_assoc, append-nil}
use lib.Dec.{eqb}
use borrow.Author.Tests.{eqb-true, eq-eqb, not-true}
use Rattle.stream_spec.proofs.Bools.{no_such, and_left, and_right}
use Rattle.stream_spec.specs.Items.{Pair, same_pair, Item, byte, end, item_pair, items_of}
use Rattle.stream_spec.specs.Packed.{Stretch, attach, cut, apart, parted}

pub same_pair_refl : (p : Pair) → same_pair p p ≡ true
same_pair_refl p = rw (eq-eqb p.tid p.tid refl, eq-eqb p.tdest p.tdest refl)

pub same_pair_eq : (p q : Pair) → same_pair p q ≡ true → p ≡ q
same_pair_eq p q e =
    let tids = eqb p.tid q.tid in
    let tdests = eqb p.tdest q.tdest in
    λ i.
    record {
      tid = eqb-true p.tid q.tid (and_left tids tdests e) i;
      tdest = eqb-true p.tdest q.tdest (and_right tids tdests e) i;
    }

module _ {A : Type 0} where
  abbrev pub non_empty : List A → Bool
  non_empty [] = false
  non_empty (a ∷ l) = true

  abbrev pub stretch_items : Stretch A → List (Item A)
  stretch_items s = items_of s.pair s.bytes s.ended

  abbrev pub stretches_items : List (Stretch A) → List (Item A)
  stretches_items [] = []
  stretches_items (s ∷ ss) = stretch_items s ++ stretches_items ss

  attach-items : (i : Item A) (ss : List (Stretch A)) → stretches_items (attach i ss) ≡ i ∷ stretches_items ss
  attach-items (end p) ss = refl
  attach-items (byte p a) [] = refl
  attach-items (byte p a) (s ∷ ss) = go (same_pair p s.pair) refl
    where
      go : (b : Bool) → same_pair p s.pair ≡ b → stretches_items (attach (byte p a) (s ∷ ss)) ≡ byte p a ∷ stretches_items (s ∷ ss)
      go true e = rw e (ap (λ (q : Pair). byte p a ∷ (items_of q s.bytes s.ended ++ stretches_items ss)) (same_pair_eq p s.pair e))
      go false e = rw e refl

  -- the stretches hold the items, in order
  pub cut-items : (is : List (Item A)) → stretches_items (cut is) ≡ is
  cut-items [] = refl
  cut-items (i ∷ is) = attach-items i (cut is) ∙ ap {B = List (Item A)} (λ l. i ∷ l) (cut-items is)

  -- ---- the first stretch

  -- stretches that begin with one of this pair
  pub record Begins (p : Pair) (ss : List (Stretch A)) : Type 0 where
    pub first : Stretch A
    pub rest : List (Stretch A)
    pub is : ss ≡ first ∷ rest
    pub pair : first.pair ≡ p

  attach_begins : (i : Item A) (ss : List (Stretch A)) → Begins (item_pair i) (attach i ss)
  attach_begins (end p) ss = record { first = _; rest = ss; is = refl; pair = refl }
  attach_begins (byte p a) [] = record { first = _; rest = []; is = refl; pair = refl }
  attach_begins (byte p a) (s ∷ ss) = go (same_pair p s.pair) refl
    where
      go : (b : Bool) → same_pair p s.pair ≡ b → Begins p (attach (byte p a) (s ∷ ss))
      go true e = rw e (record { first = _; rest = ss; is = refl; pair = refl })
      go false e = rw e (record { first = _; rest = s ∷ ss; is = refl; pair = refl })

  -- a cut begins with the first item's pair
  pub cut_begins : (i : Item A) (is : List (Item A)) → Begins (item_pair i) (cut (i ∷ is))
  cut_begins i is = attach_begins i (cut is)

  -- ---- two lists of items

  attach-append : (i : Item A) (s : Stretch A) (ss ts : List (Stretch A)) → attach i (s ∷ (ss ++ ts)) ≡ attach i (s ∷ ss) ++ ts
  attach-append (end p) s ss ts = refl
  attach-append (byte p a) s ss ts = go (same_pair p s.pair) refl
    where
      go : (b : Bool) → same_pair p s.pair ≡ b → attach (byte p a) (s ∷ (ss ++ ts)) ≡ attach (byte p a) (s ∷ ss) ++ ts
      go true e = rw e refl
      go false e = rw e refl

  attach-apart : (i : Item A) (js : List (Item A)) → apart (Some i) (slice_get js 0) ≡ true → attach i (cut js) ≡ attach i [] ++ cut js
  attach-apart (end p) js e = refl
  attach-apart (byte p a) [] e = refl
  attach-apart (byte p a) (j ∷ js) e = go (cut_begins j js)
    where
      go : Begins (item_pair j) (cut (j ∷ js)) → attach (byte p a) (cut (j ∷ js)) ≡ attach (byte p a) [] ++ cut (j ∷ js)
      go b = rw b.is (rw b.pair (rw (not-true (same_pair p (item_pair j)) e) refl))

  -- the last item of two lists is that of the second, where it has one
  pub last-append : (is : List (Item A)) (j : Item A) (js : List (Item A)) → last_or None (is ++ j ∷ js) ≡ last_or None (j ∷ js)
  last-append [] j js = refl
  last-append (i ∷ []) j js = refl
  last-append (i ∷ i' ∷ is) j js = last-append (i' ∷ is) j js

  -- under demand 3's condition two lists of items are cut apart
  pub cut-parted : (is js : List (Item A)) → parted is js ≡ true → cut (is ++ js) ≡ cut is ++ cut js
  cut-parted [] js e = refl
  cut-parted (i ∷ []) js e = attach-apart i js e
  cut-parted (i ∷ i' ∷ is) js e = go (cut_begins i' is) (cut-parted (i' ∷ is) js e)
    where
      go : Begins (item_pair i') (cut (i' ∷ is)) → cut ((i' ∷ is) ++ js) ≡ cut (i' ∷ is) ++ cut js
          → attach i (cut ((i' ∷ is) ++ js)) ≡ attach i (cut (i' ∷ is)) ++ cut js
      go b ih = rw ih (rw b.is (attach-append i b.first b.rest (cut js)))

  -- ---- which divisions into stretches are cuts

  -- A stretch has an item.
  abbrev pub proper : Stretch A → Bool
  proper s = s.ended || non_empty s.bytes

  -- A stretch cannot go on into the stretch behind it.
  abbrev pub stops : Stretch A → List (Stretch A) → Bool
  stops s [] = true
  stops s (t ∷ ts) = s.ended || not (same_pair s.pair t.pair)

  abbrev pub Longest : List (Stretch A) → Type 0
  Longest [] = Unit {0}
  Longest (s ∷ ss) = (proper s ≡ true) × (stops s ss ≡ true) × Longest ss

  pub ended_stops : (p : Pair) (bs : List A) (ss : List (Stretch A)) → stops (record { pair = p; bytes = bs; ended = true }) ss ≡ true
  ended_stops p bs [] = refl
  ended_stops p bs (s ∷ ss) = refl

  -- whether a stretch stops does not depend on its bytes
  stops_by : (p : Pair) (bs cs : List A) (ended : Bool) (ss : List (Stretch A))
      → stops (record { pair = p; bytes = bs; ended = ended }) ss ≡ true → stops (record { pair = p; bytes = cs; ended = ended }) ss ≡ true
  stops_by p bs cs ended [] h = refl
  stops_by p bs cs ended (t ∷ ts) h = h

  attach-longest : (i : Item A) (ss : List (Stretch A)) → Longest ss → Longest (attach i ss)
  attach-longest (end p) ss h = (refl, ended_stops p [] ss, h)
  attach-longest (byte p a) [] h = (refl, refl, tt)
  attach-longest (byte p a) (s ∷ ss) h = go (same_pair p s.pair) refl
    where
      go : (b : Bool) → same_pair p s.pair ≡ b → Longest (attach (byte p a) (s ∷ ss))
      go true e =
          rw e
          (or-true s.ended, rw (← same_pair_eq p s.pair e) at (stops_by s.pair s.bytes (a ∷ s.bytes) s.ended ss h.1), h.2)
      go false e = rw e (refl, rw e refl, h)

  pub cut-longest : (is : List (Item A)) → Longest (cut is)
  cut-longest [] = tt
  cut-longest (i ∷ is) = attach-longest i (cut is) (cut-longest is)

  -- a run of bytes in front of a stretch of their pair is a part of it
  pub cut-run : (p : Pair) (bs cs : List A) (ended : Bool) (rest : List (Stretch A)) (is : List (Item A))
      → cut is ≡ record { pair = p; bytes = cs; ended = ended } ∷ rest
      → cut (map (byte p) bs ++ is) ≡ record { pair = p; bytes = bs ++ cs; ended = ended } ∷ rest
  cut-run p [] cs ended rest is e = e
  cut-run p (b ∷ bs) cs ended rest is e = rw (cut-run p bs cs ended rest is e) (rw (same_pair_refl p) refl)

  -- bytes and the end of their pair
  pub cut-ended : (p : Pair) (bs : List A) (is : List (Item A))
      → cut (map (byte p) bs ++ end p ∷ is) ≡ record { pair = p; bytes = bs; ended = true } ∷ cut is
  cut-ended p bs is = cut-run p bs [] true (cut is) (end p ∷ is) refl ∙ rw (append-nil bs) refl

  attach_stops : (p : Pair) (b : A) (bs : List A) (ss : List (Stretch A)) → stops (record { pair = p; bytes = bs; ended = false }) ss ≡ true
      → attach (byte p b) ss ≡ record { pair = p; bytes = b ∷ []; ended = false } ∷ ss
  attach_stops p b bs [] h = refl
  attach_stops p b bs (t ∷ ts) h = rw (not-true (same_pair p t.pair) h) refl

  -- bytes before something that they do not go on into
  pub cut_open : (p : Pair) (b : A) (bs : List A) (is : List (Item A)) → stops (record { pair = p; bytes = b ∷ bs; ended = false }) (cut is) ≡ true
      → cut (map (byte p) (b ∷ bs) ++ is) ≡ record { pair = p; bytes = b ∷ bs; ended = false } ∷ cut is
  cut_open p b [] is h = attach_stops p b (b ∷ []) (cut is) h
  cut_open p b (c ∷ bs) is h =
      rw (cut_open p c bs is (stops_by p (b ∷ c ∷ bs) (c ∷ bs) false (cut is) h)) (rw (same_pair_refl p) refl)

  -- a proper stretch that stops is cut off
  pub cut_stretch : (p : Pair) (bs : List A) (ended : Bool) (is : List (Item A))
      → proper (record { pair = p; bytes = bs; ended = ended }) ≡ true
      → stops (record { pair = p; bytes = bs; ended = ended }) (cut is) ≡ true
      → cut (items_of p bs ended ++ is) ≡ record { pair = p; bytes = bs; ended = ended } ∷ cut is
  cut_stretch p bs true is h k = rw (append_assoc (map (byte p) bs) (end p ∷ []) is) (cut-ended p bs is)
  cut_stretch p [] false is h k = no_such refl h
  cut_stretch p (b ∷ bs) false is h k = rw (append-nil (map (byte p) bs)) (cut_open p b bs is k)

  stretch_begins : (p : Pair) (bs : List A) (ended : Bool) (is : List (Item A))
      → proper (record { pair = p; bytes = bs; ended = ended }) ≡ true → Begins p (cut (items_of p bs ended ++ is))
  stretch_begins p (b ∷ bs) ended is h = cut_begins (byte p b) ((map (byte p) bs ++ cond ended (end p ∷ []) []) ++ is)
  stretch_begins p [] true is h = cut_begins (end p) is
  stretch_begins p [] false is h = no_such refl h

  -- a stretch stops before another proper one just where it stops before that one's items
  pub stops_before : (s t : Stretch A) (ss : List (Stretch A)) (is : List (Item A)) → proper t ≡ true → stops s (t ∷ ss) ≡ true
      → stops s (cut (stretch_items t ++ is)) ≡ true
  stops_before s t ss is h k = go (stretch_begins t.pair t.bytes t.ended is h)
    where
      go : Begins t.pair (cut (stretch_items t ++ is)) → stops s (cut (stretch_items t ++ is)) ≡ true
      go b = rw b.is (rw b.pair k)

  -- the cut is the only division into longest stretches that holds the items
  pub cut-only : (ss : List (Stretch A)) → Longest ss → cut (stretches_items ss) ≡ ss
  cut-only [] h = refl
  cut-only (s ∷ ss) h = cut_stretch s.pair s.bytes s.ended (stretches_items ss) h.0 (rw (cut-only ss h.2) h.1) ∙ ap {B = List (Stretch A)} (λ l. s ∷ l) (cut-only ss h.2)
