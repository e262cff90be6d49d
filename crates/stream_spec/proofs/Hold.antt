-- What is certain once more items follow: all packed records but the last, and the last too where it has TLAST. What is
-- held is packed again with what follows. Assumes nothing.
use Rattle.std.specs.Prelude.{Option, Some}
use mathlib.Core.Path.{◌≡◌, refl, sym, ap, ap₂, ◌∙◌, subst}
use mathlib.Core.Bool.{Bool, true, false}
use mathlib.Core.List.{List, [], ◌∷◌, ◌++◌, map, append_assoc, append-nil}
use Prim.Native.Nat.{ℕ, zero, suc, ◌+◌, ◌-◌, ◌*◌, ◌/◌, ◌≤◌, ◌<◌, min}
use native.Mathlib.Nat.{suc-mul, zero-mul, div-add-mod', add-div_left}
use native.Mathlib.Numerals.{add-one}
use native.Mathlib.Omega.{arith}
use lib.ListN.{length, take, drop, length-map, length-append, length-take, length-drop, take-append-drop}
use lib.Seq.{drop_at}
use Rattle.stream_spec.specs.Items.{Pair, same_pair, Transfer, Item, byte, items_of, items}
use Rattle.stream_spec.specs.Packed.{Stretch, attach, cut, fitted, spread, pack_stretch, pack_stretches, pack, settled, held}
use Rattle.stream_spec.proofs.Cut.{stretch_items, stretches_items, Longest, proper, stops, ended_stops, stops_before, cut_stretch, cut-items, cut-longest, cut-run}
use Rattle.stream_spec.proofs.Pack.{room_for, kept-some, kept-fitted, map-append}

-- v items more are one record more
count-full : (v n m : ℕ) → 0 < v → n ≡ v → (n + suc m - 1) / v ≡ suc ((suc m - 1) / v)
count-full v n m h e =
    let left : n + suc m - 1 ≡ v + m = omega arith in
    let right : suc m - 1 ≡ m = omega arith in
    rw (left, right) (add-div_left m h ∙ add-one (m / v))

module _ {A : Type 0} where
  -- ---- the last record of a list

  settled-append : (ts : List (Transfer A)) (u : Transfer A) (us : List (Transfer A)) → settled (ts ++ u ∷ us) ≡ ts ++ settled (u ∷ us)
  settled-append [] u us = refl
  settled-append (t ∷ []) u us = refl
  settled-append (t ∷ t' ∷ ts) u us = ap {B = List (Transfer A)} (λ l. t ∷ l) (settled-append (t' ∷ ts) u us)

  held-append : (ts : List (Transfer A)) (u : Transfer A) (us : List (Transfer A)) → held (ts ++ u ∷ us) ≡ held (u ∷ us)
  held-append [] u us = refl
  held-append (t ∷ []) u us = refl
  held-append (t ∷ t' ∷ ts) u us = held-append (t' ∷ ts) u us

  -- ---- a full record in front

  pub fitted-full : (v : ℕ) (ls ms : List (Option A)) → length ls ≡ v → fitted v (ls ++ ms) ≡ ls
  fitted-full zero [] ms e = refl
  fitted-full zero (l ∷ ls) ms e = absurd (omega arith)
  fitted-full (suc v) [] ms e = absurd (omega arith)
  fitted-full (suc v) (l ∷ ls) ms e = ap {B = List (Option A)} (λ r. l ∷ r) (fitted-full v ls ms (omega arith))

  -- stretches that begin with this byte
  record Starts (p : Pair) (a : A) (ss : List (Stretch A)) : Type 0 where
    more : List A
    ended : Bool
    rest : List (Stretch A)
    is : ss ≡ record { pair = p; bytes = a ∷ more; ended = ended } ∷ rest

  attach-starts : (p : Pair) (a : A) (ss : List (Stretch A)) → Starts p a (attach (byte p a) ss)
  attach-starts p a [] = record { more = []; ended = false; rest = []; is = refl }
  attach-starts p a (s ∷ ss) = go (same_pair p s.pair) refl
    where
      go : (b : Bool) → same_pair p s.pair ≡ b → Starts p a (attach (byte p a) (s ∷ ss))
      go true e = rw e (record { more = s.bytes; ended = s.ended; rest = ss; is = refl })
      go false e = rw e (record { more = []; ended = false; rest = s ∷ ss; is = refl })

  spread-full : (v : ℕ) → 0 < v → (p : Pair) (xs : List A) (y : A) (ys : List A) (ended : Bool) → length xs ≡ v
      → pack_stretch v (record { pair = p; bytes = xs ++ y ∷ ys; ended = ended })
      ≡ record { pair = p; lanes = map Some xs; last = false } ∷ pack_stretch v (record { pair = p; bytes = y ∷ ys; ended = ended })
  spread-full v h p xs y ys ended e =
      rw (length-append xs (y ∷ ys), count-full v (length xs) (length ys) h e, map-append (λ (a : A). Some a) xs (y ∷ ys))
      (rw (fitted-full v (map Some xs) (map Some (y ∷ ys)) (length-map xs Some ∙ e), drop_at (map Some xs) (map Some (y ∷ ys)) v (length-map xs Some ∙ e)) refl)

  -- v bytes with one of the same pair behind them are a full record
  pub pack-full : (v : ℕ) → 0 < v → (p : Pair) (xs : List A) (y : A) (ys : List A) (js : List (Item A)) → length xs ≡ v
      → pack v (map (byte p) (xs ++ y ∷ ys) ++ js)
      ≡ record { pair = p; lanes = map Some xs; last = false } ∷ pack v (map (byte p) (y ∷ ys) ++ js)
  pack-full v h p xs y ys js e = go (attach-starts p y (cut (map (byte p) ys ++ js)))
    where
      go : Starts p y (cut (map (byte p) (y ∷ ys) ++ js)) → pack v (map (byte p) (xs ++ y ∷ ys) ++ js)
          ≡ record { pair = p; lanes = map Some xs; last = false } ∷ pack v (map (byte p) (y ∷ ys) ++ js)
      go s =
          rw (map-append (λ (a : A). byte p a) xs (y ∷ ys), append_assoc (map (byte p) xs) (map (byte p) (y ∷ ys)) js)
          (rw (cut-run p xs (y ∷ s.more) s.ended s.rest (map (byte p) (y ∷ ys) ++ js) s.is, s.is)
          (rw (spread-full v h p xs y s.more s.ended e) refl))

  -- ---- bytes of one pair

  record Spread (ts : List (Transfer A)) : Type 0 where
    first : Transfer A
    rest : List (Transfer A)
    is : ts ≡ first ∷ rest

  spread-some : (k v : ℕ) (p : Pair) (ls : List (Option A)) (last : Bool) → Spread (spread k v p ls last)
  spread-some zero v p ls last = record { first = _; rest = []; is = refl }
  spread-some (suc k) v p ls last = record { first = _; rest = spread k v p (drop v ls) last; is = refl }

  settled_onto : (ts us : List (Transfer A)) → Spread us → settled (ts ++ us) ≡ ts ++ settled us
  settled_onto ts us s = rw s.is (settled-append ts s.first s.rest)

  held_onto : (ts us : List (Transfer A)) → Spread us → held (ts ++ us) ≡ held us
  held_onto ts us s = rw s.is (held-append ts s.first s.rest)

  settled-first : (t : Transfer A) (ts : List (Transfer A)) → Spread ts → settled (t ∷ ts) ≡ t ∷ settled ts
  settled-first t ts s = settled_onto (t ∷ []) ts s

  held_first : (t : Transfer A) (ts : List (Transfer A)) → Spread ts → held (t ∷ ts) ≡ held ts
  held_first t ts s = held_onto (t ∷ []) ts s

  stretches_some : (v : ℕ) (s : Stretch A) (ss : List (Stretch A)) → Spread (pack_stretches v (s ∷ ss))
  stretches_some v s ss = go (spread-some ((length s.bytes - 1) / v) v s.pair (map Some s.bytes) s.ended)
    where
      go : Spread (pack_stretch v s) → Spread (pack_stretches v (s ∷ ss))
      go f = rw f.is (record { first = f.first; rest = f.rest ++ pack_stretches v ss; is = refl })

  -- what is to be shown of transfers that stand for items
  abbrev HoldsAs : ℕ → List (Item A) → List (Transfer A) → List (Item A) → Type 0
  HoldsAs v is ts js = pack v (is ++ js) ≡ settled ts ++ pack v (items (held ts) ++ js)

  hold_full : (k v : ℕ) → 0 < v → (p : Pair) (xs : List A) (y : A) (ys : List A) (js : List (Item A)) → length xs ≡ v
      → HoldsAs v (map (byte p) (y ∷ ys)) (spread k v p (map Some (y ∷ ys)) false) js
      → HoldsAs v (map (byte p) (xs ++ y ∷ ys)) (spread (suc k) v p (map Some (xs ++ y ∷ ys)) false) js
  hold_full k v h p xs y ys js e ih =
      let t : Transfer A = record { pair = p; lanes = map Some xs; last = false } in
      let ts : List (Transfer A) = spread k v p (map Some (y ∷ ys)) false in
      let same : spread (suc k) v p (map Some (xs ++ y ∷ ys)) false ≡ t ∷ ts =
      rw (map-append (λ (a : A). Some a) xs (y ∷ ys))
      (rw (fitted-full v (map Some xs) (map Some (y ∷ ys)) (length-map xs Some ∙ e), drop_at (map Some xs) (map Some (y ∷ ys)) v (length-map xs Some ∙ e))
      refl) in
      subst (λ (us : List (Transfer A)). HoldsAs v (map (byte p) (xs ++ y ∷ ys)) us js) (sym same)
      (pack-full v h p xs y ys js e ∙ ap {B = List (Transfer A)} (λ l. t ∷ l) ih
      ∙ sym
      (ap₂ (λ (a b : List (Transfer A)). a ++ pack v (items b ++ js)) (settled-first t ts (spread-some k v p (map Some (y ∷ ys)) false))
      (held_first t ts (spread-some k v p (map Some (y ∷ ys)) false))))

  -- of bytes laid out without an end the full records are settled, and the last one is held
  hold_run : (k v : ℕ) → 0 < v → (p : Pair) (bs : List A) (js : List (Item A)) → k * v < length bs → length bs ≤ suc k * v
      → HoldsAs v (map (byte p) bs) (spread k v p (map Some bs) false) js
  hold_run zero v h p bs js low high =
      ap (λ (cs : List A). pack v (map (byte p) cs ++ js)) (sym (kept-fitted v (map Some bs) (rw (length-map bs Some) (omega (arith, suc-mul 0 v, zero-mul v))) ∙ kept-some bs))
      ∙ simp append-nil
  hold_run (suc k) v h p bs js low high =
      go (λ (cs : List A). hold_run k v h p cs js) (drop v bs) refl (length-drop v bs) (length-take v bs)
    where
      go : ((cs : List A) → k * v < length cs → length cs ≤ suc k * v → HoldsAs v (map (byte p) cs) (spread k v p (map Some cs) false) js)
          → (cs : List A) → drop v bs ≡ cs → length (drop v bs) ≡ length bs - v → length (take v bs) ≡ min v (length bs)
          → HoldsAs v (map (byte p) bs) (spread (suc k) v p (map Some bs) false) js
      go ih [] e d t = absurd (omega (arith, ap length e, suc-mul k v))
      go ih (y ∷ ys) e d t =
          let long : length (y ∷ ys) ≡ length bs - v = ap length (sym e) ∙ d in
          subst (λ (cs : List A). HoldsAs v (map (byte p) cs) (spread (suc k) v p (map Some cs) false) js)
          (ap (λ (cs : List A). take v bs ++ cs) (sym e) ∙ take-append-drop v bs)
          (hold_full k v h p (take v bs) y ys js (omega (arith, suc-mul k v))
          (ih (y ∷ ys) (omega (arith, suc-mul k v)) (omega (arith, suc-mul k v, suc-mul (suc k) v))))

  -- ---- lists of stretches

  settled-ended : (k v : ℕ) (p : Pair) (ls : List (Option A)) → settled (spread k v p ls true) ≡ spread k v p ls true
  settled-ended zero v p ls = refl
  settled-ended (suc k) v p ls =
      let t : Transfer A = record { pair = p; lanes = fitted v ls; last = false } in
      settled-first t (spread k v p (drop v ls) true) (spread-some k v p (drop v ls) true)
      ∙ ap {B = List (Transfer A)} (λ l. t ∷ l) (settled-ended k v p (drop v ls))

  held-ended : (k v : ℕ) (p : Pair) (ls : List (Option A)) → held (spread k v p ls true) ≡ []
  held-ended zero v p ls = refl
  held-ended (suc k) v p ls =
      held_first (record { pair = p; lanes = fitted v ls; last = false }) (spread k v p (drop v ls) true) (spread-some k v p (drop v ls) true)
      ∙ held-ended k v p (drop v ls)

  -- a stretch in front that stops is packed by itself
  pub pack-stretch : (v : ℕ) (s : Stretch A) (is : List (Item A)) → proper s ≡ true → stops s (cut is) ≡ true
      → pack v (stretch_items s ++ is) ≡ pack_stretch v s ++ pack v is
  pack-stretch v s is h k = ap (pack_stretches v) (cut_stretch s.pair s.bytes s.ended is h k)

  hold_stretch : (v : ℕ) → 0 < v → (p : Pair) (bs : List A) (ended : Bool) (js : List (Item A))
      → proper (record { pair = p; bytes = bs; ended = ended }) ≡ true
      → HoldsAs v (items_of p bs ended) (pack_stretch v (record { pair = p; bytes = bs; ended = ended })) js
  hold_stretch v h p bs true js k =
      let n = (length bs - 1) / v in
      rw (settled-ended n v p (map Some bs), held-ended n v p (map Some bs))
      (pack-stretch v (record { pair = p; bytes = bs; ended = true }) js refl (ended_stops p bs (cut js)))
  hold_stretch v h p [] false js k = let z : ◌≡◌ {A = ℕ} 0 1 = cc in absurd (omega arith)
  hold_stretch v h p (b ∷ bs) false js k =
      subst
      (λ (is : List (Item A)). HoldsAs v is (pack_stretch v (record { pair = p; bytes = b ∷ bs; ended = false })) js)
      (sym (append-nil (map (byte p) (b ∷ bs))))
      (hold_run ((length (b ∷ bs) - 1) / v) v h p (b ∷ bs) js (omega (arith, div-add-mod' (length (b ∷ bs) - 1) v)) (room_for (length (b ∷ bs)) v h))

  hold_stretches : (v : ℕ) → 0 < v → (ss : List (Stretch A)) → Longest ss → (js : List (Item A)) → HoldsAs v (stretches_items ss) (pack_stretches v ss) js
  hold_stretches v h [] l js = refl
  hold_stretches v h (s ∷ []) l js =
      rw (append-nil (stretch_items s), append-nil (pack_stretch v s)) (hold_stretch v h s.pair s.bytes s.ended js l.0)
  hold_stretches v h (s ∷ t ∷ ss) l js =
      let is : List (Item A) = stretches_items (t ∷ ss) in
      let ts : List (Transfer A) = pack_stretches v (t ∷ ss) in
      ap (pack v) (append_assoc (stretch_items s) is js)
      ∙ pack-stretch v s (is ++ js) l.0
      (rw (append_assoc (stretch_items t) (stretches_items ss) js) (stops_before s t ss (stretches_items ss ++ js) l.2.0 l.1))
      ∙ ap (λ (us : List (Transfer A)). pack_stretch v s ++ us) (hold_stretches v h (t ∷ ss) l.2 js)
      ∙ sym (append_assoc (pack_stretch v s) (settled ts) (pack v (items (held ts) ++ js)))
      ∙ sym
      (ap₂ (λ (a b : List (Transfer A)). a ++ pack v (items b ++ js)) (settled_onto (pack_stretch v s) ts (stretches_some v t ss))
      (held_onto (pack_stretch v s) ts (stretches_some v t ss)))

  -- "a full record is held until it is known whether its end follows"
  pub hold : (v : ℕ) → 0 < v → (is js : List (Item A)) → pack v (is ++ js) ≡ settled (pack v is) ++ pack v (items (held (pack v is)) ++ js)
  hold v h is js = subst (λ (l : List (Item A)). HoldsAs v l (pack v is) js) (cut-items is) (hold_stretches v h (cut is) (cut-longest is) js)
