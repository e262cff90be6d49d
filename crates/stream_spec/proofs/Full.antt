-- The records of a packed form are filled from lane 0, and full but for the last of a stretch. Assumes nothing.
use Rattle.std.specs.Prelude.{Option, Some}
use mathlib.Core.Path.{◌≡◌, refl, sym, ap, ◌∙◌}
use mathlib.Core.Bool.{Bool, true, false, not, ◌&&◌, ◌||◌, or-true}
use mathlib.Core.List.{List, [], ◌∷◌, ◌++◌, map}
use Prim.Native.Nat.{ℕ, zero, suc, ◌-◌, ◌*◌, ◌/◌, ◌≤◌, ◌<◌}
use native.Mathlib.Nat.{suc-mul, zero-mul, div-mul-le_self}
use native.Mathlib.Omega.{arith}
use borrow.Author.Tests.{eq-eqb, ne_eqb}
use lib.Dec.{eqb}
use lib.ListN.{length, take, drop, length-map, length-drop}
use lib.Seq.{length-take-le, take_all}
use Rattle.stream_spec.specs.Items.{Pair, same_pair, Transfer, kept}
use Rattle.stream_spec.specs.Packed.{Stretch, cut, fitted, spread, pack_stretches}
use Rattle.stream_spec.specs.Layout.{Kept}
use Rattle.stream_spec.specs.Promises.{full, all_null, closes, Packs, PackedFull}
use Rattle.stream_spec.proofs.Bools.{or_more}
use Rattle.stream_spec.proofs.Cut.{non_empty, Longest, stops, cut-longest}
use Rattle.stream_spec.proofs.Pack.{room_for, kept-some, kept-fitted}

fitted-take : {A : Type 0} (v : ℕ) (ls : List (Option A)) → v ≤ length ls → fitted v ls ≡ take v ls
fitted-take zero ls h = refl
fitted-take (suc v) [] h = absurd (omega arith)
fitted-take {A} (suc v) (l ∷ ls) h = ap {B = List (Option A)} (λ r. l ∷ r) (fitted-take v ls (omega arith))

take-map : {A B : Type 0} (f : A → B) (n : ℕ) (l : List A) → take n (map f l) ≡ map f (take n l)
take-map f zero l = refl
take-map f (suc n) [] = refl
take-map {B = B} f (suc n) (a ∷ l) = ap {B = List B} (λ r. f a ∷ r) (take-map f n l)

drop-map : {A B : Type 0} (f : A → B) (n : ℕ) (l : List A) → drop n (map f l) ≡ map f (drop n l)
drop-map f zero l = refl
drop-map f (suc n) [] = refl
drop-map f (suc n) (a ∷ l) = drop-map f n l

-- a stretch of this pair, ended or not, does not go on into these transfers
abbrev stops_at : Pair → Bool → List (Transfer Kept) → Bool
stops_at p ended [] = true
stops_at p ended (u ∷ us) = ended || not (same_pair p u.pair)

closes-last : (v : ℕ) (t : Transfer Kept) (us : List (Transfer Kept)) → stops_at t.pair t.last us ≡ true → closes v t us ≡ true
closes-last v t [] h = refl
closes-last v t (u ∷ us) h = or_more (full v t && not (all_null u)) t.last (not (same_pair t.pair u.pair)) h

-- a full transfer before more bytes
closes-full : (v : ℕ) → 0 < v → (t : Transfer Kept) → full v t ≡ true
    → (k : ℕ) (p : Pair) (bs : List Kept) (ended : Bool) (us : List (Transfer Kept)) → 0 < length bs
    → closes v t (spread k v p (map Some bs) ended ++ us) ≡ true
closes-full (suc v) h t f k p [] ended us n = absurd (omega arith)
closes-full (suc v) h t f zero p (b ∷ bs) ended us n = rw (f, ne_eqb (suc (length (kept (fitted v (map Some bs))))) 0 (omega arith)) refl
closes-full (suc v) h t f (suc k) p (b ∷ bs) ended us n = rw (f, ne_eqb (suc (length (kept (fitted v (map Some bs))))) 0 (omega arith)) refl
closes-full zero h t f k p bs ended us n = absurd (omega arith)

not_null : (ended : Bool) (bs : List Kept) → (ended || non_empty bs) ≡ true → (ended || not (eqb (length bs) 0)) ≡ true
not_null true bs h = refl
not_null false (b ∷ bs) h = rw (ne_eqb (suc (length bs)) 0 (omega arith)) refl
not_null false [] h = h

packs-spread : (k v : ℕ) → 0 < v → (p : Pair) (bs : List Kept) (ended : Bool) (us : List (Transfer Kept)) → k * v ≤ length bs - 1 → length bs ≤ suc k * v
    → (ended || non_empty bs) ≡ true → stops_at p ended us ≡ true → Packs v us → Packs v (spread k v p (map Some bs) ended ++ us)
packs-spread zero v z p bs ended us low high i h k =
    let same = kept-fitted v (map Some bs) (rw (length-map bs Some) (omega (arith, suc-mul 0 v, zero-mul v))) ∙ kept-some bs in (
      ap (λ (cs : List Kept). fitted v (map Some cs)) (sym same),
      rw same (not_null ended bs i),
      closes-last v (record { pair = p; lanes = fitted v (map Some bs); last = ended }) us h,
      k,
    )
packs-spread (suc k) v z p bs ended us low high i h e =
    let enough : v ≤ length bs = omega (arith, suc-mul k v) in
    let lanes : fitted v (map Some bs) ≡ map Some (take v bs) =
    fitted-take v (map Some bs) (rw (length-map bs Some) enough) ∙ take-map (λ (b : Kept). Some b) v bs in
    let keeps : kept (fitted v (map Some bs)) ≡ take v bs = ap kept lanes ∙ kept-some (take v bs) in
    let many : length (kept (fitted v (map Some bs))) ≡ v = ap length keeps ∙ length-take-le v bs enough in
    let t : Transfer Kept = record { pair = p; lanes = fitted v (map Some bs); last = false } in
    let rest : 0 < length (drop v bs) = omega (arith, length-drop v bs, suc-mul k v) in (
      lanes ∙ sym (ap (λ (cs : List Kept). fitted v (map Some cs)) keeps ∙ again v (take v bs) (length-take-le v bs enough)),
      rw (ne_eqb (length (kept (fitted v (map Some bs)))) 0 (omega arith)) refl,
      rw (drop-map (λ (b : Kept). Some b) v bs) (closes-full v z t (eq-eqb (length (kept (fitted v (map Some bs)))) v many) k p (drop v bs) ended us rest),
      rw (drop-map (λ (b : Kept). Some b) v bs)
          (packs-spread k v z p (drop v bs) ended us (omega (arith, length-drop v bs, suc-mul k v)) (omega (arith, length-drop v bs, suc-mul (suc k) v))
          (some_left ended (drop v bs) rest) h e),
    )
  where
    again : (v : ℕ) (cs : List Kept) → length cs ≡ v → fitted v (map Some cs) ≡ map Some cs
    again v cs e =
        let same : length (map {B = Option Kept} (λ (b : Kept). Some b) cs) ≡ length cs = length-map cs (λ (b : Kept). Some b) in
        fitted-take v (map Some cs) (omega arith) ∙ take_all v (map Some cs) (omega arith)

    some_left : (ended : Bool) (cs : List Kept) → 0 < length cs → (ended || non_empty cs) ≡ true
    some_left ended [] h = absurd (omega arith)
    some_left ended (c ∷ cs) h = or-true ended

-- a stretch that stops before the others stops before their transfers
stops_packed : (v : ℕ) (s : Stretch Kept) (ss : List (Stretch Kept)) → stops s ss ≡ true → stops_at s.pair s.ended (pack_stretches v ss) ≡ true
stops_packed v s [] h = refl
stops_packed v s (t ∷ ts) h = go ((length t.bytes - 1) / v)
  where
    go : (k : ℕ) → stops_at s.pair s.ended (spread k v t.pair (map Some t.bytes) t.ended ++ pack_stretches v ts) ≡ true
    go zero = h
    go (suc k) = h

packs_stretches : (v : ℕ) → 0 < v → (ss : List (Stretch Kept)) → Longest ss → Packs v (pack_stretches v ss)
packs_stretches v h [] l = tt
packs_stretches v h (s ∷ ss) l =
    let n = length s.bytes in
    packs-spread ((n - 1) / v) v h s.pair s.bytes s.ended (pack_stretches v ss)
    (div-mul-le_self (length s.bytes - 1) v) (room_for n v h) l.0 (stops_packed v s ss l.1) (packs_stretches v h ss l.2)

pub packed-full : PackedFull
packed-full v h is = packs_stretches v h (cut is) (cut-longest is)
