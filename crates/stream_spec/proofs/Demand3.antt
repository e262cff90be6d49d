-- Demand 3, as its two statements in specs/Demand3: `calls` over every list of repacking calls, by induction on the list,
-- and `parts` over every list of parts, by induction on that. Assumes nothing.
use Rattle.std.specs.Prelude.{Option, None, Some}
use mathlib.Core.Path.{◌≡◌, refl, sym, ap, ap₂, ◌∙◌, subst}
use mathlib.Core.Bool.{true}
use mathlib.Core.List.{List, [], ◌∷◌, ◌++◌, append-nil}
use Prim.Native.Nat.{ℕ, ◌+◌, ◌%◌, ◌≤◌, ◌<◌}
use native.Mathlib.Nat.{zero-div}
use native.Mathlib.Omega.{arith}
use lib.ListN.{length, length-append}
use Rattle.stream_spec.specs.declared.Shape.{Shape}
use Rattle.stream_spec.specs.Items.{Item}
use Rattle.stream_spec.specs.Packed.{pack, parted}
use Rattle.stream_spec.specs.Layout.{Kept, size, at_width, stream_items, octets, packed_transfers, packed}
use Rattle.stream_spec.specs.Legal.{Legal}
use Rattle.stream_spec.specs.Demand3.{Call, answer_to, accepted, Standing, accepted_at, next, after_calls, later, last_accepted, packed_at, Demand3·calls, Part, whole, part_call, AllAccepted, Divides, PartsJoin, Demand3·parts}
use Rattle.stream_spec.proofs.Cut.{last-append}
use Rattle.stream_spec.proofs.Pack.{pack-parted}
use Rattle.stream_spec.proofs.Records.{packed-items, stream_items-append, octets-append}
use Rattle.stream_spec.proofs.Legal.{packed-legal}
use Rattle.stream_spec.proofs.Passed.{WidthFits}
use Rattle.stream_spec.proofs.Repack.{Takes, takes_whole, Accepted, accepted_of, of_accepted, result-packed}

-- ---- lists of calls

accepted-at : (st : Standing) (c : Call) (n : ℕ) → accepted_at st c ≡ Some n → Accepted st.shape c.width st.octets (length c.lent) n
accepted-at st c n e = accepted_of st.shape c.width st.octets (length c.lent) n e

-- an accepted call leaves the packed form standing
next-accepted : (st : Standing) (c : Call) (n : ℕ) → accepted_at st c ≡ Some n → next st c ≡ packed_at st (Some c.width)
next-accepted st c n e =
    rw e
    (ap (λ (xs : List ℕ). record { shape = at_width st.shape c.width; octets = xs })
    (result-packed st.shape st.octets c n (accepted-at st c n e)))

next-refused : (st : Standing) (c : Call) → accepted_at st c ≡ None → next st c ≡ st
next-refused st c e = rw e refl

-- packing the packed form is packing the stream
packed-packed : (st : Standing) (w v : ℕ) → 0 < w → packed_at (packed_at st (Some w)) (Some v) ≡ packed_at st (Some v)
packed-packed st w v h =
    ap (λ (is : List (Item Kept)). record { shape = at_width st.shape v; octets = octets st.shape.user (pack v is) })
    (packed-items st.shape w h st.octets)

abbrev LegalNow : Standing → Type 0
LegalNow st = Legal st.shape st.octets

-- what is known of a list of calls: what stands after it and, where one was accepted, that the first stream and the last
-- accepted width are such as a call accepts
record Known (st : Standing) (cs : List Call) : Type 0 where
  stands : after_calls st cs ≡ packed_at st (last_accepted st cs)
  takes : (v : ℕ) → last_accepted st cs ≡ Some v → Takes st.shape st.octets × WidthFits v

-- the last accepted width, once what the first call leaves standing and answers is known
last-is : (st : Standing) (c : Call) (cs : List Call) (st' : Standing) (a : Option ℕ) → next st c ≡ st' → accepted_at st c ≡ a
    → last_accepted st (c ∷ cs) ≡ later (last_accepted st' cs) a c.width
last-is st c cs st' a q e = ap₂ (λ (s : Standing) (b : Option ℕ). later (last_accepted s cs) b c.width) q e

known-refused : (st : Standing) (c : Call) (cs : List Call) → accepted_at st c ≡ None → Known st cs → Known st (c ∷ cs)
known-refused st c cs e k =
    let q = next-refused st c e in
    let l = last-is st c cs st None q e ∙ later-none (last_accepted st cs) c.width in
    record {
      stands = ap (λ (s : Standing). after_calls s cs) q ∙ k.stands ∙ sym (ap (packed_at st) l);
      takes = λ v h. k.takes v (sym l ∙ h);
    }
  where
    later-none : (a : Option ℕ) (w : ℕ) → later a None w ≡ a
    later-none None w = refl
    later-none (Some v) w = refl

known-accepted : (st : Standing) (c : Call) (cs : List Call) (n : ℕ) → accepted_at st c ≡ Some n
    → Known (packed_at st (Some c.width)) cs → Known st (c ∷ cs)
known-accepted st c cs n e k =
    let q = next-accepted st c n e in
    let a = accepted-at st c n e in
    let l = last-is st c cs (packed_at st (Some c.width)) (Some n) q e in
    record {
      stands =
          ap (λ (s : Standing). after_calls s cs) q ∙ k.stands
          ∙ stands_by a.repacks.output (last_accepted (packed_at st (Some c.width)) cs) ∙ sym (ap (packed_at st) l);
      takes = λ v h. (a.repacks.input, width_by a.repacks.output (last_accepted (packed_at st (Some c.width)) cs) refl v (sym l ∙ h));
    }
  where
    stands_by : WidthFits c.width → (a : Option ℕ) → packed_at (packed_at st (Some c.width)) a ≡ packed_at st (later a (Some n) c.width)
    stands_by w None = refl
    stands_by w (Some v) = packed-packed st c.width v w.low

    width_by : WidthFits c.width → (a : Option ℕ) → last_accepted (packed_at st (Some c.width)) cs ≡ a
        → (v : ℕ) → later a (Some n) c.width ≡ Some v → WidthFits v
    width_by w None h v e = let same : c.width ≡ v = cc in subst WidthFits same w
    width_by w (Some u) h v e = let same : u ≡ v = cc in subst WidthFits same (k.takes u h).1

known : (cs : List Call) (st : Standing) → Known st cs
known [] st = record { stands = refl; takes = λ v e. let z : ◌≡◌ {A = ℕ} 0 1 = cc in absurd (omega arith) }
known (c ∷ cs) st = go (accepted_at st c) refl (known cs st) (known cs (packed_at st (Some c.width)))
  where
    go : (a : Option ℕ) → accepted_at st c ≡ a → Known st cs → Known (packed_at st (Some c.width)) cs → Known st (c ∷ cs)
    go None e k f = known-refused st c cs e k
    go (Some n) e k f = known-accepted st c cs n e f

-- Demand 3, first sentence: over every list of calls.
pub calls : Demand3·calls
calls st l cs = record { stands = k.stands; straight = straight; legal = subst LegalNow (sym k.stands) (legal (last_accepted st cs) refl) }
  where
    k : Known st cs
    k = known cs st

    legal : (a : Option ℕ) → last_accepted st cs ≡ a → LegalNow (packed_at st a)
    legal None e = l
    legal (Some v) e = let w = (k.takes v e).1 in packed-legal st.shape v st.octets w.low w.high l

    straight : (c : Call) → last_accepted st cs ≡ Some c.width → length (packed st.shape c.width st.octets) ≤ length c.lent
        → (accepted_at st c ≡ Some (length (packed_transfers st.shape c.width st.octets))) × (next st c ≡ after_calls st cs)
    straight c e room =
        let t = k.takes c.width e in
        let a = of_accepted st.shape st.octets c (record { input = t.0; output = t.1; fits = room }) in
        (a, next-accepted st c (length (packed_transfers st.shape c.width st.octets)) a ∙ sym (k.stands ∙ ap (packed_at st) e))

-- ---- lists of parts

-- a condition on all that stands before a division holds of the later part of it
parted-later : (is js ks : List (Item Kept)) → parted (is ++ js) ks ≡ true → parted js ks ≡ true
parted-later is [] ks h = refl
parted-later is (j ∷ js) ks h = rw (last-append is j js) at h

divides-rest : (s : Shape) (p : Part) (ps : List Part) → length p.octets % size s ≡ 0 → Divides s (p ∷ ps) → Divides s ps
divides-rest s p ps w d before after e =
    parted-later (stream_items s p.octets) (stream_items s (whole before)) (stream_items s (whole after))
    (rw (stream_items-append s p.octets (whole before) w) at (d (p ∷ before) after (ap {B = List Part} (λ l. p ∷ l) e)))

-- the first part is packed apart from the others
packed-first : (s : Shape) (v : ℕ) (p : Part) (ps : List Part) → length p.octets % size s ≡ 0 → Divides s (p ∷ ps)
    → packed_transfers s v (whole (p ∷ ps)) ≡ packed_transfers s v p.octets ++ packed_transfers s v (whole ps)
packed-first s v p ps w d =
    ap (pack v) (stream_items-append s p.octets (whole ps) w)
    ∙ pack-parted v (stream_items s p.octets) (stream_items s (whole ps)) (rw (append-nil p.octets) at (d (p ∷ []) ps refl))

join : (s : Shape) (v : ℕ) (ps : List Part) (ns : List ℕ) → AllAccepted s v ps ns → Divides s ps → PartsJoin s v ps ns
join s v [] [] a d = record { same = rw (zero-div (size s)) refl; count = rw (zero-div (size s)) refl }
join s v [] (n ∷ ns) a d = let z : ◌≡◌ {A = ℕ} 0 1 = cc in absurd (omega arith)
join s v (p ∷ ps) [] a d = let z : ◌≡◌ {A = ℕ} 0 1 = cc in absurd (omega arith)
join s v (p ∷ ps) (n ∷ ns) a d =
    let first : accepted (answer_to s p.octets (part_call v p)) ≡ Some n = cc in
    let others : AllAccepted s v ps ns = cc in
    let h = accepted_of s v p.octets (length p.lent) n first in
    let w = takes_whole s p.octets h.repacks.input in
    let rest = join s v ps ns others (divides-rest s p ps w d) in
    let divided = packed-first s v p ps w d in
    record {
      same =
          ap₂ (λ (a b : List ℕ). a ++ b) (result-packed s p.octets (part_call v p) n h) rest.same
          ∙ sym (ap (octets s.user) divided ∙ octets-append s.user (packed_transfers s v p.octets) (packed_transfers s v (whole ps)));
      count =
          ap₂ (λ (a b : ℕ). a + b) h.number rest.count
          ∙ sym (ap length divided ∙ length-append (packed_transfers s v p.octets) (packed_transfers s v (whole ps)));
    }

-- Demand 3, second sentence: over every list of parts.
pub parts : Demand3·parts
parts s v ps ns l a d = join s v ps ns a d
