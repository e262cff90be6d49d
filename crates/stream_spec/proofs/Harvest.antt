-- How much is harvested; and what an accepted harvest writes is a legal stream: its cycles had no bad field, and no rule is
-- broken, so none of those with ARESETn and TVALID high has a reserved lane (R4). Assumes nothing.
use Rattle.std.specs.Prelude.{Option, None, Some}
use mathlib.Core.Path.{◌≡◌, refl, ap, ◌∙◌}
use mathlib.Core.Bool.{Bool, true, false, ◌&&◌}
use mathlib.Core.List.{List, [], ◌∷◌, ◌++◌, map}
use Prim.Native.Nat.{ℕ, suc, ◌*◌, ◌≤◌, ◌<◌}
use native.Mathlib.Nat.{le_trans, mul-mod_left, mul-le-mul_right, div-mul-le_self}
use native.Mathlib.Omega.{arith}
use lib.ListN.{length, length-map}
use Rattle.refusal.specs.declared.Refusal.TheVariants.{Field}
use Rattle.stream_spec.specs.declared.Shape.{Shape}
use Rattle.stream_spec.specs.Layout.{last_alone, tlast, tvalid, aresetn, tready, lane_types, any_reserved, size, records, record_count, joined, packed}
use Rattle.refusal.specs.Checks.{Check, check, first}
use Rattle.stream_spec.specs.Checks.{field_fault, reserved_fault, transfer_flags, cycle_flags, capture_most, transfer_checks, cycle_faults, cycle_checks, shape_checks, length_check, take_checks, room_check}
use Rattle.stream_spec.specs.Handshake.{r4, Finding, findings, transferred, handshakes, as_transfer, transfer_count, harvested}
use Rattle.stream_spec.specs.Answers.{judge_checks, unclean_check, harvest_refusal}
use Rattle.stream_spec.specs.Legal.{Octets}
use Rattle.stream_spec.specs.Walk.{Passed}
use Rattle.stream_spec.specs.Promises.{HarvestLegal, HarvestRepacks}
use Rattle.stream_spec.proofs.Bools.{and_left}
use Rattle.refusal.proofs.First.{first-none, none_first, append-none, append-passed}
use Rattle.stream_spec.proofs.Size.{size_pos}
use Rattle.stream_spec.proofs.Records.{Sized, length-pieces, length-joined, records-joined, records_sized}
use Rattle.stream_spec.proofs.Users.{users_behind, users_body}
use Rattle.stream_spec.proofs.Fields.{fields_of, of_fields}
use Rattle.stream_spec.proofs.RecordChecks.{each_none}
use Rattle.stream_spec.proofs.Legal.{bit-octet, bit-low, octets-append, octets-drop, EachOctets, pieces-octets, Faultless, of_faultless}
use Rattle.stream_spec.proofs.Passed.{checks-passed, passed-shape, fits-shapes, fits-length}
use Rattle.stream_spec.proofs.Findings.{none_here}

-- ---- what is known of each cycle of a take that harvest accepts

-- no bad field, and no reserved lane where R4 looks
abbrev Good : Shape → List (List ℕ) → Type 0
Good s [] = Unit {0}
Good s (c ∷ cs) = (field_fault cycle_flags s c ≡ false) × (r4 s c ≡ false) × Good s cs

good : (s : Shape) (b : Option (List ℕ)) (cs : List (List ℕ)) (k i : ℕ) → first (cycle_checks s k cs) ≡ None → first (findings s i b cs) ≡ None → Good s cs
good s b [] k i e f = tt
good s b (c ∷ cs) k i e f =
    let h = each_none (cycle_faults s) k c cs e in
    let field = first-none (check (field_fault cycle_flags s c) (Field k)) [] h.0 in
    let rules = none_here s b c cs i f in
    (field.0, rules.0 4, good s (Some c) cs (suc k) (suc i) h.1 rules.1)

unclean_none : (fs : List (Check Finding)) → first (map unclean_check fs) ≡ None → first fs ≡ None
unclean_none [] e = refl
unclean_none (f ∷ fs) e = let h = first-none (unclean_check f) (map unclean_check fs) e in none_first f fs h.0 (unclean_none fs h.1)

-- ---- one cycle that is harvested

-- octet 0 holds TLAST alone, and the other fields are as sampled
field-kept : (s : Shape) (c : List ℕ) → field_fault cycle_flags s c ≡ false → field_fault transfer_flags s (as_transfer c) ≡ false
field-kept s [] e =
    let k = fields_of cycle_flags s [] e in
    of_fields transfer_flags s (as_transfer [])
    (record {
      head = record { flags = omega arith; tdest = k.head.tdest; keep = k.head.keep; strb = k.head.strb };
      user = rw (users_behind s (as_transfer []), ← users_behind s []) k.user;
    })
field-kept s (f ∷ r) e =
    let k = fields_of cycle_flags s (f ∷ r) e in
    of_fields transfer_flags s (as_transfer (f ∷ r))
    (record {
      head = record { flags = bit-low (tlast (f ∷ r)); tdest = k.head.tdest; keep = k.head.keep; strb = k.head.strb };
      user = rw (users_body s (last_alone (tlast (f ∷ r))) f r) k.user;
    })

-- a transferred cycle has ARESETn and TVALID high, so R4 reads its lanes
r4-reads : (s : Shape) (c : List ℕ) → transferred c ≡ true → r4 s c ≡ false → any_reserved (lane_types s c) ≡ false
r4-reads s c t e = rw (and_left (aresetn c && tvalid c) (tready c) t) at e

reserved-kept : (s : Shape) (c : List ℕ) → transferred c ≡ true → r4 s c ≡ false → reserved_fault s (as_transfer c) ≡ false
reserved-kept s [] t e = r4-reads s [] t e
reserved-kept s (f ∷ r) t e = r4-reads s (f ∷ r) t e

octets-kept : (c : List ℕ) → Octets c → Octets (as_transfer c)
octets-kept c h = (bit-octet (tlast c), octets-drop 1 c h)

pub length-kept : (n : ℕ) (c : List ℕ) → 0 < n → length c ≡ n → length (as_transfer c) ≡ n
length-kept n [] h e = absurd (omega arith)
length-kept n (f ∷ r) h e = e

-- ---- all harvested cycles

-- what is written for these harvested cycles is fit for a legal stream
record Fit (s : Shape) (hs : List (List ℕ)) : Type 0 where
  sized : Sized (size s) (map as_transfer hs)
  faultless : Faultless s (map as_transfer hs)
  octets : Octets (joined (map as_transfer hs))

fit_more : (s : Shape) (c : List ℕ) (hs : List (List ℕ)) → length c ≡ size s → Octets c → field_fault cycle_flags s c ≡ false → r4 s c ≡ false
    → transferred c ≡ true → Fit s hs → Fit s (c ∷ hs)
fit_more s c hs n o f r t h =
    record {
      sized = (length-kept (size s) c (size_pos s) n, h.sized);
      faultless = (field-kept s c f, reserved-kept s c t r, h.faultless);
      octets = octets-append (as_transfer c) (joined (map as_transfer hs)) (octets-kept c o) h.octets;
    }

fit : (s : Shape) (cs : List (List ℕ)) → Sized (size s) cs → EachOctets cs → Good s cs → Fit s (handshakes cs)
fit s [] z o g = record { sized = tt; faultless = tt; octets = tt }
fit s (c ∷ cs) z o g = go (transferred c) refl (fit s cs z.1 o.1 g.2)
  where
    go : (b : Bool) → transferred c ≡ b → Fit s (handshakes cs) → Fit s (handshakes (c ∷ cs))
    go false e r = rw e r
    go true e r = rw e (fit_more s c (handshakes cs) z.0 o.0 g.0 g.1 e r)

fewer : (cs : List (List ℕ)) → length (handshakes cs) ≤ length cs
fewer [] = omega arith
fewer (c ∷ cs) = go (transferred c) refl (fewer cs)
  where
    go : (b : Bool) → transferred c ≡ b → length (handshakes cs) ≤ length cs → length (handshakes (c ∷ cs)) ≤ length (c ∷ cs)
    go false e h = rw e (omega arith)
    go true e h = rw e (omega arith)

-- ---- how much is harvested

pub kept_sized : (n : ℕ) (cs : List (List ℕ)) → 0 < n → Sized n cs → Sized n (map as_transfer (handshakes cs))
kept_sized n [] h z = tt
kept_sized n (c ∷ cs) h z = go (transferred c) refl (kept_sized n cs h z.1)
  where
    go : (t : Bool) → transferred c ≡ t → Sized n (map as_transfer (handshakes cs)) → Sized n (map as_transfer (handshakes (c ∷ cs)))
    go true e ih = rw e (length-kept n c h z.0, ih)
    go false e ih = rw e ih

module _ (s : Shape) (xs : List ℕ) where
  sized : Sized (size s) (map as_transfer (handshakes (records s xs)))
  sized = kept_sized (size s) (records s xs) (size_pos s) (records_sized s xs)

  pub harvested-count : length (records s (harvested s xs)) ≡ transfer_count s xs
  harvested-count = ap {B = ℕ} length (records-joined s (map as_transfer (handshakes (records s xs))) sized) ∙ length-map (handshakes (records s xs)) as_transfer

  pub harvested-long : length (harvested s xs) ≡ transfer_count s xs * size s
  harvested-long =
      length-joined (size s) (map as_transfer (handshakes (records s xs))) sized
      ∙ ap (λ (n : ℕ). n * size s) (length-map (handshakes (records s xs)) as_transfer)

  pub harvested-short : length (harvested s xs) ≤ length xs
  harvested-short =
      omega (
        arith,
        harvested-long,
        mul-le-mul_right (size s) (fewer (records s xs)),
        ap (λ (n : ℕ). n * size s) (length-pieces (size s) (record_count s xs) xs),
        div-mul-le_self (length xs) (size s),
      )

-- ---- harvest

-- what the checks of harvest let through
harvest_good : (s : Shape) (xs : List ℕ) (room : ℕ) → harvest_refusal s xs room ≡ None → Passed s xs × Good s (records s xs)
harvest_good s xs room e =
    let rules = map unclean_check (findings s 0 None (records s xs)) in
    let roomy = room_check (harvested s xs) room ∷ [] in
    let j = append-none (judge_checks s xs) (rules ++ roomy) e in
    let t = append-none (take_checks s xs) (cycle_checks s 0 (records s xs)) j.0 in
    let u = append-none rules roomy j.1 in
    (checks-passed s xs t.0, good s None (records s xs) 0 0 t.1 (unclean_none (findings s 0 None (records s xs)) u.0))

pub harvest_legal : HarvestLegal
harvest_legal s xs room o e =
    let g = harvest_good s xs room e in
    let hs = handshakes (records s xs) in
    let f = fit s (records s xs) (records_sized s xs) (pieces-octets (record_count s xs) (size s) xs o) g.1 in (
      record {
        width_low = g.0.low;
        width_high = g.0.high;
        user_high = g.0.user;
        octets = f.octets;
        whole = rw (harvested-long s xs) (mul-mod_left (transfer_count s xs) (size s));
        faultless = rw (records-joined s (map as_transfer hs) f.sized) (of_faultless s 0 (map as_transfer hs) f.faultless);
      },
      harvested-short s xs,
    )

pub harvest_repacks : HarvestRepacks
harvest_repacks s xs room v lent o e w =
    let g = harvest_good s xs room e in
    let l = harvest_legal s xs room o e in
    let ys = harvested s xs in
    let short : length (harvested s xs) ≤ capture_most = le_trans l.1 g.0.short in
    let shape = passed-shape s xs g.0 in
    let later = transfer_checks s 0 (records s ys) ++ room_check (packed s v ys) lent ∷ [] in
    append-passed (shape_checks s (v ∷ [])) (length_check s ys ∷ later) (fits-shapes s v shape (record { low = w.0; high = w.1 }))
    ∙ rw (fits-length s ys short l.0.whole)
    (append-passed (transfer_checks s 0 (records s ys)) (room_check (packed s v ys) lent ∷ []) l.0.faultless)
