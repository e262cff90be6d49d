-- "may be longer than a take": there are legal streams of any number of records; demand 3 speaks of them, in calls and in parts, and so
-- does T-07 of the stream that a packed form is compared with. The promise of archived files does not: slices that are longer than a
-- take are refused with 2. Assumes nothing.
use Rattle.std.specs.Prelude.{Option, None, Some, slice_get}
use Rattle.std.specs.List.{last_or}
use mathlib.Core.Path.{◌≡◌, refl, sym, ap, ap₂, ◌∙◌}
use mathlib.Core.Bool.{Bool, true, false, cond}
use mathlib.Core.List.{List, [], ◌∷◌, ◌++◌}
use Prim.Native.Nat.{ℕ, zero, suc, ◌+◌, ◌*◌, ◌/◌, ◌≤◌, ◌<◌}
use native.Mathlib.Omega.{arith}
use lib.Dec.{ltb, lit≤}
use borrow.Author.Tests.{lt-ltb}
use lib.ListN.{length, replicate, length-replicate}
use Rattle.refusal.specs.declared.Refusal.{Refusal}
use Rattle.refusal.specs.declared.Refusal.TheVariants.{Length, Room}
use Rattle.stream_spec.specs.declared.Shape.{Shape}
use Rattle.stream_spec.specs.Items.{Transfer, Item, items}
use Rattle.stream_spec.specs.Packed.{apart, parted, fitted}
use Rattle.stream_spec.specs.Layout.{Kept, size, octets, records, record_count, stream_items, packed_transfers, packed, sliced}
use Rattle.stream_spec.specs.Checks.{capture_most, length_check, transfer_checks, room_check}
use Rattle.stream_spec.specs.Answers.{written, repack_refusal, repack_answer}
use Rattle.stream_spec.specs.Legal.{Legal}
use Rattle.stream_spec.specs.Promises.{Width}
use Rattle.stream_spec.specs.Demand3.{CallsKeep, Part, whole, AllAccepted, Divides}
use Rattle.stream_spec.specs.Tables.{lanes, stream, pair, LegalLong, part, ended}
use Rattle.stream_spec.specs.Witnesses.{mixed_calls, transfer, packed_ones, ones_items, ones_octets, Behind, many_parts, ManyJoin, ArchivesOf}
use Rattle.stream_spec.proofs.Passed.{WidthFits, ShapeFits, fits_width, shapes_left}
use Rattle.stream_spec.proofs.Repack.{legal_repacks}
use Rattle.stream_spec.proofs.Pack.{Wide, length-fitted}
use Rattle.stream_spec.proofs.Records.{length-pieces, length-octets, transfers_back}
use Rattle.stream_spec.proofs.Users.{Tagged}
use Rattle.stream_spec.proofs.Each.{EachLane}
use Rattle.stream_spec.proofs.Legal.{PairFits, ByteFits, Sound, transfers-legal}
use Rattle.stream_spec.proofs.Promises.{no_shorter, lane_keeping, archives_repack}
use Rattle.stream_spec.proofs.Demand3.{calls, parts}
use Rattle.stream_spec.proofs.Tables.{width_tested}

-- ---- n transfers that are alike

many-wide : (w n : ℕ) (t : Transfer Kept) → length t.lanes ≡ w → Wide w (replicate n t)
many-wide w zero t h = tt
many-wide w (suc n) t h = (h, many-wide w n t h)

many-sound : (m n : ℕ) (t : Transfer Kept) → PairFits t.pair → EachLane PairFits (ByteFits m) t.lanes → Sound m (replicate n t)
many-sound m zero t p l = tt
many-sound m (suc n) t p l = (p, l, many-sound m n t p l)

many-length : (s : Shape) (n : ℕ) (t : Transfer Kept) → length t.lanes ≡ s.width → length (octets s.user (replicate n t)) ≡ n * size s
many-length s n t h = length-octets s (replicate n t) (many-wide s.width n t h) ∙ ap (λ (k : ℕ). k * size s) (length-replicate n t)

-- ---- legal streams of any number of records: nothing is in them

abbrev nowhere : ℕ → Transfer Kept
nowhere w = record { pair = pair 0 0; lanes = fitted w []; last = false }

no-lane : (m w : ℕ) → EachLane PairFits (ByteFits m) (fitted w [])
no-lane m zero = tt
no-lane m (suc w) = no-lane m w

pub legal_long : LegalLong
legal_long s n w u =
    let t = nowhere s.width in
    let wide = length-fitted s.width [] in
    record {
      octets = octets s.user (replicate n t);
      legal =
          transfers-legal s (replicate n t) (record { low = w.0; high = w.1; user = u }) (many-wide s.width n t wide)
          (many-sound s.user n t (record { tid = omega arith; tdest = omega arith }) (no-lane s.user s.width));
      count = many-length s n t wide;
    }

pub longer : (xs : List ℕ) × Legal (lanes 1) xs × (capture_most < length xs)
unfolding size
longer = let l = legal_long (lanes 1) 8193 ((width_tested 1).1 refl) (lit≤ tt) in (l.octets, l.legal, omega (arith, l.count))

-- calls on a first stream that is longer than a take
pub long_calls : CallsKeep (stream 1 longer.0) mixed_calls
long_calls = calls (stream 1 longer.0) longer.1 mixed_calls

-- ---- T-07: another stream that is longer than a take

abbrev behind_many : ℕ → List (Transfer Kept)
behind_many zero = packed_ones
behind_many (suc k) = nowhere 1 ∷ behind_many k

behind-wide : (k : ℕ) → Wide 1 (behind_many k)
behind-wide zero = (refl, (refl, (refl, tt)))
behind-wide (suc k) = (refl, behind-wide k)

behind-tagged : (k : ℕ) → Tagged 0 (behind_many k)
behind-tagged zero = (tt, (omega arith, tt), (tt, (omega arith, tt), (tt, tt, tt)))
behind-tagged (suc k) = (tt, tt, behind-tagged k)

behind-sound : (k : ℕ) → Sound 0 (behind_many k)
behind-sound zero =
    let fits : PairFits (pair 1 2) = record { tid = omega arith; tdest = omega arith } in
    (fits, ((omega arith, omega arith), tt), (fits, (omega arith, tt), (fits, tt, tt)))
behind-sound (suc k) = (record { tid = omega arith; tdest = omega arith }, tt, behind-sound k)

behind-items : (k : ℕ) → items (behind_many k) ≡ ones_items
behind-items zero = refl
behind-items (suc k) = behind-items k

behind-length : (k : ℕ) → length (behind_many k) ≡ k + 3
behind-length zero = refl
behind-length (suc k) = omega (arith, behind-length k)

pub behind : (k : ℕ) → Behind k
unfolding size repack_answer
behind k =
    let ts = behind_many k in
    let legal = transfers-legal (lanes 1) ts (record { low = lit≤ tt; high = lit≤ tt; user = lit≤ tt }) (behind-wide k) (behind-sound k) in
    let same = ap items (transfers_back (lanes 1) ts (behind-wide k) (behind-tagged k)) ∙ behind-items k in
    record {
      other = octets 0 ts;
      legal = legal;
      same = same;
      octets = length-octets (lanes 1) ts (behind-wide k) ∙ ap (λ (n : ℕ). n * 8) (behind-length k);
      least = no_shorter (lanes 1) 1 ones_octets 24 3 refl (octets 0 ts) legal same;
    }

-- ---- any number of parts

abbrev end_only : Transfer Kept
end_only = transfer (None ∷ []) true

many-octets : (n : ℕ) → whole (many_parts n) ≡ octets 0 (replicate n end_only)
many-octets zero = refl
many-octets (suc n) = ap (λ (xs : List ℕ). ended ++ xs) (many-octets n)

many-tagged : (n : ℕ) → Tagged 0 (replicate n end_only)
many-tagged zero = tt
many-tagged (suc n) = (tt, tt, many-tagged n)

many-accepted : (n : ℕ) → AllAccepted (lanes 1) 2 (many_parts n) (replicate {A = ℕ} n 1)
unfolding size repack_answer
many-accepted zero = refl
many-accepted (suc n) = ap {B = List (Option ℕ)} (λ (l : List (Option ℕ)). Some 1 ∷ l) (many-accepted n)

many-items : (n : ℕ) → stream_items (lanes 1) (whole (many_parts n)) ≡ items (replicate n end_only)
many-items n =
    ap (stream_items (lanes 1)) (many-octets n) ∙ ap items (transfers_back (lanes 1) (replicate n end_only) (many-wide 1 n end_only refl) (many-tagged n))

-- the parts before a division are such parts too, and the last item of their records, where there is one, is an end
before-many : (n : ℕ) (before after : List Part) → before ++ after ≡ many_parts n → before ≡ many_parts (length before)
before-many n [] after e = refl
before-many zero (b ∷ before) after e = let z : ◌≡◌ {A = ℕ} 0 1 = cc in absurd (omega arith)
before-many (suc n) (b ∷ before) after e =
    let same : b ≡ part ended = cc in
    let others : before ++ after ≡ many_parts n = cc in
    ap₂ {C = List Part} (λ (p : Part) (l : List Part). p ∷ l) same (before-many n before after others)

many-apart : (n : ℕ) (j : Option (Item Kept)) → apart (last_or None (items (replicate n end_only))) j ≡ true
many-apart zero j = refl
many-apart (suc zero) None = refl
many-apart (suc zero) (Some j) = refl
many-apart (suc (suc n)) j = many-apart (suc n) j

many-divides : (n : ℕ) → Divides (lanes 1) (many_parts n)
many-divides n before after e =
    let rest = stream_items (lanes 1) (whole after) in
    ap (λ (l : List Part). parted (stream_items (lanes 1) (whole l)) rest) (before-many n before after e)
    ∙ ap (λ (is : List (Item Kept)). parted is rest) (many-items (length before)) ∙ many-apart (length before) (slice_get rest 0)

pub many_join : (n : ℕ) → ManyJoin n
unfolding size
many_join n =
    let ts = replicate n end_only in
    let sound = many-sound 0 n end_only (record { tid = omega arith; tdest = omega arith }) tt in
    let legal = transfers-legal (lanes 1) ts (record { low = lit≤ tt; high = lit≤ tt; user = lit≤ tt }) (many-wide 1 n end_only refl) sound in
    record {
      joins = parts (lanes 1) 2 (many_parts n) (replicate n 1) (rw (many-octets n) legal) (many-accepted n) (many-divides n);
      octets = ap length (many-octets n) ∙ many-length (lanes 1) n end_only refl;
    }

-- ---- archived files: slices that are longer than a take

pub short_archives : ArchivesOf (λ (xs ys : List ℕ). length ys ≤ capture_most)
short_archives = archives_repack

-- such slices are refused with 2, and a legal stream that is as short as a take never is
no_length : (b : Bool) (n m : ℕ) → written (Some Length) n ≡ written (cond b (Some Room) None) m → ⊥
no_length true n m e = let z : ◌≡◌ {A = ℕ} 0 1 = cc in absurd (omega arith)
no_length false n m e = let z : ◌≡◌ {A = ℕ} 0 1 = cc in absurd (omega arith)

never_alike : (s t : Shape) (u : ℕ) (xs ys : List ℕ) (room : ℕ) → WidthFits u → Legal s xs → length xs ≤ capture_most → ShapeFits t → capture_most < length ys
    → repack_answer t u ys room ≡ repack_answer s u xs room → ⊥
unfolding repack_answer
never_alike s t u xs ys room w l short shape long e =
    let later = transfer_checks t 0 (records t ys) ++ room_check (packed t u ys) room ∷ [] in
    let two : repack_refusal t u ys room ≡ Some Length =
    shapes_left t u (length_check t ys ∷ later) shape ∙ rw (fits_width u w, lt-ltb capture_most (length ys) long) refl in
    let other : repack_refusal s u xs room ≡ cond (ltb room (length (packed s u xs))) (Some Room) None =
    legal_repacks s u xs room l short ∙ rw (fits_width u w) refl in
    no_length (ltb room (length (packed s u xs))) (length (packed_transfers t u ys)) (length (packed_transfers s u xs))
    (sym (ap (λ (o : Option Refusal). written o (length (packed_transfers t u ys))) two) ∙ e ∙ ap (λ (o : Option Refusal). written o (length (packed_transfers s u xs))) other)

-- 2,849 records of 16 lanes are 65,527 octets, a take; their slices of one lane are 364,672
pub not_of_any_length : ArchivesOf (λ (xs ys : List ℕ). length xs ≤ capture_most) → ⊥
unfolding size
not_of_any_length alike =
    let l = legal_long (lanes 16) 2849 ((width_tested 16).1 refl) (lit≤ tt) in
    let one : Width 1 = (width_tested 1).1 refl in
    let short : length l.octets ≤ capture_most = omega (arith, l.count) in
    let k = lane_keeping (lanes 16) 1 l.octets one refl l.legal in
    let many : length (records (lanes 16) l.octets) ≡ 2849 =
    length-pieces 23 (record_count (lanes 16) l.octets) l.octets ∙ ap (λ (n : ℕ). n / 23) l.count in
    never_alike (lanes 16) (lanes 1) 1 l.octets (sliced (lanes 16) 1 l.octets) 0 (record { low = lit≤ tt; high = lit≤ tt }) l.legal short
    (record { low = lit≤ tt; high = lit≤ tt; user = lit≤ tt }) (omega (arith, k.long, many))
    (alike (lanes 16) 1 l.octets one refl l.legal short short 1 []).answers
