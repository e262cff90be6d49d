-- The ladder of downsize's refusals, a law for each way the code returns, and the number of slices. Assumes nothing.
use Rattle.std.specs.Prelude.{None, Some, Ok, Err}
use mathlib.Core.Path.{◌≡◌, refl, sym, ap, ◌∙◌}
use mathlib.Core.Bool.{false, not}
use mathlib.Core.List.{List, [], ◌∷◌, ◌++◌}
use Prim.Native.Nat.{ℕ, ◌-◌, ◌*◌, ◌/◌, ◌%◌, ◌≤◌, ◌<◌}
use native.Mathlib.Nat.{suc-mul, zero-mul, mul-le-mul, div-le_self}
use native.Mathlib.Omega.{arith}
use borrow.Author.Tests.{lt-ltb, le-ltb, eq-eqb, ne_eqb, eqb-true, not-false}
use lib.Dec.{eqb}
use lib.ListN.{length, length-append, length-map}
use Rattle.refusal.specs.declared.Refusal.{Refusal}
use Rattle.refusal.specs.declared.Refusal.TheVariants.{Room, Ratio}
use Rattle.stream_spec.specs.declared.Shape.{Shape}
use Rattle.stream_spec.specs.Items.{Transfer}
use Rattle.stream_spec.specs.Packed.{slice_transfer, slices}
use Rattle.stream_spec.specs.Layout.{width_most, size, size_most, at_width, Kept, transfer_of, record_count, records, transfers, sliced_transfers, sliced}
use Rattle.refusal.specs.Checks.{Check, first}
use Rattle.stream_spec.specs.Checks.{capture_most, shape_checks, ratio_check, length_check, transfer_checks, room_check}
use Rattle.stream_spec.specs.Answers.{downsize_refusal, downsize_answer, downsize_after, Downsized}
use Rattle.refusal.proofs.First.{first-none, append-found, append-passed}
use Rattle.stream_spec.proofs.Pack.{length-spread, wide-slices}
use Rattle.stream_spec.proofs.Records.{length-octets, length-pieces}
use Rattle.stream_spec.specs.Memory.{in_front}
use Rattle.stream_spec.specs.Walk.{Passed}
use Rattle.stream_spec.proofs.Passed.{shapes_fit, take-passed}
use Rattle.stream_spec.proofs.Size.{size-most}
use Rattle.stream_downsize.specs.Slices.{Cuts, Tested, TakeFits}
use Rattle.stream_downsize.proofs.Slices.{slices_more}

-- ---- what the tests let through

-- the tests in front, as the code asks them
pub tested_by : (s : Shape) (v : ℕ) (xs : List ℕ) → None ≡ first (shape_checks s (v ∷ [])) → s.width % v ≡ 0 → None ≡ first (length_check s xs ∷ []) → Tested s v xs
tested_by s v xs e d l =
    record { shapes = sym e; ratio = ap not (eq-eqb (s.width % v) 0 d); length = (first-none (length_check s xs) [] (sym l)).0 }

ratio-fits : (s : Shape) (v : ℕ) → (ratio_check s v).found ≡ false → s.width % v ≡ 0
ratio-fits s v e = eqb-true (s.width % v) 0 (not-false (eqb (s.width % v) 0) e)

module _ (s : Shape) (v : ℕ) (xs : List ℕ) (t : Tested s v xs) where
  pub cuts_of : Cuts s (at_width s v)
  cuts_of =
      let f = shapes_fit s v t.shapes in
      record { high = f.0.high; low = f.0.low; small = f.1.high; Some = f.1.low; whole = ratio-fits s v t.ratio; user = f.0.user; same = refl }

  pub passed_of : Passed s xs
  passed_of = take-passed s xs (shapes_fit s v t.shapes).0 t.length

-- ---- how many slices there are

slices-count : (w v : ℕ) → w % v ≡ 0 → 0 < w → (ts : List (Transfer Kept)) → length (slices w v ts) ≡ length ts * (w / v)
slices-count w v d k [] = sym (zero-mul (w / v))
slices-count w v d k (t ∷ ts) =
    length-append (slice_transfer w v t) (slices w v ts)
    ∙ rw (length-spread (w / v - 1) v t.pair t.lanes t.last, slices_more w v d k, slices-count w v d k ts)
    (omega (arith, suc-mul (length ts) (w / v)))

module _ (s : Shape) (v : ℕ) (xs : List ℕ) (c : Cuts s (at_width s v)) (z : ℕ) (q : z ≡ size s) where
  sliced-count : length (sliced_transfers s v xs) ≡ length xs / z * (s.width / v)
  sliced-count =
      slices-count s.width v c.whole c.low (transfers s xs)
      ∙ ap (λ (n : ℕ). n * (s.width / v)) (length-map (records s xs) (transfer_of s) ∙ length-pieces (size s) (record_count s xs) xs)
      ∙ rw q refl

  sliced-long : (y : ℕ) → y ≡ size (at_width s v) → length (sliced s v xs) ≡ length xs / z * (s.width / v) * y
  sliced-long y e =
      length-octets (at_width s v) (sliced_transfers s v xs) (wide-slices s.width v (transfers s xs))
      ∙ rw (sliced-count, e) refl

  -- at most as many records as a take has octets, of at most 16 slices of at most 31 octets
  count_fits : length xs ≤ capture_most → length xs / z * (s.width / v) ≤ capture_most * width_most
  count_fits l =
      let few : length xs / z ≤ capture_most = omega (arith, div-le_self (length xs) z) in
      let parts : s.width / v ≤ width_most = omega (arith, div-le_self s.width v, c.high) in
      mul-le-mul few parts

  pub product_fits : (y : ℕ) → y ≡ size (at_width s v) → length xs ≤ capture_most → length xs / z * (s.width / v) * y ≤ capture_most * width_most * size_most
  product_fits y e l =
      let short : y ≤ size_most = omega (arith, size-most (at_width s v) c.small c.user) in
      mul-le-mul (count_fits l) short

-- ---- the answers

module _ (s : Shape) (v : ℕ) (xs out : List ℕ) where
  refused : (f : Refusal) → downsize_refusal s v xs (length out) ≡ Some f → Downsized s v xs out out (Err f)
  unfolding downsize_answer downsize_after
  refused f e = record { is = rw e refl; shows = rw e refl; leaves = rw e refl }

  accepted : (n : ℕ) (after : List ℕ) → downsize_refusal s v xs (length out) ≡ None → n ≡ length (sliced_transfers s v xs)
      → after ≡ in_front (sliced s v xs) out → Downsized s v xs out after (Ok n)
  unfolding downsize_answer downsize_after
  accepted n after e f g = record { is = rw (e, f) refl; shows = rw (e, f) refl; leaves = rw e g }

  -- the checks of the records and of the room, of the length before them, and of the ratio before that
  abbrev last-checks : List (Check Refusal)
  last-checks = transfer_checks s 0 (records s xs) ++ room_check (sliced s v xs) (length out) ∷ []

  abbrev later-checks : List (Check Refusal)
  later-checks = ratio_check s v ∷ length_check s xs ∷ last-checks

  pub bad-shapes : (f : Refusal) → Some f ≡ first (shape_checks s (v ∷ [])) → Downsized s v xs out out (Err f)
  bad-shapes f h = refused f (append-found (shape_checks s (v ∷ [])) later-checks f (sym h))

  module _ (w : None ≡ first (shape_checks s (v ∷ []))) where
    behind-shapes : downsize_refusal s v xs (length out) ≡ first later-checks
    behind-shapes = append-passed (shape_checks s (v ∷ [])) later-checks (sym w)

    pub bad-ratio : (s.width % v ≡ 0 → ⊥) → Downsized s v xs out out (Err Ratio)
    bad-ratio h = refused Ratio (behind-shapes ∙ rw (ne_eqb (s.width % v) 0 h) refl)

    pub bad-length : s.width % v ≡ 0 → (f : Refusal) → Some f ≡ first (length_check s xs ∷ []) → Downsized s v xs out out (Err f)
    bad-length d f h =
        refused f (behind-shapes ∙ rw (eq-eqb (s.width % v) 0 d) (append-found (length_check s xs ∷ []) last-checks f (sym h)))

  module _ (t : Tested s v xs) where
    ladder : downsize_refusal s v xs (length out) ≡ first last-checks
    ladder = behind-shapes (sym t.shapes) ∙ rw (t.ratio, t.length) refl

    -- a record's fault
    pub bad_record : (f : Refusal) → Some f ≡ first (transfer_checks s 0 (records s xs)) → Downsized s v xs out out (Err f)
    bad_record f h =
        refused f (ladder ∙ append-found (transfer_checks s 0 (records s xs)) (room_check (sliced s v xs) (length out) ∷ []) f (sym h))

    -- no fault: the code has the sizes of the records in z and y
    module _ (h : None ≡ first (transfer_checks s 0 (records s xs))) (z : ℕ) (q : z ≡ size s) (y : ℕ) (e : y ≡ size (at_width s v)) where
      abbrev count : ℕ
      count = length xs / z * (s.width / v)

      room : downsize_refusal s v xs (length out) ≡ first (room_check (sliced s v xs) (length out) ∷ [])
      room = ladder ∙ append-passed (transfer_checks s 0 (records s xs)) (room_check (sliced s v xs) (length out) ∷ []) (sym h)

      long : length (sliced s v xs) ≡ count * y
      long = sliced-long s v xs (cuts_of s v xs t) z q y e

      pub no_room : length out < count * y → Downsized s v xs out out (Err Room)
      no_room k =
          let short : length out < length (sliced s v xs) = omega (arith, long) in
          refused Room (room ∙ rw (lt-ltb (length out) (length (sliced s v xs)) short) refl)

      pub fits-take : count * y ≤ length out → TakeFits s (at_width s v) xs out
      fits-take k = record { cuts = cuts_of s v xs t; passed = passed_of s v xs t; faultless = sym h; room = omega (arith, long) }

      pub all-written : count * y ≤ length out → (after : List ℕ) → after ≡ in_front (sliced s v xs) out → Downsized s v xs out after (Ok count)
      all-written k after g =
          let fits : length (sliced s v xs) ≤ length out = omega (arith, long) in
          accepted count after (room ∙ rw (le-ltb (length out) (length (sliced s v xs)) fits) refl) (sym (sliced-count s v xs (cuts_of s v xs t) z q)) g
