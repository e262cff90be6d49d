-- The call's answer, test by test, and the pass over two lists that have passed them all. Assumes nothing.
use Rattle.std.specs.Prelude.{Option, None, Some, Result, Ok, Err, IfOk}
use Rattle.std.specs.Option.{option_map}
use Rattle.std.specs.Result.{result_ok}
use mathlib.Core.Bool.{false}
use mathlib.Core.List.{List, [], ◌∷◌}
use mathlib.Core.Path.{◌≡◌, refl, sym, ap, ap₂, ◌∙◌}
use Prim.Native.Nat.{ℕ, ◌+◌, ◌/◌, ◌%◌, ◌≤◌, ◌<◌}
use native.Mathlib.Nat.{mul-div_cancel}
use native.Mathlib.Omega.{arith}
use borrow.Author.Tests.{lt-ltb}
use lib.ListN.{length}
use Rattle.refusal.specs.Checks.{Check, first}
use Rattle.refusal.specs.declared.Refusal.{Refusal}
use Rattle.refusal.specs.declared.Refusal.TheVariants.{Room}
use Rattle.refusal.proofs.First.{first-none, append-none, append-found, append-passed}
use Rattle.stream_spec.specs.declared.Shape.{Shape}
use Rattle.stream_spec.specs.Layout.{size, size_least, size_most, records}
use Rattle.stream_spec.specs.Checks.{shape_checks, length_check, take_checks}
use Rattle.stream_spec.specs.Memory.{in_front}
use Rattle.stream_spec.proofs.Passed.{checks-passed, take-passed, passed-shape}
use Rattle.stream_spec.proofs.Size.{size_pos, size-least, size-most}
use Rattle.merge_spec.specs.declared.PortRefusal.{PortRefusal}
use Rattle.merge_spec.specs.Merge.{merged_records, merged}
use Rattle.merge_spec.specs.Answers.{named, naming, port_checks, merge_refusal, PortsMerged}
use Rattle.merge_spec.proofs.Refusals.{clash, named_by, naming-first, naming-none, second, third, fourth, roomed, after-take, after-other, after-firsts, after_seconds, after-all, merged-refused, merged-written}
use Rattle.merge_spec.proofs.Faults.{faultless-low}
use Rattle.merge_spec.proofs.Merge.{merged-long, merged_both}
use Rattle.stream_record.specs.Taken.{IsTakeOf}
use Rattle.stream_merge.specs.declared.Turn.{Turn}
use Rattle.stream_record.specs.declared.take.Take.{Take}
use Rattle.stream_merge.specs.Merging.{IsTurn, ListsFit}
use Rattle.stream_merge.proofs.Pass.{Merging, merging_start, merging_end}

-- ---- the pass over both lists

module _ (take0 take1 : Take) (out : List ℕ) (fits : ListsFit take0 take1 out) (z : ℕ) (q : z ≡ size take0.shape) where
  abbrev xs : List ℕ
  xs = take0.octets.now

  abbrev ys : List ℕ
  ys = take1.octets.now

  pub pos : 0 < z
  pos = rw q (size_pos take0.shape)

  pub least : size_least ≤ z
  least = rw q (size-least take0.shape take0.passed.low)

  pub most : z ≤ size_most
  most = rw q (size-most take0.shape take0.passed.high take0.passed.user)

  other-whole : length ys % size take0.shape ≡ 0
  other-whole = rw fits.same at take1.passed.whole

  other_low : first (port_checks take0.shape ys) ≡ None
  other_low = rw fits.same at fits.sound

  pub lists-start : (t : Turn) → IsTurn false xs ys t → Merging z xs ys out out t 0
  lists-start t i =
      rw q
      (merging_start (size take0.shape) (size_pos take0.shape) xs ys out t i take0.passed.whole other-whole
      (faultless-low take0.shape 0 (records take0.shape ys) other_low).1
      (omega (arith, merged_both take0.shape xs ys take0.passed.whole other-whole, fits.room)))

  pub lists-end : (after : List ℕ) (t : Turn) (to : ℕ) → Merging z xs ys out after t to → length xs + length ys ≤ to
      → after ≡ in_front (merged take0.shape xs ys) out
  lists-end after t to m h = rw q at (merging_end z pos xs ys out after t to m h)

-- ---- the tests

-- a test's answer, as the code names the port in it, is the first of the checks that name the port
named_same : (port : ℕ) (o : Option Refusal) → named_by port o ≡ option_map (named port) o
named_same port None = refl
named_same port (Some r) = refl

told : (port : ℕ) (cs : List (Check Refusal)) (p : Option PortRefusal) (o : Option Refusal) → o ≡ first cs → p ≡ option_map (named port) o
    → first (naming port cs) ≡ p
told port cs p o f e = naming-first port cs ∙ ap (named_by port) (sym f) ∙ named_same port o ∙ sym e

-- and a take is of what was given
pub taken : (s : Shape) (xs : List ℕ) (r : Result Take Refusal) (t : Take) → Some t ≡ result_ok r → IfOk r (IsTakeOf s xs) → IsTakeOf s xs t
taken s xs (Ok x) t e h = let same : t ≡ x = cc in rw same h
taken s xs (Err f) t e h = clash cc

-- o0 and o1 are what the tests of the takes refuse, o2 and o3 what those of their records do
module _ (s : Shape) (xs ys before : List ℕ) where
  refused : (p : PortRefusal) → merge_refusal s xs ys (length before) ≡ Some p → PortsMerged s xs ys before before (Err p)
  refused p e = merged-refused s xs ys before p.port p.refusal e

  module _ (o0 : Option Refusal) (f0 : o0 ≡ first (take_checks s xs)) where
    pub bad-take : (p : PortRefusal) → Some p ≡ option_map (named 0) o0 → PortsMerged s xs ys before before (Err p)
    bad-take p e =
        refused p (append-found (naming 0 (take_checks s xs)) (second s xs ys (length before)) p (told 0 (take_checks s xs) (Some p) o0 f0 e))

    module _ (e0 : None ≡ option_map (named 0) o0) (o1 : Option Refusal) (f1 : o1 ≡ first (take_checks s ys)) where
      take : first (take_checks s xs) ≡ None
      take = naming-none 0 (take_checks s xs) (told 0 (take_checks s xs) None o0 f0 e0)

      -- the shape has passed, so that the other take is tested for its length alone
      length-only : o1 ≡ first (length_check s ys ∷ [])
      length-only =
          f1 ∙ append-passed (shape_checks s []) (length_check s ys ∷ []) (append-none (shape_checks s []) (length_check s xs ∷ []) take).0

      pub bad-other : (p : PortRefusal) → Some p ≡ option_map (named 1) o1 → PortsMerged s xs ys before before (Err p)
      bad-other p e =
          refused p
          (after-take s xs ys (length before) take
          ∙ append-found (naming 1 (length_check s ys ∷ [])) (third s xs ys (length before)) p (told 1 (length_check s ys ∷ []) (Some p) o1 length-only e))

      module _ (e1 : None ≡ option_map (named 1) o1) (o2 : Option Refusal) (f2 : o2 ≡ first (port_checks s xs)) where
        other : first (length_check s ys ∷ []) ≡ None
        other = naming-none 1 (length_check s ys ∷ []) (told 1 (length_check s ys ∷ []) None o1 length-only e1)

        pub bad-first : (p : PortRefusal) → Some p ≡ option_map (named 0) o2 → PortsMerged s xs ys before before (Err p)
        bad-first p e =
            refused p
            (after-other s xs ys (length before) take other
            ∙ append-found (naming 0 (port_checks s xs)) (fourth s xs ys (length before)) p (told 0 (port_checks s xs) (Some p) o2 f2 e))

        -- as long as both lists together, in octets and in records
        both_long : length (merged s xs ys) ≡ length xs + length ys
        both_long =
            let passed = checks-passed s xs take in
            merged_both s xs ys passed.whole (take-passed s ys (passed-shape s xs passed) (first-none (length_check s ys) [] other).0).whole

        module _ (e2 : None ≡ option_map (named 0) o2) (o3 : Option Refusal) (f3 : o3 ≡ first (port_checks s ys)) where
          firsts : first (port_checks s xs) ≡ None
          firsts = naming-none 0 (port_checks s xs) (told 0 (port_checks s xs) None o2 f2 e2)

          pub bad-second : (p : PortRefusal) → Some p ≡ option_map (named 1) o3 → PortsMerged s xs ys before before (Err p)
          bad-second p e =
              refused p
              (after-firsts s xs ys (length before) take other firsts
              ∙ append-found (naming 1 (port_checks s ys)) (roomed s xs ys (length before)) p (told 1 (port_checks s ys) (Some p) o3 f3 e))

          module _ (e3 : None ≡ option_map (named 1) o3) where
            pub seconds : first (port_checks s ys) ≡ None
            seconds = naming-none 1 (port_checks s ys) (told 1 (port_checks s ys) None o3 f3 e3)

            pub no_room : length before < length xs + length ys → PortsMerged s xs ys before before (Err (named 0 Room))
            no_room h =
                refused (named 0 Room)
                (after_seconds s xs ys (length before) take other firsts seconds
                ∙ rw (lt-ltb (length before) (length (merged s xs ys)) (omega (arith, both_long))) refl)

            pub all-written : length xs + length ys ≤ length before → (z : ℕ) → z ≡ size s → (after : List ℕ) → after ≡ in_front (merged s xs ys) before
                → PortsMerged s xs ys before after (Ok ((length xs + length ys) / z))
            all-written h z q after e =
                let counted : (length xs + length ys) / z ≡ length (merged_records s xs ys) =
                ap₂ (λ (a b : ℕ). a / b) (sym both_long ∙ merged-long s xs ys) q ∙ mul-div_cancel (length (merged_records s xs ys)) (size_pos s) in
                merged-written s xs ys before
                (after-all s xs ys (length before) take other firsts seconds (omega (arith, both_long)))
                ((length xs + length ys) / z) counted after e
