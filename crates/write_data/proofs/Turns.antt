-- The two passes over a take, turn by turn: the beats left decide, and a turn takes one off them. Assumes nothing.
use Rattle.std.specs.Prelude.{Option, None, Some, Ok, Err}
use mathlib.Core.Bool.{Bool, true, false}
use mathlib.Core.List.{List, [], ◌∷◌, ◌++◌, append_assoc}
use mathlib.Core.Path.{◌≡◌, refl, sym, ap, ap₂, subst, ◌∙◌}
use Prim.Native.Nat.{ℕ, suc, ◌+◌, ◌/◌, ◌%◌, ◌≤◌, ◌<◌}
use native.Mathlib.Nat.{add-zero, add-suc, suc-add, add_assoc, suc-mul, mod-eq_of_lt, mul-div_cancel, mul-le-mul_left}
use native.Mathlib.Numerals.{add-one}
use native.Mathlib.Omega.{arith}
use borrow.Author.Tests.{lt-ltb, le-ltb}
use lib.ListN.{length, take, drop, length-append}
use lib.Seq.{take_at, drop_at}
use Rattle.refusal.specs.declared.Refusal.TheVariants.{Field}
use Rattle.refusal.specs.Checks.{first}
use Rattle.refusal.proofs.First.{cond-none, append-found, append-passed}
use Rattle.stream_spec.specs.Checks.{each}
use Rattle.stream_spec.proofs.RecordChecks.{each-found, each-passed, each_none}
use Rattle.stream_spec.proofs.Records.{FirstPiece, first_piece}
use Rattle.stream_spec.proofs.Walk.{no_pieces}
use Rattle.burst_spec.specs.declared.Burst.{Burst}
use Rattle.burst_spec.specs.Address.{beats}
use Rattle.burst_spec.specs.Answers.{judgement_for}
use Rattle.burst_spec.specs.Checks.{bus_most, bus_allowed}
use Rattle.write_data_spec.specs.declared.WriteVerdict.TheVariants.{Clean, Broken}
use Rattle.write_data_spec.specs.Layout.{beat_size, write_beats, high_strobes, all_strobes}
use Rattle.write_data_spec.specs.Rules.{Finding, finding, rule_checks, count_check}
use Rattle.write_data_spec.specs.Answers.{field_fault, field_checks, verdict}
use Rattle.write_data.specs.Scan.{BeatRecord, lowest_rule, Whole, fault_from, Looking, Judgeable, verdict_from, Turning}
use Rattle.write_data.proofs.Fields.{size_pos}
use Rattle.write_data.proofs.Rules.{lowest_found, lowest_none}

-- ---- a turn of either pass: the record in front of the octets left

module _ (bus : ℕ) (rest r behind : List ℕ) (whole : length rest % beat_size bus ≡ 0) (e : rest ≡ r ++ behind) (long : length r ≡ beat_size bus) where
  here : FirstPiece (beat_size bus) rest
  here = first_piece (beat_size bus) (size_pos bus) rest whole (omega (arith, size_pos bus, ap length e, length-append r behind))

  head-is : take (beat_size bus) rest ≡ r
  head-is = ap (take (beat_size bus)) e ∙ take_at r behind (beat_size bus) long

  tail-is : drop (beat_size bus) rest ≡ behind
  tail-is = ap (drop (beat_size bus)) e ∙ drop_at r behind (beat_size bus) long

  whole-behind : length behind % beat_size bus ≡ 0
  whole-behind = subst (λ (ys : List ℕ). length ys % beat_size bus ≡ 0) tail-is here.whole

  beats-next : write_beats bus rest ≡ r ∷ write_beats bus behind
  beats-next = here.is ∙ ap₂ (λ (x ys : List ℕ). x ∷ write_beats bus ys) head-is tail-is

-- and where fewer octets are left than a record has, none is
module _ (bus : ℕ) (rest : List ℕ) (whole : length rest % beat_size bus ≡ 0) (end : length rest < beat_size bus) where
  none-left : length rest ≡ 0
  none-left = sym (mod-eq_of_lt end) ∙ whole

  no-beats : write_beats bus rest ≡ []
  no-beats = no_pieces rest 0 (omega (arith, none-left)) (beat_size bus)

-- ---- the first pass

pub looking_start : (bus : ℕ) (xs : List ℕ) → Whole bus xs → Looking bus xs xs 0
looking_start bus xs w = record { whole = w.whole; same = refl }

module _ (bus : ℕ) (xs rest : List ℕ) (k : ℕ) (l : Looking bus xs rest k) where
  module _ (r behind : List ℕ) (e : rest ≡ r ++ behind) (long : length r ≡ beat_size bus) (t : Bool) (told : t ≡ field_fault bus r) where
    first-is : fault_from bus k (r ∷ write_beats bus behind) ≡ fault_from bus 0 (write_beats bus xs)
    first-is = sym (ap (fault_from bus k) (beats-next bus rest r behind l.whole e long)) ∙ l.same

    -- a record's fault is the take's
    pub looking_found : t ≡ true → Err (Field k) ≡ judgement_for (fault_from bus 0 (write_beats bus xs))
    looking_found f =
        ap judgement_for (sym (each-found (field_checks bus) k r (write_beats bus behind) (Field k) (rw (sym told ∙ f) refl)) ∙ first-is)

    pub looking_next : t ≡ false → Looking bus xs behind (k + 1)
    looking_next f =
        record {
          whole = whole-behind bus rest r behind l.whole e long;
          same =
              ap (λ (i : ℕ). fault_from bus i (write_beats bus behind)) (add-one k)
              ∙ sym (each-passed (field_checks bus) k r (write_beats bus behind) (rw (sym told ∙ f) refl))
              ∙ first-is;
        }

  pub looking_end : length rest < beat_size bus → Ok tt ≡ judgement_for (fault_from bus 0 (write_beats bus xs))
  looking_end h = ap judgement_for (sym (ap (fault_from bus k) (no-beats bus rest l.whole h)) ∙ l.same)

-- ---- the verdict on a beat and those behind it

module _ (b : Burst) (k : ℕ) (r : List ℕ) (rs : List (List ℕ)) (n : ℕ) where
  -- what the beat breaks is told
  from_found : (f : Finding) → first (rule_checks b k r) ≡ Some f → verdict_from b k (r ∷ rs) n ≡ Ok (Broken f.place f.rule)
  from_found f e =
      ap (λ o. verdict None o (n + all_strobes b.bus (r ∷ rs)))
      (append-found (each (rule_checks b) k (r ∷ rs)) (count_check b (k + length (r ∷ rs)) ∷ []) f (each-found (rule_checks b) k r rs f e))

  -- a beat that breaks none leaves it to the others
  others : first (rule_checks b k r) ≡ None
      → first (each (rule_checks b) k (r ∷ rs) ++ count_check b (k + length (r ∷ rs)) ∷ [])
      ≡ first (each (rule_checks b) (suc k) rs ++ count_check b (suc k + length rs) ∷ [])
  others e =
      ap first
      (append_assoc (rule_checks b k r) (each (rule_checks b) (suc k) rs) (count_check b (k + length (r ∷ rs)) ∷ []))
      ∙ append-passed (rule_checks b k r) (each (rule_checks b) (suc k) rs ++ count_check b (k + length (r ∷ rs)) ∷ []) e
      ∙ ap (λ (i : ℕ). first (each (rule_checks b) (suc k) rs ++ count_check b i ∷ [])) (add-suc k (length rs) ∙ sym (suc-add k (length rs)))

  from-passed : first (rule_checks b k r) ≡ None → verdict_from b (k + 1) rs (n + high_strobes b.bus r) ≡ verdict_from b k (r ∷ rs) n
  from-passed e =
      ap (λ (i : ℕ). verdict_from b i rs (n + high_strobes b.bus r)) (add-one k)
      ∙ sym
      (ap₂ (λ (o : Option Finding) (m : ℕ). verdict None o m) (others e) (sym (add_assoc n (high_strobes b.bus r) (all_strobes b.bus rs))))

-- ---- the second pass

pub turning_start : (b : Burst) (xs : List ℕ) → Judgeable b xs → Turning b xs xs 0 0
turning_start b xs j =
    record { whole = j.whole.whole; front = omega arith; counted = omega arith; sound = j.sound; same = refl }

module _ (b : Burst) (xs rest : List ℕ) (k high : ℕ) (t : Turning b xs rest k high) where
  module _ (r behind : List ℕ) (e : rest ≡ r ++ behind) (long : length r ≡ beat_size b.bus) where
    abbrev later : List (List ℕ)
    later = write_beats b.bus behind

    next : write_beats b.bus rest ≡ r ∷ later
    next = beats-next b.bus rest r behind t.whole e long

    sound-all : (first (field_checks b.bus k r) ≡ None) × (fault_from b.bus (suc k) later ≡ None)
    sound-all = each_none (field_checks b.bus) k r later (sym (ap (fault_from b.bus k) next) ∙ t.sound)

    pub asks : bus_allowed b.bus ≡ true → BeatRecord b.bus r
    asks allowed =
        record {
          allowed = allowed;
          long = long;
          sound = (cond-none (field_fault b.bus r) (Field k) None sound-all.0).0;
        }

    left_is : verdict_from b k (r ∷ later) high ≡ verdict_from b 0 (write_beats b.bus xs) 0
    left_is = sym (ap (λ (rs : List (List ℕ)). verdict_from b k rs high) next) ∙ t.same

    pub turning_found : (n : ℕ) → Some n ≡ lowest_rule b k r → Ok (Broken k n) ≡ verdict_from b 0 (write_beats b.bus xs) 0
    turning_found n told = sym (from_found b k r later high (finding k n) (lowest_found b k r n told)) ∙ left_is

    pub turning_next : None ≡ lowest_rule b k r → (m : ℕ) → m ≡ high_strobes b.bus r → m ≤ bus_most → Turning b xs behind (k + 1) (high + m)
    turning_next told m f few =
        record {
          whole = whole-behind b.bus rest r behind t.whole e long;
          front = omega (arith, t.front, ap length e, length-append r behind, long, suc-mul k (beat_size b.bus));
          counted = omega (arith, t.counted);
          sound = ap (λ (i : ℕ). fault_from b.bus i later) (add-one k) ∙ sound-all.1;
          same =
              ap (λ (i : ℕ). verdict_from b (k + 1) later (high + i)) f
              ∙ from-passed b k r later high (lowest_none b k r told)
              ∙ left_is;
        }

  -- no more beats stand in front than the take has octets
  pub turning_few : k ≤ length xs
  turning_few = omega (arith, t.front, mul-le-mul_left k (size_pos b.bus))

  -- ---- its end: the count decides

  module _ (end : length rest < beat_size b.bus) where
    none_left : verdict_from b k [] high ≡ verdict_from b 0 (write_beats b.bus xs) 0
    none_left = sym (ap (λ (rs : List (List ℕ)). verdict_from b k rs high) (no-beats b.bus rest t.whole end)) ∙ t.same

    pub turning_count : length xs / beat_size b.bus ≡ k
    turning_count =
        ap (λ (n : ℕ). n / beat_size b.bus) (t.front ∙ omega (arith, none-left b.bus rest t.whole end)) ∙ mul-div_cancel k (size_pos b.bus)

    pub turning_short : k ≤ b.len → Ok (Broken k 5) ≡ verdict_from b 0 (write_beats b.bus xs) 0
    turning_short h = sym (rw (add-zero k, lt-ltb k (beats b) (omega arith)) refl) ∙ none_left

    pub turning_clean : b.len < k → Ok (Clean high) ≡ verdict_from b 0 (write_beats b.bus xs) 0
    turning_clean h = sym (rw (add-zero k, add-zero high, le-ltb k (beats b) (omega arith)) refl) ∙ none_left
