-- The pass over the cycles: what is known at its start, what one cycle more leaves known, and what is told at its end; and
-- the pass behind a finding, which looks for a bad field only. Assumes nothing.
use Rattle.std.specs.Prelude.{Option, None, Some, Result, Ok, Err}
use Rattle.std.specs.Result.{result_err}
use mathlib.Core.Path.{◌≡◌, refl, sym, ap, ap₂, ◌∙◌, subst}
use mathlib.Core.Bool.{Bool, true, false, cond, or-false}
use mathlib.Core.List.{List, [], ◌∷◌, ◌++◌}
use Prim.Native.Nat.{ℕ, suc, ◌+◌, ◌*◌, ◌%◌, ◌≤◌, ◌<◌}
use native.Mathlib.Nat.{add-zero, add-suc, zero-add, div-le_self}
use native.Mathlib.Numerals.{add-one}
use native.Mathlib.Omega.{arith}
use mir.Val.{bool_byte}
use lib.ListN.{length, length-append}
use Rattle.refusal.specs.declared.Refusal.{Refusal}
use Rattle.refusal.specs.declared.Refusal.TheVariants.{Field}
use Rattle.stream_spec.specs.declared.Shape.{Shape}
use Rattle.stream_spec.specs.declared.Verdict.{Verdict}
use Rattle.stream_spec.specs.declared.Verdict.TheVariants.{Clean, Broken}
use Rattle.stream_spec.specs.Layout.{bit_of, width_most, size, record_count, records}
use Rattle.refusal.specs.Checks.{Check, check, first}
use Rattle.refusal.proofs.First.{first-none}
use Rattle.stream_spec.specs.Checks.{capture_most, user_fault, field_fault, cycle_flags, each, cycle_faults, cycle_checks, take_checks}
use Rattle.stream_spec.specs.Handshake.{r1, r2, r3, r4, transferred, handshakes, Finding, finding, rule_checks, findings}
use Rattle.stream_spec.specs.Answers.{verdict, verdict_values, judge_answer, Judged}
use Rattle.stream_spec.specs.Walk.{Passed}
use Rattle.stream_spec.proofs.Bools.{neither}
use Rattle.stream_spec.proofs.Users.{padding_none}
use Rattle.stream_spec.proofs.Legal.{octet-at, EachOctets}
use Rattle.stream_spec.proofs.RecordChecks.{each_none}
use Rattle.stream_spec.proofs.Size.{size_pos}
use Rattle.stream_spec.proofs.Walk.{records_front, no_records_short}
use Rattle.stream_record.specs.declared.Header.{Header}
use Rattle.stream_head.specs.declared.Zeros.{Zeros}
use Rattle.stream_record.specs.Header.{header_of, header_fault}
use Rattle.stream_head.specs.Zeros.{zeros_of}
use Rattle.stream_record.proofs.Tests.{refused_front, passed_front}
use Rattle.stream_record.proofs.Walking.{Walking, walking_within, walking_next}
use Rattle.stream_judge.specs.Scan.{Unpadded, head_faults, TellsHead, transfers_by, before_of, flags_before, lowest_rule, CycleAt, verdict_from, Turning, cycles_behind, verdict_behind, Behind}

-- ---- one cycle more of a verdict

-- the lowest rule of a cycle, or else what comes after it
abbrev or_later : ℕ → Option ℕ → Option Finding → Option Finding
or_later k (Some rule) later = Some (finding k rule)
or_later k None later = later

lowest_first : (s : Shape) (b : Option (List ℕ)) (k : ℕ) (c : List ℕ) (fs : List (Check Finding))
    → first (rule_checks s k b c ++ fs) ≡ or_later k (lowest_rule s b c) (first fs)
lowest_first s b k c fs = go (r1 b c) refl (r2 b c) refl (r3 b c) refl (r4 s c) refl
  where
    go : (a1 : Bool) → r1 b c ≡ a1 → (a2 : Bool) → r2 b c ≡ a2 → (a3 : Bool) → r3 b c ≡ a3 → (a4 : Bool) → r4 s c ≡ a4
        → first (rule_checks s k b c ++ fs) ≡ or_later k (lowest_rule s b c) (first fs)
    go true e1 a2 e2 a3 e3 a4 e4 = rw e1 refl
    go false e1 true e2 a3 e3 a4 e4 = rw (e1, e2) refl
    go false e1 false e2 true e3 a4 e4 = rw (e1, e2, e3) refl
    go false e1 false e2 false e3 true e4 = rw (e1, e2, e3, e4) refl
    go false e1 false e2 false e3 false e4 = rw (e1, e2, e3, e4) refl

count-step : (n : ℕ) (c : List ℕ) (cs : List (List ℕ)) → n + length (handshakes (c ∷ cs)) ≡ n + bit_of (transferred c) + length (handshakes cs)
count-step n c cs = go (transferred c) refl
  where
    go : (t : Bool) → transferred c ≡ t → n + length (handshakes (c ∷ cs)) ≡ n + bit_of (transferred c) + length (handshakes cs)
    go true e = rw e (omega arith)
    go false e = rw e (omega arith)

-- where a finding stands, the count is not told
count_free : (o : Option Refusal) (f : Finding) (n : ℕ) → verdict o (Some f) n ≡ verdict o (Some f) 0
count_free (Some r) f n = refl
count_free None f n = refl

module _ (s : Shape) (k : ℕ) (c : List ℕ) (cs : List (List ℕ)) where
  from-bad : (b : Option (List ℕ)) (n : ℕ) → field_fault cycle_flags s c ≡ true → Err (Field k) ≡ verdict_from s b k (c ∷ cs) n
  from-bad b n f = rw f refl

  module _ (f : field_fault cycle_flags s c ≡ false) where
    from-clean : (b : Option (List ℕ)) (n : ℕ) → lowest_rule s b c ≡ None → verdict_from s (Some c) (suc k) cs (n + bit_of (transferred c)) ≡ verdict_from s b k (c ∷ cs) n
    from-clean b n e =
        let later = findings s (suc k) (Some c) cs in
        let none' : first (rule_checks s k b c ++ findings s (suc k) (Some c) cs) ≡ first (findings s (suc k) (Some c) cs) =
        lowest_first s b k c later ∙ ap (λ (o : Option ℕ). or_later k o (first later)) e in
        rw f (sym (ap₂ (verdict (first (cycle_checks s (suc k) cs))) none' (count-step n c cs)))

    from-broken : (b : Option (List ℕ)) (n rule : ℕ) → lowest_rule s b c ≡ Some rule → verdict_behind s (suc k) cs (finding k rule) ≡ verdict_from s b k (c ∷ cs) n
    from-broken b n rule e =
        let later = findings s (suc k) (Some c) cs in
        let told : first (rule_checks s k b c ++ findings s (suc k) (Some c) cs) ≡ Some (finding k rule) =
        lowest_first s b k c later ∙ ap (λ (o : Option ℕ). or_later k o (first later)) e in
        rw (f, told) (sym (count_free (first (cycle_checks s (suc k) cs)) (finding k rule) (n + length (handshakes (c ∷ cs)))))

-- ---- FIELD by the head alone

-- where no padding is set, the head tells it
head-only : (s : Shape) (k : ℕ) (c : List ℕ) → user_fault s c ≡ false → first (head_faults s k c) ≡ first (cycle_faults s k c)
head-only s k c u = rw (u, or-false (header_fault cycle_flags s (header_of c))) refl

pub heads_only : (s : Shape) (k : ℕ) (cs : List (List ℕ)) → Unpadded s cs → first (each (head_faults s) k cs) ≡ first (cycle_checks s k cs)
heads_only s k [] u = refl
heads_only s k (c ∷ cs) u =
    let head = header_fault cycle_flags s (header_of c) in
    rw (u.0, or-false head) (ap (cond head (Some (Field k))) (heads_only s (suc k) cs u.1))

-- what the test of the bits that must be zero found, of a record whose padding is not set
module _ (s : Shape) (z : Zeros) (k : ℕ) (c : List ℕ) (r : Result (Unit {0}) Refusal) (w : s.width ≤ width_most) (e : z ≡ zeros_of cycle_flags s)
    (u : user_fault s c ≡ false) (t : TellsHead z k c r) where
  told : result_err r ≡ first (cycle_faults s k c)
  told = t s w e ∙ head-only s k c u

  fault-as : (b : Bool) → field_fault cycle_flags s c ≡ b → result_err r ≡ cond b (Some (Field k)) None
  fault-as b f = told ∙ ap (λ (x : Bool). cond x (Some (Field k)) None) f

  pub head_sound : r ≡ Ok tt → field_fault cycle_flags s c ≡ false
  head_sound o = go (field_fault cycle_flags s c) refl
    where
      go : (b : Bool) → field_fault cycle_flags s c ≡ b → field_fault cycle_flags s c ≡ false
      go true f = let no : None ≡ Some (Field k) = sym (ap result_err o) ∙ fault-as true f in cc
      go false f = f

  pub head_bad : (g : Refusal) → r ≡ Err g → (field_fault cycle_flags s c ≡ true) × (g ≡ Field k)
  head_bad g o = go (field_fault cycle_flags s c) refl
    where
      go : (b : Bool) → field_fault cycle_flags s c ≡ b → (field_fault cycle_flags s c ≡ true) × (g ≡ Field k)
      go true f = let yes' : Some g ≡ Some (Field k) = sym (ap result_err o) ∙ fault-as true f in (f, cc)
      go false f = let no : Some g ≡ None = sym (ap result_err o) ∙ fault-as false f in cc

-- ---- behind a finding

-- checks told at places counted from j
each_from : (checks : ℕ → List ℕ → List (Check Refusal)) (j k : ℕ) (rs : List (List ℕ)) → each (λ i. checks (j + i)) k rs ≡ each checks (j + k) rs
each_from checks j k [] = refl
each_from checks j k (r ∷ rs) =
    ap (λ (cs : List (Check Refusal)). checks (j + k) r ++ cs) (each_from checks j (suc k) rs ∙ ap (λ (n : ℕ). each checks n rs) (add-suc j k))

-- a take has few records
pub few_records : (s : Shape) (xs : List ℕ) → Passed s xs → record_count s xs ≤ capture_most
few_records s xs p = omega (arith, div-le_self (length xs) (size s), p.short)

module _ (s : Shape) (xs : List ℕ) (z : Zeros) (cycle rule : ℕ) (b : Behind s xs z cycle) (r : Result (Unit {0}) Refusal) where
  module _ (e : result_err r ≡ first (each (λ i. head_faults s (cycle + 1 + i)) 0 (cycles_behind s xs cycle))) where
    behind-told : result_err r ≡ first (cycle_checks s (cycle + 1) (cycles_behind s xs cycle))
    behind-told =
        e
        ∙ ap first (each_from (head_faults s) (cycle + 1) 0 (cycles_behind s xs cycle) ∙ ap (λ (n : ℕ). each (head_faults s) n (cycles_behind s xs cycle)) (add-zero (cycle + 1)))
        ∙ heads_only s (cycle + 1) (cycles_behind s xs cycle) b.clear

    pub behind-refused : (f : Refusal) → r ≡ Err f → Err f ≡ verdict_behind s (cycle + 1) (cycles_behind s xs cycle) (finding cycle rule)
    behind-refused f o = ap (λ (x : Option Refusal). verdict x (Some (finding cycle rule)) 0) (sym (ap result_err o) ∙ behind-told)

    pub behind-broken : (u : Unit {0}) → r ≡ Ok u → Ok (Broken cycle rule) ≡ verdict_behind s (cycle + 1) (cycles_behind s xs cycle) (finding cycle rule)
    behind-broken u o = ap (λ (x : Option Refusal). verdict x (Some (finding cycle rule)) 0) (sym (ap result_err o) ∙ behind-told)

-- ---- before a finding

pub turning_start : (s : Shape) (xs rest : List ℕ) (k : ℕ) → rest ≡ xs → k ≡ 0 → Unpadded s (records s xs) → Turning s xs rest [] k 0 (flags_before None)
turning_start s xs rest k e f u =
    rw (e, f)
    (record {
      prev_whole = λ h. absurd (omega arith);
      counted = omega arith;
      flagged = refl;
      clear = u;
      same = refl;
    })

at_most_one : (b : Bool) → bit_of b ≤ 1
at_most_one true = omega arith
at_most_one false = omega arith

-- a count by code
pub counts : (b : Bool) (n : ℕ) → n ≡ bool_byte b → n ≡ bit_of b
counts true n e = e
counts false n e = e

-- a record that is not empty is the cycle before
before-some : (r : List ℕ) → 0 < length r → before_of r ≡ Some r
before-some [] h = absurd (omega arith)
before-some (f ∷ r) h = refl

-- what an iterator counts as j
pub walking_as : (s : Shape) (xs rest : List ℕ) (k j : ℕ) → j ≡ k → Walking s xs rest k → Walking s xs rest j
walking_as s xs rest k j q w = rw q w

pub turning_as : (s : Shape) (xs rest prev : List ℕ) (k j count prevFlags : ℕ) → j ≡ k → Turning s xs rest prev k count prevFlags → Turning s xs rest prev j count prevFlags
turning_as s xs rest prev k j count prevFlags q h = rw q h

module _ (s : Shape) (xs rest prev : List ℕ) (k count prevFlags : ℕ) (h : Turning s xs rest prev k count prevFlags) where
  -- no cycle is left
  pub turns-end : length rest < size s → Ok (Clean count) ≡ verdict_from s None 0 (records s xs) 0
  turns-end l =
      ap (λ (n : ℕ). Ok (Clean n)) (sym (add-zero count))
      ∙ sym (ap (λ (cs : List (List ℕ)). verdict_from s (before_of prev) k cs count) (no_records_short s rest l))
      ∙ h.same

  -- a cycle is left
  module _ (walk : Walking s xs rest k) (rec after : List ℕ) (cut : rest ≡ rec ++ after) (long : length rec ≡ size s) where
    abbrev later : List (List ℕ)
    later = records s after

    first-is : records s rest ≡ rec ∷ later
    first-is = records_front s rest rec after cut long walk.whole

    pub turn-clear : Unpadded s (rec ∷ later)
    turn-clear = subst (Unpadded s) first-is h.clear

    left-from : verdict_from s (before_of prev) k (rec ∷ later) count ≡ verdict_from s None 0 (records s xs) 0
    left-from = sym (ap (λ (cs : List (List ℕ)). verdict_from s (before_of prev) k cs count) first-is) ∙ h.same

    -- a cycle with a bad field ends the pass
    pub turn-bad : field_fault cycle_flags s rec ≡ true → Err (Field k) ≡ verdict_from s None 0 (records s xs) 0
    turn-bad f = from-bad s k rec later (before_of prev) count f ∙ left-from

    -- one transfer more can be counted
    pub few_more : (b : Bool) (n : ℕ) → n ≡ bool_byte b → Passed s xs → count + n ≤ capture_most
    few_more b n e p = omega (arith, h.counted, walk.few, ap length cut, length-append rec after, size_pos s, p.short, at_most_one b, counts b n e)

    -- what a call of `rule_of` asks
    pub asks : Passed s xs → (d : Header) → d ≡ header_of rec → field_fault cycle_flags s rec ≡ false → CycleAt s d prevFlags prev rec
    asks p d e f =
        record {
          low = p.low;
          high = p.high;
          user = p.user;
          header = e;
          sound = f;
          whole = long;
          prev_whole = h.prev_whole;
          flagged = h.flagged;
        }

    later_is : later ≡ cycles_behind s xs k
    later_is = ap (records s) (walking_next s xs rest k walk rec after cut long (k + 1) refl).place

    -- what a call of `broken` asks
    pub asks_behind : (z : Zeros) → z ≡ zeros_of cycle_flags s → Behind s xs z k
    asks_behind z y =
        record {
          within = walking_within s xs rest k walk rec after cut long k refl;
          zeros = y;
          clear = subst (Unpadded s) later_is turn-clear.1;
        }

    module _ (f : field_fault cycle_flags s rec ≡ false) where
      -- a rule is broken, and this is what `broken` answers
      pub finds : (rule : ℕ) → lowest_rule s (before_of prev) rec ≡ Some rule → (v : Result Verdict Refusal)
          → v ≡ verdict_behind s (k + 1) (cycles_behind s xs k) (finding k rule) → v ≡ verdict_from s None 0 (records s xs) 0
      finds rule e v g =
          g
          ∙ ap₂ (λ (i : ℕ) (cs : List (List ℕ)). verdict_behind s i cs (finding k rule)) (add-one k) (sym later_is)
          ∙ from-broken s k rec later f (before_of prev) count rule e
          ∙ left-from

      -- no rule is broken, and a cycle more
      pub goes_on : lowest_rule s (before_of prev) rec ≡ None → (d : Header) → d ≡ header_of rec → (n : ℕ) → n ≡ bit_of (transfers_by d.flags)
          → (next : ℕ) → next ≡ k + 1 → Turning s xs after rec next (count + n) d.flags
      goes_on none' d is n counted next q =
          let some-rec : 0 < length rec = omega (arith, long, size_pos s) in
          let same_count : n ≡ bit_of (transferred rec) = counted ∙ ap (λ (g : Header). bit_of (transfers_by g.flags)) is in
          let least : n ≤ 1 = rw counted (at_most_one (transfers_by d.flags)) in
          rw q
          (record {
            prev_whole = λ t. long;
            counted = omega (arith, h.counted, least);
            flagged = ap (λ (g : Header). g.flags) is ∙ sym (ap flags_before (before-some rec some-rec));
            clear = turn-clear.1;
            same =
                ap₂ (λ (b : Option (List ℕ)) (i : ℕ). verdict_from s b i later (count + n)) (before-some rec some-rec) (add-one k)
                ∙ ap (λ (m : ℕ). verdict_from s (Some rec) (suc k) later (count + m)) same_count
                ∙ from-clean s k rec later f (before_of prev) count none'
                ∙ left-from;
          })

-- ---- padding: none where the user bits fill their octets, and none where no record has a bad field

pub full_unpadded : (s : Shape) (rs : List (List ℕ)) → s.width * s.user % 8 ≡ 0 → EachOctets rs → Unpadded s rs
full_unpadded s [] e o = tt
full_unpadded s (r ∷ rs) e o = (padding_none s r (λ i. octet-at r i o.0) e, full_unpadded s rs e o.1)

pub found_unpadded : (s : Shape) (k : ℕ) (rs : List (List ℕ)) → first (cycle_checks s k rs) ≡ None → Unpadded s rs
found_unpadded s k [] e = tt
found_unpadded s k (r ∷ rs) e =
    let h = each_none (cycle_faults s) k r rs e in
    let field = first-none (check (field_fault cycle_flags s r) (Field k)) [] h.0 in
    ((neither (header_fault cycle_flags s (header_of r)) (user_fault s r) field.0).1, found_unpadded s (suc k) rs h.1)

-- a cycle record whose head and padding are sound
pub sound_record : (s : Shape) (z : Zeros) (k : ℕ) (rec : List ℕ) (r : Result (Unit {0}) Refusal) → s.width ≤ width_most → z ≡ zeros_of cycle_flags s
    → {b : Bool} → b ≡ user_fault s rec → b ≡ false → TellsHead z k rec r → {u : Unit {0}} → r ≡ Ok u → None ≡ first (cycle_faults s k rec)
sound_record s z k rec r w e p q t o = sym (ap result_err o) ∙ told s z k rec r w e (sym p ∙ q) t

-- a bad field is the verdict
pub field-refused : (s : Shape) (rs : List (List ℕ)) (f : Refusal) → first (cycle_checks s 0 rs) ≡ Some f → Err f ≡ verdict_from s None 0 rs 0
field-refused s rs f e = rw e refl

-- ---- judging, from what the tests of shape and length told

module _ {X : Type 0} (s : Shape) (xs : List ℕ) (r : Result X Refusal) (told : result_err r ≡ first (take_checks s xs)) where
  judged : (v : Result Verdict Refusal) → v ≡ judge_answer s xs → Judged s xs v
  judged v e = record { is = e; shows = ap verdict_values e }

  pub judged_refused : (f : Refusal) → r ≡ Err f → Judged s xs (Err f)
  unfolding judge_answer
  judged_refused f h = judged (Err f) (rw (refused_front r (take_checks s xs) told (cycle_checks s 0 (records s xs)) f h) refl)

  pub judged_cycles : (x : X) → r ≡ Ok x → (v : Result Verdict Refusal) → v ≡ verdict_from s None 0 (records s xs) 0 → Judged s xs v
  unfolding judge_answer
  judged_cycles x h v e =
      judged v
      (e ∙ rw (passed_front r (take_checks s xs) told (cycle_checks s 0 (records s xs)) x h, zero-add (length (handshakes (records s xs)))) refl)
