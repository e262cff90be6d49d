-- Whose record comes next in a merged list: port 0 first, behind each record the port that has the turn, and no other list is so. And the
-- same of turns. Assumes nothing.
use mathlib.Core.Bool.{Bool, beq, true, false, not, cond, or-true}
use mathlib.Core.List.{List, [], ◌∷◌, ◌++◌, append_assoc}
use mathlib.Core.Logic.{◌⊎◌, inl, inr, ◌≢◌}
use mathlib.Core.Path.{◌≡◌, refl, sym, ap, ap₂, ◌∙◌, subst}
use Prim.Native.Nat.{ℕ}
use native.Mathlib.Omega.{arith}
use lib.ListN.{length, length-append}
use Rattle.stream_spec.specs.Layout.{tlast}
use Rattle.merge_spec.specs.Turns.{into_first, alternate, passed, those, goes_out}
use Rattle.merge_spec.specs.Merge.{high_tid, low_tid}
use Rattle.merge_spec.specs.Promises.{sent_by, Next, turn_after, InTurns, IsTurn, GoesOver, port_of, Fair, is_over, cut_turns}
use Rattle.merge_spec.proofs.Turns.{All, AllTurns, all-those, none-those, those-none, all_twice, each-passed, Ends, Ended, alternate-nil, goes_first, goes_second, skip_first, skip_second, goes_no-first, goes_no-second}
use Rattle.merge_spec.proofs.Tags.{AllLow, all_not}

-- ---- what a port sent

pub sent_own : (port : Bool) (rs : List (List ℕ)) → All high_tid port rs → sent_by port rs ≡ rs
sent_own true rs h = all-those high_tid rs h
sent_own false rs h = all-those low_tid rs (all_not false rs h)

pub sent_none : (port : Bool) (rs : List (List ℕ)) → All high_tid (not port) rs → sent_by port rs ≡ []
sent_none true rs h = none-those high_tid rs h
sent_none false rs h = none-those low_tid rs (all_not true rs h)

-- behind a record of port 0, and of port 1
after_first : (r : List ℕ) → high_tid r ≡ false → tlast r ≡ turn_after r
after_first r e = rw e (go (tlast r))
  where
    go : (b : Bool) → b ≡ cond b true false
    go true = refl
    go false = refl

after-second : (r : List ℕ) → high_tid r ≡ true → not (tlast r) ≡ turn_after r
after-second r e = rw e (go (tlast r))
  where
    go : (b : Bool) → not b ≡ cond b false true
    go true = refl
    go false = refl

-- ---- record by record

abbrev Goes : Bool → List (List ℕ) → Type 0
Goes port rs = Next port rs × InTurns rs

-- the records of one port alone go whoever has the turn
first_of : (port q : Bool) (r : List ℕ) (rs : List (List ℕ)) → All high_tid port (r ∷ rs) → Next q (r ∷ rs)
first_of true true r rs h n = h.0
first_of false false r rs h n = h.0
first_of true false r rs h n = absurd (n (sent_none false (r ∷ rs) h))
first_of false true r rs h n = absurd (n (sent_none true (r ∷ rs) h))

one-port : (port q : Bool) (rs : List (List ℕ)) → All high_tid port rs → Goes q rs
one-port port q [] h = (tt, tt)
one-port port q (r ∷ rs) h = (first_of port q r rs h, one-port port (turn_after r) rs h.1)

-- whoever has the turn, port 0's records and port 1's go in turns
pub goes : (port : Bool) (xs ys : List (List ℕ)) → AllLow xs → All high_tid true ys → Goes port (goes_out tlast port xs ys)
goes port [] ys h k = rw (goes_no-first tlast port ys) (one-port true port ys k)
goes port (x ∷ xs) [] h k = rw (goes_no-second tlast port (x ∷ xs)) (one-port false port (x ∷ xs) h)
goes false (x ∷ xs) (y ∷ ys) h k =
    rw (goes_first tlast x xs (y ∷ ys)) (λ n. h.0, rw (← after_first x h.0) (goes (tlast x) xs (y ∷ ys) h.1 k))
goes true (x ∷ xs) (y ∷ ys) h k =
    rw (goes_second tlast (x ∷ xs) y ys) (λ n. k.0, rw (← after-second y k.0) (goes (not (tlast y)) (x ∷ xs) ys h k.1))

-- ---- and no other list is so

apart : {A : Type 0} (b : Bool) → b ≡ not b → A
apart true w = let u : ◌≡◌ {A = ℕ} 0 1 = cc in absurd (omega arith)
apart false w = let u : ◌≡◌ {A = ℕ} 0 1 = cc in absurd (omega arith)

some_left : (r : List ℕ) (rs : List (List ℕ)) → r ∷ rs ≢ []
some_left r rs w = let u : ◌≡◌ {A = ℕ} 0 1 = cc in absurd (omega arith)

-- the first record is the other port's: this one has nothing left
other-left : (port : Bool) (r : List ℕ) (rs : List (List ℕ)) → high_tid r ≡ not port → Next port (r ∷ rs) → sent_by port rs ≡ []
other-left port r rs e n = go port (sent_by port rs) refl e n
  where
    go : (port : Bool) (l : List (List ℕ)) → sent_by port rs ≡ l → high_tid r ≡ not port → Next port (r ∷ rs) → sent_by port rs ≡ []
    go port [] q e n = q
    go true (z ∷ l) q e n = apart true (sym (n (rw (e, q) (some_left z l))) ∙ e)
    go false (z ∷ l) q e n = apart false (sym (n (rw (e, q) (some_left z l))) ∙ e)

module _ (r : List ℕ) (rs : List (List ℕ)) where
  abbrev lows : List (List ℕ)
  lows = those low_tid rs

  abbrev highs : List (List ℕ)
  highs = those high_tid rs

  abbrev Told : Type 0
  Told = rs ≡ goes_out tlast (turn_after r) lows highs

  -- a record of port 0, and of port 1, in front of the others
  front_first : high_tid r ≡ false → Told → r ∷ rs ≡ goes_out tlast false (r ∷ lows) highs
  front_first e ih =
      ap {B = List (List ℕ)} (λ l. r ∷ l) ih
      ∙ ap (λ (q : Bool). r ∷ goes_out tlast q lows highs) (sym (after_first r e))
      ∙ sym (goes_first tlast r lows highs)

  front_second : high_tid r ≡ true → Told → r ∷ rs ≡ goes_out tlast true lows (r ∷ highs)
  front_second e ih =
      ap {B = List (List ℕ)} (λ l. r ∷ l) ih
      ∙ ap (λ (q : Bool). r ∷ goes_out tlast q lows highs) (sym (after-second r e))
      ∙ sym (goes_second tlast lows r highs)

  front : (port b : Bool) → high_tid r ≡ b → Next port (r ∷ rs) → Told
      → r ∷ rs ≡ goes_out tlast port (those low_tid (r ∷ rs)) (those high_tid (r ∷ rs))
  front false false e n ih = rw e (front_first e ih)
  front true true e n ih = rw e (front_second e ih)
  front true false e n ih =
      let none : highs ≡ [] = other-left true r rs e n in
      rw e (front_first e ih ∙ rw none (sym (skip_second tlast (r ∷ lows))))
  front false true e n ih =
      let none : lows ≡ [] = other-left false r rs e n in
      rw e (front_second e ih ∙ rw none (sym (skip_first tlast (r ∷ highs))))

pub goes_only : (port : Bool) (rs : List (List ℕ)) → Next port rs → InTurns rs → rs ≡ goes_out tlast port (those low_tid rs) (those high_tid rs)
goes_only true [] n g = refl
goes_only false [] n g = refl
goes_only port (r ∷ rs) n g = front r rs port (high_tid r) refl n (goes_only (turn_after r) rs g.0 g.1)

-- ---- turns

-- a turn has a record
has_record : (t : List (List ℕ)) (later : List (List (List ℕ))) → Ends tlast t later → t ≢ []
has_record t later e q = let z : length t ≡ 0 = ap length q in
    absurd (omega (arith, ap length e.is, length-append e.before (e.final ∷ [])))

-- so it tells whose it is
port-is : (port : Bool) (t : List (List ℕ)) (later : List (List (List ℕ))) → Ends tlast t later → All high_tid port t → port_of t ≡ port
port-is port [] later e h = absurd (has_record [] later e refl)
port-is port (r ∷ t) later e h = h.0

-- and where a turn is this port's it is not the other's
own_turn : {A : Type 0} (port : Bool) (t : List (List ℕ)) (later : List (List (List ℕ))) → Ends tlast t later → All high_tid port t → sent_by port t ≡ [] → A
own_turn port t later e h q = absurd (has_record t later e (sym (sent_own port t h) ∙ q))

other-turns : (port : Bool) (ts : List (List (List ℕ))) → AllTurns high_tid (not port) ts → sent_by port (passed ts) ≡ []
other-turns port ts h = sent_none port (passed ts) (each-passed (λ r. high_tid r ≡ not port) ts h)

not_other : (port : Bool) (t : List (List ℕ)) → All high_tid port t → sent_by (not port) t ≡ []
not_other true t h = sent_none false t h
not_other false t h = sent_none true t h

-- a turn of this port, with what the other turns behind it tell
is-turn : (port : Bool) (t : List (List ℕ)) (ts us : List (List (List ℕ))) → Ends tlast t ts → All high_tid port t
    → (ts ≡ [] → sent_by port (passed us) ≡ []) → IsTurn port t (passed us)
is-turn port t ts us e h f =
    record { before = e.before; final = e.final; is = e.is; own = not_other port t h; unended = e.unended; ends = go e.ends }
  where
    go : (tlast e.final ≡ true) ⊎ (ts ≡ []) → (tlast e.final ≡ true) ⊎ (sent_by port (passed us) ≡ [])
    go (inl q) = inl q
    go (inr q) = inr (f q)

-- the turns of one port alone
over_alone : (port : Bool) (ts : List (List (List ℕ))) → AllTurns high_tid port ts → GoesOver port ts
over_alone port [] h = tt
over_alone port (t ∷ ts) h = λ q. other-turns (not port) (t ∷ ts) (all_twice high_tid port (t ∷ ts) h)

fair_alone : (port : Bool) (ts : List (List (List ℕ))) → Ended tlast ts → AllTurns high_tid port ts → Fair ts
fair_alone port [] e h = tt
fair_alone port (t ∷ ts) e h =
    rw (port-is port t ts e.0 h.0)
    (is-turn port t ts ts e.0 h.0 (λ q. rw q (none_sent port)), over_alone port ts h.1, fair_alone port ts e.1 h.1)
  where
    none_sent : (port : Bool) → sent_by port [] ≡ []
    none_sent true = refl
    none_sent false = refl

-- the turns of two
pub over_both : (port : Bool) (ts us : List (List (List ℕ))) → Ended tlast ts → AllTurns high_tid (not port) ts → AllTurns high_tid port us
    → GoesOver port (alternate ts us)
over_both port [] us e h k = over_alone port us k
over_both port (t ∷ ts) [] e h k = λ q. own_turn (not port) t ts e.0 h.0 q
over_both port (t ∷ ts) (u ∷ us) e h k = λ q. own_turn (not port) t ts e.0 h.0 q

pub fair_both : (port : Bool) (ts us : List (List (List ℕ))) → Ended tlast ts → Ended tlast us → AllTurns high_tid port ts → AllTurns high_tid (not port) us
    → Fair (alternate ts us)
fair_both port [] us d e h k = fair_alone (not port) us e k
fair_both port (t ∷ ts) [] d e h k = fair_alone port (t ∷ ts) d h
fair_both port (t ∷ ts) (u ∷ us) d e h k =
    rw (port-is port t ts d.0 h.0, port-is (not port) u us e.0 k.0) (
      is-turn port t ts (u ∷ alternate ts us) d.0 h.0 (λ q. rw q (other-turns port (u ∷ us) k)),
      λ q. own_turn (not port) u us e.0 k.0 q,
      (
        is-turn (not port) u us (alternate ts us) e.0 k.0 (λ q. rw (q, alternate-nil ts) (other-turns (not port) ts (all_twice high_tid port ts h.1))),
        over_both (not port) ts us d.1 (all_twice high_tid port ts h.1) k.1,
        fair_both port ts us d.1 e.1 h.1 k.1,
      ),
    )

-- ---- the turns, found again in the merged list

-- whose the records are, by what the other port did not send
own-all : (port : Bool) (rs : List (List ℕ)) → sent_by (not port) rs ≡ [] → All high_tid port rs
own-all false rs e = those-none high_tid rs e
own-all true rs e = back rs (those-none low_tid rs e)
  where
    one : (b : Bool) → not b ≡ false → b ≡ true
    one true h = refl
    one false h = let u : ◌≡◌ {A = ℕ} 0 1 = cc in absurd (omega arith)

    back : (rs : List (List ℕ)) → All low_tid false rs → All high_tid true rs
    back [] h = tt
    back (r ∷ rs) h = (one (high_tid r) h.0, back rs h.1)

same-port : (port : Bool) → not (beq port port) ≡ false
same-port true = refl
same-port false = refl

-- no turn is over inside one
inside : (port : Bool) (r : List ℕ) (before : List (List ℕ)) (final : List ℕ) (later : List (List ℕ)) → tlast r ≡ false → high_tid r ≡ port
    → All high_tid port (before ++ final ∷ []) → is_over r (before ++ final ∷ later) ≡ false
inside port r [] final later e f h = rw (e, f, h.0) (same-port port)
inside port r (q ∷ before) final later e f h = rw (e, f, h.0) (same-port port)

cut-one : (port : Bool) (before : List (List ℕ)) (final : List ℕ) (later : List (List ℕ)) → All high_tid port (before ++ final ∷ []) → All tlast false before
    → cut_turns (final ∷ later) ≡ (final ∷ []) ∷ cut_turns later → cut_turns (before ++ final ∷ later) ≡ (before ++ final ∷ []) ∷ cut_turns later
cut-one port [] final later h l e = e
cut-one port (r ∷ before) final later h l e =
    rw (inside port r before final later l.0 h.0 h.1) (ap (into_first r) (cut-one port before final later h.1 l.1 e))

-- and at its end it is
over_here : (port : Bool) (final : List ℕ) (later : List (List ℕ)) → high_tid final ≡ port → (tlast final ≡ true) ⊎ (sent_by port later ≡ [])
    → cut_turns (final ∷ later) ≡ (final ∷ []) ∷ cut_turns later
over_here port final [] h e = go (tlast final)
  where
    go : (b : Bool) → cond b ((final ∷ []) ∷ []) (into_first final []) ≡ (final ∷ []) ∷ []
    go true = refl
    go false = refl
over_here port final (q ∷ later) h (inl e) = rw e refl
over_here port final (q ∷ later) h (inr e) = over_other port (high_tid q) refl h e
  where
    over_other : (port b : Bool) → high_tid q ≡ b → high_tid final ≡ port → sent_by port (q ∷ later) ≡ []
        → cut_turns (final ∷ q ∷ later) ≡ (final ∷ []) ∷ cut_turns (q ∷ later)
    over_other true true f h e = let some : q ∷ sent_by true later ≡ [] = rw f at e in absurd (some_left q (sent_by true later) some)
    over_other false false f h e = let some : q ∷ sent_by false later ≡ [] = rw f at e in absurd (some_left q (sent_by false later) some)
    over_other true false f h e = rw (h, f, or-true (tlast final)) refl
    over_other false true f h e = rw (h, f, or-true (tlast final)) refl

final-own : (port : Bool) (before : List (List ℕ)) (final : List ℕ) → All high_tid port (before ++ final ∷ []) → high_tid final ≡ port
final-own port [] final h = h.0
final-own port (r ∷ before) final h = final-own port before final h.1

pub cut-fair : (ts : List (List (List ℕ))) → Fair ts → cut_turns (passed ts) ≡ ts
cut-fair [] h = refl
cut-fair (t ∷ ts) h =
    let i = h.0 in
    let own : All high_tid (port_of t) (i.before ++ i.final ∷ []) = subst (All high_tid (port_of t)) i.is (own-all (port_of t) t i.own) in
    ap (λ (l : List (List ℕ)). cut_turns (l ++ passed ts)) i.is ∙ ap cut_turns (append_assoc i.before (i.final ∷ []) (passed ts))
    ∙ cut-one (port_of t) i.before i.final (passed ts) own (those-none tlast i.before i.unended)
    (over_here (port_of t) i.final (passed ts) (final-own (port_of t) i.before i.final own) i.ends)
    ∙ ap₂ (λ (a : List (List ℕ)) (l : List (List (List ℕ))). a ∷ l) (sym i.is) (cut-fair ts h.2)
