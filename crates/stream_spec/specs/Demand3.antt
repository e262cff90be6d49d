-- Demand 3's two statements (the demand's own words in quotes; paper 01 explains them), over the answers of the repacking call as Answers has them.
-- Their proofs are `calls` and `parts` of proofs/Demand3.
use Rattle.std.specs.Prelude.{◌≡◌, true, List, [], ◌∷◌, ◌++◌, map, ℕ, ◌+◌, ◌*◌, ◌≤◌, length, take, Option, None, Some, Result, Ok, Err}
use Rattle.refusal.specs.declared.Refusal.{Refusal}
use Rattle.stream_spec.specs.declared.Shape.{Shape}
use Rattle.stream_spec.specs.Packed.{parted}
use Rattle.stream_spec.specs.Layout.{size, at_width, stream_items, packed_transfers, packed}
use Rattle.stream_spec.specs.Answers.{repack_answer, repack_after}
use Rattle.stream_spec.specs.Legal.{Legal}

-- ---- one repacking call: the width asked for and the memory lent, of any length and content

pub record Call : Type 0 where
  pub width : ℕ
  pub lent : List ℕ

-- what the call answers on these octets, and the number where it is accepted
abbrev pub answer_to : Shape → List ℕ → Call → Result ℕ Refusal
answer_to s xs c = repack_answer s c.width xs (length c.lent)

abbrev pub accepted : Result ℕ Refusal → Option ℕ
accepted (Ok n) = Some n
accepted (Err r) = None

-- "The result of an accepted repacking call is the octets of the records it writes; the number it answers counts those
-- records."
abbrev pub result_of : Shape → List ℕ → Call → ℕ → List ℕ
result_of s xs c n = take (n * size (at_width s c.width)) (repack_after s c.width xs c.lent)

-- ---- lists of calls

-- a stream that stands: its records' shape and its octets
pub record Standing : Type 0 where
  pub shape : Shape
  pub octets : List ℕ

-- "An accepted call's result takes its place, a refused call leaves it."
abbrev pub stands_next : Standing → Call → Option ℕ → Standing
stands_next st c None = st
stands_next st c (Some n) =
    record { shape = at_width st.shape c.width; octets = result_of st.shape st.octets c n }

abbrev pub accepted_at : Standing → Call → Option ℕ
accepted_at st c = accepted (answer_to st.shape st.octets c)

abbrev pub next : Standing → Call → Standing
next st c = stands_next st c (accepted_at st c)

abbrev pub after_calls : Standing → List Call → Standing
after_calls st [] = st
after_calls st (c ∷ cs) = after_calls (next st c) cs

-- the later of two accepted calls' widths: the later call's, if that was accepted, else the earlier one's
abbrev pub later : Option ℕ → Option ℕ → ℕ → Option ℕ
later (Some v) n w = Some v
later None None w = None
later None (Some n) w = Some w

-- the width of the last accepted call of a list, if one was accepted
abbrev pub last_accepted : Standing → List Call → Option ℕ
last_accepted st [] = None
last_accepted st (c ∷ cs) = later (last_accepted (next st c) cs) (accepted_at st c) c.width

-- "the packed form of the first stream at the last accepted width .. if none was accepted, the first stream"
abbrev pub packed_at : Standing → Option ℕ → Standing
packed_at st None = st
packed_at st (Some v) = record { shape = at_width st.shape v; octets = packed st.shape v st.octets }

-- "Start from any legal stream and make any list of repacking calls .. After every such list there stands the packed form
-- of the first stream at the last accepted width, the same octets as from one accepted call straight there": any call to
-- that width on the first stream whose room is long enough is accepted and leaves the same stream standing. What stands is
-- a legal stream again.
pub record CallsKeep (st : Standing) (cs : List Call) : Type 0 where
  pub stands : after_calls st cs ≡ packed_at st (last_accepted st cs)
  pub straight :
      (c : Call) → last_accepted st cs ≡ Some c.width → length (packed st.shape c.width st.octets) ≤ length c.lent
      → (accepted_at st c ≡ Some (length (packed_transfers st.shape c.width st.octets))) × (next st c ≡ after_calls st cs)
  pub legal : Legal (after_calls st cs).shape (after_calls st cs).octets

abbrev pub Demand3·calls : Type 0
Demand3·calls = (st : Standing) → Legal st.shape st.octets → (cs : List Call) → CallsKeep st cs

-- ---- lists of parts

-- one part of a stream, and the memory lent to the call that repacks it
pub record Part : Type 0 where
  pub octets : List ℕ
  pub lent : List ℕ

abbrev pub whole : List Part → List ℕ
whole [] = []
whole (p ∷ ps) = p.octets ++ whole ps

abbrev pub part_call : ℕ → Part → Call
part_call v p = record { width = v; lent = p.lent }

-- the call on each part is accepted, with these numbers
abbrev pub AllAccepted : Shape → ℕ → List Part → List ℕ → Type 0
AllAccepted s v ps ns = map (λ (p : Part). accepted (answer_to s p.octets (part_call v p))) ps ≡ map Some ns

-- "their results joined in order"
abbrev pub results_joined : Shape → ℕ → List Part → List ℕ → List ℕ
results_joined s v [] ns = []
results_joined s v (p ∷ ps) [] = []
results_joined s v (p ∷ ps) (n ∷ ns) = result_of s p.octets (part_call v p) n ++ results_joined s v ps ns

abbrev pub sum : List ℕ → ℕ
sum [] = 0
sum (n ∷ ns) = n + sum ns

-- at each division of the list, the condition is about all records before it and all after it
abbrev pub Divides : Shape → List Part → Type 0
Divides s ps =
    (before after : List Part) → before ++ after ≡ ps
    → parted (stream_items s (whole before)) (stream_items s (whole after)) ≡ true

pub record PartsJoin (s : Shape) (v : ℕ) (ps : List Part) (ns : List ℕ) : Type 0 where
  pub same : results_joined s v ps ns ≡ packed s v (whole ps)
  pub count : sum ns ≡ length (packed_transfers s v (whole ps))

-- "Divide a legal stream's records in order into any list of parts, empty ones included, and repack all parts to one
-- width. Whenever those calls are accepted, their results joined in order are the packed form of the whole", and (01) "the
-- numbers answered for the parts also add up to the number of records in the whole's packed form". An accepted part is a
-- whole number of records, since no other length is accepted.
abbrev pub Demand3·parts : Type 0
Demand3·parts =
    (s : Shape) (v : ℕ) (ps : List Part) (ns : List ℕ)
    → Legal s (whole ps) → AllAccepted s v ps ns → Divides s ps → PartsJoin s v ps ns
