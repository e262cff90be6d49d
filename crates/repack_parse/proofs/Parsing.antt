-- What is known while the fast reader reads a take, record by record: the invariant of Take, of items that are held in octets and
-- marks. Assumes nothing.
use Rattle.std.specs.Prelude.{Some}
use mathlib.Core.Path.{◌≡◌, refl, sym, ◌∙◌}
use mathlib.Core.Bool.{Bool, true, false}
use mathlib.Core.List.{List}
use Prim.Native.Nat.{ℕ, ◌+◌, ◌/◌, ◌≤◌, ◌<◌}
use native.Mathlib.Omega.{arith}
use lib.ListN.{length}
use Rattle.refusal.specs.declared.Refusal.{Refusal}
use Rattle.refusal.specs.Checks.{first}
use Rattle.stream_spec.specs.declared.Shape.{Shape}
use Rattle.stream_spec.specs.Layout.{size, of_width, records}
use Rattle.stream_spec.specs.Checks.{transfer_faults, transfer_checks}
use Rattle.stream_spec.specs.Walk.{Passed, record_at}
use Rattle.stream_spec.proofs.Bools.{no_such}
use Rattle.stream_spec.proofs.Walk.{record_fits, record_is}
use Rattle.repack_parse.specs.declared.state.Open.{Open}
use Rattle.repack_scratch.specs.declared.Entry.{Entry}
use Rattle.repack_scratch.specs.Codes.{item_room, mark_room, stretch_room, held_codes, codes_in, Unmarked, mark_bits}
use Rattle.repack_scratch.proofs.Held.{unmarked-at}
use Rattle.repack_scratch.proofs.Marks.{length-marks}
use Rattle.repack_gather.specs.Gather.{Clear}
use Rattle.repack_parse.specs.Stands.{at_start}
use Rattle.repack_parse.specs.Read.{Added, Sounds, FinishIs, Taken}
use Rattle.repack_parse.specs.Reading.{record_from, Reading, Holding, Skimmed}
use Rattle.repack_parse.proofs.Take.{reading-starts, stands-start, reading-refused, reading-next, stands-next, reading_done}

-- a shape without user bits
pub bare_shape : (s : Shape) (w : ℕ) → s.user ≡ 0 → w ≡ s.width → s ≡ of_width w
bare_shape s w u e = λ i. record { width = sym e i; user = u i }

-- ---- the items, in octets and marks

holding-starts : (w : ℕ) (transfers octets marks : List ℕ) (table : List Entry) → length marks ≡ length octets → Unmarked marks
    → Holding w transfers octets marks table at_start 0
holding-starts w transfers octets marks table l u =
    record { long = l; clear = λ i b. unmarked-at marks u i; stands = stands-start (of_width w) transfers (held_codes octets marks) table }

module _ (w : ℕ) (transfers octets : List ℕ) (table : List Entry) (st : Open) (at : ℕ) (r : Reading (of_width w) transfers octets table st at) (more : at < length transfers) where
  pub holding-next : (rec octets' : List ℕ) (table' : List Entry) (st' : Open) → rec ≡ record_from (of_width w) transfers at → (marks marks' : List ℕ) → length octets' ≡ length octets
      → length marks' ≡ length marks → Clear st'.items marks'
      → Added (of_width w) rec (held_codes octets marks) table st (held_codes octets' marks') table' st'
      → Holding w transfers octets marks table st at → Holding w transfers octets' marks' table' st' (at + size (of_width w))
  holding-next rec octets' table' st' e marks marks' l m c a h =
      record {
        long = m ∙ h.long ∙ sym l;
        clear = c;
        stands =
            stands-next (of_width w) transfers octets table st at r more rec (held_codes octets marks) (held_codes octets' marks') table' st' e a
            h.stands;
      }

-- ---- reading it, record by record

-- and where `plain` is told, no item is marked
pub record Parsing (w : ℕ) (transfers octets marks : List ℕ) (table : List Entry) (st : Open) (at : ℕ) (plain : Bool) : Type 0 where
  pub reading : Reading (of_width w) transfers octets table st at
  pub holding : Holding w transfers octets (mark_bits marks) table st at
  pub unmarked : plain ≡ true → Unmarked (mark_bits marks)

pub parsing_starts : (w : ℕ) (transfers octets marks : List ℕ) (table : List Entry) → Passed (of_width w) transfers → Unmarked (mark_bits marks)
    → length octets ≡ item_room → length marks ≡ mark_room → length table ≡ stretch_room → Parsing w transfers octets marks table at_start 0 true
parsing_starts w transfers octets marks table p u i m t =
    record {
      reading = reading-starts (of_width w) transfers octets table p i t;
      holding = holding-starts w transfers octets (mark_bits marks) table (omega (arith, length-marks marks)) u;
      unmarked = λ e. u;
    }

-- as many octets of marks hold as many marks
marks-kept : (ms ms' : List ℕ) → length ms' ≡ length ms → length (mark_bits ms') ≡ length (mark_bits ms)
marks-kept ms ms' e = omega (arith, length-marks ms, length-marks ms')

module _ (w : ℕ) (transfers octets marks : List ℕ) (table : List Entry) (st : Open) (at : ℕ) (plain : Bool)
    (q : Parsing w transfers octets marks table st at plain) where
  -- usual records are skimmed
  pub parsing_skimmed : (octets' : List ℕ) (table' : List Entry) (st' : Open) (at' : ℕ) → Skimmed w transfers octets table st at octets' table' st' at'
      → Parsing w transfers octets' marks table' st' at' plain
  parsing_skimmed octets' table' st' at' k =
      record { reading = k.reading; holding = k.holding (mark_bits marks) q.holding; unmarked = q.unmarked }

  -- nothing is left: the last stretch is closed
  pub parsing_done : length transfers ≤ at → (after : List Entry) (n : ℕ) → FinishIs table st after n → Taken w transfers octets marks after n plain
  parsing_done done after n f =
      let g = reading_done (of_width w) transfers octets table st at q.reading done (codes_in octets marks) after n q.holding.stands f in
      record {
        taken = g.0;
        same_octets = q.reading.same_items;
        same_marks = q.holding.long ∙ q.reading.same_items;
        room = g.1;
        unmarked = q.unmarked;
      }

  -- another record stands there, in z octets
  module _ (more : at < length transfers) (z : ℕ) (e : z ≡ size (of_width w)) where
    pub parsing_fits : at + z ≤ length transfers
    parsing_fits = record_fits (of_width w) transfers at q.reading.left more z e

    is_here : record_at transfers at z ≡ record_from (of_width w) transfers at
    is_here = record_is (of_width w) transfers at q.reading.left more z e

    -- its fault is the take's
    pub parsing_refused : (f : Refusal) → first (transfer_faults (of_width w) (at / size (of_width w)) (record_at transfers at z)) ≡ Some f
        → first (transfer_checks (of_width w) 0 (records (of_width w) transfers)) ≡ Some f
    parsing_refused f h = reading-refused (of_width w) transfers octets table st at q.reading more (record_at transfers at z) f is_here h

    -- it is read
    module _ (octets' marks' : List ℕ) (table' : List Entry) (st' : Open) (l : length octets' ≡ length octets) (m : length marks' ≡ length marks)
        (sound : Sounds w (record_at transfers at z) (at / size (of_width w)) octets (mark_bits marks) table st octets' (mark_bits marks') table' st') where
      parsing_sound : (plain' : Bool) → (plain' ≡ true → Unmarked (mark_bits marks')) → Parsing w transfers octets' marks' table' st' (at + z) plain'
      parsing_sound plain' u =
          let a = sound.added in
          rw e
          (record {
            reading =
                reading-next (of_width w) transfers octets table st at q.reading more (record_at transfers at z) (codes_in octets marks)
                (codes_in octets' marks') table' st' is_here a.added octets' sound.faultless l;
            holding =
                holding-next w transfers octets table st at q.reading more (record_at transfers at z) octets' table' st' is_here
                (mark_bits marks) (mark_bits marks') l (marks-kept marks marks' m) a.clear a.added q.holding;
            unmarked = u;
          })

      -- no mark is touched
      pub parsing_read : mark_bits marks' ≡ mark_bits marks → Parsing w transfers octets' marks' table' st' (at + z) plain
      parsing_read same = parsing_sound plain (λ t. rw same (q.unmarked t))

      -- some are
      pub parsing_marked : Parsing w transfers octets' marks' table' st' (at + z) false
      parsing_marked = parsing_sound false (λ t. no_such refl t)
