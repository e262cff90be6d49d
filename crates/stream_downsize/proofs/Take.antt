-- A take, record by record: its slices as they are written, stated by what remains. Assumes nothing.
use mathlib.Core.Path.{◌≡◌, ap, ◌∙◌, subst}
use mathlib.Core.List.{List, [], ◌∷◌, ◌++◌, map}
use Prim.Native.Nat.{ℕ, ◌%◌, ◌<◌}
use lib.ListN.{length}
use Rattle.stream_spec.specs.declared.Shape.{Shape}
use Rattle.stream_spec.specs.Packed.{slice_transfer, slices}
use Rattle.stream_spec.specs.Layout.{size, transfer_of, records, transfers, octets, sliced}
use Rattle.stream_spec.specs.Memory.{in_front, Writing, Writes}
use Rattle.stream_spec.proofs.Legal.{Faultless, faultless_of}
use Rattle.stream_spec.proofs.Memory.{writing_start, writing_as, writing-end, piece-room}
use Rattle.stream_spec.proofs.Records.{octets-append}
use Rattle.stream_spec.proofs.Walk.{records_front, records_behind, no_records_short}
use Rattle.stream_downsize.specs.Slices.{record_slices, RecordFits, TakeFits}

-- of the slices those of the records in `rest` are to be written
pub record Sliding (s t : Shape) (xs out₀ out : List ℕ) (to : ℕ) (rest : List ℕ) : Type 0 where
  pub whole : length rest % size s ≡ 0
  pub faultless : Faultless s (records s rest)
  pub writing : Writing out₀ out to (sliced s t.width xs) (sliced s t.width rest)

pub sliding_starts : (s t : Shape) (xs out rest : List ℕ) → TakeFits s t xs out → rest ≡ xs → Sliding s t xs out out 0 rest
sliding_starts s t xs out rest f e =
    rw e
    (record {
      whole = f.passed.whole;
      faultless = faultless_of s 0 (records s xs) f.faultless;
      writing = writing_start out (sliced s t.width xs) f.room;
    })

module _ (s t : Shape) (xs out₀ out : List ℕ) (to : ℕ) (rest : List ℕ) (p : Sliding s t xs out₀ out to rest) where
  -- the record in front
  module _ (r behind : List ℕ) (cut : rest ≡ r ++ behind) (long : length r ≡ size s) where
    front : records s rest ≡ r ∷ records s behind
    front = records_front s rest r behind cut long p.whole

    sound : Faultless s (r ∷ records s behind)
    sound = subst (λ (rs : List (List ℕ)). Faultless s rs) front p.faultless

    split : sliced s t.width rest ≡ record_slices s t r ++ sliced s t.width behind
    split =
        ap (λ (rs : List (List ℕ)). octets s.user (slices s.width t.width (map (transfer_of s) rs))) front
        ∙ octets-append s.user (slice_transfer s.width t.width (transfer_of s r)) (slices s.width t.width (transfers s behind))

    next-writing : Writing out₀ out to (sliced s t.width xs) (record_slices s t r ++ sliced s t.width behind)
    next-writing = writing_as out₀ out (sliced s t.width xs) (sliced s t.width rest) (record_slices s t r ++ sliced s t.width behind) to split p.writing

    -- what a call of `put_slices` asks
    pub sliding_asks : (lent : List ℕ) → TakeFits s t xs lent → RecordFits s t r out to
    sliding_asks lent f =
        record {
          cuts = f.cuts;
          whole = long;
          sound = sound.1;
          room = piece-room out₀ out (sliced s t.width xs) (record_slices s t r) (sliced s t.width behind) to next-writing;
        }

    pub sliding_next : (after : List ℕ) (next : ℕ) → Writes (record_slices s t r) out to after next → Sliding s t xs out₀ after next behind
    sliding_next after next w =
        record {
          whole = records_behind s rest r behind cut long p.whole;
          faultless = sound.2;
          writing = w out₀ (sliced s t.width xs) (sliced s t.width behind) next-writing;
        }

  -- nothing is left: the slices, and behind them the memory as it was
  pub sliding_done : length rest < size s → out ≡ in_front (sliced s t.width xs) out₀
  sliding_done h =
      let nothing : sliced s t.width rest ≡ [] =
      ap (λ (rs : List (List ℕ)). octets s.user (slices s.width t.width (map (transfer_of s) rs))) (no_records_short s rest h) in
      writing-end out₀ out (sliced s t.width xs) to
      (writing_as out₀ out (sliced s t.width xs) (sliced s t.width rest) [] to nothing p.writing)
