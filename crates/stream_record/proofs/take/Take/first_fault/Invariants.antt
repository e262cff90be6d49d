use Rattle.std.specs.Slice.Iter.{chunks_exact_rest, chunks_exact_size}
use Rattle.std.proofs.Common.{◌≡◌, ℕ, List}
use Rattle.refusal.specs.declared.Refusal.{Refusal}
use Rattle.refusal.specs.Checks.{Check}
use Rattle.stream_spec.specs.Layout.{size}
use Rattle.stream_record.specs.Finding.{TellsFaults}
use Rattle.stream_record.proofs.RecordFaults.{Ahead}
use Rattle.stream_record.proofs.Walking.{Walking}
use Rattle.stream_record.proofs.take.Take.first_fault.Given as goal

abbrev pub invariant-loop-k : goal.invariant-loop-k
invariant-loop-k g l =
    let left = l.k-iterator.iter in
    (goal.iterator-loop-k g).can_next l.k-iterator
    × (goal.iterator-loop-k g).is_finite l.k-iterator
    × (chunks_exact_size left ≡ size l.self.shape)
    × Walking l.self.shape l.self.octets.now (chunks_exact_rest left) l.k-iterator.count
    × ((checks : ℕ → List ℕ → List (Check Refusal)) → TellsFaults (goal.F-post g l.fault) l.self.shape l.self.octets.now checks
    → Ahead checks l.self.shape l.self.octets.now (chunks_exact_rest left) l.k-iterator.count)
