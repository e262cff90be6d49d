-- The contract of the report leaves no choice: two answers that meet it on the same arguments are
-- equal, with the numbers they show, and so is lent memory afterwards. A field that says nothing breaks one of these proofs.
-- Last, the same of what is promised of a result. Assumes nothing.
use mathlib.Core.Path.{◌≡◌, sym, ◌∙◌, subst}
use mathlib.Core.List.{List}
use Prim.Native.Nat.{ℕ, ◌*◌, ◌≤◌}
use Rattle.stream_spec.specs.Layout.{size, stream_items}
use Rattle.stream_spec.specs.Memory.{in_front}
use Rattle.stream_spec.specs.Legal.{Legal}
use Rattle.report_setup_spec.specs.declared.Setup.{Setup}
use Rattle.report_spec.specs.declared.Tally.{Tally}
use Rattle.report_spec.specs.declared.Summary.{Summary}
use Rattle.report_spec.specs.Report.{out_shape, packet_count, verdict_values, Whole, Reported}
use Rattle.report_spec.specs.Promises.{WritesNothing, CleanTally, OnePacketEach, NoPacketEnds}

pub both : {A : Type 0} {x y z : A} → x ≡ z → y ≡ z → x ≡ y
both p q = p ∙ sym q

-- ---- contracts; o and t are output and text as one call leaves them, o' and t' as the other does

pub reported_once : {w : Whole} {out o o' text t t' : List ℕ} {a b : Summary} → Reported w out o text t a → Reported w out o' text t' b
    → (a ≡ b) × (verdict_values a.verdict ≡ verdict_values b.verdict) × (o ≡ o') × (t ≡ t')
reported_once p q = (
  λ i. record { verdict = both p.is q.is i; text = both p.text_length q.text_length i; octets = both p.result_length q.result_length i },
  both p.shows q.shows,
  both p.leaves q.leaves,
  both p.tells q.tells,
)

-- ---- promises

pub nothing_once : {a b : List ℕ} → WritesNothing a → WritesNothing b → (a ≡ b) × ((out : List ℕ) → in_front a out ≡ in_front b out)
nothing_once p q = (both p.nothing q.nothing, λ out. both (p.kept out) (q.kept out))

pub tally_once : {u : Setup} {capture : List ℕ} {room : ℕ} {result : List ℕ} {a b : Tally}
    → CleanTally u capture room result a → CleanTally u capture room result b → a ≡ b
tally_once p q = λ i. record {
  transfers = both p.transfers q.transfers i;
  packets = both p.packets q.packets i;
  records = both p.written q.written i;
}

-- two results of one take carry the same items, and end as many packets
pub items_once : {u : Setup} {capture : List ℕ} {room : ℕ} {o o' : List ℕ} {a b : Tally} → CleanTally u capture room o a → CleanTally u capture room o' b
    → (stream_items (out_shape u) o ≡ stream_items (out_shape u) o') × (packet_count (out_shape u) o ≡ packet_count (out_shape u) o')
items_once p q = (both p.items q.items, sym p.packets_out ∙ both p.packets q.packets ∙ q.packets_out)

-- a port without a TLAST wire: the word decides the result, octet for octet, and both counts
pub absent_once : {u : Setup} {capture o o' : List ℕ} {a b : Tally} → OnePacketEach u capture o a → OnePacketEach u capture o' b
    → (o ≡ o') × (a.transfers ≡ b.transfers) × (a.packets ≡ b.packets)
absent_once p q = (both p.apart q.apart, both p.transfers q.transfers, p.packets ∙ both p.transfers q.transfers ∙ sym q.packets)

pub low_once : {u : Setup} {capture o o' : List ℕ} {a b : Tally} → NoPacketEnds u capture o a → NoPacketEnds u capture o' b
    → (o ≡ o') × (a.transfers ≡ b.transfers) × (a.packets ≡ b.packets)
low_once p q = (both p.across q.across, both p.transfers q.transfers, both p.packets q.packets)

-- a result is a legal stream of so many records, and they fit
pub result_fits : {u : Setup} {capture : List ℕ} {room : ℕ} {result : List ℕ} {t : Tally} → CleanTally u capture room result t
    → Legal (out_shape u) result × (t.records * size (out_shape u) ≤ room)
result_fits {room = room} p = (p.legal, subst (λ (n : ℕ). n ≤ room) p.long p.fits)
