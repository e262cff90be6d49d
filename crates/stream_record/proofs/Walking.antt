-- Walking over the records of a take: what is left is what lies behind so many records, and it is whole records. Assumes nothing.
use mathlib.Core.Path.{◌≡◌, sym, ap, ◌∙◌}
use mathlib.Core.List.{List, ◌++◌}
use Prim.Native.Nat.{ℕ, suc, ◌+◌, ◌-◌, ◌*◌, ◌%◌, ◌≤◌, ◌<◌}
use native.Mathlib.Nat.{zero-add, zero-mul, suc-mul, add-mul, mul-mod_left}
use native.Mathlib.Numerals.{add-one}
use native.Mathlib.Omega.{arith}
use lib.ListN.{length, take, drop, length-append, length-drop}
use lib.Seq.{drop-drop, drop_at, take_all}
use Rattle.stream_spec.specs.declared.Shape.{Shape}
use Rattle.stream_spec.specs.Layout.{size, record_count}
use Rattle.stream_spec.specs.Walk.{Passed}
use Rattle.stream_spec.proofs.Size.{size_pos}
use Rattle.stream_spec.proofs.Records.{length-pieces, whole-count}
use Rattle.stream_spec.proofs.Walk.{records_front, records_behind}

-- `rest` is left of xs behind k records
pub record Walking (s : Shape) (xs rest : List ℕ) (k : ℕ) : Type 0 where
  pub place : rest ≡ drop (k * size s) xs
  pub whole : length rest % size s ≡ 0
  pub count : k + record_count s rest ≡ record_count s xs
  pub few : k + length rest ≤ length xs

pub walking_starts : (s : Shape) (xs rest : List ℕ) (k : ℕ) → length xs % size s ≡ 0 → rest ≡ xs → k ≡ 0 → Walking s xs rest k
walking_starts s xs rest k w e f =
    rw (e, f)
    (record {
      place = sym (ap (λ (n : ℕ). drop n xs) (zero-mul (size s)));
      whole = w;
      count = zero-add (record_count s xs);
      few = omega arith;
    })

module _ (s : Shape) (xs rest : List ℕ) (k : ℕ) (h : Walking s xs rest k) (r after : List ℕ) (cut : rest ≡ r ++ after) (long : length r ≡ size s) where
  one_more : record_count s rest ≡ suc (record_count s after)
  one_more =
      sym (length-pieces (size s) (record_count s rest) rest)
      ∙ ap length (records_front s rest r after cut long h.whole)
      ∙ ap suc (length-pieces (size s) (record_count s after) after)

  -- the record in front is one of the take, which an iterator counts as j
  pub walking_within : (j : ℕ) → j ≡ k → j < record_count s xs
  walking_within j q = omega (arith, h.count, one_more)

  pub walking_next : (n : ℕ) → n ≡ k + 1 → Walking s xs after n
  walking_next n m =
      rw (m, add-one k)
      (record {
        place =
            sym (drop_at r after (size s) long)
            ∙ ap (drop (size s)) (sym cut ∙ h.place)
            ∙ drop-drop (size s) (k * size s) xs
            ∙ ap (λ (n : ℕ). drop n xs) (sym (suc-mul k (size s)));
        whole = records_behind s rest r after cut long h.whole;
        count = omega (arith, h.count, one_more);
        few = omega (arith, h.few, ap length cut, length-append r after, size_pos s);
      })

-- what lies behind k records is a take too; the code has a record's size in z, and lends all that is left
pub passed_behind : (s : Shape) (xs : List ℕ) → Passed s xs → (k : ℕ) → k ≤ record_count s xs → (z : ℕ) → z ≡ size s
    → Passed s (take (length xs - k * z) (drop (k * z) xs))
passed_behind s xs p k h z q =
    let n = record_count s xs in
    let all : length xs ≡ n * size s = whole-count s xs p.whole in
    let split : (n - k) * size s + k * size s ≡ n * size s = sym (add-mul (n - k) k (size s)) ∙ ap (λ (m : ℕ). m * size s) (omega arith) in
    let left : length (drop (k * z) xs) ≡ (n - k) * size s = rw q (omega (arith, length-drop (k * size s) xs)) in
    rw (take_all (length xs - k * z) (drop (k * z) xs) (omega (arith, length-drop (k * z) xs)))
    (record {
      low = p.low;
      high = p.high;
      user = p.user;
      whole = rw left (mul-mod_left (n - k) (size s));
      short = omega (arith, length-drop (k * z) xs, p.short);
    })
