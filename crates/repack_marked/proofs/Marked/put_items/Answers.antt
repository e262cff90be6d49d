-- `Marked::put_items` meets its contract: item by item, from the last one down. Assumes nothing.
use mathlib.Core.Path.{◌≡◌, refl, sym, ap, ◌∙◌}
use mathlib.Core.List.{List, ◌∷◌, ◌++◌, map}
use Prim.Native.Nat.{ℕ, ◌+◌, ◌-◌, ◌*◌, ◌≤◌, ◌<◌}
use native.Mathlib.Omega.{arith}
use lib.ListN.{length, get_or, take, drop, length-set, length-drop}
use lib.Seq.{slice, get_or-drop}
use Rattle.stream_spec.specs.Layout.{mask_of}
use Rattle.stream_write.proofs.Fill.{fill_down}
use Rattle.repack_scratch.specs.Codes.{held_codes, mark_bits}
use Rattle.repack_scratch.proofs.Held.{length-held, drop-held}
use Rattle.repack_plain.specs.Write.{item_octet, item_strobe}
use Rattle.repack_plain.proofs.Lanes.{octets_down, strb_down, slice_small}
use Rattle.repack_marked.proofs.Near.{marks-same, strobe_back}
use Rattle.repack_marked.proofs.Marked.put_items.Invariants.{items}
use Rattle.repack_marked.proofs.Marked.put_items.Goals as goal

same : (octets marks : List ℕ) (from : ℕ) → length octets ≡ 8 * length marks → length (drop from octets) ≡ length (drop from (mark_bits marks))
same octets marks from h = omega (arith, length-drop from octets, length-drop from (mark_bits marks), marks-same octets marks h)

few : (octets marks : List ℕ) (from j n : ℕ) → length octets ≡ 8 * length marks → from + n ≤ length octets → n ≤ 16
    → mask_of (map item_strobe (slice j n (items octets marks from))) < 0x10000
few octets marks from j n h l k =
    slice_small (items octets marks from) j n
    (omega (arith, length-held (drop from octets) (drop from (mark_bits marks)) (same octets marks from h), length-drop from octets)) k

pub overflow_mul-strb : goal.overflow_mul-strb
overflow_mul-strb c =
    let a = c.args in
    let l = c.loop-j in
    record { fits = omega (arith, l.invariant.2, few a.self.now.octets.now a.self.now.marks.now a.from l.j a.n a.self.now.same c.requires.1 c.requires.0) }

pub overflow_add-strb : goal.overflow_add-strb
overflow_add-strb c =
    let a = c.args in
    let l = c.loop-j in
    record { fits = omega (arith, l.invariant.2, c.from.ensures, few a.self.now.octets.now a.self.now.marks.now a.from l.j a.n a.self.now.same c.requires.1 c.requires.0) }

pub loop-j-preserved : goal.loop-j-preserved
loop-j-preserved c =
    let a = c.args in
    let l = c.loop-j in
    let octets = a.self.now.octets.now in
    let marks = a.self.now.marks.now in
    let d = c.from-d.result in
    let ds = drop a.from octets in
    let ms = drop a.from (mark_bits marks) in
    let x = get_or octets (a.from + (l.j - 1)) 0 in
    let here : get_or ds (l.j - 1) 0 ≡ x = get_or-drop a.from octets (l.j - 1) 0 in
    let small : get_or ds (l.j - 1) 0 < 256 = omega (arith, here, a.self.now.small (a.from + (l.j - 1))) in
    let inside : a.n ≤ length ds = omega (arith, length-drop a.from octets, c.requires.1) in
    let marked : d ≡ 1 - get_or ms (l.j - 1) 0 =
    strobe_back c.mark.result d (get_or ms (l.j - 1) 0) c.from-d.ensures (c.mark.ensures ∙ sym (get_or-drop a.from (mark_bits marks) (l.j - 1) 0)) in
    let both = same octets marks a.from a.self.now.same in (
      omega arith,
      length-set l.out (7 + (l.j - 1)) (x * d) ∙ l.invariant.1,
      ap (λ (y : ℕ). 2 * l.strb + y) c.from.ensures ∙ strb_down ds ms l.j (l.j - 1) a.n (omega arith) (omega arith) inside both small d marked l.strb l.invariant.2,
      fill_down a.out.now (map item_octet (slice l.j a.n (held_codes ds ms)) ++ drop (7 + a.n) a.out.now) l.out (7 + (l.j - 1)) (7 + l.j) (x * d) (omega arith) (omega arith) l.invariant.3
          ∙ ap (λ (zs : List ℕ). take (7 + (l.j - 1)) a.out.now ++ (zs ++ drop (7 + a.n) a.out.now))
          (ap (λ (y : ℕ). y * d ∷ map item_octet (slice l.j a.n (held_codes ds ms))) (sym here)
          ∙ octets_down ds ms l.j (l.j - 1) a.n (omega arith) (omega arith) inside both small d marked),
    )

pub returns : goal.returns
returns c =
    let a = c.args in
    let l = c.loop-j in
    let all : l.j ≡ 0 = omega arith in
    let is : drop a.from (held_codes a.self.now.octets.now (mark_bits a.self.now.marks.now)) ≡ items a.self.now.octets.now a.self.now.marks.now a.from =
    drop-held a.from a.self.now.octets.now (mark_bits a.self.now.marks.now) (marks-same a.self.now.octets.now a.self.now.marks.now a.self.now.same) in
    record { value = rw is (l.invariant.2 ∙ rw all refl); out_after = rw is (l.invariant.3 ∙ rw all refl) }
