-- `Marked::mark` meets its contract: bit i % 8 of octet i / 8. Assumes nothing.
use mathlib.Core.Path.{◌≡◌, sym, ◌∙◌}
use Prim.Native.Nat.{◌*◌, ◌/◌, ◌%◌, ◌^◌}
use native.Mathlib.Omega.{arith}
use lib.ListN.{get_or}
use Rattle.stream_record.proofs.Padding.{shifted_octet}
use Rattle.repack_scratch.proofs.Marks.{mark_at}
use Rattle.repack_marked.proofs.Near.{bit-back}
use Rattle.repack_marked.proofs.Marked.mark.Goals as goal

pub returns : goal.returns
returns c =
    let i = c.args.i in
    let marks = c.args.self.now.marks.now in
    let one : 1 * 2 ^ (i % 8) % 256 ≡ 2 ^ (i % 8) = shifted_octet (i % 8) (omega arith) in
    rw one (bit-back (get_or marks (i / 8) 0 / 2 ^ (i % 8)) ∙ sym (mark_at marks i (omega (arith, c.args.self.now.same, c.requires))))
