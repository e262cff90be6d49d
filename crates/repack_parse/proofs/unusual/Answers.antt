-- `repack_parse::unusual` meets its contract: a sound record is added, of whatever kind. Assumes nothing.
use mathlib.Core.Path.{refl, ◌∙◌}
use Prim.Native.Nat.{◌/◌}
use native.Mathlib.Omega.{arith}
use Rattle.stream_spec.specs.Layout.{size, of_width}
use Rattle.stream_record.proofs.RecordFaults.{told-sound}
use Rattle.repack_scratch.specs.Codes.{codes_in, mark_bits}
use Rattle.repack_scratch.proofs.Marks.{length-marks}
use Rattle.repack_parse.proofs.Records.{added_none}
use Rattle.repack_parse.proofs.Lanes.{data_marked}
use Rattle.repack_parse.proofs.unusual.Goals as goal

pub returns-then-h-eq0 : goal.returns-then-h-eq0
returns-then-h-eq0 c =
    let a = c.args in
    let p = c.requires in
    let s = of_width a.lanes.width in
    let h = c.in_ok-h in (
      record {
        faultless = told-sound s a.rec.now (a.at / size s) h.ensures.1;
        added = record {
          added =
              added_none s a.rec.now a.octets.now a.table.now h.h a.state.now (λ i. omega (arith, c.type_inv.rec i)) p.whole.0 h.ensures.0 p.whole.1
              (codes_in a.octets.now a.marks.now) c.if-h-eq0.true;
          clear = p.unmarked.1;
        };
      },
      λ e. refl,
    )

pub returns-then-h : goal.returns-then-h
returns-then-h c =
    let a = c.args in
    let p = c.requires in
    let s = of_width a.lanes.width in
    let add = c.add_data in (
      record {
        faultless = told-sound s a.rec.now (a.at / size s) c.in_ok-h.ensures.1;
        added =
            data_marked a.lanes.width a.rec.now a.octets.now (mark_bits a.marks.now) a.table.now a.state.now add.new.octets add.new.table add.new.state
            (length-marks a.marks.now ∙ p.unmarked.0) p.unmarked.1 add.ensures;
      },
      λ e. refl,
    )
