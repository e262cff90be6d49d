-- `stream_repack::convert_tagged` meets its contract: a record's fault is the answer, or what writing the stretches answers.
-- Assumes nothing.
use Rattle.std.specs.Prelude.{Some}
use Rattle.std.specs.Result.{result_err}
use Rattle.std.proofs.Common.{rules, ◌≡◌}
use native.Mathlib.Omega.{arith}
use lib.ListN.{take}
use Rattle.repack_scratch.specs.Codes.{total}
use Rattle.repack_tags.proofs.Lanes.{tags_front}
use Rattle.stream_repack.proofs.Answer.{bad_record, no_fault}
use Rattle.stream_repack.proofs.convert_tagged.Goals as goal

pub returns-in_err-n : goal.returns-in_err-n
returns-in_err-n c =
    let t = c.args.take.now in
    let f = c.in_err-n in
    let given : result_err c.from_residual.result ≡ Some f.field-0.0 = search rules in
    bad_record t.shape c.args.v t.octets.now c.args.out.now c.requires f.field-0.0 f.ensures c.from_residual.result given

pub emit-requires-clause-held : goal.emit-requires-clause-held
emit-requires-clause-held c =
    let t = c.args.take.now in
    let k = c.in_ok-n.ensures in
    let n = total (take c.in_ok-n.n c.parse.new.table) in
    (omega (arith, k.room), tags_front t.shape.user n c.parse.new.items k.fits (omega (arith, k.room)))

pub returns : goal.returns
returns c =
    let t = c.args.take.now in
    no_fault t.shape c.args.v t.octets.now c.args.out.now c.requires _ c.parse.new.table c.in_ok-n.n c.in_ok-n.ensures.taken c.emit.new.out c.emit.result c.emit.ensures
