-- `stream_repack::convert_bare` meets its contract: a record's fault is the answer, or what writing the stretches answers. Assumes nothing.
use Rattle.std.specs.Prelude.{Some}
use Rattle.std.specs.Result.{result_err}
use Rattle.std.proofs.Common.{rules, ◌≡◌}
use mathlib.Core.Path.{sym, ◌∙◌, subst}
use Rattle.stream_spec.specs.declared.Shape.{Shape}
use Rattle.repack_scratch.specs.Codes.{codes_in, mark_bits}
use Rattle.repack_scratch.proofs.Held.{unmarked-held}
use Rattle.repack_parse.specs.Read.{TakenAs}
use Rattle.stream_repack.proofs.Answer.{bad_record, no_fault, bare_shape}
use Rattle.stream_repack.proofs.convert_bare.Goals as goal

pub returns-in_err-parsed : goal.returns-in_err-parsed
returns-in_err-parsed c =
    let t = c.args.take.now in
    let f = c.in_err-parsed in
    let given : result_err c.from_residual.result ≡ Some f.field-0.0 = search rules in
    bad_record t.shape c.args.v t.octets.now c.args.out.now c.requires.tested f.field-0.0 (rw (bare_shape t.shape c.requires.bare) at f.ensures) c.from_residual.result given

pub returns-then-parsed : goal.returns-then-parsed
returns-then-parsed c =
    let t = c.args.take.now in
    let k = c.in_ok-parsed.ensures in
    let octets = c.parse.new.octets in
    let marks = c.parse.new.marks in
    let n = c.in_ok-parsed.parsed.stretches in
    let unmarked = unmarked-held octets (mark_bits marks) (k.same_octets ∙ sym k.same_marks) (k.unmarked c.if-parsed.true) in
    let taken : TakenAs t.shape t.octets.now (codes_in octets marks) c.parse.new.table n =
    subst (λ (s : Shape). TakenAs s t.octets.now (codes_in octets marks) c.parse.new.table n) (bare_shape t.shape c.requires.bare) k.taken in
    no_fault t.shape c.args.v t.octets.now c.args.out.now c.requires.tested (codes_in octets marks) c.parse.new.table n taken c.emit.new.out c.emit.result
    (rw (c.requires.bare, unmarked) c.emit.ensures)

pub returns-else-parsed : goal.returns-else-parsed
returns-else-parsed c =
    let t = c.args.take.now in
    let k = c.in_ok-parsed.ensures in
    let octets = c.parse.new.octets in
    let marks = c.parse.new.marks in
    let n = c.in_ok-parsed.parsed.stretches in
    let taken : TakenAs t.shape t.octets.now (codes_in octets marks) c.parse.new.table n =
    subst (λ (s : Shape). TakenAs s t.octets.now (codes_in octets marks) c.parse.new.table n) (bare_shape t.shape c.requires.bare) k.taken in
    no_fault t.shape c.args.v t.octets.now c.args.out.now c.requires.tested (codes_in octets marks) c.parse.new.table n taken c.emit-else-parsed.new.out c.emit-else-parsed.result
    (rw c.requires.bare (rw (c.new.ensures.octets, c.new.ensures.marks) at c.emit-else-parsed.ensures))
