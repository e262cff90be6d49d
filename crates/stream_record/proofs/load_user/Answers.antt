-- `stream_record::load_user` meets its contract: the last octets are its user bits, where it has any. Assumes nothing.
use native.Mathlib.Omega.{arith}
use Rattle.stream_record.proofs.Users.{none_loaded, eight-before, user_loaded}
use Rattle.stream_record.proofs.load_user.Goals as goal

pub returns-then-k-eq0 : goal.returns-then-k-eq0
returns-then-k-eq0 c =
    let a = c.args in
    let k = c.user_octets-k in
    none_loaded a.s a.rec.now k.result k.ensures.0 c.if-k-eq0.true

pub load_before-requires : goal.load_before-requires
load_before-requires c =
    let k = c.user_octets-k in
    omega (arith, k.ensures.1, c.if-k-eq0.false, eight-before c.args.s c.args.rec.now k.result k.ensures.0 c.if-k-eq0.false c.requires.1)

pub returns : goal.returns
returns c =
    let a = c.args in
    let k = c.user_octets-k in
    user_loaded a.s a.rec.now k.result k.ensures.0 c.load_before.result c.requires.1 c.load_before.ensures
