-- `Tagged::put_items` meets its contract: item by item, from the last one down. Assumes nothing.
use native.Mathlib.Omega.{arith}
use Rattle.repack_tags.proofs.Putting.{strb-small, user-small, user-moved, putting_item}
use Rattle.repack_tags.proofs.Tagged.put_items.Goals as goal

pub overflow_mul-strb : goal.overflow_mul-strb
overflow_mul-strb c =
    let a = c.args in
    let l = c.loop-j in
    record { fits = omega (arith, strb-small a.self.now.user a.self.now.items.now a.from a.n a.out.now c.requires.few.1 l.out l.strb l.user l.j l.invariant c.requires.few.0) }

pub overflow_add-strb : goal.overflow_add-strb
overflow_add-strb c =
    let a = c.args in
    let l = c.loop-j in
    record { fits = omega (arith, strb-small a.self.now.user a.self.now.items.now a.from a.n a.out.now c.requires.few.1 l.out l.strb l.user l.j l.invariant c.requires.few.0) }

pub overflow_add-user : goal.overflow_add-user
overflow_add-user c =
    let a = c.args in
    let l = c.loop-j in
    rw (c.from-in-loop-j.ensures, user-moved a.self.now.user a.self.now.items.now a.from a.n a.out.now c.requires.few.1 l.out l.strb l.user l.j l.invariant c.loop-j-test.true c.requires.few.0 a.self.now.narrow c.requires.fits)
    (record { fits = user-small a.self.now.user a.self.now.items.now a.from a.n a.out.now c.requires.few.1 l.out l.strb l.user l.j l.invariant c.loop-j-test.true c.requires.few.0 a.self.now.narrow c.requires.fits })

pub loop-j-preserved : goal.loop-j-preserved
loop-j-preserved c =
    let a = c.args in
    let l = c.loop-j in
    rw (c.from.ensures, c.from-in-loop-j.ensures)
    (putting_item a.self.now.user a.self.now.items.now a.from a.n a.out.now c.requires.few.1 l.out l.strb l.user l.j l.invariant c.loop-j-test.true c.requires.few.2 _ (user-moved a.self.now.user a.self.now.items.now a.from a.n a.out.now c.requires.few.1 l.out l.strb l.user l.j l.invariant c.loop-j-test.true c.requires.few.0 a.self.now.narrow c.requires.fits))
