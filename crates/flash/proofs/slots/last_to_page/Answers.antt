-- `last_to_page` makes of a page what a pass makes of it, piece by piece, and counts it.
use Rattle.flash.proofs.Kit.{◌≡◌, refl, sym, ap, ◌∙◌, ℕ, ◌+◌, ◌-◌, ◌≤◌, arith, length, take, drop, length-take, length-drop}
use Rattle.flash.proofs.Kit.{take_all}
use Rattle.flash.specs.Lists.{count}
use Rattle.flash.specs.PageSum.{written_bytes}
use Rattle.flash.specs.inner.Terms.{sum_of, passed}
use Rattle.flash.proofs.Loops.{front-all}
use Rattle.flash.proofs.PassLaws.{length-sum_of, length-passed, made, rest-counted}
use Rattle.flash.proofs.Written.{written-most}
use Rattle.flash.proofs.slots.last_to_page.Goals as goal

pub loop-i-init : goal.loop-i-init
unfolding written_bytes count
loop-i-init c = (refl, refl, omega arith, omega arith, omega arith)

pub loop-i-preserved : goal.loop-i-preserved
loop-i-preserved c =
    let mk = c.make_piece in
    let l = c.loop-i in
    let a = c.args in
    let sum = sum_of a.store.now a.p a.terms in
    let whole = length-sum_of a.store.now a.p a.terms in
    let new = passed a.store.now a.p a.terms a.add a.page.now in
    let n-is : l.i + 128 - l.i ≡ 128 = omega arith in
    let fits : l.i + 128 ≤ length a.page.now = omega (arith, c.requires.1, c.loop-i-test.true) in
    let m = made a.add a.page.now sum l.page _ l.i 128 (whole ∙ sym c.requires.1) fits l.invariant.0 (rw n-is at mk.ensures.0) in
    let counted = rw (← l.invariant.1, ← mk.ensures.1, ← c.from-written.ensures) at m.counted in (
      rw (n-is, c.copy_from_slice.ensures.after) m.put,
      counted,
      omega (arith, counted, written-most (take (l.i + 128) new), length-take (l.i + 128) new),
      omega arith,
      omega (arith, c.slice_known-in-loop-i-1.given),
    )

pub returns-then-i-p : goal.returns-then-i-p
returns-then-i-p c =
    let l = c.loop-i in
    let a = c.args in
    let new = passed a.store.now a.p a.terms a.add a.page.now in
    let size = length-passed a.store.now a.p a.terms a.add a.page.now c.requires.1 in
    let page-is = l.invariant.0 ∙ front-all new a.page.now l.i size (omega arith) in
    (page-is, l.invariant.1 ∙ ap written_bytes (take_all l.i new (omega arith) ∙ sym page-is))

pub returns : goal.returns
returns c =
    let sp = c.sum_piece in
    let l = c.loop-i in
    let a = c.args in
    let n : ℕ = a.p - l.i in
    let new = passed a.store.now a.p a.terms a.add a.page.now in
    let size = length-passed a.store.now a.p a.terms a.add a.page.now c.requires.1 in
    let whole = length-sum_of a.store.now a.p a.terms in
    let rest : length (take n (drop l.i l.page)) ≡ n = simp (length-take, length-drop) (omega arith) in
    let m = made a.add a.page.now (sum_of a.store.now a.p a.terms) l.page _ l.i n (whole ∙ sym c.requires.1) (omega arith)
    l.invariant.0 (rw rest at sp.ensures) in
    let page-is = m.put ∙ front-all new a.page.now (l.i + n) size (omega arith) in
    let counted = c.from.ensures ∙ c.count_few.ensures in
    (page-is, rest-counted new _ l.i a.p _ _ page-is (omega arith) (omega arith) l.invariant.1 counted ∙ ap written_bytes (sym page-is))
