-- `sum_to_page` leaves the sum of the pages of all slots in a page, and counts it: a read.
use Rattle.flash.proofs.Kit.{refl, ◌∙◌, ◌+◌, ◌*◌, ◌≤◌, arith, length, take, lt-ltb, length-take-le, take_all}
use Rattle.flash.specs.PageSum.{sum}
use Rattle.flash.specs.inner.Terms.{sum_of}
use Rattle.flash.proofs.PassLaws.{length-sum_of, pass-terms, pass-more}
use Rattle.flash.proofs.Written.{written-most}
use Rattle.flash.proofs.slots.sum_to_page.Goals as goal

pub loop-i-init : goal.loop-i-init
unfolding sum
loop-i-init c = (refl, omega arith, omega arith)

pub sum_piece-requires : goal.sum_piece-requires
sum_piece-requires c =
    let l = c.loop-i in
    let a = c.args in (
      pass-terms a.p a.slots.now l.i _ l.invariant.1 c.terms_of-terms.ensures
          (λ t. t * a.p + a.p ≤ length a.store.now) c.requires.by_index,
      omega arith,
    )

pub loop-i-preserved : goal.loop-i-preserved
loop-i-preserved c =
    let sp = c.sum_piece in
    let l = c.loop-i in
    let a = c.args in
    let t = c.terms_of-terms in
    let whole = length-sum_of a.store.now a.p t.result in
    let all = take_all (length l.page) (sum_of a.store.now a.p t.result) (omega (arith, whole)) in
    let more = pass-more a.p a.slots.now l.i t.result l.invariant.1 t.ensures a.store.now c.requires.by_index in
    let turn = c.loop-i-test.true in
    (rw (lt-ltb 0 (l.i + 4) (omega arith), sp.ensures, all, l.invariant.0) more, omega (arith, turn), omega (arith, sp.auto.piece))

pub last_to_page-requires : goal.last_to_page-requires
last_to_page-requires c =
    let l = c.loop-i in
    let a = c.args in (
      pass-terms a.p a.slots.now l.i _ l.invariant.1 c.terms_of-terms-2.ensures
          (λ t. t * a.p + a.p ≤ length a.store.now) c.requires.by_index,
      l.invariant.2,
    )

pub returns : goal.returns
returns c =
    let last = c.last_to_page in
    let t = c.terms_of-terms-2 in
    let l = c.loop-i in
    let a = c.args in
    let more = pass-more a.p a.slots.now l.i t.result l.invariant.1 t.ensures a.store.now c.requires.by_index in
    let left = c.loop-i-test.false in
    let all = take_all (l.i + 4) a.slots.now (omega (arith, left)) in (
      last.ensures.0 ∙ rw l.invariant.0 (more ∙ rw all),
      last.ensures.1,
      omega (arith, last.ensures.1, last.auto.page, written-most last.new.page),
    )
