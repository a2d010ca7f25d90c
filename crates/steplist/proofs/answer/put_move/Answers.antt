-- The numbers of a request are cut into its list and its bytes as its reading says.
use Rattle.flash.proofs.Kit.{arith, sym, ◌∙◌, ◌≤◌, length-take-le}
use Rattle.listing.proofs.InputLaws.{Bounded, bounded, few-originals}
use Rattle.steplist.proofs.RestLaws.{zeros-length}
use Rattle.steplist.proofs.AskedLaws.{room, readable, same-request}
use Rattle.steplist.proofs.answer.put_move.Goals as goal
use Rattle.steplist.proofs.answer.put_move.Lts as lts
use Rattle.steplist.proofs.answer.put_move.Reads as reads
use Rattle.steplist.proofs.answer.put_move.Tie as tie

limits : (c : lts.Start tie.the-claims reads.Pre reads.Post tie.handed_clauses) → Bounded c.args.sizes
limits c = bounded c.args.sizes c.requires.0.allowed

few : (c : lts.After-original_count tie.the-claims reads.Pre reads.Post tie.handed_clauses) → c.original_count-count.result ≤ 64
few c =
    let a = c.args in
    let l = limits c.before.before.before in
    omega (arith, c.original_count-count.ensures, few-originals a.sizes.n a.sizes.m l.few-blocks l.few-pages)

pub original_count-count-requires : goal.original_count-count-requires
original_count-count-requires c = omega (arith, limits c.before.before.before)

pub numbers_due-due-requires : goal.numbers_due-due-requires
numbers_due-due-requires c = omega (arith, limits c.before.before.before.before, few c.before)

pub slice_bounds-put_judged-end : goal.slice_bounds-put_judged-end
slice_bounds-put_judged-end c =
    let a = c.args in
    sym (length-take-le c.original_count-count.result a.numbers.now
    (omega (
      arith,
      room a.sizes c.original_count-count.result c.numbers_due-due.result a.numbers.now c.original_count-count.ensures
          c.numbers_due-due.ensures.0 c.requires.0 (omega arith),
      c.numbers_due-due.ensures,
    )))

pub slice_bounds-list-end : goal.slice_bounds-list-end
slice_bounds-list-end c = few c.before.before.before

pub slice_bounds-put_judged-end-3 : goal.slice_bounds-put_judged-end-3
slice_bounds-put_judged-end-3 c = sym (zeros-length c.original_count-count.result 64 (few c.before.before.before.before))

pub slice_bounds-sets-end : goal.slice_bounds-sets-end
slice_bounds-sets-end c = few c.before.before.before.before

pub slice_bounds-put_judged-end-4 : goal.slice_bounds-put_judged-end-4
slice_bounds-put_judged-end-4 c = sym (zeros-length c.original_count-count.result 64 (few c.before.before.before.before.before))

pub put_judged-requires : goal.put_judged-requires
put_judged-requires c =
    let a = c.args in
    let size = zeros-length c.original_count-count.result 64 (few c.before.before.before.before.before) ∙ c.original_count-count.ensures in (
      readable a.sizes c.original_count-count.result c.numbers_due-due.result a.numbers.now c.original_count-count.ensures
          c.numbers_due-due.ensures.0 c.requires.0 (omega arith),
      size,
      size,
      omega arith,
    )

pub returns : goal.returns
returns c =
    let a = c.args in
    let answer = c.put_judged.ensures.written in
    rw (same-request a.sizes c.original_count-count.result c.numbers_due-due.result a.numbers.now c.original_count-count.ensures
    c.numbers_due-due.ensures.0 c.requires.0 (omega arith)) at answer
