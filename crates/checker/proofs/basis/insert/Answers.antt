-- `insert` goes from lowest bit to lowest bit, until a row is empty or nothing is left.
use Rattle.flash.proofs.Kit.{sym, ap, ◌∙◌, subst, ℕ, ◌+◌, arith}
use Rattle.checker.specs.inner.Elimination.{Echelon, filled_rows, inserted}
use Rattle.checker.proofs.FilledLaws.{filled-few}
use Rattle.checker.proofs.RowTurns.{inserted-none, turn-put, turn-add}
use Rattle.checker.proofs.basis.insert.Goals as goal
use Rattle.checker.proofs.basis.insert.Lts as lts
use Rattle.checker.proofs.basis.insert.Reads as reads
use Rattle.checker.proofs.basis.insert.Tie as tie

echelon : (c : lts.After-lowest_bit tie.the-claims reads.Pre reads.Post goal.the-invariant-loop-rest goal.the-decreases-loop-rest tie.handed_clauses)
    → Echelon c.loop-rest.basis
echelon c = subst Echelon (sym c.loop-rest.invariant.0) c.requires.0

pub overflow_add-result : goal.overflow_add-result
overflow_add-result c =
    omega (arith, c.requires.1, c.requires.0.size, filled-few c.args.basis.now)

pub returns-then-row-eq0 : goal.returns-then-row-eq0
returns-then-row-eq0 c =
    let l = c.loop-rest in
    let p = turn-put l.basis (echelon c.before.before.before) l.rest c.loop-rest-test.true l.invariant.1 c.lowest_bit-i.result c.lowest_bit-i.ensures
    c.if-row-eq0.true in
    record { value = ap (λ (x : ℕ). x + 1) (c.requires.1 ∙ ap filled_rows (sym l.invariant.0)) ∙ p.0; basis_after = p.1 ∙ sym l.invariant.2 }

pub loop-rest-smaller : goal.loop-rest-smaller
loop-rest-smaller c =
    let l = c.loop-rest in
    (turn-add l.basis (echelon c.before.before.before.before) l.rest c.loop-rest-test.true l.invariant.1 c.lowest_bit-i.result c.lowest_bit-i.ensures
    c.if-row-eq0.false).0

pub loop-rest-preserved : goal.loop-rest-preserved
loop-rest-preserved c =
    let l = c.loop-rest in
    let p = turn-add l.basis (echelon c.before.before.before.before) l.rest c.loop-rest-test.true l.invariant.1 c.lowest_bit-i.result
    c.lowest_bit-i.ensures c.if-row-eq0.false in
    (l.invariant.0, p.1, l.invariant.2 ∙ p.2)

pub returns : goal.returns
returns c =
    let l = c.loop-rest in
    record {
      value = c.requires.1 ∙ ap filled_rows (sym l.invariant.0);
      basis_after = sym (l.invariant.2 ∙ ap (inserted 0 l.basis) c.loop-rest-test.false ∙ inserted-none 0 l.basis);
    }
