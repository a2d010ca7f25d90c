-- `are_determined` inserts all pages and counts the rows.
use Rattle.flash.proofs.Kit.{sym, ap, ◌∙◌, ℕ, arith, eqb}
use Rattle.checker.proofs.BasisLaws.{spans-none, spans-more, spans-echelon}
use Rattle.checker.proofs.FilledLaws.{filled_none, filled-decides}
use Rattle.checker.proofs.basis.are_determined.Goals as goal

pub loop-page-init : goal.loop-page-init
loop-page-init c = (sym (filled_none 64), spans-none _ _)

pub insert-filled-requires : goal.insert-filled-requires
insert-filled-requires c = (spans-echelon c.requires.0 c.loop-page.invariant.1, c.loop-page.invariant.0)

pub loop-page-preserved : goal.loop-page-preserved
loop-page-preserved c = (
  c.insert-filled.ensures.value,
  rw c.insert-filled.ensures.basis_after
      (spans-more _ _ _ c.loop-page.page-index c.requires.0 (omega arith) (c.requires.1 c.loop-page.page-index) c.loop-page.invariant.1),
)

pub returns : goal.returns
returns c =
    let l = c.loop-page in
    ap (λ (x : ℕ). eqb x c.args.count) l.invariant.0 ∙ filled-decides c.args.count c.requires.0 c.args.pages.now l.basis l.page-index l.invariant.1
    (omega arith)
