-- The rows of one set are filled block by block.
use Rattle.flash.proofs.Kit.{◌≡◌, refl, ap, ◌∙◌, ℕ, ◌+◌, ◌-◌, ◌*◌, ◌/◌, arith, get_or}
use Rattle.flash.proofs.Parts.{part-fits}
use Rattle.walk.specs.inner.Rows.{filled_by}
use Rattle.walk.proofs.TableLaws.{filled_more, found, pages-row, sources-row}
use Rattle.walk.proofs.rows.set_rows.Goals as goal

pub loop-block-init : goal.loop-block-init
unfolding filled_by
loop-block-init c = (refl, refl)

pub bounds-moved-start : goal.bounds-moved-start
bounds-moved-start c =
    let b = c.loop-block.block in
    let F = found _ c.args.moved.accepted c.args.set (omega arith) b (b * c.args.moved.sizes.m) _ _ (omega arith) refl refl c.position-page.ensures in
    omega (arith, c.from.ensures, F.page-lt, part-fits b c.args.moved.sizes.n c.args.moved.sizes.m (omega arith), c.args.moved.accepted.list_length)

pub bounds-sources-target : goal.bounds-sources-target
bounds-sources-target c =
    let b = c.loop-block.block in
    let F = found _ c.args.moved.accepted c.args.set (omega arith) b (b * c.args.moved.sizes.m) _ _ (omega arith) refl refl c.position-page.ensures in
    rw (c.quotient-target.ensures, c.new-divisor.ensures, c.from-in-loop-block.ensures, c.from.ensures) (omega (arith, F.target-lt, c.args.moved.accepted.ranges.n-high))

pub loop-block-preserved : goal.loop-block-preserved
loop-block-preserved c =
    let a = c.args in
    let l = c.loop-block in
    let m = a.moved.sizes.m in
    let F = found _ c.args.moved.accepted a.set (omega arith) l.block (l.block * m) _ _ (omega arith) refl refl c.position-page.ensures in
    let page : c.position-page.result ≡ l.block * m + c.position-page.result - l.block * m = omega arith in
    let target = (rw c.new-divisor.ensures at c.quotient-target.ensures) ∙ ap (λ (x : ℕ). x / m) (c.from-in-loop-block.ensures ∙ ap (λ (x : ℕ). get_or a.moved.list.now (l.block * m + x) 0) c.from.ensures) ∙ F.target_is in
    (filled_more _ _ a.pages.now l.pages l.block _ _ l.invariant.0 refl (page ∙ F.page-is), filled_more _ _ a.sources.now l.sources l.block _ _ l.invariant.1 target refl)

pub returns : goal.returns
returns c =
    let a = c.args in
    let all : c.loop-block.block ≡ a.moved.sizes.n = omega arith in
    rw (c.loop-block.invariant.0, c.loop-block.invariant.1, all) (pages-row _ c.args.moved.accepted a.set (omega arith) a.pages.now c.requires.1, sources-row _ c.args.moved.accepted a.set (omega arith) a.sources.now c.requires.2)
