-- `fill` fills the set bytes by the rule.
use Rattle.flash.proofs.Kit.{◌∙◌, ◌≤◌, List, ℕ, arith, length}
use Rattle.split.specs.inner.Rows.{Accepted}
use Rattle.flash.proofs.Bounds.{product_le}
use Rattle.split.proofs.Filling.{work-starts}
use Rattle.split.proofs.InverseLaws.{rows-permuted, rows-done}
use Rattle.split.proofs.rule.fill.Goals as goal

short : {n m : ℕ} {list : List ℕ} → Accepted n m list → length list ≤ 4096
short A = omega (arith, A.listed, product_le _ _ {c = 64} {d = 64} A.n-fits A.m-fits)

pub loop-k-init : goal.loop-k-init
loop-k-init c = work-starts _ _ _ _ c.requires.0 c.requires.1

pub invert_rows-requires : goal.invert_rows-requires
invert_rows-requires c =
    let l = c.loop-k in
    (c.requires.0.m-fits, l.auto.sets ∙ c.requires.1, rows-permuted _ _ _ c.requires.0 _ _ _ _ _ l.invariant c.loop-k-test.false)

pub returns : goal.returns
returns c =
    let l = c.loop-k in
    rows-done _ _ _ c.requires.0 _ _ _ _ _ l.invariant c.loop-k-test.false _
    (c.invert_rows.auto.bytes ∙ l.auto.sets ∙ c.requires.1) c.invert_rows.ensures
