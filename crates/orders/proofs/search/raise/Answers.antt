-- `raise` raises each block, from the first on.
use Rattle.flash.proofs.Kit.{◌≡◌, sym, ap, ap₂, ◌∙◌, List, map, ℕ, ◌<◌, arith, length, length-map, get_or, set}
use Rattle.flash.proofs.Loops.{front_at, front-more}
use Rattle.orders.specs.Dictionary.{leaving}
use Rattle.orders.proofs.OrderLaws.{map_at}
use Rattle.orders.proofs.search.raise.Goals as goal
use Rattle.orders.proofs.search.raise.Lts as lts
use Rattle.orders.proofs.search.raise.Reads as reads
use Rattle.orders.proofs.search.raise.Tie as tie

-- what is read is still the old block
old : (c : lts.In-loop tie.the-claims reads.Pre reads.Post goal.the-invariant-loop-block goal.the-decreases-loop-block) → (let l = c.loop-block in
    get_or l.part l.block-index 0 ≡ get_or c.args.part.now l.block-index 0)
old c =
    let l = c.loop-block in
    let a = c.args in
    ap (λ (xs : List ℕ). get_or xs l.block-index 0) l.invariant
    ∙ front_at (map (leaving a.left) a.part.now) a.part.now l.block-index
    (length-map a.part.now (leaving a.left)) (omega (arith, c.loop-block-test.true))

pub loop-block-preserved : goal.loop-block-preserved
loop-block-preserved c =
    let l = c.loop-block in
    let a = c.args in
    let f = leaving a.left in
    let lt : l.block-index < length a.part.now = omega (arith, c.loop-block-test.true) in
    ap₂ (λ (xs : List ℕ) (x : ℕ). set xs l.block-index x) l.invariant (c.raised.ensures ∙ ap f (old c.before.before.before) ∙ sym (map_at f a.part.now l.block-index lt))
    ∙ front-more (map f a.part.now) a.part.now l.block-index (length-map a.part.now f) lt
