-- `wears_out` looks at the counters of the store, block by block.
use Rattle.flash.proofs.Kit.{◌≡◌, sym, ap, ◌∙◌, Bool, ℕ, ◌+◌, ◌<◌, arith, ltb, take, length, get_or, get_or-take, length-take, below_more}
use Rattle.flash.specs.declared.wear.Wear.{Wear}
use Rattle.flash.specs.Wear.{counter_at}
use Rattle.flash.proofs.Ranges.{any-is, none_is}
use Rattle.method.specs.Worn.{erases_of, wears_out}
use Rattle.mover.proofs.wear.wears_out.Invariants.{test}
use Rattle.mover.proofs.wear.wears_out.Goals as goal

module _ (n : ℕ) (wear : Wear) (limit block : ℕ) (more : block < length (take (n + 1) wear.counters)) where
  low : block < n + 1
  low = omega (arith, length-take (n + 1) wear.counters)

  -- what is looked at in a turn
  found : (erases : ℕ) (passed : Bool) → erases ≡ erases_of n block → passed ≡ ltb limit (get_or (take (n + 1) wear.counters) block 0 + erases)
      → test n wear limit block ≡ passed
  unfolding counter_at
  found erases passed e p =
      sym (p ∙ rw e (ap (λ (x : ℕ). ltb limit (x + erases_of n block)) (get_or-take (n + 1) wear.counters block 0 low)))

pub returns-then-passes : goal.returns-then-passes
unfolding wears_out
returns-then-passes c =
    let a = c.args in
    let at = found a.n a.wear a.limit c.loop-block.block c.loop-block-test.true _ _ c.erases_of.ensures c.passes.ensures in
    sym (any-is (test a.n a.wear a.limit) 0 (a.n + 1) c.loop-block.block (omega arith)
    (omega (arith, low a.n a.wear a.limit c.loop-block.block c.loop-block-test.true)) (at ∙ c.if-passes.true))

pub loop-block-preserved : goal.loop-block-preserved
loop-block-preserved c =
    let a = c.args in
    let at = found a.n a.wear a.limit c.loop-block.block c.loop-block-test.true _ _ c.erases_of.ensures c.passes.ensures in
    below_more _ _ c.loop-block.invariant (at ∙ c.if-passes.false)

pub returns : goal.returns
unfolding wears_out
returns c =
    let a = c.args in
    sym (none_is (test a.n a.wear a.limit) 0 (a.n + 1) (λ b low high. c.loop-block.invariant b (omega (arith, length-take (a.n + 1) a.wear.counters))))
