-- `lowest_with` stops at the first block that has the count, which is that of the pair.
use Rattle.flash.proofs.Kit.{◌≡◌, sym, ap, ◌∙◌, ⊎_elim, ◌≢◌, List, ℕ, ◌+◌, ◌≤◌, ◌<◌, arith, get_or}
use Rattle.flash.specs.Wear.{counter_at, refreshed, PairCorrect}
use Rattle.flash.specs.inner.Unpaired.{unpaired}
use Rattle.flash.proofs.CounterLaws.{refreshed-counters, refreshed-correct}
use Rattle.flash.proofs.Comparisons.{lt-cases}
use Rattle.flash.proofs.wear.lowest_with.Goals as goal

pub loop-block-init : goal.loop-block-init
loop-block-init c = omega arith

module _ (counters : List ℕ) (highest block : ℕ) (is : highest ≡ (refreshed (unpaired counters)).highest) (so_far : block ≤ (refreshed (unpaired counters)).block) where
  correct : PairCorrect (refreshed (unpaired counters))
  correct = refreshed-correct (unpaired counters)

  at : (b : ℕ) → counter_at (refreshed (unpaired counters)) b ≡ get_or counters b 0
  unfolding counter_at
  at b = ap (λ (xs : List ℕ). get_or xs b 0) (refreshed-counters (unpaired counters))

  -- a block that has not the count is not the pair's
  goes_on : get_or counters block 0 ≢ highest → block + 1 ≤ (refreshed (unpaired counters)).block
  goes_on ne =
      let other : block ≢ (refreshed (unpaired counters)).block = λ e. ne (sym (at block) ∙ ap (counter_at (refreshed (unpaired counters))) e ∙ correct.has ∙ sym is) in
      omega (arith, other)

  -- and no block below the pair's has it
  stops : get_or counters block 0 ≡ highest → block ≡ (refreshed (unpaired counters)).block
  stops e = ⊎_elim
      (λ (l : block < (refreshed (unpaired counters)).block). absurd (correct.lowest block l (at block ∙ e ∙ is)))
      (λ (l : (refreshed (unpaired counters)).block ≤ block). omega arith)
      (lt-cases block (refreshed (unpaired counters)).block)

pub loop-block-preserved : goal.loop-block-preserved
loop-block-preserved c = goes_on _ _ _ c.requires c.loop-block.invariant c.if-count-highest.false

pub returns-then-count-highest : goal.returns-then-count-highest
returns-then-count-highest c = stops _ _ _ c.requires c.loop-block.invariant c.if-count-highest.true

pub returns : goal.returns
returns c = absurd (omega (arith, c.loop-block.invariant, (refreshed-correct (unpaired c.args.counters.now)).inside))
