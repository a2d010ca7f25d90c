-- `raised` adds one to a counter that is not at its end.
use Rattle.flash.proofs.Kit.{⊎_elim, ◌+◌, ◌≤◌, ◌<◌, arith, lt-ltb, le-ltb}
use Rattle.flash.specs.Wear.{raised}
use Rattle.flash.proofs.Comparisons.{lt-cases}
use Rattle.flash.proofs.wear.raised.Goals as goal

pub returns : goal.returns
unfolding raised
returns c =
    let n = c.args.counter in
    ⊎_elim
    (λ (h : n < 4294967295). rw (lt-ltb n 4294967295 h) (omega (arith, c.saturating_add.ensures)))
    (λ (h : 4294967295 ≤ n). rw (le-ltb n 4294967295 h) (omega (arith, c.saturating_add.ensures, c.ranges.counter.fits)))
    (lt-cases n 4294967295)
