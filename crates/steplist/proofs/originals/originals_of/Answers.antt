-- `originals_of` tells those of a final page and of a coded one.
use Rattle.flash.proofs.Kit.{◌≡◌, ap, ◌∙◌, Bool, true, false, [], ◌∷◌, ℕ, ◌+◌, ◌-◌, ◌*◌, ◌≤◌, ◌<◌, arith, get_or, eqb}
use Rattle.flash.specs.Lists.{range, first}
use Rattle.flash.specs.Geometry.{number_at}
use Rattle.flash.proofs.Bounds.{product_le}
use Rattle.method.specs.declared.accepted.Accepted.{Accepted}
use Rattle.method.specs.inner.MoveIn.{move_in}
use Rattle.method.specs.Move.{Move}
use Rattle.method.specs.Cycle.{coded, sent_to}
use Rattle.method.specs.Place.{written}
use Rattle.method.specs.State.{held_originals}
use Rattle.method.specs.Step.{originals_of}
use Rattle.method.proofs.cycles.SetCycles.{sent-in}
use Rattle.method.proofs.states.PagesWritten.{number_in}
use Rattle.places.specs.inner.Place.{pass_of}
use Rattle.checker.specs.Method.{inserted, ascending}
use Rattle.steplist.proofs.originals.originals_of.Goals as goal

-- a final page is one original, a coded one those of c(i)
final-one : (M : Move) (t : Bool) (b q r : ℕ) → t ≡ true → r ≡ sent_to M (number_at M.sizes.m b q)
    → r ∷ [] ≡ ascending (originals_of M (pass_of t) b q)
unfolding originals_of written held_originals ascending inserted
final-one M t b q r e f = rw (e, f)

coded-of : (M : Move) (t : Bool) (b q : ℕ) → t ≡ false → ascending (coded M q (b + 1)) ≡ ascending (originals_of M (pass_of t) b q)
unfolding originals_of written held_originals
coded-of M t b q e = rw e

-- the page has a number
number : (moved : Accepted) (block page : ℕ) → 1 ≤ block → block ≤ moved.sizes.n → page < moved.sizes.m
    → ((block - 1) * moved.sizes.m + page < moved.sizes.n * moved.sizes.m) × (moved.sizes.n * moved.sizes.m ≤ 4096)
number moved block page low high inside =
    let G = moved.accepted.ranges in (
      number_in (move_in moved) moved.accepted block page low high inside,
      product_le moved.sizes.n moved.sizes.m {c = 64} {d = 64} G.n-high G.m-high,
    )

pub overflow_sub-block : goal.overflow_sub-block
overflow_sub-block c = c.requires.2 c.if-backward.true

pub overflow_mul-block : goal.overflow_mul-block
overflow_mul-block c =
    omega (arith, number c.args.moved c.args.block c.args.page (c.requires.2 c.if-backward.true) c.requires.1 c.requires.0)

pub overflow_add-block : goal.overflow_add-block
overflow_add-block c =
    omega (arith, number c.args.moved c.args.block c.args.page (c.requires.2 c.if-backward.true) c.requires.1 c.requires.0)

pub returns-then-backward : goal.returns-then-backward
unfolding sent_to
returns-then-backward c =
    let a = c.args in
    let M = move_in a.moved in
    let sent : c.sent_to.result ≡ sent_to M (number_at a.moved.sizes.m a.block a.page) =
    c.sent_to.ensures
    ∙ ap (λ (size : ℕ). first (λ k. eqb (get_or a.moved.list.now k 0) (number_at a.moved.sizes.m a.block a.page)) (range 0 size) 0) a.moved.accepted.list_length in (
      final-one M a.backward a.block a.page c.sent_to.result c.if-backward.true sent,
      rw sent (sent-in M a.moved.accepted _ (number a.moved a.block a.page (c.requires.2 c.if-backward.true) c.requires.1 c.requires.0).0),
    )

pub coded_originals-requires : goal.coded_originals-requires
coded_originals-requires c = (c.requires.0, omega arith, c.requires.3 c.if-backward.false)

pub returns : goal.returns
returns c =
    let a = c.args in
    let coded = coded-of (move_in a.moved) a.backward a.block a.page c.if-backward.false in
    (c.coded_originals.ensures.0 ∙ coded, c.coded_originals.ensures.1)
