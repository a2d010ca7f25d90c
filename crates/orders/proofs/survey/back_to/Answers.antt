-- `back_to` looks up the places of the page's two blocks.
use Rattle.flash.proofs.Kit.{◌≡◌, ap, ◌∙◌, false, ℕ, ◌/◌, ◌<◌, arith, get_or}
use Rattle.split.specs.Drops.{is_dropped}
use Rattle.split.proofs.DropLaws.{is-kept, is-dropped}
use Rattle.orders.proofs.PlaceLaws.{back-dropped, near-is, far-is}
use Rattle.orders.proofs.CallLaws.{quotient-lt}
use Rattle.orders.proofs.survey.back_to.Goals as goal
use Rattle.orders.proofs.survey.back_to.Lts as lts
use Rattle.orders.proofs.survey.back_to.Reads as reads
use Rattle.orders.proofs.survey.back_to.Tie as tie

pub returns-then-lent : goal.returns-then-lent
returns-then-lent c = back-dropped _ _ _ _ (is-dropped _ _ c.if-lent.true)

kept : (c : lts.Else1 tie.the-claims reads.Pre reads.Post) → (let a = c.args in is_dropped a.list.now a.k ≡ false)
kept c = is-kept _ _ c.if-lent.false

-- the entry names a page of 64 blocks at most
below : (c : lts.After-from tie.the-claims reads.Pre reads.Post) → (c.from.result / c.args.divisor.by < 64)
below c =
    let L = c.requires.0 in
    quotient-lt c.args.divisor.by c.from.result 64 L.m-low (omega (arith, c.from.ensures, L.below c.args.k c.requires.2 (kept c.before)))

target-lt : (c : lts.After-quotient tie.the-claims reads.Pre reads.Post) → c.quotient.result < 64
target-lt c = omega (arith, c.quotient.ensures, below c.before)

-- the target's quotient is that of the list's entry
to_is : (c : lts.After-quotient tie.the-claims reads.Pre reads.Post) → (let a = c.args in c.quotient.result ≡ get_or a.list.now a.k 0 / a.divisor.by)
to_is c =
    let a = c.args in
    c.quotient.ensures ∙ ap (λ (x : ℕ). x / a.divisor.by) c.from.ensures

pub returns-then-source-lt2 : goal.returns-then-source-lt2
returns-then-source-lt2 c =
    near-is _ _ _ _ _ _ (to_is c.before.before.before.before.before.before)
    c.quotient-2.ensures (kept c.before.before.before.before.before.before.before.before)
    (omega (arith, c.if-source-lt2.true))

pub returns-then-target-source : goal.returns-then-target-source
returns-then-target-source c =
    far-is _ _ _ _ _ _ (to_is c.before.before.before.before.before.before.before)
    c.quotient-2.ensures (kept c.before.before.before.before.before.before.before.before.before)
    (omega (arith, c.if-target-source.true, c.if-source-lt2.false))

pub returns-else-target-source : goal.returns-else-target-source
returns-else-target-source c =
    near-is _ _ _ _ _ _ (to_is c.before.before.before.before.before.before.before)
    c.quotient-2.ensures (kept c.before.before.before.before.before.before.before.before.before)
    (omega (arith, c.if-target-source.false, c.if-source-lt2.false))

pub bounds-places-quotient : goal.bounds-places-quotient
bounds-places-quotient c = omega (arith, target-lt c.before.before)
