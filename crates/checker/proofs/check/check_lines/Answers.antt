-- `check_lines` takes turns until one stops or no line is left.
use Rattle.std.proofs.Common.{Ok}
use Rattle.std.proofs.lemmas.Result.{err_from_is_err_and}
use Rattle.flash.proofs.Kit.{ap, ◌≡◌, refl, sym, ◌∙◌, ◌+◌, ◌-◌, arith, length}
use Rattle.checker.proofs.PageLaws.{length-resting, resting-determined}
use Rattle.checker.proofs.MasksLaws.{masks-resting}
use Rattle.checker.proofs.TurnLaws.{check-none, told-on, told-end, told-fault}
use Rattle.checker.proofs.check.check_lines.Goals as goal

pub loop-done-init : goal.loop-done-init
loop-done-init c =
    let a = c.args in
    let rest = c.requires.1 in
    let all : length a.text.now - (0 + 0) ≡ length a.text.now = omega arith in (
      rw rest (record {
        size = length-resting a.n a.m;
        masks = masks-resting a.n a.m;
        determined = resting-determined a.n a.m;
        few = omega arith;
        within = omega arith;
      }),
      refl,
      rw (rest, all),
    )

pub loop-done-preserved : goal.loop-done-preserved
loop-done-preserved c =
    let l = c.loop-done in
    let a = c.args in
    let g = told-on a.n a.m a.list.now a.text.now l.done.at (record { writes = l.done.writes; erases = l.done.erases; pages = l.pages }) _ _
    c.take_turn.ensures.pages_after
    c.loop-done-test.true l.invariant.0.few c.in-On.more (c.in_ok-more.was ∙ ap Ok c.in-On.is) c.take_turn.ensures.goes_on in
    (g.0, omega (arith, g.0.size, l.invariant.0.size, l.invariant.1), l.invariant.2 ∙ g.2)

pub returns-in-End : goal.returns-in-End
returns-in-End c =
    let l = c.loop-done in
    let a = c.args in
    sym (l.invariant.2 ∙ told-end a.n a.m a.list.now a.text.now l.done.at (record { writes = l.done.writes; erases = l.done.erases; pages = l.pages }) _ _
    c.take_turn.ensures.pages_after c.loop-done-test.true l.invariant.0.few c.in-End.accepted (c.in_ok-more.was ∙ ap Ok c.in-End.is))

pub returns-in_err-more : goal.returns-in_err-more
returns-in_err-more c =
    let l = c.loop-done in
    let a = c.args in
    let p = err_from_is_err_and c.from_residual.result c.from_residual.ensures.1 in
    let told = told-fault a.n a.m a.list.now a.text.now l.done.at (record { writes = l.done.writes; erases = l.done.erases; pages = l.pages }) _ _
    c.take_turn.ensures.pages_after c.loop-done-test.true l.invariant.0.few _ c.in_err-more.was in
    rw (p.1, p.2) (sym (l.invariant.2 ∙ told))

pub returns : goal.returns
returns c =
    let l = c.loop-done in
    let a = c.args in
    check-none a.n a.m a.list.now a.text.now _ l.done.at _ c.loop-done-test.false ∙ sym l.invariant.2
