-- `skip` finds the next byte that is no separator.
use Rattle.flash.proofs.Kit.{sym, ◌∙◌}
use Rattle.listing.proofs.WordLaws.{separator-skipped}
use Rattle.listing.proofs.number.skip.Goals as goal

pub loop-at-preserved : goal.loop-at-preserved
loop-at-preserved c =
    let l = c.loop-at in
    let text = c.args.text.now in
    separator-skipped text l.at c.loop-at-test.true (sym c.is_separator.ensures ∙ c.if-not-is_separator.false) ∙ l.invariant
