-- `is_bad_write` looks at the page and those above it.
use Rattle.flash.proofs.Kit.{◌≡◌, ap, ◌∙◌, ◌+◌, ◌-◌, ◌*◌, not, arith}
use Rattle.checker.specs.Pages.{is_bad_write}
use Rattle.checker.proofs.PageLaws.{bad-part}
use Rattle.checker.proofs.pages.is_bad_write.Goals as goal

pub returns : goal.returns
unfolding is_bad_write
returns c =
    let a = c.args in
    let size : a.block * a.m + a.m - (a.block * a.m + a.page) ≡ a.m - a.page = omega arith in
    ap not c.are_blank.ensures ∙ rw size (bad-part a.pages.now a.m a.block a.page (a.m - a.page) (omega arith))
