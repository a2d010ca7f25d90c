-- `write_page` writes where it may.
use Rattle.flash.proofs.Kit.{sym, ◌∙◌}
use Rattle.checker.specs.Pages.{page_written}
use Rattle.checker.proofs.turn.write_page.Goals as goal

pub returns : goal.returns
unfolding page_written
returns c = let good = sym c.is_bad_write.ensures ∙ c.if-is_bad_write.false in record { value = rw good; pages_after = rw good }
