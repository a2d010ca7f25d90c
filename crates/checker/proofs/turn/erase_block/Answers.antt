-- `erase_block` erases, then asks what is determined.
use Rattle.flash.proofs.Kit.{sym, subst}
use Rattle.checker.specs.inner.Pages.{Masks}
use Rattle.checker.proofs.MasksLaws.{masks-erased}
use Rattle.checker.proofs.turn.erase_block.Goals as goal

pub are_determined-requires : goal.are_determined-requires
are_determined-requires c =
    let a = c.args in
    (c.requires.1, subst (Masks a.count) (sym c.erase.ensures) (masks-erased a.count a.m a.pages.now a.block c.requires.2))
