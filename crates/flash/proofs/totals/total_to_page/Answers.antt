-- `total_to_page` inverts the sum where 255s are to be added.
use Rattle.flash.proofs.Kit.{ap, true, arith}
use Rattle.flash.specs.PageSum.{written_bytes}
use Rattle.flash.specs.inner.Totals.{total_page}
use Rattle.flash.proofs.TotalLaws.{total-length, inverted-page}
use Rattle.flash.proofs.Written.{written-most}
use Rattle.flash.proofs.totals.total_to_page.Goals as goal

pub returns-then-filler : goal.returns-then-filler
returns-then-filler c =
    let a = c.args in
    let stored = c.stored_to_page-written.ensures.0 in
    let size = total-length a.p a.store.now a.slots.now c.requires.by_index true in
    let page = inverted-page a.p a.store.now a.slots.now c.requires.by_index _ _ stored c.invert.ensures in
    let bytes = c.count_written.ensures in
    rw c.if-filler.true (page, bytes, omega (arith, bytes, ap written_bytes page, written-most (total_page a.p true a.store.now a.slots.now), size))

pub returns : goal.returns
returns c = rw c.if-filler.false c.stored_to_page-written.ensures
