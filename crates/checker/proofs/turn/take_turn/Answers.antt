-- `take_turn` does what the line at a position says.
use Rattle.flash.proofs.Kit.{refl, arith, length}
use Rattle.checker.proofs.TurnLaws.{block-fits}
use Rattle.checker.proofs.StandingLaws.{write-taken, erase-taken, end-taken, other-taken}
use Rattle.checker.proofs.turn.take_turn.Goals as goal

-- ---- a write
pub returns-in-Write : goal.returns-in-Write
returns-in-Write c =
    let a = c.args in
    let v = c.in-Write in
    let h = rw v.is at c.in-Some.ensures.ahead in
    let t = write-taken a.n a.m a.list.now a.text.now a.pages.now a.done.writes a.done.erases a.done.at c.requires.1
    v.block v.page v.mask v.next (rw v.is at c.in-Some.ensures.result_value) h.0 h.1 h.3 _ _ c.write_page.ensures.value c.write_page.ensures.pages_after in
    record { pages_after = t.0; goes_on = t.1 }

-- ---- an erase
pub returns-in-Erase : goal.returns-in-Erase
returns-in-Erase c =
    let a = c.args in
    let v = c.in-Erase in
    let h = rw v.is at c.in-Some.ensures.ahead in
    let t = erase-taken a.n a.m a.list.now a.text.now a.pages.now a.done.writes a.done.erases a.done.at c.requires.1
    v.block v.next (rw v.is at c.in-Some.ensures.result_value) h.0 h.1 (block-fits a.n a.m v.block (length a.pages.now) h.2 c.requires.1.size)
    _ _ c.erase_block.ensures.value c.erase_block.ensures.pages_after in
    record { pages_after = t.0; goes_on = t.1 }

-- ---- the end line
pub returns-in-End : goal.returns-in-End
returns-in-End c =
    let a = c.args in
    let v = c.in-End in
    let t = end-taken a.n a.m a.list.now a.text.now a.pages.now a.done.writes a.done.erases a.done.at c.requires.1
    v.writes v.erases v.next (rw v.is at c.in-Some.ensures.result_value) (omega (arith, c.requires.1.few, c.requires.1.within)) _ _ c.end_turn.ensures in
    record { pages_after = t.0; goes_on = t.1 }

-- ---- a line of another form
pub returns-in_default : goal.returns-in_default
returns-in_default c =
    let a = c.args in
    let t = other-taken a.n a.m a.list.now a.text.now a.pages.now a.done.writes a.done.erases a.done.at c.requires.1
    c.in_default.ensures.result_value a.pages.now _ refl in
    record { pages_after = t.0; goes_on = t.1 }
