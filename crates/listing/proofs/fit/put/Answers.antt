-- `put` copies numbers that fit into a list or into bytes.
use Rattle.std.proofs.lemmas.List.{map-append}
use Rattle.flash.proofs.Kit.{arith, ◌≡◌, ◌<◌, leb, length, leb-true, add-one, take-suc, take-suc-set, take-length}
use Rattle.flash.proofs.Searches.{all-at}
use Rattle.listing.proofs.fit.put.Goals as goal

pub cut-requires : goal.cut-requires
cut-requires g c =
    let a = c.args in
    leb-true _ _ (all-at (λ number. leb number g.T.Cell.most) a.numbers.now c.loop-i.i 0 c.requires.numbers_value (omega arith))

pub loop-i-preserved : goal.loop-i-preserved
loop-i-preserved g c =
    let l = c.loop-i in
    let a = c.args in
    let inside : l.i < length l.cells = omega arith in
    rw (add-one l.i, take-suc-set l.cells l.i c.cut.result inside, take-suc a.numbers.now l.i 0 c.loop-i-test.true, map-append, l.invariant, c.cut.ensures)

pub returns : goal.returns
returns g c =
    let l = c.loop-i in
    let a = c.args in
    let end : l.i ≡ length l.cells = omega arith in
    let whole : length l.cells ≡ length a.numbers.now = omega arith in
    rw (end, take-length, whole, take-length) at l.invariant
