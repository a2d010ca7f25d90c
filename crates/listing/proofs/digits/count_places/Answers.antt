-- `count_places` counts the decimal digits of a number, for the space that a printed number takes.
use Rattle.listing.proofs.DigitLaws.{one_place, more-places}
use Rattle.flash.proofs.Kit.{◌≡◌, ◌+◌, ◌-◌, arith}
use Rattle.listing.proofs.digits.count_places.Goals as goal

pub loop-rest-init : goal.loop-rest-init
loop-rest-init c =
    let n = c.args.n in
    let e : n + 1 - 1 ≡ n = omega arith in
    (omega arith, omega arith, rw e (omega arith))

pub loop-rest-preserved : goal.loop-rest-preserved
loop-rest-preserved c =
    let l = c.loop-rest in
    let n = c.args.n in
    let e : n + 1 - l.count - 1 ≡ n + 1 - (l.count + 1) = omega arith in
    let m = more-places (n + 1 - l.count) l.rest (omega arith) c.loop-rest-test.true in
    (omega arith, omega arith, rw (← e) (omega arith))

pub returns : goal.returns
returns c =
    let l = c.loop-rest in
    let o = one_place (c.args.n + 1 - l.count) l.rest (omega arith) in
    omega arith
