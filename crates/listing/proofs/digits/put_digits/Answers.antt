-- `put_digits` prints so many digits of a number, lowest first from the right, and leaves the rest of the area.
use Rattle.flash.proofs.Kit.{◌++◌, take, drop, take-append-drop, take-set-le, take-take, drop-set-lt, ◌≡◌, refl, sym, ◌∙◌}
use Rattle.flash.proofs.Kit.{◌+◌, ◌-◌, arith}
use Rattle.listing.proofs.PrintLaws.{printed}
use Rattle.listing.specs.Digits.{small, digits}
use Rattle.listing.proofs.DigitLaws.{length_digits, digits-start, digits_more}
use Rattle.listing.proofs.digits.put_digits.Goals as goal

pub loop-i-init : goal.loop-i-init
loop-i-init c =
    let a = c.args in
    (refl, digits-start small a.base a.at (a.at + a.count) a.count a.n a.out.now refl, omega arith, refl)

pub loop-i-preserved : goal.loop-i-preserved
loop-i-preserved c =
    let l = c.loop-i in
    let a = c.args in
    let d = c.digit_of.ensures in (
      rw d (take-set-le a.at l.out (l.i - 1) _ (omega arith) ∙ l.invariant.0),
      rw d (digits_more small a.base a.at (a.at + a.count) l.i l.rest l.out (digits small a.base a.count a.n)
          (omega arith) (omega arith) (omega arith) l.invariant.1),
      omega arith,
      drop-set-lt (a.at + a.count) l.out (l.i - 1) _ (omega arith) ∙ l.invariant.3,
    )

pub returns : goal.returns
unfolding digits
returns c =
    let l = c.loop-i in
    let a = c.args in
    let none : l.i - a.at ≡ 0 = omega arith in
    let e : l.i ≡ a.at = omega arith in
    let whole : drop a.at (take (a.at + a.count) l.out) ≡ digits small a.base a.count a.n = rw (none, e) at l.invariant.1 in
    let text : take (a.at + a.count) l.out ≡ take a.at a.out.now ++ digits small a.base a.count a.n =
    sym (take-append-drop a.at (take (a.at + a.count) l.out)) ∙ rw (take-take a.at (a.at + a.count) l.out (omega arith), l.invariant.0, whole) in
    printed (digits small a.base a.count a.n) a.out.now l.out a.at (a.at + a.count)
    (omega (arith, length_digits small a.base a.count a.n)) (omega arith) text l.invariant.3
