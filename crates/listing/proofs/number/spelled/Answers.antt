-- `spelled` reads the word at a position as a number of at most five digits.
use Rattle.flash.proofs.Kit.{arith, ◌≡◌, sym, ◌∙◌, true, false, ⊎_elim, ◌≤◌, ltb, length, get_or, ltb-true, ltb-false}
use Rattle.flash.proofs.Bools.{bool_cases, never_both}
use Rattle.listing.proofs.NumberLaws.{begun, few, digit_low, digit-high, more, at-end, at-separator, sixth, other_byte, no_text}
use Rattle.listing.proofs.number.spelled.Goals as goal

pub loop-at-init : goal.loop-at-init
loop-at-init c = (begun c.args.text.now c.args.start, omega arith)

pub returns-then-is_separator : goal.returns-then-is_separator
returns-then-is_separator c =
    let l = c.loop-at in
    let a = c.args in
    let sep = sym c.is_separator.ensures ∙ c.if-is_separator.true in
    let begins : a.start ≤ l.at = l.invariant.0.begins in
    ⊎_elim
    (λ (e : ltb a.start l.at ≡ true).
    sym (at-separator a.text.now a.start l.at l.value l.invariant.0 (ltb-true a.start l.at e) l.invariant.1 c.loop-at-test.true sep))
    (λ (e : ltb a.start l.at ≡ false).
    let same : l.at ≡ a.start = omega (arith, ltb-false a.start l.at e) in
    absurd (never_both sep (rw (← same) at (c.requires (omega arith)))))
    (bool_cases (ltb a.start l.at))

pub returns-then-at-start-eq-MOST_DIGITS : goal.returns-then-at-start-eq-MOST_DIGITS
returns-then-at-start-eq-MOST_DIGITS c =
    let l = c.loop-at in
    let a = c.args in
    let inside = sym c.is_separator.ensures ∙ c.if-is_separator.false in
    sym (sixth a.text.now a.start l.at l.value l.invariant.0 c.loop-at-test.true c.if-at-start-eq-MOST_DIGITS.true inside)

pub returns-then-not-is_digit : goal.returns-then-not-is_digit
returns-then-not-is_digit c =
    let l = c.loop-at in
    let a = c.args in
    let inside = sym c.is_separator.ensures ∙ c.if-is_separator.false in
    let other = sym c.is_digit.ensures ∙ c.if-not-is_digit.true in
    sym (other_byte a.text.now a.start l.at l.value l.invariant.0 c.loop-at-test.true inside other)

pub overflow_mul-value : goal.overflow_mul-value
overflow_mul-value c =
    let l = c.loop-at in
    let a = c.args in
    omega (arith, few a.text.now a.start l.at l.value l.invariant.0 (omega arith))

pub digit_value-requires : goal.digit_value-requires
digit_value-requires c = digit_low (get_or c.args.text.now c.loop-at.at 0) (sym c.is_digit.ensures ∙ c.if-not-is_digit.false)

pub overflow_add-value : goal.overflow_add-value
overflow_add-value c =
    let l = c.loop-at in
    let a = c.args in
    let high = digit-high (get_or a.text.now l.at 0) (sym c.is_digit.ensures ∙ c.if-not-is_digit.false) in
    omega (arith, few a.text.now a.start l.at l.value l.invariant.0 (omega arith))

pub loop-at-preserved : goal.loop-at-preserved
loop-at-preserved c =
    let l = c.loop-at in
    let a = c.args in
    let inside = sym c.is_separator.ensures ∙ c.if-is_separator.false in
    let digit = sym c.is_digit.ensures ∙ c.if-not-is_digit.false in
    let one_more = more a.text.now a.start l.at l.value l.invariant.0 c.loop-at-test.true inside digit in
    (rw c.digit_value.ensures one_more, omega (arith, c.if-at-start-eq-MOST_DIGITS.false))

pub returns-then-text-start : goal.returns-then-text-start
returns-then-text-start c =
    let a = c.args in
    sym (no_text a.text.now a.start c.if-text-start.true)

pub returns-else-text-start : goal.returns-else-text-start
returns-else-text-start c =
    let l = c.loop-at in
    let a = c.args in
    let end : l.at ≡ length a.text.now = omega arith in
    rw (← end) (sym (at-end a.text.now a.start l.at l.value l.invariant.0 (omega arith) l.invariant.1 (omega arith)))
