-- A number that was printed is read as itself.
use Rattle.flash.proofs.Kit.{◌≡◌, refl, ap, ◌∙◌, true, false, ⊎_elim, [], ◌∷◌, some, ℕ, zero, suc, ◌+◌, ◌/◌, ◌%◌, ◌^◌, ◌≤◌, ◌<◌, pow-suc, arith, ltb}
use Rattle.flash.proofs.Kit.{lt-ltb, le-leb, ltb-true, ltb-false}
use Rattle.flash.specs.Lists.{all}
use Rattle.flash.proofs.Bools.{bool_cases}
use Rattle.flash.proofs.Searches.{all_append}
use Rattle.listing.specs.Numbers.{is_digit, spelled}
use Rattle.listing.specs.Digits.{small, digit_of, digits, places_up_to, decimal}
use Rattle.listing.specs.Examples.{PrintedIsRead}
use Rattle.listing.proofs.DigitLaws.{length_digits, one_place}
use Rattle.listing.proofs.WordLaws.{spelled-more, number-of}

pub digit-of : (d : ℕ) → d < 10 → digit_of small d ≡ 48 + d
unfolding digit_of
digit-of d h = rw (lt-ltb d 10 h)

digit-is : (d : ℕ) → d < 10 → is_digit (48 + d) ≡ true
unfolding is_digit
digit-is d h = rw (le-leb 48 (48 + d) (omega arith), le-leb (48 + d) 57 (omega arith))

-- the last k digits of a number that has no more
pub all_digits : (k n : ℕ) → all is_digit (digits small 10 k n) ≡ true
unfolding digits all
all_digits zero n = refl
all_digits (suc k) n =
    let low : n % 10 < 10 = omega arith in
    rw (all_append is_digit (digits small 10 k (n / 10)) (digit_of small (n % 10) ∷ []), all_digits k (n / 10), digit-of (n % 10) low, digit-is (n % 10) low)

pub spelled-digits : (k n : ℕ) → n < 10 ^ k → spelled 0 (digits small 10 k n) ≡ n
unfolding digits spelled
spelled-digits zero n h = omega arith
spelled-digits (suc k) n h =
    let low : n % 10 < 10 = omega arith in
    let p = pow-suc 10 k in
    let rest : n / 10 < 10 ^ k = omega arith in
    spelled-more 0 (digits small 10 k (n / 10)) (digit_of small (n % 10)) ∙ rw (spelled-digits k (n / 10) rest, digit-of (n % 10) low) (omega arith)

-- the digits counted hold the number, and they are no more than would do
pub places-hold : (most n : ℕ) → n ≤ most → n < 10 ^ places_up_to most n
unfolding places_up_to
places-hold zero n h = omega arith
places-hold (suc most) n h =
    ⊎_elim
    (λ (e : ltb n 10 ≡ true). rw e (omega (arith, ltb-true n 10 e)))
    (λ (e : ltb n 10 ≡ false).
    let l = ltb-false n 10 e in
    let rest = places-hold most (n / 10) (omega arith) in
    rw (e, pow-suc 10 (places_up_to most (n / 10))) (omega arith))
    (bool_cases (ltb n 10))

pub places-few : (k most n : ℕ) → n < 10 ^ suc k → places_up_to most n ≤ suc k
unfolding places_up_to
places-few k zero n h = omega arith
places-few zero (suc most) n h = omega (arith, one_place (suc most) n h)
places-few (suc k) (suc most) n h =
    ⊎_elim
    (λ (e : ltb n 10 ≡ true). rw e (omega arith))
    (λ (e : ltb n 10 ≡ false).
    let p = pow-suc 10 (suc k) in
    rw e (omega (arith, places-few k most (n / 10) (omega arith))))
    (bool_cases (ltb n 10))

pub places-some : (most n : ℕ) → 1 ≤ places_up_to most n
unfolding places_up_to
places-some zero n = omega arith
places-some (suc most) n =
    ⊎_elim (λ (e : ltb n 10 ≡ true). rw e (omega arith)) (λ (e : ltb n 10 ≡ false). rw e (omega arith)) (bool_cases (ltb n 10))

pub printed-is-read : PrintedIsRead
unfolding PrintedIsRead decimal
printed-is-read n h =
    let k : ℕ = places_up_to n n in
    let size = length_digits small 10 k n in
    number-of (digits small 10 k n) (omega (arith, places-some n n)) (omega (arith, places-few 4 n n h)) (all_digits k n)
    ∙ ap some (spelled-digits k n (places-hold n n (omega arith)))
