-- Numbers as they are printed are numbers as they are read, and the other way round.
use Rattle.flash.proofs.Kit.{◌≡◌, refl, sym, ap, ◌∙◌, ◌≢◌, ⊎_elim, true, false, false≢true, ◌&&◌, not, or-true, List, [], ◌∷◌, ◌++◌, ℕ, zero, suc, ◌+◌, ◌-◌, ◌*◌, ◌/◌, ◌%◌, ◌^◌, ◌≤◌, ◌<◌}
use Rattle.flash.proofs.Kit.{pow-suc, pow-le-pow_right, arith, eqb, leb, ltb, length, get_or, take, length-take-le, take-suc, take_all, List·getD-append, le-leb, lt-ltb, le-ltb, ltb-false, eqb-true, eqb-false, ne_eqb, not-true}
use Rattle.flash.specs.Lists.{all}
use Rattle.flash.proofs.Bools.{bool_cases, and_left, and_right, or_cases}
use Rattle.flash.proofs.Comparisons.{lt-cases}
use Rattle.flash.proofs.Searches.{all_append}
use Rattle.listing.specs.Numbers.{is_digit, spelled}
use Rattle.listing.specs.Digits.{small, digit_of, digits, places_up_to, decimal}
use Rattle.listing.proofs.DigitLaws.{length_digits, one_place}
use Rattle.listing.proofs.NumberLaws.{digit_low, digit-high}
use Rattle.listing.proofs.WordLaws.{spelled-more}
use Rattle.listing.proofs.ReadBack.{digit-of, all_digits, spelled-digits, places-hold, places-some}
use Rattle.checker.specs.Lines.{leading, behind, is_number}

-- ---- digits in front of a byte that is none
module _ (c : ℕ) (rest : List ℕ) (n : is_digit c ≡ false) where
  pub leading-of : (ds : List ℕ) → all is_digit ds ≡ true → leading (ds ++ (c ∷ rest)) ≡ ds
  unfolding leading all
  leading-of [] a = rw n
  leading-of (d ∷ ds) a = rw (and_left (is_digit d) (all is_digit ds) a) (ap (λ (l : List ℕ). d ∷ l) (leading-of ds (and_right (is_digit d) (all is_digit ds) a)))

  pub behind-of : (ds : List ℕ) → all is_digit ds ≡ true → behind (ds ++ (c ∷ rest)) ≡ c ∷ rest
  unfolding behind all
  behind-of [] a = rw n
  behind-of (d ∷ ds) a = rw (and_left (is_digit d) (all is_digit ds) a) (behind-of ds (and_right (is_digit d) (all is_digit ds) a))

pub leading-digits : (text : List ℕ) → all is_digit (leading text) ≡ true
unfolding leading all
leading-digits [] = refl
leading-digits (byte ∷ text) = ⊎_elim
    (λ (e : is_digit byte ≡ true). rw (e, e) (leading-digits text))
    (λ (e : is_digit byte ≡ false). rw e)
    (bool_cases (is_digit byte))

pub leading-behind : (text : List ℕ) → leading text ++ behind text ≡ text
unfolding leading behind
leading-behind [] = refl
leading-behind (byte ∷ text) = ⊎_elim
    (λ (e : is_digit byte ≡ true). rw e (ap (λ (l : List ℕ). byte ∷ l) (leading-behind text)))
    (λ (e : is_digit byte ≡ false). rw e)
    (bool_cases (is_digit byte))

-- ---- a number that is printed
pub decimal-digits : (v : ℕ) → all is_digit (decimal v) ≡ true
unfolding decimal
decimal-digits v = all_digits (places_up_to v v) v

pub decimal-value : (v : ℕ) → spelled 0 (decimal v) ≡ v
unfolding decimal
decimal-value v = spelled-digits (places_up_to v v) v (places-hold v v (omega arith))

-- no fewer digits would do
places-least : (most n : ℕ) → n ≤ most → 1 ≤ n → 10 ^ (places_up_to most n - 1) ≤ n
unfolding places_up_to
places-least zero n h l = absurd (omega arith)
places-least (suc most) n h l = ⊎_elim
    (λ (e : ltb n 10 ≡ true). rw e (omega arith))
    (λ (e : ltb n 10 ≡ false).
    let high = ltb-false n 10 e in
    let p = places_up_to most (n / 10) in
    let some = places-some most (n / 10) in
    let rest = places-least most (n / 10) (omega arith) (omega arith) in
    let up : suc p - 1 ≡ suc (p - 1) = omega arith in
    rw (e, up, pow-suc 10 (p - 1)) (omega arith))
    (bool_cases (ltb n 10))

first-digit : (k n : ℕ) → 10 ^ k ≤ n → n < 10 ^ suc k → get_or (digits small 10 (suc k) n) 0 0 ≢ 48
unfolding digits
first-digit zero n h l e =
    let one : n % 10 < 10 = omega arith in
    omega (arith, digit-of (n % 10) one)
first-digit (suc k) n h l e =
    let p = pow-suc 10 k in
    let q = pow-suc 10 (suc k) in
    let size = length_digits small 10 (suc k) (n / 10) in
    first-digit k (n / 10) (omega arith) (omega arith)
    (sym (List·getD-append (digits small 10 (suc k) (n / 10)) (digit_of small (n % 10) ∷ []) 0 0 (omega arith)) ∙ e)

pub decimal-number : (v : ℕ) → is_number (decimal v) ≡ true
unfolding is_number decimal
decimal-number v =
    let p = places_up_to v v in
    let some = places-some v v in
    let size = length_digits small 10 p v in
    ⊎_elim
    (λ (h : v < 10). rw (size, one_place v v h))
    (λ (h : 10 ≤ v).
    let up : p ≡ suc (p - 1) = omega arith in
    let low = places-least v v (omega arith) (omega arith) in
    let high : v < 10 ^ suc (p - 1) = rw (← up) (places-hold v v (omega arith)) in
    let first : eqb (get_or (digits small 10 p v) 0 0) 48 ≡ false = rw up (ne_eqb (get_or (digits small 10 (suc (p - 1)) v) 0 0) 48 (first-digit (p - 1) v low high)) in
    rw (size, le-leb 1 p some, first, or-true))
    (lt-cases v 10)

-- ---- a number that is read
-- the digits of what digits spell
digits-back : (k : ℕ) (ds : List ℕ) → length ds ≡ k → all is_digit ds ≡ true → digits small 10 k (spelled 0 ds) ≡ ds
unfolding digits all spelled
digits-back zero [] h a = refl
digits-back zero (d ∷ ds) h a = absurd (omega arith)
digits-back (suc k) ds h a =
    let front = take k ds in
    let d = get_or ds k 0 in
    let split : ds ≡ front ++ (d ∷ []) = sym (take_all (suc k) ds (omega arith)) ∙ take-suc ds k 0 (omega arith) in
    let parts : (all is_digit front && all is_digit (d ∷ [])) ≡ true = sym (all_append is_digit front (d ∷ [])) ∙ ap (all is_digit) (sym split) ∙ a in
    let digit : is_digit d ≡ true = and_left (is_digit d) true (and_right (all is_digit front) (all is_digit (d ∷ [])) parts) in
    let low = digit_low d digit in
    let high = digit-high d digit in
    let value : spelled 0 ds ≡ spelled 0 front * 10 + (d - 48) = ap (spelled 0) split ∙ spelled-more 0 front d in
    let tens : spelled 0 ds / 10 ≡ spelled 0 front = omega arith in
    let ones : spelled 0 ds % 10 ≡ d - 48 = omega arith in
    let back : digit_of small (d - 48) ≡ d = digit-of (d - 48) (omega arith) ∙ omega arith in
    rw (tens, ones, back, digits-back k front (length-take-le k ds (omega arith)) (and_left (all is_digit front) (all is_digit (d ∷ [])) parts)) (sym split)

-- digits that spell a number are as many as it is printed with
spelled-small : (k : ℕ) (ds : List ℕ) → length ds ≡ k → all is_digit ds ≡ true → spelled 0 ds < 10 ^ k
unfolding all spelled
spelled-small zero [] h a = omega arith
spelled-small zero (d ∷ ds) h a = absurd (omega arith)
spelled-small (suc k) ds h a =
    let front = take k ds in
    let d = get_or ds k 0 in
    let split : ds ≡ front ++ (d ∷ []) = sym (take_all (suc k) ds (omega arith)) ∙ take-suc ds k 0 (omega arith) in
    let parts : (all is_digit front && all is_digit (d ∷ [])) ≡ true = sym (all_append is_digit front (d ∷ [])) ∙ ap (all is_digit) (sym split) ∙ a in
    let high = digit-high d (and_left (is_digit d) true (and_right (all is_digit front) (all is_digit (d ∷ [])) parts)) in
    let value : spelled 0 ds ≡ spelled 0 front * 10 + (d - 48) = ap (spelled 0) split ∙ spelled-more 0 front d in
    let rest = spelled-small k front (length-take-le k ds (omega arith)) (and_left (all is_digit front) (all is_digit (d ∷ [])) parts) in
    rw (pow-suc 10 k) (omega arith)

spelled-large : (ds : List ℕ) (value j : ℕ) → 10 ^ j ≤ value → 10 ^ (j + length ds) ≤ spelled value ds
unfolding spelled
spelled-large [] value j h = let none : j + 0 ≡ j = omega arith in rw none h
spelled-large (d ∷ ds) value j h =
    let p = pow-suc 10 j in
    let more : suc j + length ds ≡ j + suc (length ds) = omega arith in
    rw (← more) (spelled-large ds (value * 10 + (d - 48)) (suc j) (omega arith))

-- numbers with as many places
same-places : (most n k : ℕ) → n ≤ most → n < 10 ^ suc k → 10 ^ k ≤ n → places_up_to most n ≡ suc k
unfolding places_up_to
same-places zero n zero h l g = refl
same-places zero n (suc k) h l g = absurd (omega (arith, pow-le-pow_right {n = 10} (omega arith) {i = 0} {j = suc k} (omega arith)))
same-places (suc most) n zero h l g = rw (lt-ltb n 10 l)
same-places (suc most) n (suc k) h l g =
    let p = pow-suc 10 k in
    let q = pow-suc 10 (suc k) in
    let one = pow-le-pow_right {n = 10} (omega arith) {i = 0} {j = k} (omega arith) in
    rw (le-ltb n 10 (omega arith)) (ap suc (same-places most (n / 10) k (omega arith) (omega arith) (omega arith)))

pub number-back : (ds : List ℕ) → all is_digit ds ≡ true → is_number ds ≡ true → decimal (spelled 0 ds) ≡ ds
unfolding is_number decimal all spelled
number-back [] a g = absurd (false≢true g)
number-back (d ∷ ds) a g =
    let digit = and_left (is_digit d) (all is_digit ds) a in
    let low = digit_low d digit in
    let high = digit-high d digit in
    let small-enough = spelled-small (suc (length ds)) (d ∷ ds) refl a in
    let v = spelled 0 (d ∷ ds) in
    let back = digits-back (suc (length ds)) (d ∷ ds) refl a in
    ⊎_elim
    (λ (e : eqb (suc (length ds)) 1 ≡ true).
    let none : length ds ≡ 0 = omega (arith, eqb-true (suc (length ds)) 1 e) in
    let ten : v < 10 = rw none at small-enough in
    rw (one_place v v ten) (rw none at back))
    (λ (e : not (eqb d 48) ≡ true).
    let above : d ≢ 48 = eqb-false d 48 (not-true (eqb d 48) e) in
    let large = spelled-large ds (0 * 10 + (d - 48)) 0 (omega arith) in
    let none : 0 + length ds ≡ length ds = omega arith in
    rw (same-places v v (length ds) (omega arith) small-enough (rw none at large)) back)
    (or_cases (eqb (suc (length ds)) 1) (not (eqb d 48)) (and_right (leb 1 (suc (length ds))) _ g))
