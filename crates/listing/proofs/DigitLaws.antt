-- Laws of numbers as digits.
use Rattle.flash.proofs.Kit.{◌≡◌, refl, sym, ◌∙◌, List, [], ◌∷◌, ◌++◌, append_assoc, append-nil, ℕ, zero, suc, ◌+◌, ◌-◌, ◌/◌, ◌%◌, ◌≤◌, ◌<◌, arith}
use Rattle.flash.proofs.Kit.{length, take, drop, set, length-append, length-take, length-set, drop_of_length-le, drop-cons, get_or-set_same}
use Rattle.flash.proofs.Kit.{drop-set-lt, take-set-lt, lt-ltb, le-ltb}
use Rattle.listing.specs.Digits.{digit_of, digits, places_up_to}

pub length_digits : (letters base count n : ℕ) → length (digits letters base count n) ≡ count
unfolding digits
length_digits letters base zero n = refl
length_digits letters base (suc count) n = rw (length-append, length_digits letters base count) (omega arith)

-- A number below 10 has one digit; any other has one more than a tenth of it.
pub one_place : (most n : ℕ) → n < 10 → places_up_to most n ≡ 1
unfolding places_up_to
one_place zero n h = refl
one_place (suc most) n h = rw (lt-ltb n 10 h)

pub more-places : (most n : ℕ) → 1 ≤ most → 10 ≤ n → places_up_to most n ≡ suc (places_up_to (most - 1) (n / 10))
unfolding places_up_to
more-places zero n h l = absurd (omega arith)
more-places (suc most) n h l =
    let e : suc most - 1 ≡ most = omega arith in
    rw (le-ltb n 10 l, e)

-- Digits are written from the last to the first: those before position i are still to be written, and `rest` is their number.
module _ (letters base at end : ℕ) where
  pub digits-start : (count n : ℕ) (out : List ℕ) → end ≡ at + count → digits letters base (end - at) n ++ drop end (take end out) ≡ digits letters base count n
  digits-start count n out e =
      let few : length (take end out) ≤ end = omega (arith, length-take end out) in
      let k : end - at ≡ count = omega arith in
      rw (k, drop_of_length-le (take end out) few, append-nil)

  digit-written : (i d : ℕ) (out : List ℕ) → i < end → end ≤ length out → drop i (take end (set out i d)) ≡ d ∷ drop (suc i) (take end out)
  digit-written i d out h l =
      let inside : i < length (take end out) = omega (arith, length-take end out) in
      let there : i < length (set (take end out) i d) = omega (arith, length-set (take end out) i d) in
      rw (take-set-lt end out i d h, drop-cons (set (take end out) i d) i 0 there, get_or-set_same (take end out) i d 0 inside, drop-set-lt (suc i) (take end out) i d (omega arith))

  pub digits_more : (i rest : ℕ) (out whole : List ℕ) → at < i → i ≤ end → end ≤ length out → digits letters base (i - at) rest ++ drop i (take end out) ≡ whole → digits letters base (i - 1 - at) (rest / base) ++ drop (i - 1) (take end (set out (i - 1) (digit_of letters (rest % base)))) ≡ whole
  unfolding digits
  digits_more zero rest out whole h k l e = absurd (omega arith)
  digits_more (suc i) rest out whole h k l e =
      let j : suc i - 1 ≡ i = omega arith in
      let more : suc i - at ≡ suc (i - at) = omega arith in
      rw (j, digit-written i (digit_of letters (rest % base)) out (omega arith) l)
      (sym (append_assoc (digits letters base (i - at) (rest / base)) (digit_of letters (rest % base) ∷ []) (drop (suc i) (take end out))) ∙ rw more at e)
