-- A number that is being read, digit by digit, and numbers that are taken one after the other.
use Rattle.flash.proofs.Kit.{◌≡◌, ◌∙◌, true, false, List, [], ◌∷◌, ◌++◌, none, ℕ, suc, ◌+◌, ◌-◌, ◌*◌, ◌^◌, ◌≤◌, ◌<◌, pow-suc, pow-le-pow_right}
use Rattle.flash.proofs.Kit.{add-one, arith, leb, length, get_or, drop, length-append, drop_of_length-le, slice, slice_empty, drop-cons, leb-true}
use Rattle.flash.specs.Lists.{all}
use Rattle.flash.proofs.Bools.{and_left, and_right}
use Rattle.flash.proofs.Searches.{all_append}
use Rattle.listing.specs.Numbers.{is_separator, is_digit, ended, words_from, spelled, number_of, numbers_in, number, malformed, end, next}
use Rattle.listing.proofs.WordLaws.{slice-more, spelled-more, word-ends, word-parted, word-goes-on, malformed-first, number-of, too_long, no_digit}

-- the bytes from `start` to `at` are digits of one word, and spell `value`
pub record Spelling (text : List ℕ) (start at value : ℕ) : Type 0 where
  pub begins : start ≤ at
  pub size : length (slice start at text) ≡ at - start
  pub digits : all is_digit (slice start at text) ≡ true
  pub value-is : value ≡ spelled 0 (slice start at text)
  pub small : value < 10 ^ (at - start)
  pub words_are : words_from [] (drop start text) ≡ words_from (slice start at text) (drop at text)

pub begun : (text : List ℕ) (start : ℕ) → Spelling text start start 0
unfolding all spelled
begun text start =
    let none_yet = slice_empty start text in
    let z : start - start ≡ 0 = omega arith in
    record {
      begins = omega arith;
      size = rw (none_yet, z);
      digits = rw none_yet;
      value-is = rw none_yet;
      small = rw z (omega arith);
      words_are = rw none_yet;
    }

-- with four digits or fewer there is room for one more
pub few : (text : List ℕ) (start at value : ℕ) → Spelling text start at value → at - start < 5 → value < 10000
few text start at value s h = omega (arith, s.small, pow-le-pow_right {n = 10} (omega arith) {i = at - start} {j = 4} (omega arith))

digit-bounds : (byte : ℕ) → is_digit byte ≡ true → (48 ≤ byte) × (byte ≤ 57)
unfolding is_digit
digit-bounds byte e = (leb-true 48 byte (and_left (leb 48 byte) (leb byte 57) e), leb-true byte 57 (and_right (leb 48 byte) (leb byte 57) e))

pub digit_low : (byte : ℕ) → is_digit byte ≡ true → 48 ≤ byte
digit_low byte e = (digit-bounds byte e).0

pub digit-high : (byte : ℕ) → is_digit byte ≡ true → byte ≤ 57
digit-high byte e = (digit-bounds byte e).1

module _ (text : List ℕ) (start at value : ℕ) (s : Spelling text start at value) where
  -- a digit more
  pub more : at < length text → is_separator (get_or text at 0) ≡ false → is_digit (get_or text at 0) ≡ true → Spelling text start (at + 1) (value * 10 + (get_or text at 0 - 48))
  unfolding all
  more h e d =
      let b : ℕ = get_or text at 0 in
      let w = slice-more text start at s.begins h in
      let high = digit-high b d in
      let k : at + 1 - start ≡ suc (at - start) = omega (arith, s.begins) in
      record {
        begins = omega (arith, s.begins);
        size = rw w (length-append (slice start at text) (b ∷ []) ∙ omega (arith, s.size, s.begins));
        digits = rw (w, all_append is_digit (slice start at text) (b ∷ []), s.digits, d);
        value-is = rw (w, spelled-more 0 (slice start at text) b, ← s.value-is);
        small = rw (k, pow-suc 10 (at - start)) (omega (arith, s.small));
        words_are = s.words_are ∙ rw (w, add-one at, drop-cons text at 0 h) (word-goes-on (slice start at text) b (drop (suc at) text) e);
      }

  ended-as : start < at → at ≤ start + 5 → words_from (slice start at text) (drop at text) ≡ slice start at text ∷ words_from [] (drop at text) → next (numbers_in (drop start text)) ≡ number value (numbers_in (drop at text))
  unfolding numbers_in next
  ended-as l k e =
      let n = number-of (slice start at text) (omega (arith, s.size)) (omega (arith, s.size)) s.digits in
      rw (s.words_are, e, n, ← s.value-is)

  -- the text ends, or a separator is met: the number is whole
  pub at-end : start < at → at ≤ start + 5 → length text ≤ at → next (numbers_in (drop start text)) ≡ number value (numbers_in (drop at text))
  at-end l k h = ended-as l k (word-ends (slice start at text) (drop at text) (omega (arith, s.size)) (drop_of_length-le text h))

  pub at-separator : start < at → at ≤ start + 5 → at < length text → is_separator (get_or text at 0) ≡ true → next (numbers_in (drop start text)) ≡ number value (numbers_in (drop at text))
  at-separator l k h e =
      ended-as l k
      (rw (drop-cons text at 0 h) (word-parted (slice start at text) (get_or text at 0) (drop (suc at) text) (omega (arith, s.size)) e))

  none_of : at < length text → is_separator (get_or text at 0) ≡ false → ((rest : List ℕ) → number_of (slice start at text ++ (get_or text at 0 ∷ []) ++ rest) ≡ none) → next (numbers_in (drop start text)) ≡ malformed
  unfolding numbers_in
  none_of h e f =
      let longer : List ℕ = slice start at text ++ (get_or text at 0 ∷ []) in
      rw (s.words_are, drop-cons text at 0 h, word-goes-on (slice start at text) (get_or text at 0) (drop (suc at) text) e)
      (malformed-first longer (drop (suc at) text) (omega (arith, length-append (slice start at text) (get_or text at 0 ∷ []))) f)

  -- a sixth digit, or another byte
  pub sixth : at < length text → at - start ≡ 5 → is_separator (get_or text at 0) ≡ false → next (numbers_in (drop start text)) ≡ malformed
  sixth h k e =
      none_of h e
      (λ rest.
      let longer : List ℕ = slice start at text ++ (get_or text at 0 ∷ []) in
      too_long (longer ++ rest) (omega (arith, s.size, length-append (slice start at text) (get_or text at 0 ∷ []), length-append longer rest)))

  pub other_byte : at < length text → is_separator (get_or text at 0) ≡ false → is_digit (get_or text at 0) ≡ false → next (numbers_in (drop start text)) ≡ malformed
  other_byte h e d = none_of h e (λ rest. no_digit (slice start at text) (get_or text at 0) rest d)

pub no_text : (text : List ℕ) (at : ℕ) → length text ≤ at → next (numbers_in (drop at text)) ≡ end
unfolding numbers_in words_from ended next
no_text text at h = rw (drop_of_length-le text h)
