-- Digits, numbers and fields at a position of a text.
use Rattle.flash.proofs.Kit.{◌≡◌, refl, sym, ap, ◌∙◌, ⊎_elim, Bool, true, false, ◌&&◌, not, and-true, List, [], ◌∷◌, ℕ, zero, suc, ◌+◌, ◌-◌, ◌*◌, ◌≤◌, ◌<◌, min, add-one, add-zero, arith}
use Rattle.flash.proofs.Kit.{eqb, length, get_or, drop, take, take_all, length-drop, drop_of_length-le, drop-drop, drop-cons, get_or-drop, List·getD-eq-default, eqb-true, ne_eqb, le-leb}
use Rattle.std.proofs.Common.{Some, None}
use Rattle.flash.specs.Lists.{is_same}
use Rattle.flash.proofs.Bools.{bool_cases}
use Rattle.flash.proofs.Comparisons.{lt-cases}
use Rattle.listing.specs.Numbers.{is_digit, spelled}
use Rattle.checker.specs.Lines.{leading, behind, is_number, is_field, fields, behind_fields}
use Rattle.checker.specs.declared.number.Number.{Number}
use Rattle.checker.specs.inner.Told.{cap, number_at, field_at}

-- a byte that is not 0 stands within the text
pub stands-within : (text : List ℕ) (at byte : ℕ) → 1 ≤ byte → eqb (get_or text at 0) byte ≡ true → at < length text
stands-within text at byte h e = ⊎_elim
    (λ (l : at < length text). l)
    (λ (l : length text ≤ at). absurd (omega (arith, eqb-true (get_or text at 0) byte e, List·getD-eq-default text 0 l)))
    (lt-cases at (length text))

pub first-at : (text : List ℕ) (at : ℕ) → get_or (drop at text) 0 0 ≡ get_or text at 0
first-at text at = get_or-drop at text 0 0 ∙ ap (λ (i : ℕ). get_or text i 0) (add-zero at)

-- what stands from a position on, and a byte of it
pub length-tail : (text : List ℕ) (at : ℕ) → length (take (length text - at) (drop at text)) ≡ length text - at
length-tail text at = rw (take_all (length text - at) (drop at text) (omega (arith, length-drop at text))) (length-drop at text)

pub tail_at : (text : List ℕ) (at i here : ℕ) → here ≡ at + i → get_or (take (length text - at) (drop at text)) i 0 ≡ get_or text here 0
tail_at text at i here e = rw (e, take_all (length text - at) (drop at text) (omega (arith, length-drop at text))) (get_or-drop at text i 0)

-- ---- digits
length-leading : (text : List ℕ) → length (leading text) ≤ length text
unfolding leading
length-leading [] = omega arith
length-leading (byte ∷ text) = ⊎_elim
    (λ (e : is_digit byte ≡ true). rw e (omega (arith, length-leading text)))
    (λ (e : is_digit byte ≡ false). rw e (omega arith))
    (bool_cases (is_digit byte))

pub behind-is : (text : List ℕ) → behind text ≡ drop (length (leading text)) text
unfolding leading behind
behind-is [] = refl
behind-is (byte ∷ text) = ⊎_elim
    (λ (e : is_digit byte ≡ true). rw e (behind-is text))
    (λ (e : is_digit byte ≡ false). rw e)
    (bool_cases (is_digit byte))

pub leading-first : (text : List ℕ) → 1 ≤ length (leading text) → get_or (leading text) 0 0 ≡ get_or text 0 0
unfolding leading
leading-first [] h = refl
leading-first (byte ∷ text) h = ⊎_elim
    (λ (e : is_digit byte ≡ true). rw e)
    (λ (e : is_digit byte ≡ false). absurd (let z : length (leading (byte ∷ text)) ≡ 0 = rw e in omega arith))
    (bool_cases (is_digit byte))

module _ (text : List ℕ) (at : ℕ) where
  pub leading-digit : at < length text → is_digit (get_or text at 0) ≡ true → leading (drop at text) ≡ get_or text at 0 ∷ leading (drop (at + 1) text)
  unfolding leading
  leading-digit h e = rw (drop-cons text at 0 h, e, add-one at)

  pub leading-other : at < length text → is_digit (get_or text at 0) ≡ false → leading (drop at text) ≡ []
  unfolding leading
  leading-other h e = rw (drop-cons text at 0 h, e)

  pub leading-past : length text ≤ at → leading (drop at text) ≡ []
  unfolding leading
  leading-past h = rw (drop_of_length-le text h)

  -- the number that the digits there are, whether it is well formed or not
  abbrev pub digits_at : Number
  digits_at = record { value = min (spelled 0 (leading (drop at text))) cap; next = at + length (leading (drop at text)) }

  pub number-within : at ≤ length text → digits_at.next ≤ length text
  number-within h = omega (arith, length-leading (drop at text), length-drop at text)

  pub behind-at : behind (drop at text) ≡ drop digits_at.next text
  behind-at = behind-is (drop at text) ∙ drop-drop (length (leading (drop at text))) at text

-- ---- values up to the cap
pub capped : (value : ℕ) (digits : List ℕ) → min (spelled value digits) cap ≡ min (spelled (min value cap) digits) cap
unfolding spelled
capped value [] = omega arith
capped value (digit ∷ digits) =
    let same : min (value * 10 + (digit - 48)) cap ≡ min (min value cap * 10 + (digit - 48)) cap = omega arith in
    capped (value * 10 + (digit - 48)) digits
    ∙ ap (λ (v : ℕ). min (spelled v digits) cap) same
    ∙ sym (capped (min value cap * 10 + (digit - 48)) digits)

-- whether digits are a number, by how many there are
pub number_short : (digits : List ℕ) → length digits ≤ 1 → eqb (length digits) 1 ≡ is_number digits
unfolding is_number
number_short [] h = refl
number_short (digit ∷ []) h = refl
number_short (digit ∷ more ∷ digits) h = absurd (omega arith)

pub number-long : (digits : List ℕ) → 1 < length digits → not (eqb (get_or digits 0 0) 48) ≡ is_number digits
unfolding is_number
number-long digits h = rw (le-leb 1 (length digits) (omega arith), ne_eqb (length digits) 1 (λ e. absurd (omega arith)))

-- a number that is read is well formed, and none is read where the digits are not
pub number-some : (text : List ℕ) (at : ℕ) (one : Number) → Some one ≡ number_at text at
    → (is_number (leading (drop at text)) ≡ true) × (one ≡ digits_at text at)
number-some text at one e = ⊎_elim
    (λ (g : is_number (leading (drop at text)) ≡ true). let f = rw g at e in (g, cc))
    (λ (b : is_number (leading (drop at text)) ≡ false). let f = rw b at e in cc)
    (bool_cases (is_number (leading (drop at text))))

pub number-none : (text : List ℕ) (at : ℕ) → None ≡ number_at text at → is_number (leading (drop at text)) ≡ false
number-none text at e = ⊎_elim
    (λ (g : is_number (leading (drop at text)) ≡ true). let f = rw g at e in cc)
    (λ (b : is_number (leading (drop at text)) ≡ false). b)
    (bool_cases (is_number (leading (drop at text))))

pub number-good : (text : List ℕ) (at value next : ℕ) → is_number (leading (drop at text)) ≡ true → value ≡ (digits_at text at).value
    → next ≡ (digits_at text at).next → Some (record { value = value; next = next }) ≡ number_at text at
number-good text at value next g v n = rw (g, v, n)

pub number-bad : (text : List ℕ) (at : ℕ) → is_number (leading (drop at text)) ≡ false → None ≡ number_at text at
number-bad text at b = rw b

-- what the loop over digits keeps: what is still to be read gives the number
pub record Reading (text : List ℕ) (at next value : ℕ) : Type 0 where
  pub low : at ≤ next
  pub high : next ≤ length text
  pub value-is : min (spelled 0 (leading (drop at text))) cap ≡ min (spelled value (leading (drop next text))) cap
  pub next-is : at + length (leading (drop at text)) ≡ next + length (leading (drop next text))
  pub small : value ≤ cap

pub reading-starts : (text : List ℕ) (at : ℕ) → at ≤ length text → Reading text at at 0
reading-starts text at h = record { low = omega arith; high = h; value-is = refl; next-is = refl; small = omega arith }

pub reading-more : (text : List ℕ) (at next value more : ℕ) → next < length text → is_digit (get_or text next 0) ≡ true
    → more ≡ min (value * 10 + (get_or text next 0 - 48)) cap → Reading text at next value → Reading text at (next + 1) more
unfolding spelled
reading-more text at next value more h d e R =
    let digits = leading-digit text next h d in
    record {
      low = omega (arith, R.low);
      high = omega arith;
      value-is = R.value-is ∙ rw (digits, e) (capped (value * 10 + (get_or text next 0 - 48)) (leading (drop (next + 1) text)));
      next-is = R.next-is ∙ rw digits (omega arith);
      small = omega arith;
    }

pub reading-ends : (text : List ℕ) (at next value : ℕ) → leading (drop next text) ≡ [] → Reading text at next value
    → (value ≡ (digits_at text at).value) × (next ≡ (digits_at text at).next)
unfolding spelled
reading-ends text at next value e R =
    let v = rw e at R.value-is in
    let n = rw e at R.next-is in
    (omega (arith, R.small), omega arith)

-- ---- fields
module _ (text : List ℕ) (at : ℕ) where
  field_is : is_field (drop at text) ≡ (eqb (get_or text at 0) 32 && is_number (leading (drop (at + 1) text)))
  unfolding is_field
  field_is = rw (first-at text at, drop-drop 1 at text)

  -- a field that is read, as a number: there is a space before it
  module _ (one : Number) (e : Some one ≡ field_at text at) where
    space : (eqb (get_or text at 0) 32 ≡ true) × (Some one ≡ number_at text (at + 1))
    unfolding field_at
    space = ⊎_elim
        (λ (s : eqb (get_or text at 0) 32 ≡ true). (s, rw s at e))
        (λ (s : eqb (get_or text at 0) 32 ≡ false). let f = rw s at e in cc)
        (bool_cases (eqb (get_or text at 0) 32))

    field-number : (is_number (leading (drop (at + 1) text)) ≡ true) × (one ≡ digits_at text (at + 1))
    field-number = number-some text (at + 1) one space.1

    -- the number as it is spelled, of any size
    abbrev pub spelled_at : ℕ
    spelled_at = spelled 0 (leading (drop (at + 1) text))

    pub field-value : one.value ≡ min spelled_at cap
    field-value = ap (λ (r : Number). r.value) field-number.1

    pub field_next : (at < one.next) × (one.next ≤ length text)
    field_next =
        let inside = stands-within text at 32 (omega arith) space.0 in
        let within = number-within text (at + 1) (omega arith) in
        let n = ap (λ (r : Number). r.next) field-number.1 in
        (omega arith, omega arith)

    there : is_field (drop at text) ≡ true
    there = rw (field_is, space.0, field-number.0)

    after : behind (drop 1 (drop at text)) ≡ drop one.next text
    after = rw (drop-drop 1 at text, behind-at text (at + 1), field-number.1)

    pub fields-more : (most : ℕ) → fields (suc most) (drop at text) ≡ spelled_at ∷ fields most (drop one.next text)
    unfolding fields
    fields-more most = rw (there, after, drop-drop 1 at text)

    pub behind_more : (most : ℕ) → behind_fields (suc most) (drop at text) ≡ behind_fields most (drop one.next text)
    unfolding behind_fields
    behind_more most = rw (there, after)

  module _ (e : None ≡ field_at text at) where
    none-there : is_field (drop at text) ≡ false
    unfolding field_at
    none-there = ⊎_elim
        (λ (s : eqb (get_or text at 0) 32 ≡ true). rw (field_is, s, number-none text (at + 1) (rw s at e)))
        (λ (s : eqb (get_or text at 0) 32 ≡ false). rw (field_is, s))
        (bool_cases (eqb (get_or text at 0) 32))

    pub fields-none : (most : ℕ) → fields most (drop at text) ≡ []
    unfolding fields
    fields-none zero = refl
    fields-none (suc most) = rw none-there

    pub behind-none : (most : ℕ) → behind_fields most (drop at text) ≡ drop at text
    unfolding behind_fields
    behind-none zero = refl
    behind-none (suc most) = rw none-there

-- ---- words of two and three letters
pub two-letters : (text : List ℕ) (a b : ℕ) → 1 ≤ a → 1 ≤ b → is_same (take 2 text) (a ∷ b ∷ []) ≡ (eqb (get_or text 0 0) a && eqb (get_or text 1 0) b)
unfolding is_same
two-letters [] a b h k = rw (ne_eqb 0 a (λ e. absurd (omega arith)))
two-letters (x ∷ []) a b h k = rw (ne_eqb 0 b (λ e. absurd (omega arith)))
two-letters (x ∷ y ∷ text) a b h k = ap (λ (t : Bool). eqb x a && t) (and-true (eqb y b))

pub three-letters : (text : List ℕ) (a b c : ℕ) → 1 ≤ a → 1 ≤ b → 1 ≤ c
    → is_same (take 3 text) (a ∷ b ∷ c ∷ []) ≡ (eqb (get_or text 0 0) a && (eqb (get_or text 1 0) b && eqb (get_or text 2 0) c))
unfolding is_same
three-letters [] a b c h k l = rw (ne_eqb 0 a (λ e. absurd (omega arith)))
three-letters (x ∷ text) a b c h k l = ap (λ (t : Bool). eqb x a && t) (two-letters text b c k l)

-- the same at a position
pub letter_at : (text : List ℕ) (at letter : ℕ) → 1 ≤ letter
    → is_same (take 2 (drop at text)) (32 ∷ letter ∷ []) ≡ (eqb (get_or text at 0) 32 && eqb (get_or text (at + 1) 0) letter)
letter_at text at letter h = two-letters (drop at text) 32 letter (omega arith) h ∙ rw (first-at text at, get_or-drop at text 1 0)

pub end-at : (text : List ℕ) (at : ℕ)
    → is_same (take 3 (drop at text)) (101 ∷ 110 ∷ 100 ∷ [])
    ≡ (eqb (get_or text at 0) 101 && (eqb (get_or text (at + 1) 0) 110 && eqb (get_or text (at + 2) 0) 100))
end-at text at =
    three-letters (drop at text) 101 110 100 (omega arith) (omega arith) (omega arith)
    ∙ rw (first-at text at, get_or-drop at text 1 0, get_or-drop at text 2 0)
