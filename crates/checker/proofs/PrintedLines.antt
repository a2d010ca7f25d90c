-- Lines that are printed are read as themselves, and what is read as a line was printed so.
use Rattle.flash.proofs.Kit.{◌≡◌, refl, sym, ap, ◌∙◌, Bool, true, false, ◌&&◌, cond, List, [], ◌∷◌, ◌++◌, append_assoc, ℕ, zero, suc, ◌+◌, ◌-◌, ◌*◌, ◌≤◌, ◌<◌, arith}
use Rattle.flash.proofs.Kit.{leb, ltb, length, get_or, take, List·getD-append, eq-eqb, ne_eqb, le-leb, lt-ltb, leb-true, ltb-true}
use Rattle.flash.specs.Lists.{all, concat_map, is_same}
use Rattle.flash.proofs.Bools.{and_left, and_right}
use Rattle.listing.specs.Numbers.{is_digit}
use Rattle.listing.specs.Digits.{decimal}
use Rattle.listing.specs.Lines.{originals_line, erase_line, end_line}
use Rattle.listing.proofs.NumberLaws.{digit-high}
use Rattle.checker.specs.Lines.{leading, behind, is_number, is_field, fields, behind_fields, is_rising, are_originals, write, erase, end, unformed, formed}
use Rattle.checker.specs.Lines.{read_end, read_erase, read_write, read_step, read_line}
use Rattle.checker.proofs.TextLaws.{three-letters}
use Rattle.checker.proofs.DecimalLaws.{leading-of, behind-of, decimal-digits, decimal-value, decimal-number}

-- fields as they are printed
abbrev pub spaced : List ℕ → List ℕ
spaced values = concat_map (λ k. 32 ∷ decimal k) values

-- ---- printed, then read
-- a field in front of a byte that is no digit
module _ (v c : ℕ) (rest : List ℕ) (n : is_digit c ≡ false) where
  first : leading (decimal v ++ (c ∷ rest)) ≡ decimal v
  first = leading-of c rest n (decimal v) (decimal-digits v)

  after : behind (decimal v ++ (c ∷ rest)) ≡ c ∷ rest
  after = behind-of c rest n (decimal v) (decimal-digits v)

  there : is_field (32 ∷ (decimal v ++ (c ∷ rest))) ≡ true
  unfolding is_field
  there = rw (first, decimal-number v)

  fields-first : (most : ℕ) → fields (suc most) (32 ∷ (decimal v ++ (c ∷ rest))) ≡ v ∷ fields most (c ∷ rest)
  unfolding fields
  fields-first most = rw (there, first, after, decimal-value v)

  behind-first : (most : ℕ) → behind_fields (suc most) (32 ∷ (decimal v ++ (c ∷ rest))) ≡ behind_fields most (c ∷ rest)
  unfolding behind_fields
  behind-first most = rw (there, after)

-- fields up to a line feed start with a space or with it
record Start (text : List ℕ) : Type 0 where
  byte : ℕ
  more : List ℕ
  is : text ≡ byte ∷ more
  no_digit : is_digit byte ≡ false

start_of : (values rest : List ℕ) → Start (spaced values ++ (10 ∷ rest))
unfolding concat_map is_digit
start_of [] rest = record { byte = 10; more = rest; is = refl; no_digit = refl }
start_of (v ∷ values) rest = record { byte = 32; more = (decimal v ++ spaced values) ++ (10 ∷ rest); is = refl; no_digit = refl }

-- they are read as they are, and the line feed is left
spaced-fields : (values rest : List ℕ) (most : ℕ) → length values ≤ most
    → (fields most (spaced values ++ (10 ∷ rest)) ≡ values) × (behind_fields most (spaced values ++ (10 ∷ rest)) ≡ 10 ∷ rest)
unfolding concat_map fields behind_fields is_field
spaced-fields [] rest zero h = (refl, refl)
spaced-fields [] rest (suc most) h = (refl, refl)
spaced-fields (v ∷ values) rest zero h = absurd (omega arith)
spaced-fields (v ∷ values) rest (suc most) h =
    let S = start_of values rest in
    let again = spaced-fields values rest most (omega arith) in
    let text : spaced (v ∷ values) ++ (10 ∷ rest) ≡ 32 ∷ (decimal v ++ (S.byte ∷ S.more)) =
    ap (λ (l : List ℕ). 32 ∷ l) (append_assoc (decimal v) (spaced values) (10 ∷ rest) ∙ ap (λ (l : List ℕ). decimal v ++ l) S.is) in (
      ap (fields (suc most)) text ∙ fields-first v S.byte S.more S.no_digit most ∙ ap (λ (l : List ℕ). v ∷ fields most l) (sym S.is) ∙ ap (λ (l : List ℕ). v ∷ l) again.0,
      ap (behind_fields (suc most)) text ∙ behind-first v S.byte S.more S.no_digit most ∙ ap (behind_fields most) (sym S.is) ∙ again.1,
    )

number-some : (ds : List ℕ) → is_number ds ≡ true → 0 < length ds
unfolding is_number
number-some ds g = leb-true 1 (length ds) (and_left (leb 1 (length ds)) _ g)

first_of : (ds : List ℕ) → all is_digit ds ≡ true → 0 < length ds → is_digit (get_or ds 0 0) ≡ true
unfolding all
first_of [] a h = absurd (omega arith)
first_of (d ∷ ds) a h = and_left (is_digit d) (all is_digit ds) a

-- the line of a step: its number, a letter, and fields
module _ (n m step letter : ℕ) (values rest : List ℕ) where
  abbrev tail : List ℕ
  tail = spaced values ++ (10 ∷ rest)

  abbrev line : List ℕ
  line = decimal step ++ (32 ∷ letter ∷ tail)

  no-space : is_digit 32 ≡ false
  unfolding is_digit
  no-space = refl

  -- a digit is no `e`
  not_end : is_same (take 3 line) (101 ∷ 110 ∷ 100 ∷ []) ≡ false
  not_end =
      let some = number-some (decimal step) (decimal-number step) in
      let here : get_or line 0 0 ≡ get_or (decimal step) 0 0 = List·getD-append (decimal step) (32 ∷ letter ∷ tail) 0 0 some in
      let high = digit-high (get_or (decimal step) 0 0) (first_of (decimal step) (decimal-digits step) some) in
      three-letters line 101 110 100 (omega arith) (omega arith) (omega arith) ∙ rw (ne_eqb (get_or line 0 0) 101 (λ e. absurd (omega arith)))

  step-read : read_line n m step line
      ≡ cond (is_same (32 ∷ letter ∷ []) (32 ∷ 87 ∷ [])) (read_write n m tail) (cond (is_same (32 ∷ letter ∷ []) (32 ∷ 69 ∷ [])) (read_erase n tail) unformed)
  unfolding read_line read_step
  step-read =
      rw (not_end, first step 32 (letter ∷ tail) no-space, after step 32 (letter ∷ tail) no-space, decimal-number step, decimal-value step, eq-eqb step step refl)

-- rising numbers below a bound are no more than it says
rising-few : (ks : List ℕ) (least most : ℕ) → is_rising least ks ≡ true → all (λ k. ltb k most) ks ≡ true → length ks ≤ most - least
unfolding is_rising all
rising-few [] least most r a = omega arith
rising-few (k ∷ ks) least most r a =
    let low = leb-true least k (and_left (leb least k) (is_rising (suc k) ks) r) in
    let high = ltb-true k most (and_left (ltb k most) (all (λ k. ltb k most) ks) a) in
    let rest = rising-few ks (suc k) most (and_right (leb least k) (is_rising (suc k) ks) r) (and_right (ltb k most) (all (λ k. ltb k most) ks) a) in
    omega arith

originals-few : (most : ℕ) (ks : List ℕ) → are_originals most ks ≡ true → length ks ≤ most
unfolding are_originals
originals-few most ks g =
    let below : Bool = all (λ k. ltb k most) ks in
    let rises = and_right (leb 1 (length ks)) (is_rising 0 ks) (and_left (leb 1 (length ks) && is_rising 0 ks) below g) in
    let few = rising-few ks 0 most rises (and_right (leb 1 (length ks) && is_rising 0 ks) below g) in
    omega arith

pub five : (a b c d e f : List ℕ) → (a ++ b ++ c ++ d ++ e) ++ f ≡ a ++ (b ++ (c ++ (d ++ (e ++ f))))
five a b c d e f =
    append_assoc (a ++ b ++ c ++ d) e f ∙ append_assoc (a ++ b ++ c) d (e ++ f) ∙ append_assoc (a ++ b) c (d ++ (e ++ f)) ∙ append_assoc a b (c ++ (d ++ (e ++ f)))

pub three : (a b c d : List ℕ) → (a ++ b ++ c) ++ d ≡ a ++ (b ++ (c ++ d))
three a b c d = append_assoc (a ++ b) c d ∙ append_assoc a b (c ++ d)

pub read-write : (n m step block page : ℕ) (ks rest : List ℕ) → block ≤ n → page < m → are_originals (n * m) ks ≡ true
    → read_line n m step (originals_line step block page ks ++ rest) ≡ record { line = write block page ks; rest = rest }
unfolding originals_line read_write formed is_same concat_map
read-write n m step block page ks rest h k g =
    let values = block ∷ page ∷ ks in
    let few = originals-few (n * m) ks g in
    let read = spaced-fields values rest (2 + n * m) (omega arith) in
    let text : originals_line step block page ks ++ rest ≡ line n m step 87 values rest =
    five (decimal step) (32 ∷ 87 ∷ 32 ∷ decimal block) (32 ∷ decimal page) (spaced ks) (10 ∷ []) rest
    ∙ ap (λ (l : List ℕ). decimal step ++ (32 ∷ 87 ∷ l))
    (sym (append_assoc (32 ∷ decimal block) ((32 ∷ decimal page) ++ spaced ks) (10 ∷ rest)
    ∙ ap (λ (l : List ℕ). 32 ∷ (decimal block ++ l)) (append_assoc (32 ∷ decimal page) (spaced ks) (10 ∷ rest)))) in
    ap (read_line n m step) text ∙ step-read n m step 87 values rest
    ∙ rw (read.0, read.1, le-leb block n h, lt-ltb page m k, g)

pub read-erase : (n m step block : ℕ) (rest : List ℕ) → block ≤ n → read_line n m step (erase_line step block ++ rest) ≡ record { line = erase block; rest = rest }
unfolding erase_line read_erase formed is_same concat_map
read-erase n m step block rest h =
    let values = block ∷ [] in
    let read = spaced-fields values rest 1 (omega arith) in
    let text : erase_line step block ++ rest ≡ line n m step 69 values rest =
    three (decimal step) (32 ∷ 69 ∷ 32 ∷ decimal block) (10 ∷ []) rest
    ∙ ap (λ (l : List ℕ). decimal step ++ (32 ∷ 69 ∷ 32 ∷ l)) (sym (append_assoc (decimal block) [] (10 ∷ rest))) in
    ap (read_line n m step) text ∙ step-read n m step 69 values rest ∙ rw (read.0, read.1, le-leb block n h)

pub read-end : (n m step writes erases : ℕ) (rest : List ℕ) → read_line n m step (end_line writes erases ++ rest) ≡ record { line = end writes erases; rest = rest }
unfolding end_line read_line read_end formed is_same concat_map
read-end n m step writes erases rest =
    let values = writes ∷ erases ∷ [] in
    let read = spaced-fields values rest 2 (omega arith) in
    let text : end_line writes erases ++ rest ≡ 101 ∷ 110 ∷ 100 ∷ (spaced values ++ (10 ∷ rest)) =
    three (101 ∷ 110 ∷ 100 ∷ 32 ∷ decimal writes) (32 ∷ decimal erases) (10 ∷ []) rest
    ∙ ap (λ (l : List ℕ). 101 ∷ 110 ∷ 100 ∷ l)
    (sym (append_assoc (32 ∷ decimal writes) ((32 ∷ decimal erases) ++ []) (10 ∷ rest)
    ∙ ap (λ (l : List ℕ). 32 ∷ (decimal writes ++ l)) (append_assoc (32 ∷ decimal erases) [] (10 ∷ rest)))) in
    ap (read_line n m step) text ∙ rw (read.0, read.1)
