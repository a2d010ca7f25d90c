-- What is read as a line was printed as one.
use Rattle.flash.proofs.Kit.{◌≡◌, refl, sym, ap, ap₂, ◌∙◌, subst, ◌⊎◌, inl, inr, ⊎_elim, Bool, true, false, false≢true, ◌&&◌, List, [], ◌∷◌, ◌++◌, append_assoc, ℕ, zero, suc, ◌+◌, ◌*◌, arith}
use Rattle.flash.proofs.Kit.{eqb, leb, ltb, length, get_or, take, drop, take-append-drop, eqb-true, leb-true, ltb-true}
use Rattle.flash.specs.Lists.{concat_map, is_same}
use Rattle.flash.proofs.Bools.{bool_cases, and_left, and_right}
use Rattle.flash.proofs.Same.{same-eq}
use Rattle.listing.specs.Numbers.{spelled}
use Rattle.listing.specs.Digits.{decimal}
use Rattle.listing.specs.Lines.{originals_line, erase_line, end_line}
use Rattle.checker.specs.Lines.{leading, behind, is_number, is_field, fields, behind_fields, are_originals, Line, write, erase, end, other, Read, formed}
use Rattle.checker.specs.Lines.{read_end, read_erase, read_write, read_step, read_line}
use Rattle.checker.specs.Claims.{printed, Named, LinesAsPrinted}
use Rattle.checker.proofs.DecimalLaws.{leading-digits, leading-behind, number-back}
use Rattle.checker.proofs.PrintedLines.{spaced, five, three, read-write, read-erase, read-end}

-- ---- numbers and fields
digits-back : (text : List ℕ) → is_number (leading text) ≡ true → text ≡ decimal (spelled 0 (leading text)) ++ behind text
digits-back text g = sym (leading-behind text) ∙ ap (λ (l : List ℕ). l ++ behind text) (sym (number-back (leading text) (leading-digits text) g))

field_back : (text : List ℕ) → is_field text ≡ true → text ≡ 32 ∷ (decimal (spelled 0 (leading (drop 1 text))) ++ behind (drop 1 text))
unfolding is_field
field_back [] g = absurd (false≢true g)
field_back (c ∷ text) g =
    ap₂ (λ (h : ℕ) (t : List ℕ). h ∷ t) (eqb-true c 32 (and_left (eqb c 32) (is_number (leading text)) g)) (digits-back text (and_right (eqb c 32) (is_number (leading text)) g))

fields_back : (most : ℕ) (text : List ℕ) → text ≡ spaced (fields most text) ++ behind_fields most text
unfolding fields behind_fields concat_map
fields_back zero text = refl
fields_back (suc most) text = ⊎_elim
    (λ (g : is_field text ≡ true).
    let v = spelled 0 (leading (drop 1 text)) in
    let more = behind (drop 1 text) in
    rw g (field_back text g ∙ ap (λ (l : List ℕ). 32 ∷ (decimal v ++ l)) (fields_back most more)
    ∙ ap (λ (l : List ℕ). 32 ∷ l) (sym (append_assoc (decimal v) (spaced (fields most more)) (behind_fields most more)))))
    (λ (g : is_field text ≡ false). rw g)
    (bool_cases (is_field text))

-- ---- a line that is formed
-- its fields were good, and a line feed stood behind them
pub data Formed (good : Bool) (line : Line) (behind : List ℕ) : Type 0 where
  no : (formed good line behind).line ≡ other → Formed good line behind
  yes : good ≡ true → behind ≡ 10 ∷ drop 1 behind → formed good line behind ≡ record { line = line; rest = drop 1 behind } → Formed good line behind

feed-first : (text : List ℕ) → eqb (get_or text 0 0) 10 ≡ true → text ≡ 10 ∷ drop 1 text
feed-first [] e = absurd (false≢true e)
feed-first (c ∷ text) e = ap (λ (h : ℕ). h ∷ text) (eqb-true c 10 e)

form_of : (good : Bool) (line : Line) (behind : List ℕ) → Formed good line behind
unfolding formed
form_of good line behind = ⊎_elim
    (λ (t : (good && eqb (get_or behind 0 0) 10) ≡ true).
    yes (and_left good (eqb (get_or behind 0 0) 10) t) (feed-first behind (and_right good (eqb (get_or behind 0 0) 10) t)) (rw t))
    (λ (f : (good && eqb (get_or behind 0 0) 10) ≡ false). no (rw f))
    (bool_cases (good && eqb (get_or behind 0 0) 10))

-- lists of known lengths
one_value : (l : List ℕ) → eqb (length l) 1 ≡ true → l ≡ get_or l 0 0 ∷ []
one_value [] e = absurd (false≢true e)
one_value (a ∷ []) e = refl
one_value (a ∷ b ∷ l) e = absurd (omega (arith, eqb-true (length (a ∷ b ∷ l)) 1 e))

two-values : (l : List ℕ) → eqb (length l) 2 ≡ true → l ≡ get_or l 0 0 ∷ get_or l 1 0 ∷ []
two-values [] e = absurd (false≢true e)
two-values (a ∷ []) e = absurd (false≢true e)
two-values (a ∷ b ∷ []) e = refl
two-values (a ∷ b ∷ c ∷ l) e = absurd (omega (arith, eqb-true (length (a ∷ b ∷ c ∷ l)) 2 e))

more-values : (most : ℕ) (l : List ℕ) → are_originals most (drop 2 l) ≡ true → l ≡ get_or l 0 0 ∷ get_or l 1 0 ∷ drop 2 l
unfolding are_originals
more-values most [] e = absurd (false≢true e)
more-values most (a ∷ []) e = absurd (false≢true e)
more-values most (a ∷ b ∷ l) e = refl

-- what a read tells: nothing, or a line that was printed before what it leaves
unfoldable pub Told : (n m step : ℕ) → (text : List ℕ) → Read → Type 0
Told n m step text read = (read.line ≡ other) ⊎ (Named n m read.line × (text ≡ printed step read.line ++ read.rest))

-- ---- the three lines
module _ (n m step : ℕ) where
  end_back : (text : List ℕ) → Told n m step (101 ∷ 110 ∷ 100 ∷ text) (read_end text)
  unfolding Told read_end printed end_line concat_map
  end_back text = go (form_of (eqb (length (fields 2 text)) 2) (end (get_or (fields 2 text) 0 0) (get_or (fields 2 text) 1 0)) (behind_fields 2 text))
    where
      go : Formed (eqb (length (fields 2 text)) 2) (end (get_or (fields 2 text) 0 0) (get_or (fields 2 text) 1 0)) (behind_fields 2 text)
          → Told n m step (101 ∷ 110 ∷ 100 ∷ text) (read_end text)
      go (no e) = inl e
      go (yes good feed e) =
          let w = get_or (fields 2 text) 0 0 in
          let r = get_or (fields 2 text) 1 0 in
          let rest = drop 1 (behind_fields 2 text) in
          let values : text ≡ spaced (w ∷ r ∷ []) ++ (10 ∷ rest) = fields_back 2 text ∙ ap₂ (λ (x y : List ℕ). spaced x ++ y) (two-values (fields 2 text) good) feed in
          rw e (inr (
            tt,
            ap (λ (l : List ℕ). 101 ∷ 110 ∷ 100 ∷ l) (values ∙ append_assoc (32 ∷ decimal w) ((32 ∷ decimal r) ++ []) (10 ∷ rest)
                ∙ ap (λ (l : List ℕ). 32 ∷ (decimal w ++ l)) (append_assoc (32 ∷ decimal r) [] (10 ∷ rest)))
                ∙ sym (three (101 ∷ 110 ∷ 100 ∷ 32 ∷ decimal w) (32 ∷ decimal r) (10 ∷ []) rest),
          ))

  -- behind the step's number and a letter
  erase-back : (text : List ℕ) → Told n m step (decimal step ++ (32 ∷ 69 ∷ text)) (read_erase n text)
  unfolding Told read_erase printed erase_line concat_map
  erase-back text = go (form_of (eqb (length (fields 1 text)) 1 && leb (get_or (fields 1 text) 0 0) n) (erase (get_or (fields 1 text) 0 0)) (behind_fields 1 text))
    where
      go : Formed (eqb (length (fields 1 text)) 1 && leb (get_or (fields 1 text) 0 0) n) (erase (get_or (fields 1 text) 0 0)) (behind_fields 1 text)
          → Told n m step (decimal step ++ (32 ∷ 69 ∷ text)) (read_erase n text)
      go (no e) = inl e
      go (yes good feed e) =
          let b = get_or (fields 1 text) 0 0 in
          let rest = drop 1 (behind_fields 1 text) in
          let one = and_left (eqb (length (fields 1 text)) 1) (leb b n) good in
          let near = leb-true b n (and_right (eqb (length (fields 1 text)) 1) (leb b n) good) in
          let values : text ≡ spaced (b ∷ []) ++ (10 ∷ rest) = fields_back 1 text ∙ ap₂ (λ (x y : List ℕ). spaced x ++ y) (one_value (fields 1 text) one) feed in
          rw e (inr (
            near,
            ap (λ (l : List ℕ). decimal step ++ (32 ∷ 69 ∷ l)) (values ∙ append_assoc (32 ∷ decimal b) [] (10 ∷ rest))
                ∙ sym (three (decimal step) (32 ∷ 69 ∷ 32 ∷ decimal b) (10 ∷ []) rest),
          ))

  write-back : (text : List ℕ) → Told n m step (decimal step ++ (32 ∷ 87 ∷ text)) (read_write n m text)
  unfolding Told read_write printed originals_line concat_map
  write-back text = go (form_of test (write b q ks) (behind_fields (2 + n * m) text))
    where
      b : ℕ
      b = get_or (fields (2 + n * m) text) 0 0

      q : ℕ
      q = get_or (fields (2 + n * m) text) 1 0

      ks : List ℕ
      ks = drop 2 (fields (2 + n * m) text)

      test : Bool
      test = leb b n && ltb q m && are_originals (n * m) ks

      go : Formed test (write b q ks) (behind_fields (2 + n * m) text) → Told n m step (decimal step ++ (32 ∷ 87 ∷ text)) (read_write n m text)
      go (no e) = inl e
      go (yes good feed e) =
          let rest = drop 1 (behind_fields (2 + n * m) text) in
          let some = and_right (leb b n && ltb q m) (are_originals (n * m) ks) good in
          let both = and_left (leb b n && ltb q m) (are_originals (n * m) ks) good in
          let near = leb-true b n (and_left (leb b n) (ltb q m) both) in
          let inside = ltb-true q m (and_right (leb b n) (ltb q m) both) in
          let values : text ≡ spaced (b ∷ q ∷ ks) ++ (10 ∷ rest) =
          fields_back (2 + n * m) text ∙ ap₂ (λ (x y : List ℕ). spaced x ++ y) (more-values (n * m) (fields (2 + n * m) text) some) feed in
          rw e (inr (
            (near, inside, some),
            ap (λ (l : List ℕ). decimal step ++ (32 ∷ 87 ∷ l)) (values ∙ append_assoc (32 ∷ decimal b) ((32 ∷ decimal q) ++ spaced ks) (10 ∷ rest)
                ∙ ap (λ (l : List ℕ). 32 ∷ (decimal b ++ l)) (append_assoc (32 ∷ decimal q) (spaced ks) (10 ∷ rest)))
                ∙ sym (five (decimal step) (32 ∷ 87 ∷ 32 ∷ decimal b) (32 ∷ decimal q) (spaced ks) (10 ∷ []) rest),
          ))

  -- a word that stands first, and what follows it
  word_first : (size : ℕ) (text word : List ℕ) → is_same (take size text) word ≡ true → text ≡ word ++ drop size text
  word_first size text word e = sym (take-append-drop size text) ∙ ap (λ (l : List ℕ). l ++ drop size text) (same-eq (take size text) word e)

  step_back : (text : List ℕ) → Told n m step text (read_step n m step text)
  unfolding Told read_step
  step_back text = ⊎_elim
      (λ (t : (is_number (leading text) && eqb (spelled 0 (leading text)) step) ≡ true).
      let number = digits-back text (and_left (is_number (leading text)) (eqb (spelled 0 (leading text)) step) t)
      ∙ ap (λ (v : ℕ). decimal v ++ behind text) (eqb-true (spelled 0 (leading text)) step (and_right (is_number (leading text)) (eqb (spelled 0 (leading text)) step) t)) in
      ⊎_elim
      (λ (w : is_same (take 2 (behind text)) (32 ∷ 87 ∷ []) ≡ true).
      let whole = number ∙ ap (λ (l : List ℕ). decimal step ++ l) (word_first 2 (behind text) (32 ∷ 87 ∷ []) w) in
      rw (t, w) (subst (λ (l : List ℕ). Told n m step l (read_write n m (drop 2 (behind text)))) (sym whole) (write-back (drop 2 (behind text)))))
      (λ (w : is_same (take 2 (behind text)) (32 ∷ 87 ∷ []) ≡ false). ⊎_elim
      (λ (r : is_same (take 2 (behind text)) (32 ∷ 69 ∷ []) ≡ true).
      let whole = number ∙ ap (λ (l : List ℕ). decimal step ++ l) (word_first 2 (behind text) (32 ∷ 69 ∷ []) r) in
      rw (t, w, r) (subst (λ (l : List ℕ). Told n m step l (read_erase n (drop 2 (behind text)))) (sym whole) (erase-back (drop 2 (behind text)))))
      (λ (r : is_same (take 2 (behind text)) (32 ∷ 69 ∷ []) ≡ false). rw (t, w, r) (inl refl))
      (bool_cases (is_same (take 2 (behind text)) (32 ∷ 69 ∷ []))))
      (bool_cases (is_same (take 2 (behind text)) (32 ∷ 87 ∷ []))))
      (λ (f : (is_number (leading text) && eqb (spelled 0 (leading text)) step) ≡ false). rw f (inl refl))
      (bool_cases (is_number (leading text) && eqb (spelled 0 (leading text)) step))

  pub line-back : (text : List ℕ) → Told n m step text (read_line n m step text)
  unfolding Told read_line
  line-back text = ⊎_elim
      (λ (w : is_same (take 3 text) (101 ∷ 110 ∷ 100 ∷ []) ≡ true).
      rw w (subst (λ (l : List ℕ). Told n m step l (read_end (drop 3 text))) (sym (word_first 3 text (101 ∷ 110 ∷ 100 ∷ []) w)) (end_back (drop 3 text))))
      (λ (w : is_same (take 3 text) (101 ∷ 110 ∷ 100 ∷ []) ≡ false). rw w (step_back text))
      (bool_cases (is_same (take 3 text) (101 ∷ 110 ∷ 100 ∷ [])))

pub lines-as-printed : LinesAsPrinted
unfolding printed Told
lines-as-printed = record { read = read_back; only = λ n m step text. line-back n m step text }
  where
    read_back : (n m step : ℕ) (line : Line) (rest : List ℕ) → Named n m line → read_line n m step (printed step line ++ rest) ≡ record { line = line; rest = rest }
    read_back n m step (write b q ks) rest N = read-write n m step b q ks rest N.0 N.1 N.2
    read_back n m step (erase b) rest N = read-erase n m step b rest N
    read_back n m step (end w r) rest N = read-end n m step w r rest
    read_back n m step other rest N = absurd N
