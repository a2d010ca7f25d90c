-- What the checker's tests say, as the clauses of the request; and that lines which are sound are accepted.
use Rattle.flash.proofs.Kit.{◌≡◌, refl, sym, ap, ◌∙◌, ◌≢◌, ⊎_elim, Bool, true, false, cond, not, List, [], ◌∷◌, ◌++◌, append_assoc, append-nil, ℕ, zero, suc, ◌+◌, ◌-◌, ◌*◌, ◌^◌, ◌≤◌, ◌<◌, arith}
use Rattle.flash.proofs.Kit.{bit_xor, xor_comm, xor_zero_l, eqb, length, length-append, eqb-true, eq-eqb, ne_eqb}
use Rattle.flash.specs.Lists.{count, concat_map}
use Rattle.flash.specs.Geometry.{slot}
use Rattle.flash.proofs.Bools.{bool_cases, or_cases, and_both}
use Rattle.flash.proofs.Comparisons.{eq-cases}
use Rattle.flash.proofs.Ranges.{all-is, all_in, none_is}
use Rattle.flash.proofs.Xor.{xor-cancel}
use Rattle.listing.specs.Digits.{decimal}
use Rattle.listing.specs.Lines.{originals_line, erase_line, end_line}
use Rattle.checker.specs.Lines.{Line, write, erase, end, other, read_line}
use Rattle.checker.specs.Pages.{is_blank, is_bad_write, is_sum, are_determined, survives, is_requested}
use Rattle.checker.specs.Answer.{said, Progress, step_of, on, turn, then_check, check_from}
use Rattle.checker.specs.Claims.{printed, sum_of, Chosen, SumsAreChoices, MeetsBlank, PagesRise, Determined, pages_after, pages_lost, Sound, AllSound, listed, is_write, is_erase}
use Rattle.checker.proofs.SumLaws.{sum-without, sum-with}
use Rattle.checker.proofs.PrintedLines.{read-write, read-erase, read-end}

-- ---- sums and choices
-- a choice for the first page, and one for the rest
then : Bool → (ℕ → Bool) → ℕ → Bool
then first others zero = first
then first others (suc i) = others i

choice : (pages : List ℕ) (mask : ℕ) → is_sum pages mask ≡ true → Chosen pages mask
unfolding is_sum sum_of then
choice [] mask e = record { chosen = λ i. false; sum = sym (eqb-true mask 0 e) }
choice (page ∷ pages) mask e = ⊎_elim
    (λ (l : is_sum pages mask ≡ true).
    let c = choice pages mask l in
    record { chosen = then false c.chosen; sum = xor_zero_l (sum_of c.chosen pages) ∙ c.sum })
    (λ (r : is_sum pages (bit_xor mask page) ≡ true).
    let c = choice pages (bit_xor mask page) r in
    record { chosen = then true c.chosen; sum = ap (bit_xor page) c.sum ∙ xor_comm page (bit_xor mask page) ∙ xor-cancel mask page })
    (or_cases (is_sum pages mask) (is_sum pages (bit_xor mask page)) e)

summed : (chosen : ℕ → Bool) (pages : List ℕ) → is_sum pages (sum_of chosen pages) ≡ true
unfolding sum_of is_sum
summed chosen [] = refl
summed chosen (page ∷ pages) = ⊎_elim
    (λ (c : chosen 0 ≡ true).
    let rest = sum_of (λ i. chosen (suc i)) pages in
    let back : bit_xor (bit_xor page rest) page ≡ rest = ap (λ (x : ℕ). bit_xor x page) (xor_comm page rest) ∙ xor-cancel rest page in
    rw c (sum-with page pages (bit_xor page rest) (rw back (summed (λ i. chosen (suc i)) pages))))
    (λ (c : chosen 0 ≡ false). rw (c, xor_zero_l) (sum-without page pages (sum_of (λ i. chosen (suc i)) pages) (summed (λ i. chosen (suc i)) pages)))
    (bool_cases (chosen 0))

pub sums-are-choices : SumsAreChoices
sums-are-choices = record { choice = choice; sum = λ pages mask c. ap (is_sum pages) (sym c.sum) ∙ summed c.chosen pages }

last_some : (front : List ℕ) → 0 < length (front ++ (10 ∷ []))
last_some front = omega (arith, length-append front (10 ∷ []))

-- every line has a line feed
pub write-some : (step b q : ℕ) (ks : List ℕ) → 0 < length (originals_line step b q ks)
unfolding originals_line
write-some step b q ks = last_some (decimal step ++ (32 ∷ 87 ∷ 32 ∷ decimal b) ++ (32 ∷ decimal q) ++ concat_map (λ k. 32 ∷ decimal k) ks)

pub erase-some : (step b : ℕ) → 0 < length (erase_line step b)
unfolding erase_line
erase-some step b = last_some (decimal step ++ (32 ∷ 69 ∷ 32 ∷ decimal b))

pub end-some : (w e : ℕ) → 0 < length (end_line w e)
unfolding end_line
end-some w e = last_some ((101 ∷ 110 ∷ 100 ∷ 32 ∷ decimal w) ++ (32 ∷ decimal e))

module _ (n m : ℕ) (list : List ℕ) where
  pub determined-test : (pages : List ℕ) → Determined n m list pages → are_determined (n * m) pages ≡ true
  unfolding are_determined
  determined-test pages d = all-is (λ k. is_sum pages (2 ^ k)) 0 (n * m) (λ k a h. sums-are-choices.sum pages (2 ^ k) (d k (omega arith)))

  pub determined-holds : (pages : List ℕ) → are_determined (n * m) pages ≡ true → Determined n m list pages
  unfolding are_determined
  determined-holds pages e k h = choice pages (2 ^ k) (all_in (λ k. is_sum pages (2 ^ k)) 0 (n * m) e k (omega arith) (omega arith))

  survive-test : (after lost : List ℕ) → Determined n m list after → Determined n m list lost → survives (n * m) after lost ≡ true
  unfolding survives
  survive-test after lost d l = and_both (are_determined (n * m) after) (are_determined (n * m) lost) (determined-test after d) (determined-test lost l)

  -- a write that is allowed is not bad
  pub allowed-test : (pages : List ℕ) (b q : ℕ) → MeetsBlank n m list pages b q → PagesRise n m list pages b q → is_bad_write m pages b q ≡ false
  unfolding is_bad_write
  allowed-test pages b q blank rise = none_is (λ j. not (is_blank pages (slot m b j))) q (m - q) (λ j a h. ⊎_elim
      (λ (e : j ≡ q). rw (e, blank))
      (λ (ne : j ≢ q). rw (rise j (omega arith) (omega arith)))
      (eq-cases j q))

  -- ---- one sound line
  -- what is counted after it
  unfoldable pub after : Line → Progress → Progress
  after line P = record {
    writes = P.writes + cond (is_write n m list line) 1 0;
    erases = P.erases + cond (is_erase n m list line) 1 0;
    pages = pages_after n m list line P.pages;
  }

  pub sound-read : (line : Line) (pages : List ℕ) (step : ℕ) (rest : List ℕ) → Sound n m list line pages
      → read_line n m step (printed step line ++ rest) ≡ record { line = line; rest = rest }
  unfolding printed
  sound-read (write b q ks) pages step rest S = read-write n m step b q ks rest S.named.0 S.named.1 S.named.2
  sound-read (erase b) pages step rest S = read-erase n m step b rest S.named
  sound-read (end w e) pages step rest S = absurd S.allowed
  sound-read other pages step rest S = absurd S.allowed

  pub sound-turn : (line : Line) (P : Progress) (rest : List ℕ) → Sound n m list line P.pages → turn n m list line rest P ≡ on (after line P)
  unfolding turn pages_after pages_lost after is_write is_erase
  sound-turn (write b q ks) P rest S =
      let none : P.erases + 0 ≡ P.erases = omega arith in
      rw (allowed-test P.pages b q S.allowed.0 S.allowed.1, survive-test _ _ S.after S.lost, none)
  sound-turn (erase b) P rest S =
      let none : P.writes + 0 ≡ P.writes = omega arith in
      rw (survive-test _ _ S.after S.lost, none)
  sound-turn (end w e) P rest S = absurd S.allowed
  sound-turn other P rest S = absurd S.allowed

  sound-one : (line : Line) (pages : List ℕ) → Sound n m list line pages → cond (is_write n m list line) 1 0 + cond (is_erase n m list line) 1 0 ≡ 1
  unfolding is_write is_erase
  sound-one (write b q ks) pages S = refl
  sound-one (erase b) pages S = refl
  sound-one (end w e) pages S = absurd S.allowed
  sound-one other pages S = absurd S.allowed

  pub step_after : (line : Line) (P : Progress) → Sound n m list line P.pages → step_of (after line P) ≡ suc (step_of P)
  unfolding after
  step_after line P S = omega (arith, sound-one line P.pages S)

  counted-write : (line : Line) (lines : List Line) (P : Progress) (w : ℕ) → w ≡ P.writes + count (is_write n m list) (line ∷ lines)
      → w ≡ (after line P).writes + count (is_write n m list) lines
  unfolding count after
  counted-write line lines P w f = ⊎_elim
      (λ (t : is_write n m list line ≡ true). f ∙ rw t (omega arith))
      (λ (t : is_write n m list line ≡ false). f ∙ rw t (omega arith))
      (bool_cases (is_write n m list line))

  counted-erase : (line : Line) (lines : List Line) (P : Progress) (e : ℕ) → e ≡ P.erases + count (is_erase n m list) (line ∷ lines)
      → e ≡ (after line P).erases + count (is_erase n m list) lines
  unfolding count after
  counted-erase line lines P e f = ⊎_elim
      (λ (t : is_erase n m list line ≡ true). f ∙ rw t (omega arith))
      (λ (t : is_erase n m list line ≡ false). f ∙ rw t (omega arith))
      (bool_cases (is_erase n m list line))

  -- what it takes of the text: something
  pub printed-some : (line : Line) (pages : List ℕ) (step : ℕ) → Sound n m list line pages → 0 < length (printed step line)
  unfolding printed
  printed-some (write b q ks) pages step S = write-some step b q ks
  printed-some (erase b) pages step S = erase-some step b
  printed-some (end w e) pages step S = absurd S.allowed
  printed-some other pages step S = absurd S.allowed

  pub some-text : (front rest : List ℕ) → 0 < length front → eqb (length (front ++ rest)) 0 ≡ false
  some-text front rest h = ne_eqb (length (front ++ rest)) 0 (λ z. absurd (omega (arith, length-append front rest)))

  -- there are no more lines than bytes
  pub lines-few : (step : ℕ) (lines : List Line) (pages : List ℕ) (final : List ℕ → Type 0) → AllSound n m list final lines pages
      → length lines ≤ length (listed n m list step lines)
  unfolding AllSound listed
  lines-few step [] pages final a = omega arith
  lines-few step (line ∷ lines) pages final a =
      omega (
        arith,
        printed-some line pages step a.0,
        lines-few (suc step) lines (pages_after n m list line pages) final a.1,
        length-append (printed step line) (listed n m list (suc step) lines),
      )

  -- ---- sound lines up to an end line with true counts
  pub accepts-from : (lines : List Line) (P : Progress) (most w e : ℕ) → length lines < most
      → AllSound n m list (λ pages. is_requested m list pages ≡ true) lines P.pages
      → w ≡ P.writes + count (is_write n m list) lines → e ≡ P.erases + count (is_erase n m list) lines
      → check_from n m list most (listed n m list (step_of P) lines ++ end_line w e) P ≡ said true
  unfolding check_from AllSound listed count then_check turn after
  accepts-from [] P zero w e h a f g = absurd (omega arith)
  accepts-from [] P (suc most) w e h a f g =
      let text : end_line w e ++ [] ≡ end_line w e = append-nil (end_line w e) in
      let read : read_line n m (step_of P) (end_line w e) ≡ record { line = end w e; rest = [] } = ap (read_line n m (step_of P)) (sym text) ∙ read-end n m (step_of P) w e [] in
      let some : eqb (length (end_line w e)) 0 ≡ false = ne_eqb (length (end_line w e)) 0 (λ z. absurd (omega (arith, end-some w e))) in
      rw (some, read, eq-eqb w P.writes (omega arith), eq-eqb e P.erases (omega arith), a)
  accepts-from (line ∷ lines) P zero w e h a f g = absurd (omega arith)
  accepts-from (line ∷ lines) P (suc most) w e h a f g =
      let S = a.0 in
      let Q = after line P in
      let rest = listed n m list (step_of Q) lines ++ end_line w e in
      let one = sound-one line P.pages S in
      let next : step_of Q ≡ suc (step_of P) = step_after line P S in
      let text : (printed (step_of P) line ++ listed n m list (suc (step_of P)) lines) ++ end_line w e ≡ printed (step_of P) line ++ rest =
      append_assoc (printed (step_of P) line) (listed n m list (suc (step_of P)) lines) (end_line w e)
      ∙ ap (λ (k : ℕ). printed (step_of P) line ++ (listed n m list k lines ++ end_line w e)) (sym next) in
      ap (λ (l : List ℕ). check_from n m list (suc most) l P) text
      ∙ rw (some-text (printed (step_of P) line) rest (printed-some line P.pages (step_of P) S), sound-read line P.pages (step_of P) rest S, sound-turn line P rest S)
      (accepts-from lines Q most w e (omega arith) a.1 (counted-write line lines P w f) (counted-erase line lines P e g))
