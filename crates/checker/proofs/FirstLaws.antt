-- Sound lines never decide, and the first that is not does.
use Rattle.flash.proofs.Kit.{◌≡◌, refl, sym, ap, ◌∙◌, ◌≢◌, inl, inr, ◌⊎◌, ⊎_elim, Bool, true, false, not, List, [], ◌∷◌, ◌++◌, append_assoc, ℕ, zero, suc, ◌+◌, ◌-◌, ◌*◌, ◌≤◌, ◌<◌, arith}
use Rattle.flash.proofs.Kit.{length, length-append, eq-eqb, ne_eqb}
use Rattle.flash.specs.Geometry.{slot}
use Rattle.flash.specs.Tables.{refusal}
use Rattle.flash.proofs.Bools.{bool_cases, and_left, and_right, fails}
use Rattle.flash.proofs.Ranges.{none_in}
use Rattle.checker.specs.Lines.{Line, write, erase, end, other, read_line}
use Rattle.checker.specs.Pages.{resting_pages, is_blank, is_bad_write, are_determined, survives}
use Rattle.checker.specs.Answer.{CheckAnswer, faulty, Progress, step_of, stop, turn, then_check, check_from, start, check_rows, check_answer}
use Rattle.checker.specs.Claims.{printed, Named, Determined, pages_after, pages_lost, pages_after_all, Allowed, Sound, AllSound, listed, Decides, FirstDecides}
use Rattle.checker.proofs.PrintedLines.{read-write, read-erase, read-end}
use Rattle.checker.proofs.SoundLaws.{allowed-test, lines-few, end-some, write-some, erase-some, determined-holds, after, step_after, some-text, printed-some, sound-read, sound-turn}
use Rattle.checker.proofs.LinesBack.{Told, line-back}

module _ (n m : ℕ) (list : List ℕ) where
  -- ---- lines that are sound
  record Reached (lines : List Line) (P Q : Progress) : Type 0 where
    step : step_of Q ≡ step_of P + length lines
    pages : Q.pages ≡ pages_after_all n m list lines P.pages
    goes : (most : ℕ) (rest : List ℕ) → length lines ≤ most
        → check_from n m list most (listed n m list (step_of P) lines ++ rest) P ≡ check_from n m list (most - length lines) rest Q

  one_more : (most : ℕ) (rest : List ℕ) (line : Line) (lines : List Line) (P : Progress) → Sound n m list line P.pages → suc (length lines) ≤ most → (Q : Progress)
      → ((most : ℕ) (rest : List ℕ) → length lines ≤ most
      → check_from n m list most (listed n m list (step_of (after n m list line P)) lines ++ rest) (after n m list line P) ≡ check_from n m list (most - length lines) rest Q)
      → check_from n m list most (listed n m list (step_of P) (line ∷ lines) ++ rest) P ≡ check_from n m list (most - suc (length lines)) rest Q
  unfolding check_from listed then_check
  one_more zero rest line lines P S h Q goes = absurd (omega arith)
  one_more (suc most) rest line lines P S h Q goes =
      let more = listed n m list (step_of (after n m list line P)) lines ++ rest in
      let left : suc most - suc (length lines) ≡ most - length lines = omega arith in
      let text : (printed (step_of P) line ++ listed n m list (suc (step_of P)) lines) ++ rest ≡ printed (step_of P) line ++ more =
      append_assoc (printed (step_of P) line) (listed n m list (suc (step_of P)) lines) rest
      ∙ ap (λ (k : ℕ). printed (step_of P) line ++ (listed n m list k lines ++ rest)) (sym (step_after n m list line P S)) in
      ap (λ (l : List ℕ). check_from n m list (suc most) l P) text
      ∙ rw (
        some-text n m list (printed (step_of P) line) more (printed-some n m list line P.pages (step_of P) S),
        sound-read n m list line P.pages (step_of P) more S,
        sound-turn n m list line P more S,
        left,
      )
      (goes most rest (omega arith))

  reach : (lines : List Line) (P : Progress) → AllSound n m list (λ pages. Unit {0}) lines P.pages → (Q : Progress) × Reached lines P Q
  unfolding AllSound listed pages_after_all after
  reach [] P a = (P, record { step = omega arith; pages = refl; goes = λ most rest h. let all : most - 0 ≡ most = omega arith in rw all })
  reach (line ∷ lines) P a =
      let S = a.0 in
      let Q = after n m list line P in
      let R = reach lines Q a.1 in
      let next = step_after n m list line P S in (
        R.0,
        record {
          step = omega (arith, R.1.step);
          pages = R.1.pages;
          goes = λ most rest h. one_more most rest line lines P S (omega arith) R.0 R.1.goes;
        },
      )

  -- ---- one line that is not
  -- the next line, once it is known what it is
  decides : (most : ℕ) (text : List ℕ) (P : Progress) (answer : CheckAnswer) → 0 < length text
      → turn n m list (read_line n m (step_of P) text).line (read_line n m (step_of P) text).rest P ≡ stop answer → check_from n m list (suc most) text P ≡ answer
  unfolding check_from then_check
  decides most text P answer h e = rw (ne_eqb (length text) 0 (λ z. absurd (omega arith)), e)

  decides-read : (most : ℕ) (line : Line) (more : List ℕ) (P : Progress) (answer : CheckAnswer) → Named n m line → turn n m list line more P ≡ stop answer
      → check_from n m list (suc most) (printed (step_of P) line ++ more) P ≡ answer
  unfolding printed
  decides-read most (write b q ks) more P answer N e =
      decides most _ P answer (omega (arith, length-append (printed (step_of P) (write b q ks)) more, write-some (step_of P) b q ks))
      (rw (read-write n m (step_of P) b q ks more N.0 N.1 N.2) e)
  decides-read most (erase b) more P answer N e =
      decides most _ P answer (omega (arith, length-append (printed (step_of P) (erase b)) more, erase-some (step_of P) b)) (rw (read-erase n m (step_of P) b more N) e)
  decides-read most (end w r) more P answer N e =
      decides most _ P answer (omega (arith, length-append (printed (step_of P) (end w r)) more, end-some w r)) (rw (read-end n m (step_of P) w r more) e)
  decides-read most other more P answer N e = absurd N

  bad-test : (b q : ℕ) (ks pages : List ℕ) → q < m → (Allowed n m list (write b q ks) pages → ⊥) → is_bad_write m pages b q ≡ true
  unfolding is_bad_write
  bad-test b q ks pages h wrong = ⊎_elim
      (λ (t : is_bad_write m pages b q ≡ true). t)
      (λ (f : is_bad_write m pages b q ≡ false).
      let blank : (j : ℕ) → q ≤ j → j < m → is_blank pages (slot m b j) ≡ true =
      λ j l k. not-not (is_blank pages (slot m b j)) (none_in (λ j. not (is_blank pages (slot m b j))) q (m - q) f j l (omega arith)) in
      absurd (wrong (blank q (omega arith) h, λ j l k. blank j (omega arith) k)))
      (bool_cases (is_bad_write m pages b q))
    where
      not-not : (t : Bool) → not t ≡ false → t ≡ true
      not-not true e = refl
      not-not false e = sym e

  lost-test : (a l : List ℕ) → (Determined n m list a → Determined n m list l → ⊥) → survives (n * m) a l ≡ false
  unfolding survives
  lost-test a l wrong = fails (λ t. wrong (determined-holds n m list a (and_left (are_determined (n * m) a) (are_determined (n * m) l) t))
      (determined-holds n m list l (and_right (are_determined (n * m) a) (are_determined (n * m) l) t)))

  lost-turn : (line : Line) (more : List ℕ) (P : Progress) → Named n m line → Allowed n m list line P.pages
      → (Determined n m list (pages_after n m list line P.pages) → Determined n m list (pages_lost n m list line (pages_after n m list line P.pages)) → ⊥)
      → turn n m list line more P ≡ stop (faulty 15 (step_of P + 1))
  unfolding turn pages_after pages_lost
  lost-turn (write b q ks) more P N A wrong = rw (allowed-test n m list P.pages b q A.0 A.1, lost-test _ _ wrong)
  lost-turn (erase b) more P N A wrong = rw (lost-test _ _ wrong)
  lost-turn (end w r) more P N A wrong = absurd A
  lost-turn other more P N A wrong = absurd A

  -- ---- all together
  module _ (lines : List Line) (rest : List ℕ) (rows : refusal (check_rows n m list) ≡ 0) (sound : AllSound n m list (λ pages. Unit {0}) lines (resting_pages n m))
      (Q : Progress) (R : Reached lines (start n m list) Q) where
    step_is : step_of Q ≡ length lines
    step_is = omega (arith, R.step)

    answered : (answer : CheckAnswer) → 0 < length rest → ((most : ℕ) → check_from n m list (suc most) rest Q ≡ answer)
        → check_answer n m list (listed n m list 0 lines ++ rest) ≡ answer
    unfolding check_answer
    answered answer h f =
        let text = listed n m list 0 lines ++ rest in
        let few = lines-few n m list 0 lines (resting_pages n m) (λ pages. Unit {0}) sound in
        let size = length-append (listed n m list 0 lines) rest in
        let left : length text - length lines ≡ suc (length text - length lines - 1) = omega arith in
        rw (eq-eqb (refusal (check_rows n m list)) 0 rows) (R.goes (length text) rest (omega arith) ∙ rw left (f (length text - length lines - 1)))

    none_of : (line : Line) (more : List ℕ) → (line ≡ other) ⊎ (Named n m line × (rest ≡ printed (step_of Q) line ++ more))
        → ((line : Line) (more : List ℕ) → Named n m line → rest ≢ printed (length lines) line ++ more) → turn n m list line more Q ≡ stop (faulty 13 (length lines + 1))
    unfolding turn
    none_of line more (inl o) none = rw (o, step_is)
    none_of line more (inr t) none = absurd (none line more t.0 (t.1 ∙ ap (λ (k : ℕ). printed k line ++ more) step_is))

    ended-turn : (w r : ℕ) (more : List ℕ) → 0 < length more → turn n m list (end w r) more Q ≡ stop (faulty 13 (length lines + 2))
    unfolding turn
    ended-turn w r more h = rw (ne_eqb (length more) 0 (λ z. absurd (omega arith)), step_is)

    bad-turn : (b q : ℕ) (ks more : List ℕ) → is_bad_write m Q.pages b q ≡ true → turn n m list (write b q ks) more Q ≡ stop (faulty 14 (length lines + 1))
    unfolding turn
    bad-turn b q ks more e = rw (e, step_is)

    -- the next line stands first
    first-is : (line : Line) (more : List ℕ) (number at : ℕ) → Named n m line → rest ≡ printed (length lines) line ++ more → 0 < length rest
        → turn n m list line more Q ≡ stop (faulty number at) → check_answer n m list (listed n m list 0 lines ++ rest) ≡ faulty number at
    first-is line more number at N e h t =
        answered (faulty number at) h (λ most.
        ap (λ (l : List ℕ). check_from n m list (suc most) l Q) (e ∙ ap (λ (k : ℕ). printed k line ++ more) (sym step_is)) ∙ decides-read most line more Q (faulty number at) N t)

    line-some : (line : Line) (more : List ℕ) → Named n m line → rest ≡ printed (length lines) line ++ more → 0 < length rest
    unfolding printed
    line-some (write b q ks) more N e = omega (arith, ap length e, length-append (printed (length lines) (write b q ks)) more, write-some (length lines) b q ks)
    line-some (erase b) more N e = omega (arith, ap length e, length-append (printed (length lines) (erase b)) more, erase-some (length lines) b)
    line-some (end w r) more N e = omega (arith, ap length e, length-append (printed (length lines) (end w r)) more, end-some w r)
    line-some other more N e = absurd N

    decided : Decides n m list lines rest
    unfolding Told printed
    decided = record {
      no_line = λ h none. answered (faulty 13 (length lines + 1)) h (λ most.
          decides most rest Q (faulty 13 (length lines + 1)) h
          (none_of (read_line n m (step_of Q) rest).line (read_line n m (step_of Q) rest).rest (line-back n m (step_of Q) rest) none));
      after-end = λ w r more h e. first-is (end w r) more 13 (length lines + 2) tt e (line-some (end w r) more tt e) (ended-turn w r more h);
      bad-write = λ b q ks more N e wrong. first-is (write b q ks) more 14 (length lines + 1) N e (line-some (write b q ks) more N e)
          (bad-turn b q ks more (bad-test b q ks Q.pages N.1 (rw R.pages wrong)));
      lost = λ line more N A e wrong. first-is line more 15 (length lines + 1) N e (line-some line more N e)
          (lost-turn line more Q N (rw R.pages A) (rw R.pages wrong) ∙ ap (λ (k : ℕ). stop (faulty 15 (k + 1))) step_is);
    }

pub first-decides : FirstDecides
unfolding FirstDecides
first-decides n m list lines rest rows sound =
    let R = reach n m list lines (start n m list) sound in
    decided n m list lines rest rows sound R.0 R.1
