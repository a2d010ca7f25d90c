-- What the checker accepts meets every clause of the request; and a written page is never blank.
use Rattle.flash.proofs.Kit.{◌≡◌, refl, sym, ap, ap₂, ◌∙◌, ◌⊎◌, inl, inr, ⊎_elim, Bool, true, false, false≢true, cond, not, ◌&&◌, List, [], ◌∷◌, ◌++◌, append-nil, append_assoc, ℕ, zero, suc, ◌+◌, ◌-◌, ◌*◌, ◌%◌, ◌^◌, ◌≤◌, ◌<◌, arith}
use Rattle.flash.proofs.Kit.{mod-eq_of_lt, zero-mod, bit_xor, xor_zero_r, eqb, leb, ltb, length, length-append, pow_pos, pow-lt, pow-add, eqb-true, eq-eqb, leb-true}
use native.Mathlib.Nat.{mul-mod_left}
use lib.Bits.{xor_mod}
use lib.Pow.{mod-mod-pow}
use Rattle.flash.specs.Lists.{all, count}
use Rattle.flash.specs.Geometry.{slot}
use Rattle.flash.specs.Tables.{refusal}
use Rattle.flash.proofs.Bools.{bool_cases, and_left, and_right}
use Rattle.flash.proofs.Ranges.{none_in}
use Rattle.listing.specs.Lines.{end_line}
use Rattle.checker.specs.Lines.{is_rising, are_originals, Line, write, erase, end, other, read_line}
use Rattle.checker.specs.Pages.{mask_of, resting_pages, is_blank, is_bad_write, page_written, block_erased, are_determined, survives, is_requested}
use Rattle.checker.specs.Answer.{CheckAnswer, said, Progress, step_of, turn, then_check, check_from, start, check_rows, check_answer}
use Rattle.checker.specs.Claims.{printed, Named, NeverBlank, pages_after, pages_lost, AllSound, listed, is_write, is_erase, Accepted, AcceptsExactly}
use Rattle.checker.proofs.SoundLaws.{end-some, determined-holds, lines-few, accepts-from}
use Rattle.checker.proofs.LinesBack.{Told, line-back}

-- ---- masks of rising originals
power-clear : (k least : ℕ) → least ≤ k → 2 ^ k % 2 ^ least ≡ 0
power-clear k least h =
    let split : k - least + least ≡ k = omega arith in
    rw (← split, pow-add 2 (k - least) least) (mul-mod_left (2 ^ (k - least)) (2 ^ least))

-- no original below `least`, no bit below it
rising-clear : (ks : List ℕ) (least : ℕ) → is_rising least ks ≡ true → mask_of ks % 2 ^ least ≡ 0
unfolding is_rising mask_of
rising-clear [] least r = zero-mod (2 ^ least)
rising-clear (k ∷ ks) least r =
    let low = leb-true least k (and_left (leb least k) (is_rising (suc k) ks) r) in
    let above : suc k - least + least ≡ suc k = omega arith in
    let high : mask_of ks % 2 ^ (suc k - least + least) ≡ 0 = rw above (rising-clear ks (suc k) (and_right (leb least k) (is_rising (suc k) ks) r)) in
    let rest : mask_of ks % 2 ^ least ≡ 0 = sym (mod-mod-pow (mask_of ks) (suc k - least) least) ∙ rw high (zero-mod (2 ^ least)) in
    xor_mod (2 ^ k) (mask_of ks) least ∙ rw (power-clear k least low, rest)

pub never-blank : NeverBlank
unfolding NeverBlank are_originals is_rising mask_of
never-blank most [] g e = absurd (false≢true g)
never-blank most (k ∷ ks) g e =
    let rises = and_right (leb 1 (length (k ∷ ks))) (is_rising 0 (k ∷ ks)) (and_left (leb 1 (length (k ∷ ks)) && is_rising 0 (k ∷ ks)) (all (λ k. ltb k most) (k ∷ ks)) g) in
    let rest = rising-clear ks (suc k) (and_right (leb 0 k) (is_rising (suc k) ks) rises) in
    let own : 2 ^ k % 2 ^ suc k ≡ 2 ^ k = mod-eq_of_lt (pow-lt {i = k} {j = suc k} (omega arith)) in
    let bits : bit_xor (2 ^ k) (mask_of ks) % 2 ^ suc k ≡ 2 ^ k = xor_mod (2 ^ k) (mask_of ks) (suc k) ∙ rw (rest, own, xor_zero_r) in
    let none : bit_xor (2 ^ k) (mask_of ks) % 2 ^ suc k ≡ 0 = rw e (zero-mod (2 ^ suc k)) in
    omega (arith, pow_pos k)

-- ---- what is accepted
one-true : (t : Bool) → ◌≡◌ {A = ℕ} (cond t 1 0) 1 → t ≡ true
one-true true e = refl
one-true false e = absurd (omega arith)

module _ (n m : ℕ) (list : List ℕ) where
  -- lines that are sound, and an end line with true counts
  record Good (text : List ℕ) (P : Progress) : Type 0 where
    lines : List Line
    text-is : text ≡ listed n m list (step_of P) lines ++ end_line (P.writes + count (is_write n m list) lines) (P.erases + count (is_erase n m list) lines)
    sound : AllSound n m list (λ pages. is_requested m list pages ≡ true) lines P.pages

  accepted-is : {a : CheckAnswer} → a ≡ said true → a.accepted ≡ 1
  accepted-is e = ap (λ (a : CheckAnswer). a.accepted) e

  good-write : (b q : ℕ) (ks rest : List ℕ) (P : Progress) → Named n m (write b q ks) → is_bad_write m P.pages b q ≡ false
      → survives (n * m) (page_written m P.pages b q (mask_of ks)) (page_written m (page_written m P.pages b q (mask_of ks)) b q 0) ≡ true
      → Good rest (record { writes = P.writes + 1; erases = P.erases; pages = page_written m P.pages b q (mask_of ks) }) → Good (printed (step_of P) (write b q ks) ++ rest) P
  unfolding survives is_bad_write AllSound pages_after pages_lost listed count is_write is_erase
  good-write b q ks rest P N good s G =
      let after = page_written m P.pages b q (mask_of ks) in
      let lost = page_written m after b q 0 in
      let blank : (j : ℕ) → q ≤ j → j < m → is_blank P.pages (slot m b j) ≡ true =
      λ j h k. not-not (is_blank P.pages (slot m b j)) (none_in (λ j. not (is_blank P.pages (slot m b j))) q (m - q) good j h (omega arith)) in
      let next : P.writes + 1 + P.erases ≡ suc (step_of P) = omega arith in
      let w : P.writes + 1 + count (is_write n m list) G.lines ≡ P.writes + suc (count (is_write n m list) G.lines) = omega arith in
      record {
        lines = write b q ks ∷ G.lines;
        text-is = ap (λ (l : List ℕ). printed (step_of P) (write b q ks) ++ l) (G.text-is ∙ rw (next, w)) ∙ sym (append_assoc (printed (step_of P) (write b q ks)) _ _);
        sound = (
          record {
            named = N;
            allowed = (blank q (omega arith) N.1, λ j h k. blank j (omega arith) k);
            after = determined-holds n m list after (and_left (are_determined (n * m) after) (are_determined (n * m) lost) s);
            lost = determined-holds n m list lost (and_right (are_determined (n * m) after) (are_determined (n * m) lost) s);
          },
          G.sound,
        );
      }
    where
      not-not : (t : Bool) → not t ≡ false → t ≡ true
      not-not true e = refl
      not-not false e = sym e

  good-erase : (b : ℕ) (rest : List ℕ) (P : Progress) → Named n m (erase b)
      → survives (n * m) (block_erased m P.pages b) (block_erased m (block_erased m P.pages b) b) ≡ true
      → Good rest (record { writes = P.writes; erases = P.erases + 1; pages = block_erased m P.pages b }) → Good (printed (step_of P) (erase b) ++ rest) P
  unfolding survives AllSound pages_after pages_lost listed count is_write is_erase
  good-erase b rest P N s G =
      let after = block_erased m P.pages b in
      let lost = block_erased m after b in
      let next : P.writes + (P.erases + 1) ≡ suc (step_of P) = omega arith in
      let e : P.erases + 1 + count (is_erase n m list) G.lines ≡ P.erases + suc (count (is_erase n m list) G.lines) = omega arith in
      record {
        lines = erase b ∷ G.lines;
        text-is = ap (λ (l : List ℕ). printed (step_of P) (erase b) ++ l) (G.text-is ∙ rw (next, e)) ∙ sym (append_assoc (printed (step_of P) (erase b)) _ _);
        sound = (
          record {
            named = N;
            allowed = tt;
            after = determined-holds n m list after (and_left (are_determined (n * m) after) (are_determined (n * m) lost) s);
            lost = determined-holds n m list lost (and_right (are_determined (n * m) after) (are_determined (n * m) lost) s);
          },
          G.sound,
        );
      }

  good-end : (w r : ℕ) (rest : List ℕ) (P : Progress) → length rest ≡ 0 → (eqb w P.writes && eqb r P.erases && is_requested m list P.pages) ≡ true
      → Good (printed (step_of P) (end w r) ++ rest) P
  unfolding printed listed AllSound count
  good-end w r [] P h e =
      let both = and_left (eqb w P.writes && eqb r P.erases) (is_requested m list P.pages) e in
      let first : w ≡ P.writes + 0 = omega (arith, eqb-true w P.writes (and_left (eqb w P.writes) (eqb r P.erases) both)) in
      let second : r ≡ P.erases + 0 = omega (arith, eqb-true r P.erases (and_right (eqb w P.writes) (eqb r P.erases) both)) in
      record {
        lines = [];
        text-is = append-nil (end_line w r) ∙ ap₂ end_line first second;
        sound = and_right (eqb w P.writes && eqb r P.erases) (is_requested m list P.pages) e;
      }
  good-end w r (x ∷ rest) P h e = absurd (omega arith)

  -- by the line that was read
  good-line : (line : Line) (rest : List ℕ) (P : Progress) (more : Progress → CheckAnswer) → Named n m line
      → ((Q : Progress) → more Q ≡ said true → Good rest Q) → then_check n m list (turn n m list line rest P) more ≡ said true
      → Good (printed (step_of P) line ++ rest) P
  unfolding turn then_check
  good-line (write b q ks) rest P more N ih e = ⊎_elim
      (λ (bad : is_bad_write m P.pages b q ≡ true). absurd (omega (arith, accepted-is (rw bad at e))))
      (λ (good : is_bad_write m P.pages b q ≡ false). ⊎_elim
      (λ (s : survives (n * m) (page_written m P.pages b q (mask_of ks)) (page_written m (page_written m P.pages b q (mask_of ks)) b q 0) ≡ true).
      good-write b q ks rest P N good s (ih _ (rw (good, s) at e)))
      (λ (s : survives (n * m) (page_written m P.pages b q (mask_of ks)) (page_written m (page_written m P.pages b q (mask_of ks)) b q 0) ≡ false).
      absurd (omega (arith, accepted-is (rw (good, s) at e))))
      (bool_cases (survives (n * m) (page_written m P.pages b q (mask_of ks)) (page_written m (page_written m P.pages b q (mask_of ks)) b q 0))))
      (bool_cases (is_bad_write m P.pages b q))
  good-line (erase b) rest P more N ih e = ⊎_elim
      (λ (s : survives (n * m) (block_erased m P.pages b) (block_erased m (block_erased m P.pages b) b) ≡ true). good-erase b rest P N s (ih _ (rw s at e)))
      (λ (s : survives (n * m) (block_erased m P.pages b) (block_erased m (block_erased m P.pages b) b) ≡ false). absurd (omega (arith, accepted-is (rw s at e))))
      (bool_cases (survives (n * m) (block_erased m P.pages b) (block_erased m (block_erased m P.pages b) b)))
  good-line (end w r) rest P more N ih e = ⊎_elim
      (λ (z : eqb (length rest) 0 ≡ true). good-end w r rest P (eqb-true (length rest) 0 z) (one-true _ (accepted-is (rw z at e))))
      (λ (z : eqb (length rest) 0 ≡ false). absurd (omega (arith, accepted-is (rw z at e))))
      (bool_cases (eqb (length rest) 0))
  good-line other rest P more N ih e = absurd N

  told : (text : List ℕ) (P : Progress) (line : Line) (rest : List ℕ) (more : Progress → CheckAnswer) → ((Q : Progress) → more Q ≡ said true → Good rest Q)
      → (line ≡ other) ⊎ (Named n m line × (text ≡ printed (step_of P) line ++ rest)) → then_check n m list (turn n m list line rest P) more ≡ said true → Good text P
  unfolding turn then_check
  told text P line rest more ih (inl o) e = absurd (omega (arith, accepted-is (rw o at e)))
  told text P line rest more ih (inr t) e = rw t.1 (good-line line rest P more t.0 ih e)

  good-text : (most : ℕ) (text : List ℕ) (P : Progress) → check_from n m list most text P ≡ said true → Good text P
  unfolding check_from Told
  good-text zero text P e = absurd (omega (arith, accepted-is e))
  good-text (suc most) text P e = ⊎_elim
      (λ (z : eqb (length text) 0 ≡ true). absurd (omega (arith, accepted-is (rw z at e))))
      (λ (z : eqb (length text) 0 ≡ false).
      let read = read_line n m (step_of P) text in
      let ran : then_check n m list (turn n m list read.line read.rest P) (λ Q. check_from n m list most read.rest Q) ≡ said true = rw z at e in
      told text P read.line read.rest (λ Q. check_from n m list most read.rest Q) (λ Q q. good-text most read.rest Q q) (line-back n m (step_of P) text) ran)
      (bool_cases (eqb (length text) 0))

-- counted from 0
no-zeros : (front : List ℕ) (w e : ℕ) → front ++ end_line (0 + w) (0 + e) ≡ front ++ end_line w e
no-zeros front w e = ap₂ (λ (x y : ℕ). front ++ end_line x y) (omega arith) (omega arith)

pub accepts-exactly : AcceptsExactly
unfolding check_answer
accepts-exactly = record { accepts = accepts; accepted = accepted }
  where
    accepts : (n m : ℕ) (list text : List ℕ) → refusal (check_rows n m list) ≡ 0 → Accepted n m list text → check_answer n m list text ≡ said true
    accepts n m list text rows B =
        let w = count (is_write n m list) B.lines in
        let e = count (is_erase n m list) B.lines in
        rw (eq-eqb (refusal (check_rows n m list)) 0 rows)
        (rw B.text-is (accepts-from n m list B.lines (start n m list) _ w e
        (omega (arith, lines-few n m list 0 B.lines (resting_pages n m) _ B.sound, length-append (listed n m list 0 B.lines) (end_line w e), end-some w e)) B.sound
        (omega arith) (omega arith)))

    accepted : (n m : ℕ) (list text : List ℕ) → check_answer n m list text ≡ said true → Accepted n m list text
    accepted n m list text e = ⊎_elim
        (λ (z : eqb (refusal (check_rows n m list)) 0 ≡ true).
        let G = good-text n m list (length text) text (start n m list) (rw z at e) in
        record { lines = G.lines; text-is = G.text-is ∙ no-zeros (listed n m list 0 G.lines) (count (is_write n m list) G.lines) (count (is_erase n m list) G.lines); sound = G.sound })
        (λ (z : eqb (refusal (check_rows n m list)) 0 ≡ false). absurd (omega (arith, accepted-is n m list (rw z at e))))
        (bool_cases (eqb (refusal (check_rows n m list)) 0))
