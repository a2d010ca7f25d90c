-- What a line that was told leads to, and how the check goes on from line to line.
use Rattle.flash.proofs.Kit.{◌≡◌, refl, sym, ap, ◌∙◌, Bool, true, false, cond, ◌&&◌, List, [], ℕ, zero, suc, ◌+◌, ◌-◌, ◌*◌, ◌≤◌, ◌<◌, min, arith, eqb, length, drop}
use Rattle.flash.proofs.Kit.{length-drop, drop_of_length-le, eqb-true, eq-eqb, ne_eqb}
use Rattle.flash.proofs.Bools.{bool_eq}
use Rattle.flash.proofs.Parts.{part-fits}
use Rattle.checker.specs.Lines.{Line, write, erase, end, other, read_line}
use Rattle.checker.specs.Pages.{mask_of, is_bad_write, page_written, block_erased, are_determined, is_requested}
use Rattle.checker.specs.Answer.{CheckAnswer, faulty, Progress, step_of, on, stop, turn, then_check, check_from}
use Rattle.checker.specs.inner.Told.{cap, Said, wrote, erased, ended, unread, said}
use Rattle.std.proofs.Common.{Result, Ok, Err}
use Rattle.checker.specs.declared.fault.Fault.{Fault}
use Rattle.checker.specs.declared.turn.Cursor.{Cursor}
use Rattle.checker.specs.declared.turn.Turn as code
use Rattle.checker.specs.declared.turn.Turn.TheVariants.{On, End}
use Rattle.checker.specs.inner.Checks.{checked_as}
use Rattle.checker.specs.inner.Turns.{Standing, turn_as, GoesOn}
use Rattle.checker.proofs.PageLaws.{write-survives, erase-survives}

-- ---- what was told, part by part
kind_of : Said → ℕ
kind_of (wrote block page mask rest) = 1
kind_of (erased block rest) = 2
kind_of (ended writes erases rest) = 3
kind_of unread = 4

part_of : ℕ → Said → ℕ
part_of zero (wrote block page mask rest) = block
part_of (suc zero) (wrote block page mask rest) = page
part_of (suc (suc k)) (wrote block page mask rest) = mask
part_of k (erased block rest) = block
part_of zero (ended writes erases rest) = writes
part_of (suc k) (ended writes erases rest) = erases
part_of k unread = 0

rest_of : Said → List ℕ
rest_of (wrote block page mask rest) = rest
rest_of (erased block rest) = rest
rest_of (ended writes erases rest) = rest
rest_of unread = []

pub said-write : (line : Line) (rest : List ℕ) (b q mask : ℕ) (after : List ℕ) → wrote b q mask after ≡ said line rest
    → (ks : List ℕ) × (line ≡ write b q ks) × (mask ≡ mask_of ks) × (after ≡ rest)
unfolding said kind_of part_of rest_of
said-write (write b' q' ks) rest b q mask after e =
    let same : write b' q' ks ≡ write b q ks = rw (ap (part_of 0) e, ap (part_of 1) e) in
    (ks, same, ap (part_of 2) e, ap rest_of e)
said-write (erase b') rest b q mask after e = absurd (omega (arith, ap kind_of e))
said-write (end w r) rest b q mask after e = absurd (omega (arith, ap kind_of e))
said-write other rest b q mask after e = absurd (omega (arith, ap kind_of e))

pub said-erase : (line : Line) (rest : List ℕ) (b : ℕ) (after : List ℕ) → erased b after ≡ said line rest → (line ≡ erase b) × (after ≡ rest)
unfolding said kind_of part_of rest_of
said-erase (write b' q' ks) rest b after e = absurd (omega (arith, ap kind_of e))
said-erase (erase b') rest b after e = (ap erase (sym (ap (part_of 0) e)), ap rest_of e)
said-erase (end w r) rest b after e = absurd (omega (arith, ap kind_of e))
said-erase other rest b after e = absurd (omega (arith, ap kind_of e))

pub said-end : (line : Line) (rest : List ℕ) (w r : ℕ) (after : List ℕ) → ended w r after ≡ said line rest
    → (w' : ℕ) × (r' : ℕ) × (line ≡ end w' r') × (w ≡ min w' cap) × (r ≡ min r' cap) × (after ≡ rest)
unfolding said kind_of part_of rest_of
said-end (write b' q' ks) rest w r after e = absurd (omega (arith, ap kind_of e))
said-end (erase b') rest w r after e = absurd (omega (arith, ap kind_of e))
said-end (end w' r') rest w r after e = (w', r', refl, ap (part_of 0) e, ap (part_of 1) e, ap rest_of e)
said-end other rest w r after e = absurd (omega (arith, ap kind_of e))

pub said-other : (line : Line) (rest : List ℕ) → unread ≡ said line rest → line ≡ other
unfolding said kind_of
said-other (write b q ks) rest e = absurd (omega (arith, ap kind_of e))
said-other (erase b) rest e = absurd (omega (arith, ap kind_of e))
said-other (end w r) rest e = absurd (omega (arith, ap kind_of e))
said-other other rest e = refl

-- a block within the sizes lies within the pages
pub block-fits : (n m block size : ℕ) → block ≤ n → size ≡ (n + 1) * m → block * m + m ≤ size
block-fits n m block size h e = omega (arith, part-fits block (n + 1) m (omega arith))

-- ---- one turn
module _ (n m : ℕ) (list : List ℕ) (line : Line) (rest : List ℕ) (P : Progress) where
  module _ (b q mask : ℕ) (after : List ℕ) (e : wrote b q mask after ≡ said line rest) (inside : q < m) where
    pub turn-bad : is_bad_write m P.pages b q ≡ true → stop (faulty 14 (step_of P + 1)) ≡ turn n m list line rest P
    unfolding turn
    turn-bad f = let s = said-write line rest b q mask after e in rw (s.1, f)

    pub turn-write : is_bad_write m P.pages b q ≡ false → are_determined (n * m) P.pages ≡ true
        → on (record { writes = P.writes + 1; erases = P.erases; pages = page_written m P.pages b q mask }) ≡ turn n m list line rest P
    unfolding turn
    turn-write f d =
        let s = said-write line rest b q mask after e in
        rw (s.1, f, ← s.2, write-survives m P.pages b q inside f (n * m) mask d)

  module _ (b : ℕ) (after : List ℕ) (e : erased b after ≡ said line rest) (fits : b * m + m ≤ length P.pages) where
    pub turn-lost : are_determined (n * m) (block_erased m P.pages b) ≡ false → stop (faulty 15 (step_of P + 1)) ≡ turn n m list line rest P
    unfolding turn
    turn-lost d = let s = said-erase line rest b after e in rw (s.0, erase-survives (n * m) m P.pages b fits, d)

    pub turn-erase : are_determined (n * m) (block_erased m P.pages b) ≡ true
        → on (record { writes = P.writes; erases = P.erases + 1; pages = block_erased m P.pages b }) ≡ turn n m list line rest P
    unfolding turn
    turn-erase d = let s = said-erase line rest b after e in rw (s.0, erase-survives (n * m) m P.pages b fits, d)

  -- a count up to the cap is as good as itself
  eqb-capped : (x y : ℕ) → y < cap → eqb (min x cap) y ≡ eqb x y
  eqb-capped x y h = bool_eq (eqb (min x cap) y) (eqb x y)
      (λ t. eq-eqb x y (omega (arith, eqb-true (min x cap) y t)))
      (λ t. eq-eqb (min x cap) y (omega (arith, eqb-true x y t)))

  ends : (w r w' r' : ℕ) → line ≡ end w' r' → w ≡ min w' cap → r ≡ min r' cap → length rest ≡ 0 → P.writes < cap → P.erases < cap
      → stop (record { number = 0; line = 0; accepted = cond (eqb w P.writes && eqb r P.erases && is_requested m list P.pages) 1 0 }) ≡ turn n m list line rest P
  unfolding turn
  ends w r w' r' is f g h k l =
      rw (is, eq-eqb (length rest) 0 h, ap (λ (x : ℕ). eqb x P.writes) f ∙ eqb-capped w' P.writes k, ap (λ (x : ℕ). eqb x P.erases) g ∙ eqb-capped r' P.erases l)

  module _ (w r : ℕ) (after : List ℕ) (e : ended w r after ≡ said line rest) where
    pub turn-after-end : 0 < length after → stop (faulty 13 (step_of P + 2)) ≡ turn n m list line rest P
    unfolding turn
    turn-after-end h =
        let s = said-end line rest w r after e in
        let more : eqb (length rest) 0 ≡ false = ne_eqb (length rest) 0 (λ z. absurd (omega (arith, ap length s.5))) in
        rw (s.2, more)

    pub turn_end : length after ≡ 0 → P.writes < cap → P.erases < cap
        → stop (record { number = 0; line = 0; accepted = cond (eqb w P.writes && eqb r P.erases && is_requested m list P.pages) 1 0 }) ≡ turn n m list line rest P
    turn_end h k l =
        let s = said-end line rest w r after e in
        ends w r s.0 s.1 s.2 s.3 s.4 (omega (arith, ap length s.5)) k l

  pub turn-other : unread ≡ said line rest → stop (faulty 13 (step_of P + 1)) ≡ turn n m list line rest P
  unfolding turn
  turn-other e = rw (said-other line rest e)

-- ---- line by line
module _ (n m : ℕ) (list text : List ℕ) where
  -- no line is left
  pub check-none : (most at : ℕ) (P : Progress) → length text ≤ at
      → record { number = 0; line = 0; accepted = 0 } ≡ check_from n m list most (drop at text) P
  unfolding check_from
  check-none zero at P h = refl
  check-none (suc most) at P h = rw (drop_of_length-le text h)

  -- one more is judged
  pub check-line : (at : ℕ) (P : Progress) → at < length text → step_of P ≤ at
      → check_from n m list (length text - step_of P) (drop at text) P
      ≡ then_check n m list (turn n m list (read_line n m (step_of P) (drop at text)).line (read_line n m (step_of P) (drop at text)).rest P)
      (λ Q. check_from n m list (length text - (step_of P + 1)) (read_line n m (step_of P) (drop at text)).rest Q)
  unfolding check_from
  check-line at P h k =
      let most : length text - step_of P ≡ suc (length text - (step_of P + 1)) = omega arith in
      let some : eqb (length (drop at text)) 0 ≡ false = ne_eqb (length (drop at text)) 0 (λ z. absurd (omega (arith, length-drop at text))) in
      rw (most, some)

  pub check-stops : (at : ℕ) (P : Progress) (answer : CheckAnswer) → at < length text → step_of P ≤ at
      → stop answer ≡ turn n m list (read_line n m (step_of P) (drop at text)).line (read_line n m (step_of P) (drop at text)).rest P
      → check_from n m list (length text - step_of P) (drop at text) P ≡ answer
  unfolding then_check
  check-stops at P answer h k e = check-line at P h k ∙ rw (← e)

  pub check-goes-on : (at next : ℕ) (P Q : Progress) → at < length text → step_of P ≤ at
      → on Q ≡ turn n m list (read_line n m (step_of P) (drop at text)).line (read_line n m (step_of P) (drop at text)).rest P
      → drop next text ≡ (read_line n m (step_of P) (drop at text)).rest → step_of Q ≡ step_of P + 1
      → check_from n m list (length text - step_of P) (drop at text) P ≡ check_from n m list (length text - step_of Q) (drop next text) Q
  unfolding then_check
  check-goes-on at next P Q h k e f g = check-line at P h k ∙ rw (← e, f, g)

  -- what a turn told, once it is known which it is
  module _ (at : ℕ) (P : Progress) (pages : List ℕ) (r : Result code.Turn Fault)
      (is : turn_as r pages ≡ turn n m list (read_line n m (step_of P) (drop at text)).line (read_line n m (step_of P) (drop at text)).rest P)
      (h : at < length text) (k : step_of P ≤ at) where
    pub told-on : (done : Cursor) → r ≡ Ok (On done)
        → GoesOn n m pages text (step_of P) (read_line n m (step_of P) (drop at text)).rest r
        → Standing n m pages text done.writes done.erases done.at × (done.writes + done.erases ≡ step_of P + 1)
        × (check_from n m list (length text - step_of P) (drop at text) P
        ≡ check_from n m list (length text - (done.writes + done.erases)) (drop done.at text)
        (record { writes = done.writes; erases = done.erases; pages = pages }))
    told-on done e g =
        let on-is = rw e at is in
        let goes = rw e at g in
        (goes.0, goes.2, check-goes-on at done.at P (record { writes = done.writes; erases = done.erases; pages = pages }) h k on-is goes.1 goes.2)

    pub told-end : (accepted : Bool) → r ≡ Ok (End accepted) → check_from n m list (length text - step_of P) (drop at text) P ≡ checked_as (Ok accepted)
    told-end accepted e = check-stops at P (checked_as (Ok accepted)) h k (rw e at is)

    pub told-fault : (fault : Fault) → r ≡ Err fault → check_from n m list (length text - step_of P) (drop at text) P ≡ checked_as (Err fault)
    told-fault fault e = check-stops at P (checked_as (Err fault)) h k (rw e at is)
