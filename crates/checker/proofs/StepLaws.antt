-- Which of the three lines stands at a position.
use Rattle.flash.proofs.Kit.{◌≡◌, sym, ap, ◌∙◌, ◌≢◌, true, false, and-false, List, [], ◌∷◌, ℕ, ◌+◌, ◌≤◌, ◌<◌, min, arith, eqb, length, get_or, take, drop, drop-drop, eq-eqb, ne_eqb}
use Rattle.std.proofs.Common.{Option, Some, None}
use Rattle.flash.specs.Lists.{is_same}
use Rattle.flash.proofs.Bools.{and_right}
use Rattle.listing.specs.Numbers.{spelled}
use Rattle.checker.specs.declared.number.Number.{Number}
use Rattle.checker.specs.declared.line.Told.{Told}
use Rattle.checker.specs.declared.line.Told.TheVariants.{Write, Erase, End}
use Rattle.checker.specs.Lines.{leading, behind, is_number, read_end, read_erase, read_write, read_step, read_line}
use Rattle.checker.specs.inner.Told.{cap, number_at, unread, said, said_of, Ahead}
use Rattle.checker.proofs.TextLaws.{stands-within, number-within, behind-at, digits_at, number-some, number-none, letter_at, end-at}

-- a word that stands at a position lies within the text
pub letter-within : (text : List ℕ) (at letter : ℕ) → 1 ≤ letter → is_same (take 2 (drop at text)) (32 ∷ letter ∷ []) ≡ true → at + 2 ≤ length text
letter-within text at letter h e =
    let last = and_right (eqb (get_or text at 0) 32) (eqb (get_or text (at + 1) 0) letter) (sym (letter_at text at letter h) ∙ e) in
    omega (arith, stands-within text (at + 1) letter h last)

pub end-within : (text : List ℕ) (at : ℕ) → is_same (take 3 (drop at text)) (101 ∷ 110 ∷ 100 ∷ []) ≡ true → at + 3 ≤ length text
end-within text at e =
    let two = and_right (eqb (get_or text at 0) 101) _ (sym (end-at text at) ∙ e) in
    let last = and_right (eqb (get_or text (at + 1) 0) 110) (eqb (get_or text (at + 2) 0) 100) two in
    omega (arith, stands-within text (at + 2) 100 (omega arith) last)

pub ahead-from : (few low n m at from size : ℕ) → few ≤ n → low ≤ m → at ≤ from → (r : Option Told) → Ahead few low from size r → Ahead n m at size r
ahead-from few low n m at from size h k l (Some (Write block page mask next)) a = (omega (arith, a.0), a.1, omega (arith, a.2), omega (arith, a.3))
ahead-from few low n m at from size h k l (Some (Erase block next)) a = (omega (arith, a.0), a.1, omega (arith, a.2))
ahead-from few low n m at from size h k l (Some (End writes erases next)) a = (omega (arith, a.0), a.1)
ahead-from few low n m at from size h k l None a = tt

module _ (n m step : ℕ) (text : List ℕ) (at : ℕ) where
  pub line-end : is_same (take 3 (drop at text)) (101 ∷ 110 ∷ 100 ∷ []) ≡ true → said_of (read_end (drop (at + 3) text)) ≡ said_of (read_line n m step (drop at text))
  unfolding read_line
  line-end e = rw (e, drop-drop 3 at text)

  pub line_step : is_same (take 3 (drop at text)) (101 ∷ 110 ∷ 100 ∷ []) ≡ false → said_of (read_step n m step (drop at text)) ≡ said_of (read_line n m step (drop at text))
  unfolding read_line
  line_step e = rw e

  pub step-none : None ≡ number_at text at → unread ≡ said_of (read_step n m step (drop at text))
  unfolding read_step said
  step-none e = rw (number-none text at e)

  module _ (own : Number) (e : Some own ≡ number_at text at) where
    number-good : is_number (leading (drop at text)) ≡ true
    number-good = (number-some text at own e).0

    own-is : own ≡ digits_at text at
    own-is = (number-some text at own e).1

    value-is : own.value ≡ min (spelled 0 (leading (drop at text))) cap
    value-is = ap (λ (r : Number). r.value) own-is

    pub next-within : at ≤ length text → (at ≤ own.next) × (own.next ≤ length text)
    next-within h = let next = ap (λ (r : Number). r.next) own-is in (omega arith, omega (arith, number-within text at h))

    pub step-another : step < cap → own.value ≢ step → unread ≡ said_of (read_step n m step (drop at text))
    unfolding read_step said
    step-another h ne =
        let differs : eqb (spelled 0 (leading (drop at text))) step ≡ false = ne_eqb (spelled 0 (leading (drop at text))) step (λ q. ne (omega (arith, value-is))) in
        rw (differs, and-false)

    module _ (small : step < cap) (v : own.value ≡ step) where
      number_same : eqb (spelled 0 (leading (drop at text))) step ≡ true
      number_same = eq-eqb (spelled 0 (leading (drop at text))) step (omega (arith, value-is))

      more : behind (drop at text) ≡ drop own.next text
      more = behind-at text at ∙ ap (λ (r : Number). drop r.next text) (sym own-is)

      pub step-write : is_same (take 2 (drop own.next text)) (32 ∷ 87 ∷ []) ≡ true
          → said_of (read_write n m (drop (own.next + 2) text)) ≡ said_of (read_step n m step (drop at text))
      unfolding read_step
      step-write w = rw (number-good, number_same, more, w, drop-drop 2 own.next text)

      module _ (w : is_same (take 2 (drop own.next text)) (32 ∷ 87 ∷ []) ≡ false) where
        pub step-erase : is_same (take 2 (drop own.next text)) (32 ∷ 69 ∷ []) ≡ true
            → said_of (read_erase n (drop (own.next + 2) text)) ≡ said_of (read_step n m step (drop at text))
        unfolding read_step
        step-erase r = rw (number-good, number_same, more, w, r, drop-drop 2 own.next text)

        pub step-neither : is_same (take 2 (drop own.next text)) (32 ∷ 69 ∷ []) ≡ false → unread ≡ said_of (read_step n m step (drop at text))
        unfolding read_step said
        step-neither r = rw (number-good, number_same, more, w, r)
