-- A step leads from what a place has to what the next place has, whatever bytes are stored.
use Rattle.flash.proofs.Kit.{◌≡◌, sym, ap, ◌∙◌, ◌≢◌, true, List, ℕ, suc, ◌+◌, ◌*◌, ◌/◌, ◌%◌, ◌≤◌, ◌<◌, arith, length, replicate}
use Rattle.flash.specs.declared.sizes.Sizes.{Sizes}
use Rattle.flash.specs.Geometry.{Bounds, slot, slot_count, store_len, marks_len, letter}
use Rattle.flash.specs.Chip.{Chip, erased, page_at, mark_at, is_blank, erase_block, write_page}
use Rattle.flash.proofs.Bounds.{block-in-marks, block-in-store, slot-in-marks, slot-in-store}
use Rattle.flash.proofs.Chips.{blank_of, blank-page, erase-store-length, erase-marks-length, erase-mark, erase-blank, erase-mark-other, erase-page-other, write-marks-length, write-mark, write-mark-other, write-store-length, write-page-other}
use Rattle.method.specs.Move.{Lent}
use Rattle.method.specs.Place.{Pass, forward, backward, mark_of, blank, last_place, held_at, held_mark}
use Rattle.method.proofs.basics.AcceptedCalls.{StandsAt}
use Rattle.method.proofs.basics.Indexes.{this-or-other, each-slot, slot-div, slot-mod}
use Rattle.method.proofs.places.PagesHeld.{Writes, Erases, MarksAt, stands-marks, marks-eq, mark-written}

-- slots of different pages differ
pub slots_apart_lem : (m b q c p : ℕ) → q < m → p < m → (c ≡ b → p ≡ q → ⊥) → slot m c p ≢ slot m b q
slots_apart_lem m b q c p h k apart e =
    apart (sym (slot-div m c p k) ∙ ap (λ (x : ℕ). x / m) e ∙ slot-div m b q h) (sym (slot-mod m c p k) ∙ ap (λ (x : ℕ). x % m) e ∙ slot-mod m b q h)

mark-letter : (Z : Sizes) (pass : Pass) → mark_of Z pass < 3
unfolding mark_of letter
mark-letter Z forward = omega arith
mark-letter Z backward = omega arith

-- An erase: the chip then stands at a place that has the block blank and the others as they are.
module _ (Z : Sizes) (chip : Chip) (b : ℕ) (b-in : b ≤ Z.n) (store_length : length chip.store ≡ store_len Z)
    (marks-length : length chip.marks ≡ marks_len Z) where
  open Z use {n, m, p as P}

  abbrev wiped : Chip
  wiped = erase_block m P b chip

  store-fits : b * (m * P) + m * P ≤ length chip.store
  store-fits = rw store_length (block-in-store Z b b-in)

  marks-fit : b * m + m ≤ length chip.marks
  marks-fit = rw marks-length (block-in-marks Z b b-in)

  pub erased-store : length wiped.store ≡ store_len Z
  erased-store = erase-store-length m P b chip store-fits marks-fit ∙ store_length

  pub erased-sized : length wiped.marks ≡ marks_len Z
  erased-sized = erase-marks-length m P b chip store-fits marks-fit ∙ marks-length

  module _ (place : ℕ) (own : (q : ℕ) → held_at Z place b q ≡ blank)
      (others : (c q : ℕ) → c ≢ b → c ≤ n → q < m → mark_at chip.marks (slot m c q) ≡ held_mark Z (held_at Z place c q)) where
    pub erased-marks : MarksAt Z place wiped.marks
    unfolding held_mark
    erased-marks = record {
      length-is = erased-sized;
      mark-is = λ c q h k.
          this-or-other (λ x. mark_at wiped.marks (slot m x q) ≡ held_mark Z (held_at Z place x q)) b c
          (erase-mark m P b chip store-fits marks-fit q k ∙ sym (ap (held_mark Z) (own q)))
          (λ apart. erase-mark-other m P b chip store-fits marks-fit q k c apart ∙ others c q apart h k);
    }

    pub erased-stands : ((c q : ℕ) → c ≢ b → c ≤ n → q < m → mark_at chip.marks (slot m c q) ≡ erased → page_at P chip (slot m c q) ≡ replicate P erased)
        → 0 < m → place ≤ last_place Z → StandsAt Z wiped place
    erased-stands blanks pages in-move = record {
      inside = in-move;
      marks = marks-eq Z place wiped.marks pages erased-marks;
      blank = each-slot m (n + 1) (λ t. mark_at wiped.marks t ≡ erased → is_blank P wiped t ≡ true) (λ c q h k e.
          this-or-other (λ x. is_blank P wiped (slot m x q) ≡ true) b c (erase-blank m P b chip store-fits marks-fit q k)
          (λ apart. blank_of P wiped (slot m c q) e (erase-page-other m P b chip store-fits marks-fit q k c apart
          ∙ blanks c q apart (omega arith) k (sym (erase-mark-other m P b chip store-fits marks-fit q k c apart) ∙ e))));
    }

module _ (Z : Sizes) (B : Bounds Z) (chip : Chip) (work : List ℕ) (L : Lent Z chip work) (place : ℕ) (S : StandsAt Z chip place) (on : place < last_place Z) where
  open Z use {n, m, p as P}

  old-page : (t : ℕ) → t < slot_count Z → mark_at chip.marks t ≡ erased → page_at P chip t ≡ replicate P erased
  old-page t h e = blank-page P chip t (rw L.store_length (slot-in-store Z t h)) (S.blank t h e)

  -- a page with its mark is written
  module _ (pass : Pass) (b q : ℕ) (W : Writes Z place pass b q) (page : List ℕ) (whole : length page ≡ P) where
    abbrev new : Chip
    new = write_page P (slot m b q) page (mark_of Z pass) chip

    inside : slot m b q < slot_count Z
    inside = slot-in-marks Z b q W.block_in W.page-in

    fits : slot m b q * P + P ≤ length chip.store
    fits = rw L.store_length (slot-in-store Z (slot m b q) inside)

    there : mark_at new.marks (slot m b q) ≡ mark_of Z pass
    there = write-mark P (slot m b q) page (mark_of Z pass) chip (rw L.marks-length inside)

    new-mark : (c p : ℕ) → c ≤ n → p < m → mark_at new.marks (slot m c p) ≡ held_mark Z (held_at Z (suc place) c p)
    new-mark c p h k =
        this-or-other (λ x. mark_at new.marks (slot m x p) ≡ held_mark Z (held_at Z (suc place) x p)) b c
        (this-or-other (λ y. mark_at new.marks (slot m b y) ≡ held_mark Z (held_at Z (suc place) b y)) q p
        (there ∙ sym (mark-written Z pass) ∙ ap (held_mark Z) (sym W.after))
        (λ apart. stays b p W.block_in k (λ e f. apart f)))
        (λ apart. stays c p h k (λ e f. apart e))
      where
        stays : (c p : ℕ) → c ≤ n → p < m → (c ≡ b → p ≡ q → ⊥) → mark_at new.marks (slot m c p) ≡ held_mark Z (held_at Z (suc place) c p)
        stays c p h k apart =
            write-mark-other P (slot m b q) page (mark_of Z pass) chip (slot m c p) (slots_apart_lem m b q c p W.page-in k apart)
            ∙ (stands-marks Z S).mark-is c p h k ∙ ap (held_mark Z) (sym (W.others c p apart))

    new-blank : (t : ℕ) → t < slot_count Z → mark_at new.marks t ≡ erased → is_blank P new t ≡ true
    new-blank t h e =
        let apart : t ≢ slot m b q = λ f. absurd (omega (arith, mark-letter Z pass, sym there ∙ ap (mark_at new.marks) (sym f) ∙ e)) in
        let was : mark_at chip.marks t ≡ erased = sym (write-mark-other P (slot m b q) page (mark_of Z pass) chip t apart) ∙ e in
        blank_of P new t e (write-page-other P (slot m b q) page (mark_of Z pass) chip fits whole t apart ∙ old-page t h was)

    pub write-lent : Lent Z new page
    write-lent = record {
      store_length = write-store-length P (slot m b q) page (mark_of Z pass) chip fits whole ∙ L.store_length;
      marks-length = write-marks-length P (slot m b q) page (mark_of Z pass) chip ∙ L.marks-length;
      work-length = whole;
    }

    pub write-stands : StandsAt Z new (suc place)
    write-stands = record {
      inside = on;
      marks = marks-eq Z (suc place) new.marks B.m-low (record { length-is = write-lent.marks-length; mark-is = new-mark });
      blank = new-blank;
    }

  -- a block is erased
  module _ (b : ℕ) (E : Erases Z place b) where
    pub erase-lent : Lent Z (erase_block m P b chip) work
    erase-lent = record {
      store_length = erased-store Z chip b E.block_in L.store_length L.marks-length;
      marks-length = erased-sized Z chip b E.block_in L.store_length L.marks-length;
      work-length = L.work-length;
    }

    pub erase-stands : StandsAt Z (erase_block m P b chip) (suc place)
    erase-stands =
        erased-stands Z chip b E.block_in L.store_length L.marks-length (suc place) E.after
        (λ c p apart h k. (stands-marks Z S).mark-is c p h k ∙ ap (held_mark Z) (sym (E.others c p apart h k)))
        (λ c p apart h k. old-page (slot m c p) (slot-in-marks Z c p h k)) B.m-low on
