-- A chip that stands at place 0 is one at rest: its spare is blank, and the data blocks have one letter.
use Rattle.flash.proofs.Kit.{◌≡◌, sym, ap, ◌∙◌, subst, List, ◌++◌, ℕ, zero, suc, ◌+◌, ◌*◌, ◌≤◌, ◌<◌, suc-mul, add-mul, add-zero, mod-eq_of_lt, ◌%◌}
use Rattle.flash.proofs.Kit.{arith, length, get_or, take, drop, replicate, length-append, length-replicate, take-append-drop}
use Rattle.flash.proofs.Kit.{replicate-append-replicate, take-add, List·getD-append, get_or-append-add, get_or-replicate}
use Rattle.flash.specs.Lists.{part}
use Rattle.flash.specs.declared.sizes.Sizes.{Sizes}
use Rattle.flash.specs.Geometry.{letter, Bounds, slot, original_count, slot_count, store_len}
use Rattle.flash.specs.Chip.{Chip, erased, mark_at}
use Rattle.flash.proofs.Bounds.{slot-in-store}
use Rattle.flash.proofs.Chips.{chip-eq, page-is, blank-page}
use Rattle.method.specs.Place.{forward, above, held_at, held_mark}
use Rattle.method.specs.State.{chip_at_rest, originals_in}
use Rattle.method.proofs.basics.AcceptedCalls.{StandsAt}
use Rattle.method.proofs.basics.Indexes.{slot_lt}
use Rattle.method.proofs.places.PagesHeld.{MarksAt, held-above, held-blank, marks-eq}
use Rattle.method.proofs.places.StepsAtPlaces.{Stands, stands_at}

module _ (Z : Sizes) (B : Bounds Z) where
  open Z use {n, m, p as P, s}

  abbrev rest_marks : List ℕ
  rest_marks = replicate m erased ++ replicate (original_count Z) s

  start : Stands Z 0 forward 0 0
  start =
      let at : 0 * (m + 1) + 0 ≡ 0 = omega arith in
      subst (λ (place : ℕ). Stands Z place forward 0 0) at (stands_at Z forward 0 0 B.n-low (omega arith))

  letter-0 : letter Z 0 ≡ s
  unfolding letter
  letter-0 = ap (λ (x : ℕ). x % 3) (add-zero s) ∙ mod-eq_of_lt B.s-high

  spare-mark : (q : ℕ) → q < m → get_or rest_marks q erased ≡ erased
  spare-mark q k =
      List·getD-append (replicate m erased) (replicate (original_count Z) s) erased q (omega (arith, length-replicate m erased))
      ∙ get_or-replicate m q erased erased k

  data-mark : (j : ℕ) → j < original_count Z → get_or rest_marks (m + j) erased ≡ s
  data-mark j k =
      ap (λ (x : ℕ). get_or rest_marks (x + j) erased) (sym (length-replicate m erased))
      ∙ get_or-append-add (replicate m erased) (replicate (original_count Z) s) j erased ∙ get_or-replicate (original_count Z) j s erased k

  mark-is : (b q : ℕ) → b ≤ n → q < m → mark_at rest_marks (slot m b q) ≡ held_mark Z (held_at Z 0 b q)
  unfolding mark_at held_mark above
  mark-is zero q h k =
      let z : 0 * m + q ≡ q = omega arith in
      ap (λ (x : ℕ). get_or rest_marks x erased) z ∙ spare-mark q k
      ∙ sym (ap (held_mark Z) (held-blank Z 0 0 q (sym start.block-is) (omega (arith, start.pages-is))))
  mark-is (suc b) q h k =
      let z : suc b * m + q ≡ m + (b * m + q) = omega (arith, suc-mul b m) in
      ap (λ (x : ℕ). get_or rest_marks x erased) z ∙ data-mark (b * m + q) (slot_lt m b q n h k) ∙ sym letter-0
      ∙ sym (ap (held_mark Z) (held-above Z 0 (suc b) q (omega (arith, start.block-is)) ∙ ap above start.pass-is))

  rest-marks-at : MarksAt Z 0 rest_marks
  rest-marks-at = record {
    length-is =
        length-append (replicate m erased) (replicate (original_count Z) s)
        ∙ omega (arith, length-replicate m erased, length-replicate (original_count Z) s, add-mul n 1 m);
    mark-is = mark-is;
  }

  module _ (chip : Chip) (store_length : length chip.store ≡ store_len Z) (S : StandsAt Z chip 0) where
    marks-are : chip.marks ≡ rest_marks
    marks-are = S.marks ∙ sym (marks-eq Z 0 rest_marks B.m-low rest-marks-at)

    page-blank : (t : ℕ) → t < m → part P t chip.store ≡ replicate P erased
    unfolding mark_at
    page-blank t h =
        let inside : t < slot_count Z = omega (arith, add-mul n 1 m) in
        sym (page-is P chip t) ∙ blank-page P chip t (omega (arith, store_length, slot-in-store Z t inside))
        (S.blank t inside (ap (λ (l : List ℕ). get_or l t erased) marks-are ∙ spare-mark t h))

    pages-blank : (k : ℕ) → k ≤ m → take (k * P) chip.store ≡ replicate (k * P) erased
    unfolding part
    pages-blank zero h = let z : 0 * P ≡ 0 = omega arith in rw z
    pages-blank (suc k) h =
        rw (suc-mul k P, take-add (k * P) P chip.store, pages-blank k (omega arith), page-blank k (omega arith))
        (replicate-append-replicate (k * P) P erased)

    pub at_rest : chip ≡ chip_at_rest Z (originals_in Z chip)
    unfolding chip_at_rest originals_in
    at_rest =
        let blank = ap (λ (l : List ℕ). l ++ drop (m * P) chip.store) (pages-blank m (omega arith)) in
        chip-eq (sym (take-append-drop (m * P) chip.store) ∙ blank) marks-are
