-- The store at rest that is made of given originals.
use Rattle.flash.proofs.Kit.{◌≡◌, ◌∙◌, true, List, ℕ, ◌+◌, ◌-◌, ◌*◌, ◌≤◌, ◌<◌, add-mul, mul-le-mul_right, arith, length, drop}
use Rattle.flash.proofs.Kit.{replicate, length-append, length-drop, length-replicate, get_or-replicate, List·getD-append, get_or-append-add}
use Rattle.flash.proofs.Kit.{take-append-le, drop-append-le, drop_at}
use Rattle.flash.specs.Lists.{range, all, part}
use Rattle.flash.specs.declared.sizes.Sizes.{Sizes}
use Rattle.flash.specs.Geometry.{slot, original_count, store_len, marks_len}
use Rattle.flash.specs.Chip.{Chip, page_at, mark_at, is_blank, is_full}
use Rattle.flash.proofs.Bounds.{slot-in-marks}
use Rattle.flash.proofs.Ranges.{all-is}
use Rattle.flash.proofs.Parts.{part-fits, part-replicate}
use Rattle.flash.proofs.Blocks.{full-of}
use Rattle.flash.proofs.Chips.{blank_of}
use Rattle.method.specs.State.{is_at_rest, chip_at_rest, originals_in}

module _ (Z : Sizes) (originals : List ℕ) where
  open Z use {n, m, p as P, s}

  abbrev chip : Chip
  chip = chip_at_rest Z originals

  spare-mark : (page : ℕ) → page < m → mark_at chip.marks (slot m 0 page) ≡ 255
  unfolding chip_at_rest mark_at
  spare-mark page h =
      let at : slot m 0 page ≡ page = omega arith in
      rw at (List·getD-append (replicate m 255) (replicate (n * m) s) 255 page (omega (arith, length-replicate {A = ℕ} m 255)) ∙ get_or-replicate m page 255 255 h)

  data-mark : (block page : ℕ) → 1 ≤ block → block ≤ n → page < m → mark_at chip.marks (slot m block page) ≡ s
  unfolding chip_at_rest mark_at
  data-mark block page low high h =
      let size = length-replicate {A = ℕ} m 255 in
      let here = slot-in-marks Z block page high h in
      let front : m ≤ slot m block page = omega (arith, mul-le-mul_right m low) in
      let inside : slot m block page - m < n * m = omega (arith, here, add-mul n 1 m) in
      let at : slot m block page ≡ length {A = ℕ} (replicate m 255) + (slot m block page - m) = omega arith in
      rw at (get_or-append-add (replicate m 255) (replicate (n * m) s) (slot m block page - m) 255 ∙ get_or-replicate (n * m) (slot m block page - m) s 255 inside)

  spare-page : (page : ℕ) → page < m → page_at P chip (slot m 0 page) ≡ replicate P 255
  unfolding chip_at_rest page_at part
  spare-page page h =
      let at : slot m 0 page ≡ page = omega arith in
      let size = length-replicate {A = ℕ} (m * P) 255 in
      let fits = part-fits page m P h in
      let left : P ≤ length {A = ℕ} (drop (page * P) (replicate (m * P) 255)) = omega (arith, length-drop (page * P) (replicate {A = ℕ} (m * P) 255)) in
      rw (at, drop-append-le (page * P) (replicate (m * P) 255) originals (omega arith), take-append-le P (drop (page * P) (replicate (m * P) 255)) originals left)
      (part-replicate P page (m * P) 255 fits)

  pub is-at-rest : is_at_rest Z chip ≡ true
  unfolding is_at_rest
  is-at-rest =
      let full : all (λ block. is_full m chip.marks block s) (range 1 n) ≡ true =
      all-is (λ block. is_full m chip.marks block s) 1 n (λ block low high. full-of m chip.marks block s (λ page h. data-mark block page low (omega arith) h)) in
      let blank : all (λ page. is_blank P chip (slot m 0 page)) (range 0 m) ≡ true =
      all-is (λ page. is_blank P chip (slot m 0 page)) 0 m (λ page low high. blank_of P chip (slot m 0 page) (spare-mark page (omega arith)) (spare-page page (omega arith))) in
      rw (full, blank)

  pub store-size : length originals ≡ original_count Z * P → length chip.store ≡ store_len Z
  unfolding chip_at_rest
  store-size e = length-append (replicate (m * P) 255) originals ∙ omega (arith, length-replicate {A = ℕ} (m * P) 255, add-mul n 1 m, add-mul (n * m) m P)

  pub marks-size : length chip.marks ≡ marks_len Z
  unfolding chip_at_rest
  marks-size = length-append (replicate m 255) (replicate (n * m) s) ∙ omega (arith, length-replicate {A = ℕ} m 255, length-replicate {A = ℕ} (n * m) s, add-mul n 1 m)

  pub made_of : originals_in Z chip ≡ originals
  unfolding chip_at_rest originals_in
  made_of = drop_at (replicate (m * P) 255) originals (m * P) (length-replicate (m * P) 255)
