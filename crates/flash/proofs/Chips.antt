-- What an erase and a write do to the page and the mark of each slot.
use Rattle.flash.proofs.Kit.{◌≡◌, refl, sym, ap, ◌∙◌, ◌≢◌, Bool, true, List, ℕ, ◌+◌, ◌*◌, ◌≤◌, ◌<◌, arith, eqb, length, get_or, replicate}
use Rattle.flash.proofs.Kit.{length-set, length-replicate, get_or-replicate, get_or-set_same, get_or-set_other, ext_get_or, eqb-true, eq-eqb}
use Rattle.flash.specs.Lists.{all, part}
use Rattle.flash.specs.Geometry.{slot}
use Rattle.flash.specs.Chip.{Chip, erased, page_at, mark_at, is_blank, erase_block, write_page}
use Rattle.flash.proofs.Bools.{and_left, and_right}
use Rattle.flash.proofs.Searches.{all-at, all_of}
use Rattle.flash.proofs.Parts.{part-fits, length_part, part_at, length-set_part, set_part-at, part-set_part, part-set_part-other, part-part, part-replicate}

-- a chip is its two parts
pub chip-eq : {store store' marks marks' : List ℕ} → store ≡ store' → marks ≡ marks'
    → ◌≡◌ {A = Chip} (record { store = store; marks = marks }) (record { store = store'; marks = marks' })
chip-eq e f = rw (e, f)

-- a page is a part of the store
pub page-is : (P : ℕ) (chip : Chip) (t : ℕ) → page_at P chip t ≡ part P t chip.store
unfolding page_at
page-is P chip t = refl

-- blank: the mark and each byte are 255
pub blank_of : (P : ℕ) (chip : Chip) (t : ℕ) → mark_at chip.marks t ≡ erased → page_at P chip t ≡ replicate P erased
    → is_blank P chip t ≡ true
unfolding is_blank
blank_of P chip t mark page =
    let test : ℕ → Bool = λ byte. eqb byte erased in
    let bytes : all test (replicate P erased) ≡ true =
    all_of test (replicate P erased) 0 (λ i h. eq-eqb _ _ (get_or-replicate P i erased 0 (omega (arith, length-replicate P erased)))) in
    rw (eq-eqb (mark_at chip.marks t) erased mark, page) bytes

pub blank-is : (P : ℕ) (chip : Chip) (t : ℕ) → mark_at chip.marks t ≡ erased
    → is_blank P chip t ≡ all (λ byte. eqb byte erased) (part P t chip.store)
unfolding is_blank page_at
blank-is P chip t mark = rw (eq-eqb (mark_at chip.marks t) erased mark)

pub blank-mark : (P : ℕ) (chip : Chip) (t : ℕ) → is_blank P chip t ≡ true → mark_at chip.marks t ≡ erased
unfolding is_blank
blank-mark P chip t e = eqb-true (mark_at chip.marks t) erased (and_left (eqb (mark_at chip.marks t) erased) _ e)

pub blank-page : (P : ℕ) (chip : Chip) (t : ℕ) → t * P + P ≤ length chip.store → is_blank P chip t ≡ true
    → page_at P chip t ≡ replicate P erased
unfolding is_blank page_at
blank-page P chip t fits e =
    let test : ℕ → Bool = λ byte. eqb byte erased in
    let page : List ℕ = part P t chip.store in
    let size : length page ≡ P = length_part P t chip.store fits in
    let bytes : all test page ≡ true = and_right (eqb (mark_at chip.marks t) erased) (all test page) e in
    ext_get_or 0 page (replicate P erased) (size ∙ sym (length-replicate P erased))
    (λ i h. eqb-true (get_or page i 0) erased (all-at test page i 0 bytes h) ∙ sym (get_or-replicate P i erased 0 (omega arith)))

module _ (m P block : ℕ) (chip : Chip)
    (store-fits : block * (m * P) + m * P ≤ length chip.store) (marks-fit : block * m + m ≤ length chip.marks) where
  store-whole : length (replicate (m * P) erased) ≡ m * P
  store-whole = length-replicate (m * P) erased

  marks-whole : length (replicate m erased) ≡ m
  marks-whole = length-replicate m erased

  pub erase-store-length : length (erase_block m P block chip).store ≡ length chip.store
  unfolding erase_block
  erase-store-length = length-set_part (m * P) block chip.store _ store-fits store-whole

  pub erase-marks-length : length (erase_block m P block chip).marks ≡ length chip.marks
  unfolding erase_block
  erase-marks-length = length-set_part m block chip.marks _ marks-fit marks-whole

  module _ (page : ℕ) (inside : page < m) where
    -- the pages of the block become blank
    pub erase-page : page_at P (erase_block m P block chip) (slot m block page) ≡ replicate P erased
    unfolding page_at erase_block
    erase-page =
        sym (part-part P m block page (erase_block m P block chip).store inside)
        ∙ ap (part P page) (part-set_part (m * P) block chip.store _ store-fits store-whole)
        ∙ part-replicate P page (m * P) erased (part-fits page m P inside)

    pub erase-mark : mark_at (erase_block m P block chip).marks (slot m block page) ≡ erased
    unfolding mark_at erase_block
    erase-mark =
        set_part-at m block chip.marks _ marks-fit marks-whole page erased inside
        ∙ get_or-replicate m page erased erased inside

    pub erase-blank : is_blank P (erase_block m P block chip) (slot m block page) ≡ true
    erase-blank = blank_of P (erase_block m P block chip) (slot m block page) erase-mark erase-page

    -- and those of every other block stay
    module _ (other : ℕ) (apart : other ≢ block) where
      pub erase-page-other : page_at P (erase_block m P block chip) (slot m other page) ≡ page_at P chip (slot m other page)
      unfolding page_at erase_block
      erase-page-other =
          sym (part-part P m other page (erase_block m P block chip).store inside)
          ∙ ap (part P page) (part-set_part-other (m * P) block chip.store _ store-fits store-whole other apart)
          ∙ part-part P m other page chip.store inside

      pub erase-mark-other : mark_at (erase_block m P block chip).marks (slot m other page) ≡ mark_at chip.marks (slot m other page)
      unfolding mark_at erase_block
      erase-mark-other =
          sym (part_at m other (erase_block m P block chip).marks page erased inside)
          ∙ ap (λ (p : List ℕ). get_or p page erased) (part-set_part-other m block chip.marks _ marks-fit marks-whole other apart)
          ∙ part_at m other chip.marks page erased inside

module _ (P t : ℕ) (page : List ℕ) (mark : ℕ) (chip : Chip) where
  pub write-marks-length : length (write_page P t page mark chip).marks ≡ length chip.marks
  unfolding write_page
  write-marks-length = length-set chip.marks t mark

  -- the mark is there, and every other mark stays
  pub write-mark : t < length chip.marks → mark_at (write_page P t page mark chip).marks t ≡ mark
  unfolding mark_at write_page
  write-mark h = get_or-set_same chip.marks t mark erased h

  pub write-mark-other : (u : ℕ) → u ≢ t → mark_at (write_page P t page mark chip).marks u ≡ mark_at chip.marks u
  unfolding mark_at write_page
  write-mark-other u apart = get_or-set_other chip.marks t u mark erased apart

  module _ (fits : t * P + P ≤ length chip.store) (whole : length page ≡ P) where
    pub write-store-length : length (write_page P t page mark chip).store ≡ length chip.store
    unfolding write_page
    write-store-length = length-set_part P t chip.store page fits whole

    -- the page is there, and every other page stays
    pub write-page : page_at P (write_page P t page mark chip) t ≡ page
    unfolding page_at write_page
    write-page = part-set_part P t chip.store page fits whole

    pub write-page-other : (u : ℕ) → u ≢ t → page_at P (write_page P t page mark chip) u ≡ page_at P chip u
    unfolding page_at write_page
    write-page-other u apart = part-set_part-other P t chip.store page fits whole u apart
