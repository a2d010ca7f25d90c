-- Rule 5.1: what a cut inside a step may leave, in a run or in the erase of a mend. This is the one relation among the definitions, since marks and
-- bytes that a cut leaves are all that the rules leave open. A cut between steps leaves what the steps left.
use Rattle.std.specs.Prelude.{Bool, true, false, ◌&&◌, ◌≡◌, ◌⊎◌, ℕ, ◌/◌, ◌<◌, eqb, leb, length}
use Rattle.flash.specs.declared.sizes.Sizes.{Sizes}
use Rattle.flash.specs.Geometry.{slot, slot_count, store_len, marks_len}
use Rattle.flash.specs.Chip.{Chip, erased, page_at, mark_at}
use Rattle.method.specs.Place.{Operation, write, erase, done}

-- a mark that a cut may leave: no letter, but any other byte
unfoldable pub is_torn_mark : ℕ → Bool
is_torn_mark mark = leb 3 mark && leb mark erased

module _ (Z : Sizes) where
  open Z use {m, p as P}

  -- the slots that an operation writes or erases
  unfoldable pub touches : Operation → (t : ℕ) → Bool
  touches (write pass block page) t = eqb t (slot m block page)
  touches (erase block) t = eqb (t / m) block
  touches done t = false

  -- the page is untouched
  pub record Kept (before after : Chip) (t : ℕ) : Type 0 where
    pub mark : mark_at after.marks t ≡ mark_at before.marks t
    pub page : page_at P after t ≡ page_at P before t

-- what a cut may leave, where `is_torn` tells the marks that a page may be left with
module _ (is_torn : ℕ → Bool) (Z : Sizes) where
  -- the page has lost its letter; its bytes are unknown
  pub record Torn (after : Chip) (t : ℕ) : Type 0 where
    pub mark : is_torn (mark_at after.marks t) ≡ true

  -- what may be left of a page that the operation writes or erases
  abbrev pub Touched : Operation → (before after : Chip) → (t : ℕ) → Type 0
  Touched (write pass block page) before after t = Torn after t
  Touched (erase block) before after t = Kept Z before after t ⊎ Torn after t
  Touched done before after t = Kept Z before after t

  -- a cut inside the operation, on the chip `before`, may leave the chip `after`
  pub record CutLeaves (operation : Operation) (before after : Chip) : Type 0 where
    pub store_length : length after.store ≡ store_len Z
    pub marks-length : length after.marks ≡ marks_len Z
    pub inside : (t : ℕ) → t < slot_count Z → touches Z operation t ≡ true → Touched operation before after t
    pub outside : (t : ℕ) → t < slot_count Z → touches Z operation t ≡ false → Kept Z before after t

abbrev pub CutInside : Sizes → Operation → (before after : Chip) → Type 0
CutInside = CutLeaves is_torn_mark
