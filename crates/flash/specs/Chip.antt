-- Rules 1.3 to 1.9: the chip's pages and marks, what is blank, whole or full, and the two things done to them.
use Rattle.std.specs.Prelude.{Bool, ◌&&◌, ◌||◌, not, List, ℕ, ◌*◌, eqb, get_or, set, replicate}
use Rattle.flash.specs.Lists.{range, all, part, set_part}
use Rattle.flash.specs.Geometry.{is_letter, slot}

-- rule 1.3: the bytes of all slots, and their marks
pub record Chip : Type 0 where
  pub store : List ℕ
  pub marks : List ℕ

-- Rule 1.4: the mark of a page that is not written. An erase leaves it in each byte too.
abbrev pub erased : ℕ
erased = 255

-- the page and the mark of a slot
unfoldable pub page_at : (P : ℕ) → Chip → (t : ℕ) → List ℕ
page_at P chip t = part P t chip.store

unfoldable pub mark_at : List ℕ → (t : ℕ) → ℕ
mark_at marks t = get_or marks t erased

-- rule 1.5
unfoldable pub is_blank : (P : ℕ) → Chip → (t : ℕ) → Bool
is_blank P chip t = eqb (mark_at chip.marks t) erased && all (λ byte. eqb byte erased) (page_at P chip t)

-- rule 1.6: written to its end
unfoldable pub is_whole : List ℕ → (t : ℕ) → Bool
is_whole marks t = is_letter (mark_at marks t)

-- rule 1.7
unfoldable pub is_full : (m : ℕ) → List ℕ → (block letter : ℕ) → Bool
is_full m marks block letter = all (λ page. eqb (mark_at marks (slot m block page)) letter) (range 0 m)

-- rule 1.7: full of no letter
unfoldable pub is_unfinished : (m : ℕ) → List ℕ → (block : ℕ) → Bool
is_unfinished m marks block = not (is_full m marks block 0 || is_full m marks block 1 || is_full m marks block 2)

-- rule 1.8
unfoldable pub erase_block : (m P block : ℕ) → Chip → Chip
erase_block m P block chip = record {
  store = set_part (m * P) block chip.store (replicate (m * P) erased);
  marks = set_part m block chip.marks (replicate m erased);
}

-- rule 1.9
unfoldable pub write_page : (P t : ℕ) → (page : List ℕ) → (mark : ℕ) → Chip → Chip
write_page P t page mark chip = record { store = set_part P t chip.store page; marks = set chip.marks t mark }
