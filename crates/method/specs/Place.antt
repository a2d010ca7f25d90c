-- Rules 4.1 to 4.6: the steps, their order, and the marks at each place. They depend on the sizes and s alone.
use Rattle.std.specs.Prelude.{cond, List, [], ◌∷◌, ◌++◌, map, ℕ, ◌+◌, ◌-◌, ◌*◌, ◌/◌, ◌%◌, ltb, get_or}
use Rattle.flash.specs.Lists.{range, down_from, concat_map}
use Rattle.flash.specs.declared.sizes.Sizes.{Sizes}
use Rattle.flash.specs.Geometry.{slot_count, letter}
use Rattle.flash.specs.Chip.{erased}

pub data Pass : Type 0 where
  forward : Pass
  backward : Pass

-- rule 4.3
pub data Operation : Type 0 where
  -- the pass, the block and the page that is written
  write : Pass → (block page : ℕ) → Operation
  erase : (block : ℕ) → Operation
  -- no step is left
  done : Operation

module _ (Z : Sizes) where
  open Z use {n, m}

  -- the letter that a pass writes
  unfoldable pub mark_of : Pass → ℕ
  mark_of forward = letter Z 1
  mark_of backward = letter Z 2

  -- the pages of a block are written from page 0 up
  unfoldable pub writes : Pass → (block : ℕ) → List Operation
  writes pass block = map (write pass block) (range 0 m)

  -- rule 4.1
  unfoldable pub forward_turn : (i : ℕ) → List Operation
  forward_turn i = writes forward (i - 1) ++ (erase i ∷ [])

  -- rule 4.2
  unfoldable pub backward_turn : (b : ℕ) → List Operation
  backward_turn b = writes backward b ++ (erase (b - 1) ∷ [])

  unfoldable pub operations : List Operation
  operations = concat_map forward_turn (range 1 n) ++ concat_map backward_turn (down_from n)

  -- Rule 4.3. The last place is the one after all steps.
  unfoldable pub last_place : ℕ
  last_place = 2 * n * (m + 1)

  -- rule 4.3: a place is an index into the steps
  unfoldable pub operation_at : (place : ℕ) → Operation
  operation_at place = get_or operations place done

  -- The block that is being filled at a place, in which pass, and how many of its pages are written.
  unfoldable pub pass_at : (place : ℕ) → Pass
  pass_at place = cond (ltb place (n * (m + 1))) forward backward

  unfoldable pub filling : (place : ℕ) → ℕ
  filling place = cond (ltb place (n * (m + 1))) (place / (m + 1)) (n - (place - n * (m + 1)) / (m + 1))

  unfoldable pub filled : (place : ℕ) → ℕ
  filled place = place % (m + 1)

-- What a page holds: nothing, its original, a coded page, or the original that the list sends there.
pub data Held : Type 0 where
  blank : Held
  plain : Held
  code : Held
  final : Held

-- what a pass writes, and what lies in the blocks above the one that it fills
unfoldable pub written : Pass → Held
written forward = code
written backward = final

unfoldable pub above : Pass → Held
above forward = plain
above backward = final

module _ (Z : Sizes) where
  unfoldable pub held_at : (place block page : ℕ) → Held
  held_at place block page =
      cond (ltb block (filling Z place)) code
      (cond (ltb (filling Z place) block) (above (pass_at Z place))
      (cond (ltb page (filled Z place)) (written (pass_at Z place)) blank))

  unfoldable pub held_mark : Held → ℕ
  held_mark blank = erased
  held_mark plain = letter Z 0
  held_mark code = letter Z 1
  held_mark final = letter Z 2

  -- rule 4.5: the marks of a place, in slot order
  unfoldable pub marks_of : (place : ℕ) → List ℕ
  marks_of place = map (λ t. held_mark (held_at place (t / Z.m) (t % Z.m))) (range 0 (slot_count Z))
