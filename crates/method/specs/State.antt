-- Rules 1.16 and 4.5: the store at rest, and the store and marks that each place of a move from rest has.
use Rattle.std.specs.Prelude.{Bool, cond, ◌&&◌, List, [], ◌∷◌, ◌++◌, ℕ, ◌+◌, ◌*◌, ◌/◌, ◌%◌, drop, replicate}
use Rattle.flash.specs.Lists.{range, all, concat_map, part}
use Rattle.flash.specs.declared.sizes.Sizes.{Sizes}
use Rattle.flash.specs.Geometry.{slot, number_at, original_count, slot_count}
use Rattle.flash.specs.PageSum.{sum}
use Rattle.flash.specs.Chip.{Chip, erased, is_blank, is_full}
use Rattle.method.specs.Move.{Move, Plan}
use Rattle.method.specs.Cycle.{coded, sent_to}
use Rattle.method.specs.Place.{Held, blank, plain, code, final, held_at, marks_of}
use Rattle.method.specs.Read.{filler_page}

-- rule 1.16
unfoldable pub is_at_rest : Sizes → Chip → Bool
is_at_rest Z chip =
    all (λ block. is_full Z.m chip.marks block Z.s) (range 1 Z.n)
    && all (λ page. is_blank Z.p chip (slot Z.m 0 page)) (range 0 Z.m)

-- The store at rest whose pages are the originals: n × m pages, one after the other.
unfoldable pub chip_at_rest : Sizes → (originals : List ℕ) → Chip
chip_at_rest Z originals = record {
  store = replicate (Z.m * Z.p) erased ++ originals;
  marks = replicate Z.m erased ++ replicate (original_count Z) Z.s;
}

-- the originals that a store at rest holds: the pages of the data blocks
unfoldable pub originals_in : Sizes → Chip → List ℕ
originals_in Z chip = drop (Z.m * Z.p) chip.store

-- the originals whose sum a page holds
unfoldable pub held_originals : Move → Held → (block page : ℕ) → List ℕ
held_originals M blank block page = []
held_originals M plain block page = number_at M.sizes.m block page ∷ []
held_originals M code block page = coded M page (block + 1)
held_originals M final block page = sent_to M (number_at M.sizes.m block page) ∷ []

module _ (X : Plan) (originals : List ℕ) where
  open X use {move as M}
  open M.sizes use {m, p as P}

  -- rule 1.19: what an original counts as in coded and final pages
  unfoldable pub counts_as : (k : ℕ) → List ℕ
  counts_as k = cond (X.is_dropped k) (filler_page P) (part P k originals)

  -- the bytes of a page from the originals: a plain page has its own, dropped or not
  unfoldable pub held_page : Held → (block page : ℕ) → List ℕ
  held_page blank block page = replicate P erased
  held_page plain block page = sum (λ k. part P k originals) (held_originals M plain block page)
  held_page code block page = sum counts_as (held_originals M code block page)
  held_page final block page = sum counts_as (held_originals M final block page)

  -- the state of a place: the bytes and the mark of every slot
  unfoldable pub state_of : (place : ℕ) → Chip
  state_of place = record {
    store = concat_map (λ t. held_page (held_at M.sizes place (t / m) (t % m)) (t / m) (t % m)) (range 0 (slot_count M.sizes));
    marks = marks_of M.sizes place;
  }
