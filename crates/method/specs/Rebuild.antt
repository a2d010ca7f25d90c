-- Rules 15.1 to 15.6: the chip gives up the page of one slot, and the originals are rebuilt without it. No page is dropped here.
use Rattle.std.specs.Prelude.{Bool, cond, ◌||◌, not, List, [], ◌∷◌, ◌++◌, map, ℕ, ◌-◌, ◌*◌, eqb, leb, length, get_or}
use Rattle.std.proofs.Math.Option.{Option, none, some}
use Rattle.flash.specs.Lists.{range, any, filter, concat_map}
use Rattle.flash.specs.Tables.{Row, refusal}
use Rattle.flash.specs.declared.sizes.Sizes.{Sizes}
use Rattle.flash.specs.Geometry.{slot, page_of, in_range, original_count, slot_count}
use Rattle.flash.specs.PageSum.{sum}
use Rattle.flash.specs.Chip.{Chip, page_at}
use Rattle.split.specs.OneToOne.{is_one_to_one}
use Rattle.split.specs.Split.{is_split, set_of}
use Rattle.split.specs.Pins.{moves_pinned}
use Rattle.split.specs.Request.{Request, bad_request}
use Rattle.method.specs.Move.{Move, move_of}
use Rattle.method.specs.Cycle.{D, pred}
use Rattle.method.specs.Place.{Pass, forward, backward, pass_at, filling, marks_of}
use Rattle.method.specs.Read.{read_slots, filler_page}
use Rattle.method.specs.Step.{originals_of}
use Rattle.method.specs.Mend.{Reading, seen, reading}
use Rattle.method.specs.Answers.{bad_chip, fits_none}

-- the slots of either list but not of both: a page that is added twice cancels
unfoldable pub apart : (one other : List ℕ) → List ℕ
apart one other = filter (λ t. not (any (eqb t) other)) one ++ filter (λ t. not (any (eqb t) one)) other

-- the slots of several sums together
unfoldable pub added : (sums : List (List ℕ)) → List ℕ
added [] = []
added (slots ∷ sums) = apart slots (added sums)

module _ (M : Move) where
  open M.sizes use {m}

  -- the page of a set in a block that a pass has filled
  unfoldable pub set_page : Pass → (block set : ℕ) → ℕ
  set_page forward block set = set
  set_page backward block set = page_of m (get_or M.list (D M set (pred M set block)) 0)

  -- Rule 15.3. The page of a set in a block that was just filled is the sum of the pages that were read to write it, by the marks with which the
  -- block was begun. Until the next erase all of these are there, so that together they sum to zeros.
  unfoldable pub zero_slots : (begun : List ℕ) → Pass → (block set : ℕ) → List ℕ
  zero_slots begun pass block set =
      let page = set_page pass block set in
      added ((slot m block page ∷ []) ∷ map (read_slots M begun) (originals_of M pass block page))

  -- Rules 15.2 to 15.4: the slots whose pages original k is rebuilt from without slot `bad`, or none where it is lost.
  unfoldable pub rebuilt_from : (marks : List ℕ) → Reading → (bad k : ℕ) → Option (List ℕ)
  rebuilt_from marks found bad k =
      let own = read_slots M marks k in
      let place = found.place in
      let zero = zero_slots (marks_of M.sizes (place - m)) (pass_at M.sizes place) (filling M.sizes place) (set_of M.sets k) in
      let other : Option (List ℕ) = cond (any (eqb bad) zero) (some (apart own zero)) none in
      cond (any (eqb bad) own) (elim found.to_erase [ none ↦ other | some block ↦ none ]) (some own)

-- rule 15.5: the page and the flag of an original
unfoldable pub rebuilt_page : (P : ℕ) → Chip → Option (List ℕ) → List ℕ
rebuilt_page P chip none = filler_page P
rebuilt_page P chip (some slots) = sum (page_at P chip) slots

unfoldable pub rebuilt_flag : Option (List ℕ) → ℕ
rebuilt_flag none = 0
rebuilt_flag (some slots) = 1

-- ---- the call
-- what is lent to be written: n × m pages, and a flag for each
abbrev pub area_length : Sizes → ℕ
area_length Z = original_count Z * Z.p

abbrev pub flags_length : Sizes → ℕ
flags_length Z = original_count Z

unfoldable pub bad_areas : Sizes → (area flags : List ℕ) → Bool
bad_areas Z area flags = not (eqb (length area) (area_length Z)) || not (eqb (length flags) (flags_length Z))

-- rule 15.6: read's rows, but for the work page, for 65535, which is no entry here, and for the slot
unfoldable pub rebuild_rows : Request → Chip → (area flags : List ℕ) → (bad : ℕ) → List (Row ℕ)
rebuild_rows R chip area flags bad =
    record { fits = not (in_range R.sizes); gives = 1 }
    ∷ record { fits = bad_request R || bad_chip R.sizes chip || bad_areas R.sizes area flags; gives = 2 }
    ∷ record { fits = not (is_one_to_one (original_count R.sizes) R.list); gives = 3 }
    ∷ record { fits = moves_pinned R.pins R.list; gives = 11 }
    ∷ record { fits = not (is_split R.sizes.n R.sizes.m R.list R.sets); gives = 4 }
    ∷ record { fits = fits_none (reading R.sizes chip.marks); gives = 6 }
    ∷ record { fits = leb (slot_count R.sizes) bad; gives = 7 }
    ∷ []

-- what the call returns, and leaves in the two areas
pub record RebuildAnswer : Type 0 where
  pub number : ℕ
  pub area : List ℕ
  pub flags : List ℕ

unfoldable pub rebuilt : Move → Chip → Reading → (bad : ℕ) → RebuildAnswer
rebuilt M chip found bad =
    let from : ℕ → Option (List ℕ) = rebuilt_from M (seen chip.marks) found bad in
    record {
      number = 0;
      area = concat_map (λ k. rebuilt_page M.sizes.p chip (from k)) (range 0 (original_count M.sizes));
      flags = map (λ k. rebuilt_flag (from k)) (range 0 (original_count M.sizes));
    }

-- rule 7.8
abbrev pub rebuild_refused : (number : ℕ) → (area flags : List ℕ) → RebuildAnswer
rebuild_refused number area flags = record { number = number; area = area; flags = flags }

-- the move of a list that drops nothing
abbrev pub whole_move : Request → Move
whole_move R = move_of R.sizes R.list R.sets

unfoldable pub rebuild_answer : Request → Chip → (area flags : List ℕ) → (bad : ℕ) → RebuildAnswer
rebuild_answer R chip area flags bad =
    let number = refusal (rebuild_rows R chip area flags bad) in
    let refused = rebuild_refused number area flags in
    cond (eqb number 0) (elim (reading R.sizes chip.marks) [ none ↦ refused | some found ↦ rebuilt (whole_move R) chip found bad ]) refused
