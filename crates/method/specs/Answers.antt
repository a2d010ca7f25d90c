-- Rules 7.2 to 7.9: the refusals of run, mend and read, and the whole answer of each.
use Rattle.std.specs.Prelude.{Bool, cond, ◌&&◌, ◌||◌, not, List, [], ◌∷◌, ℕ, ◌+◌, ◌-◌, min, eqb, leb, ltb, length}
use Rattle.std.proofs.Math.Option.{Option, none, some}
use Rattle.flash.specs.Lists.{range, any, is_same}
use Rattle.flash.specs.Tables.{Row, refusal}
use Rattle.flash.specs.declared.sizes.Sizes.{Sizes}
use Rattle.flash.specs.Geometry.{in_range, original_count, slot_count, store_len, marks_len, work_len}
use Rattle.flash.specs.PageSum.{written_bytes}
use Rattle.flash.specs.Chip.{Chip, erased, mark_at, is_blank, erase_block}
use Rattle.flash.specs.declared.wear.Wear.{Wear}
use Rattle.flash.specs.Wear.{risen}
use Rattle.split.specs.OneToOne.{bad_list}
use Rattle.split.specs.Split.{is_split}
use Rattle.split.specs.Pins.{moves_pinned}
use Rattle.split.specs.Request.{Request, bad_request}
use Rattle.method.specs.declared.tally.Tally.{Tally}
use Rattle.method.specs.Move.{Plan, move, plan}
use Rattle.method.specs.Place.{last_place, marks_of}
use Rattle.method.specs.Read.{read_terms, stored_slots, read_page}
use Rattle.method.specs.Step.{Running, steps, operations_from, nothing_done, tally_of}
use Rattle.method.specs.Mend.{Reading, seen, reading}
use Rattle.method.specs.Worn.{worn_by, is_worn_out}

-- number 2, of mend, and of run and read
unfoldable pub bad_chip : Sizes → Chip → Bool
bad_chip Z chip = not (eqb (length chip.store) (store_len Z)) || not (eqb (length chip.marks) (marks_len Z))

unfoldable pub bad_parts : Request → Chip → (work : List ℕ) → Bool
bad_parts R chip work =
    bad_request R || bad_chip R.sizes chip || not (eqb (length work) (work_len R.sizes))

-- what reading the marks answers, by its cases: the number of the table, and what the marks tell
pub record MarksAnswer : Type 0 where
  pub number : ℕ
  pub told : Option Reading

unfoldable pub marks_answer : Option Reading → MarksAnswer
marks_answer none = record { number = 6; told = none }
marks_answer (some found) = record { number = 0; told = some found }

unfoldable pub fits_none : Option Reading → Bool
fits_none told = eqb (marks_answer told).number 6

-- number 5
unfoldable pub is_elsewhere : Sizes → Chip → (place : ℕ) → Bool
is_elsewhere Z chip place =
    ltb (last_place Z) place || not (is_same chip.marks (marks_of Z place))
    || any (λ t. eqb (mark_at chip.marks t) erased && not (is_blank Z.p chip t)) (range 0 (slot_count Z))

-- rule 7.8: the order in which the calls look for the numbers of the table
unfoldable pub order : List ℕ
order = 1 ∷ 2 ∷ 3 ∷ 11 ∷ 4 ∷ 5 ∷ 12 ∷ 6 ∷ 7 ∷ []

-- the rows that run and read share
unfoldable pub move_rows : Request → Chip → (work : List ℕ) → (rest : List (Row ℕ)) → List (Row ℕ)
move_rows R chip work rest =
    record { fits = not (in_range R.sizes); gives = 1 }
    ∷ record { fits = bad_parts R chip work; gives = 2 }
    ∷ record { fits = bad_list (original_count R.sizes) R.list; gives = 3 }
    ∷ record { fits = moves_pinned R.pins R.list; gives = 11 }
    ∷ record { fits = not (is_split R.sizes.n R.sizes.m (move R).list R.sets); gives = 4 }
    ∷ rest

unfoldable pub run_rows : Request → Chip → (work : List ℕ) → Wear → (place limit : ℕ) → List (Row ℕ)
run_rows R chip work wear place limit =
    move_rows R chip work
    (record { fits = is_elsewhere R.sizes chip place; gives = 5 }
    ∷ record { fits = is_worn_out R.sizes.n wear place limit; gives = 12 }
    ∷ [])

unfoldable pub mend_rows : Sizes → Chip → List (Row ℕ)
mend_rows Z chip =
    record { fits = not (in_range Z); gives = 1 }
    ∷ record { fits = bad_chip Z chip; gives = 2 }
    ∷ record { fits = fits_none (reading Z chip.marks); gives = 6 }
    ∷ []

unfoldable pub read_rows : Request → Chip → (work : List ℕ) → (k : ℕ) → List (Row ℕ)
read_rows R chip work k =
    move_rows R chip work
    (record { fits = fits_none (reading R.sizes chip.marks); gives = 6 }
    ∷ record { fits = leb (original_count R.sizes) k; gives = 7 }
    ∷ [])

-- rule 7.2: what a run returns and leaves
pub record RunAnswer : Type 0 where
  pub number : ℕ
  pub place : ℕ
  pub tally : Tally
  pub finished : ℕ
  pub chip : Chip
  pub work : List ℕ
  pub wear : Wear

-- rule 7.2: as many steps as the budget allows and are left
unfoldable pub steps_taken : Sizes → (place budget : ℕ) → ℕ
steps_taken Z place budget = min budget (last_place Z - place)

-- a run that takes so many steps
unfoldable pub run_carried_out : Plan → Chip → (work : List ℕ) → Wear → (place taken : ℕ) → RunAnswer
run_carried_out X chip work wear place taken =
    let start : Running = record { chip = chip; work = work } in
    let after = steps X taken place start in
    record {
      number = 0;
      place = place + taken;
      tally = tally_of X taken place start;
      finished = cond (eqb (place + taken) (last_place X.move.sizes)) 1 0;
      chip = after.chip;
      work = after.work;
      wear = worn_by (operations_from X.move.sizes place taken) wear;
    }

-- rule 7.8
unfoldable pub run_refused : (number : ℕ) → Chip → (work : List ℕ) → Wear → RunAnswer
run_refused number chip work wear =
    record { number = number; place = 0; tally = nothing_done; finished = 0; chip = chip; work = work; wear = wear }

unfoldable pub run_answer : Request → Chip → (work : List ℕ) → Wear → (place budget limit : ℕ) → RunAnswer
run_answer R chip work wear place budget limit =
    let number = refusal (run_rows R chip work wear place limit) in
    cond (eqb number 0) (run_carried_out (plan R) chip work wear place (steps_taken R.sizes place budget)) (run_refused number chip work wear)

-- rule 7.4: what mend returns and leaves
pub record MendAnswer : Type 0 where
  pub number : ℕ
  pub place : ℕ
  pub erases : ℕ
  pub chip : Chip
  pub wear : Wear

unfoldable pub mended : Sizes → Chip → Wear → Reading → MendAnswer
mended Z chip wear found = elim found.to_erase [
  | none ↦ record { number = 0; place = found.place; erases = 0; chip = chip; wear = wear }
  | some b ↦ record { number = 0; place = found.place; erases = 1; chip = erase_block Z.m Z.p b chip; wear = risen b wear }
]

unfoldable pub mend_answer : Sizes → Chip → Wear → MendAnswer
mend_answer Z chip wear =
    let number = refusal (mend_rows Z chip) in
    let refused : MendAnswer = record { number = number; place = 0; erases = 0; chip = chip; wear = wear } in
    cond (eqb number 0) (elim (reading Z chip.marks) [ none ↦ refused | some found ↦ mended Z chip wear found ]) refused

-- Rule 7.5: what read returns and leaves; `bytes` is what a write of the page would program. None of its rows looks at the bytes of a page.
pub record ReadAnswer : Type 0 where
  pub number : ℕ
  pub count : ℕ
  pub bytes : ℕ
  pub work : List ℕ

-- a read that sums so many stored pages and gives this one
abbrev pub read_gives : (count : ℕ) → (page : List ℕ) → ReadAnswer
read_gives count page = record { number = 0; count = count; bytes = written_bytes page; work = page }

-- rule 7.8
abbrev pub read_refused : (number : ℕ) → (work : List ℕ) → ReadAnswer
read_refused number work = record { number = number; count = 0; bytes = 0; work = work }

unfoldable pub read_answer : Request → Chip → (work : List ℕ) → (k : ℕ) → ReadAnswer
read_answer R chip work k =
    let number = refusal (read_rows R chip work k) in
    let view : Chip = record { store = chip.store; marks = seen chip.marks } in
    cond (eqb number 0) (read_gives (length (stored_slots (read_terms (plan R) view.marks k))) (read_page (plan R) view k)) (read_refused number work)
