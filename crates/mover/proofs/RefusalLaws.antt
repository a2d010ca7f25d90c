-- Rows 1, 2, 3, 11 and 4 of the table, and what a move is given that they do not refuse.
use Rattle.flash.proofs.Kit.{◌≡◌, refl, ◌∙◌, ◌≢◌, Bool, true, false, cond, ◌&&◌, not, List, [], ◌∷◌, ℕ, ◌*◌, arith, eqb, ne_eqb}
use Rattle.std.specs.Prelude.{Err}
use Rattle.flash.specs.Lists.{any}
use Rattle.flash.specs.Refusals.{number_of}
use Rattle.flash.specs.declared.refusal.Refusal.{Refusal}
use Rattle.flash.specs.declared.refusal.Refusal.TheVariants.{BadPlace, BadWear}
use Rattle.flash.proofs.Refused.{some-number}
use Rattle.flash.specs.Tables.{Row, first_fit, number_or0, refusal}
use Rattle.flash.specs.Geometry.{in_range, original_count}
use Rattle.flash.specs.Chip.{Chip}
use Rattle.flash.specs.declared.wear.Wear.{Wear}
use Rattle.flash.proofs.Tables.{refusal-nil}
use Rattle.split.specs.OneToOne.{dropped, bad_list, is_one_to_one}
use Rattle.split.specs.Split.{is_split}
use Rattle.split.specs.Pins.{moves_pinned}
use Rattle.split.specs.Request.{Request}
use Rattle.split.proofs.DropLaws.{undropped-completed, undropped-bad}
use Rattle.method.specs.Move.{move, plan}
use Rattle.method.specs.Worn.{is_worn_out}
use Rattle.method.specs.Answers.{bad_parts, is_elsewhere, move_rows, run_rows, RunAnswer, steps_taken, run_carried_out, run_refused, run_answer}
use Rattle.mover.specs.Answers.{run_as}

-- a refusal's number is not that of a call that is carried out
pub not-0 : (r : Refusal) → number_of r ≢ 0
not-0 r z = absurd (omega (arith, some-number r, z))

pub row_first : (fits : Bool) (gives : ℕ) (rest : List (Row ℕ)) → refusal (record { fits = fits; gives = gives } ∷ rest) ≡ cond fits gives (refusal rest)
unfolding refusal first_fit number_or0
row_first true gives rest = refl
row_first false gives rest = refl

-- the rows that run and read share: the first that fits, and else the rows that follow
first_rows : (a b c d e : Bool) (rest : ℕ)
    → (let number : ℕ → ℕ = λ x. cond a 1 (cond b 2 (cond c 3 (cond d 11 (cond e 4 x)))) in number rest ≡ cond (eqb (number 0) 0) rest (number 0))
first_rows true b c d e rest = refl
first_rows false true c d e rest = refl
first_rows false false true d e rest = refl
first_rows false false false true e rest = refl
first_rows false false false false true rest = refl
first_rows false false false false false rest = refl

module _ (R : Request) (chip : Chip) (work : List ℕ) where
  open R.sizes use {n, m}

  abbrev number : ℕ
  number = refusal (move_rows R chip work [])

  pub move-number : number
      ≡ cond (not (in_range R.sizes)) 1 (cond (bad_parts R chip work) 2 (cond (bad_list (original_count R.sizes) R.list) 3
      (cond (moves_pinned R.pins R.list) 11 (cond (not (is_split n m (move R).list R.sets)) 4 0))))
  unfolding move_rows
  move-number = rw (row_first, row_first, row_first, row_first, row_first, refusal-nil)

  module _ (rest : List (Row ℕ)) where
    move-then : refusal (move_rows R chip work rest) ≡ cond (eqb number 0) (refusal rest) number
    unfolding move_rows
    move-then =
        rw (move-number, row_first, row_first, row_first, row_first, row_first)
        (first_rows (not (in_range R.sizes)) (bad_parts R chip work) (bad_list (original_count R.sizes) R.list)
        (moves_pinned R.pins R.list) (not (is_split n m (move R).list R.sets)) (refusal rest))

    pub by_move : (x : ℕ) → x ≡ number → x ≢ 0 → refusal (move_rows R chip work rest) ≡ x
    by_move x e ne = move-then ∙ rw (← e, ne_eqb x 0 ne)

    pub past-move : 0 ≡ number → refusal (move_rows R chip work rest) ≡ refusal rest
    past-move e = move-then ∙ rw (← e)

  -- past rows 1 and 2
  module _ (ranged : in_range R.sizes ≡ true) (parts : bad_parts R chip work ≡ false) where
    abbrev bad : Bool
    bad = bad_list (n * m) R.list

    abbrev split : Bool
    split = is_split n m (move R).list R.sets

    by_rows : number ≡ cond bad 3 (cond (moves_pinned R.pins R.list) 11 (cond split 0 4))
    by_rows = move-number ∙ rw (ranged, parts) (last bad (moves_pinned R.pins R.list) split)
      where
        last : (bad moved split : Bool)
            → ◌≡◌ {A = ℕ} (cond bad 3 (cond moved 11 (cond (not split) 4 0))) (cond bad 3 (cond moved 11 (cond split 0 4)))
        last true moved split = refl
        last false true split = refl
        last false false true = refl
        last false false false = refl

    -- a list without drops is judged with the split, and the pins come in between
    pub by-list : any (eqb dropped) R.list ≡ false
        → (let found : ℕ = cond (is_one_to_one (n * m) R.list) (cond (is_split n m R.list R.sets) 0 4) 3 in
        number ≡ cond (not (eqb found 3) && moves_pinned R.pins R.list) 11 found)
    by-list none =
        by_rows ∙ rw (undropped-bad R.list none (n * m), undropped-completed R.list none)
        (in-turn (is_one_to_one (n * m) R.list) (moves_pinned R.pins R.list) (is_split n m R.list R.sets))
      where
        in-turn : (good moved split : Bool)
            → (let found : ℕ = cond good (cond split 0 4) 3 in
            ◌≡◌ {A = ℕ} (cond (not good) 3 (cond moved 11 (cond split 0 4))) (cond (not (eqb found 3) && moved) 11 found))
        in-turn false moved split = refl
        in-turn true true true = refl
        in-turn true true false = refl
        in-turn true false true = refl
        in-turn true false false = refl

    -- one with drops is judged with the pins, and completed before the split is looked at
    abbrev judged : ℕ
    judged = cond bad 3 (cond (moves_pinned R.pins R.list) 11 0)

    pub by-drops : judged ≢ 0 → number ≡ judged
    by-drops ne = by_rows ∙ go bad (moves_pinned R.pins R.list) ne
      where
        go : (bad moved : Bool) → ◌≢◌ {A = ℕ} (cond bad 3 (cond moved 11 0)) 0
            → ◌≡◌ {A = ℕ} (cond bad 3 (cond moved 11 (cond split 0 4))) (cond bad 3 (cond moved 11 0))
        go true moved ne = refl
        go false true ne = refl
        go false false ne = absurd (ne refl)

    pub past-drops : judged ≡ 0 → (bad ≡ false) × (number ≡ cond split 0 4)
    past-drops e = (let g = go bad (moves_pinned R.pins R.list) e in (g.0, by_rows ∙ g.1))
      where
        go : (bad moved : Bool) → ◌≡◌ {A = ℕ} (cond bad 3 (cond moved 11 0)) 0
            → (bad ≡ false) × ◌≡◌ {A = ℕ} (cond bad 3 (cond moved 11 (cond split 0 4))) (cond split 0 4)
        go true moved e = absurd (omega arith)
        go false true e = absurd (omega arith)
        go false false e = (refl, refl)

-- ---- the answer of run
module _ (R : Request) (chip : Chip) (work : List ℕ) (wear : Wear) (place limit : ℕ) where
  by_place : 0 ≡ refusal (move_rows R chip work [])
      → refusal (run_rows R chip work wear place limit)
      ≡ cond (is_elsewhere R.sizes chip place) 5 (cond (is_worn_out R.sizes.n wear place limit) 12 0)
  unfolding run_rows
  by_place e = past-move R chip work _ e ∙ rw (row_first, row_first, refusal-nil)

  module _ (budget : ℕ) where
    -- what a refused run comes to; it leaves all as it was
    abbrev Refused : Refusal → Type 0
    Refused r = run_as (Err r) chip.store chip.marks work wear ≡ run_answer R chip work wear place budget limit

    refused-answer : (r : Refusal) → refusal (run_rows R chip work wear place limit) ≡ number_of r → Refused r
    unfolding run_answer run_refused
    refused-answer r e = rw (e, ne_eqb (number_of r) 0 (not-0 r))

    -- these rows decide, and else rows 5 and 12
    pub refused-by-move : (r : Refusal) → number_of r ≡ refusal (move_rows R chip work []) → Refused r
    unfolding run_rows
    refused-by-move r e = refused-answer r (by_move R chip work _ (number_of r) e (not-0 r))

    pub refused-by-place : 0 ≡ refusal (move_rows R chip work []) → true ≡ is_elsewhere R.sizes chip place → Refused BadPlace
    refused-by-place e f = refused-answer BadPlace (by_place e ∙ rw (← f))

    pub refused-by-wear : 0 ≡ refusal (move_rows R chip work []) → false ≡ is_elsewhere R.sizes chip place
        → true ≡ is_worn_out R.sizes.n wear place limit → Refused BadWear
    refused-by-wear e f g = refused-answer BadWear (by_place e ∙ rw (← f, ← g))

    pub not-refused : 0 ≡ refusal (move_rows R chip work []) → false ≡ is_elsewhere R.sizes chip place → false ≡ is_worn_out R.sizes.n wear place limit
        → (answer : RunAnswer) → answer ≡ run_carried_out (plan R) chip work wear place (steps_taken R.sizes place budget)
        → answer ≡ run_answer R chip work wear place budget limit
    unfolding run_answer
    not-refused e f g answer A = rw (by_place e, ← f, ← g) A
