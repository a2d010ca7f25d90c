-- The refusals of the split call, row by row.
use Rattle.flash.proofs.Kit.{◌≡◌, ◌≢◌, refl, ap, ◌∙◌, Bool, true, false, cond, not, ◌||◌, List, [], ◌∷◌, ℕ, zero, suc, ◌≤◌, arith, eqb, length, get_or, replicate, eqb-true, eq-eqb, ne_eqb, not-false}
use Rattle.flash.specs.Lists.{any}
use Rattle.flash.specs.Tables.{first_fit, number_or0, refusal}
use Rattle.flash.specs.declared.sizes.Sizes.{Sizes}
use Rattle.flash.specs.Geometry.{in_range, original_count}
use Rattle.split.specs.OneToOne.{bad_list}
use Rattle.split.specs.Drops.{completed, list_left}
use Rattle.split.specs.Pins.{is_pinned, moves_pinned}
use Rattle.split.specs.Rule.{split_by_rule}
use Rattle.split.specs.Request.{Request, bad_request}
use Rattle.split.specs.Answer.{split_rows, split_answer}
use Rattle.split.specs.inner.Rows.{Accepted}
use Rattle.flash.proofs.Bools.{or-false-left, or-false-right}
use Rattle.flash.proofs.Bounds.{in-range, product_le}
use Rattle.flash.proofs.Ranges.{none_is}
use Rattle.flash.proofs.Tables.{refusal-zero, refusal-miss}
use Rattle.split.proofs.DropLaws.{completed-length, completed-accepted}

-- a number that is given is one of the table's
among : (one two three eleven : Bool)
    → (let number = refusal (record { fits = one; gives = 1 } ∷ record { fits = two; gives = 2 } ∷ record { fits = three; gives = 3 }
    ∷ record { fits = eleven; gives = 11 } ∷ []) in any (eqb number) (1 ∷ 2 ∷ 3 ∷ 11 ∷ []) ≡ not (eqb number 0))
unfolding refusal first_fit number_or0 any
among true two three eleven = refl
among false true three eleven = refl
among false false true eleven = refl
among false false false true = refl
among false false false false = refl

pub small : (Z : Sizes) → in_range Z ≡ true → original_count Z ≤ 4096
small Z e = let B = in-range Z e in product_le Z.n Z.m {c = 64} {d = 64} B.n-high B.m-high

-- ---- the rows
in-turn : (bad moved : Bool)
    → refusal (record { fits = bad; gives = 3 } ∷ record { fits = moved; gives = 11 } ∷ []) ≡ cond bad 3 (cond moved 11 0)
unfolding refusal first_fit number_or0
in-turn true moved = refl
in-turn false true = refl
in-turn false false = refl

module _ (R : Request) where
  open R use {sizes as Z, list, pins, sets}

  pub gives-1 : in_range Z ≡ false → refusal (split_rows R) ≡ 1
  unfolding refusal first_fit number_or0 split_rows
  gives-1 e = rw e

  module _ (in-range : in_range Z ≡ true) where
    pub gives-2 : bad_request R ≡ true → refusal (split_rows R) ≡ 2
    unfolding refusal first_fit number_or0 split_rows
    gives-2 e = rw (in-range, e)

    pub gives-2-list : length list ≢ original_count Z → refusal (split_rows R) ≡ 2
    unfolding bad_request
    gives-2-list ne = gives-2 (rw (ne_eqb (length list) (original_count Z) ne))

    module _ (lengths : bad_request R ≡ false) where
      pub gives-list : refusal (split_rows R) ≡ cond (bad_list (original_count Z) list) 3 (cond (moves_pinned pins list) 11 0)
      unfolding split_rows
      gives-list = refusal-miss _ _ (ap not in-range) ∙ refusal-miss _ _ lengths ∙ in-turn (bad_list (original_count Z) list) (moves_pinned pins list)

-- the list, the pins and the set bytes are of one length
pub lengths-are : (R : Request) → bad_request R ≡ false
    → (length R.list ≡ original_count R.sizes) × (length R.pins ≡ original_count R.sizes) × (length R.sets ≡ original_count R.sizes)
unfolding bad_request
lengths-are R e =
    let count = original_count R.sizes in
    let list-test = not (eqb (length R.list) count) in
    let pins-test = not (eqb (length R.pins) count) in
    let sets-test = not (eqb (length R.sets) count) in
    let first = or-false-left (list-test || pins-test) sets-test e in (
      eqb-true _ _ (not-false _ (or-false-left list-test pins-test first)),
      eqb-true _ _ (not-false _ (or-false-right list-test pins-test first)),
      eqb-true _ _ (not-false _ (or-false-right (list-test || pins-test) sets-test e)),
    )

-- a call carried out fits no row
pub record Passed (R : Request) : Type 0 where
  pub in-range : in_range R.sizes ≡ true
  pub listed : length R.list ≡ original_count R.sizes
  pub sized : length R.sets ≡ original_count R.sizes
  pub pinned : length R.pins ≡ original_count R.sizes
  pub good : bad_list (original_count R.sizes) R.list ≡ false
  pub stays : moves_pinned R.pins R.list ≡ false

pub passed : (R : Request) → refusal (split_rows R) ≡ 0 → Passed R
unfolding split_rows
passed R e =
    let one = refusal-zero _ _ (omega arith) e in
    let two = refusal-zero _ _ (omega arith) one.1 in
    let three = refusal-zero _ _ (omega arith) two.1 in
    let eleven = refusal-zero _ _ (omega arith) three.1 in
    let lengths = lengths-are R two.0 in
    record {
      in-range = not-false (in_range R.sizes) one.0;
      listed = lengths.0;
      pinned = lengths.1;
      sized = lengths.2;
      good = three.0;
      stays = eleven.0;
    }

-- a list that is carried out is completed
pub left-completed : (number : ℕ) (list list' : List ℕ) → number ≡ 0 → list' ≡ completed list → list' ≡ list_left number list
unfolding list_left any
left-completed number list list' z e = rw (z, e)

module _ (R : Request) where
  open R use {sizes as Z, list, pins, sets}

  -- number 3 is ruled out
  pub lent-good : refusal (split_rows R) ≡ 0 → (length list ≤ 4096) × (bad_list (length list) list ≡ false)
  lent-good e =
      let p = passed R e in
      (omega (arith, p.listed, small Z p.in-range), rw p.listed p.good)

  pub accepted : refusal (split_rows R) ≡ 0 → Accepted Z.n Z.m (completed list) × (length sets ≡ original_count Z)
  accepted e =
      let p = passed R e in
      let B = in-range Z p.in-range in (
        record {
          some-pages = B.m-low;
          n-fits = B.n-high;
          m-fits = B.m-high;
          listed = completed-length list ∙ p.listed;
          one-to-one = completed-accepted (original_count Z) list p.listed p.good;
        },
        p.sized,
      )

  pub answered-0 : (number : ℕ) (sets' : List ℕ) → number ≡ refusal (split_rows R) → number ≡ 0
      → sets' ≡ split_by_rule Z.n Z.m (completed list)
      → record { number = number; sets = sets' } ≡ split_answer R
  unfolding split_answer
  answered-0 number sets' e z s = rw (← e, eq-eqb number 0 z, s)

  pub answered-refused : (number : ℕ) → number ≡ refusal (split_rows R) → number ≢ 0
      → record { number = number; sets = sets } ≡ split_answer R
  unfolding split_answer
  answered-refused number e ne = rw (← e, ne_eqb number 0 ne)

  pub left-lent : (number : ℕ) → number ≡ refusal (split_rows R) → number ≢ 0 → list ≡ list_left number list
  unfolding list_left split_rows
  left-lent number e ne =
      let given = among (not (in_range Z)) (bad_request R) (bad_list (original_count Z) list) (moves_pinned pins list) in
      rw (e, given, ← e, ne_eqb number 0 ne)

-- where no page is pinned, none is sent elsewhere
pub none-pinned : (count : ℕ) (list : List ℕ) → moves_pinned (replicate count 0) list ≡ false
unfolding moves_pinned is_pinned
none-pinned count list = none_is _ 0 (length list) (λ k low high. rw (zeros count k))
  where
    zeros : (count k : ℕ) → ◌≡◌ {A = ℕ} (get_or (replicate count 0) k 0) 0
    zeros zero k = refl
    zeros (suc count) zero = refl
    zeros (suc count) (suc k) = zeros count k
