-- What a call that is not refused was given; and what is enough for a call not to be refused.
use Rattle.flash.proofs.Kit.{◌≡◌, ap, ◌∙◌, ◌⊎◌, inl, inr, Bool, true, false, ◌&&◌, ◌||◌, not, List, [], ℕ, ◌≤◌, ◌<◌, arith, eqb, ltb, length, eqb-true}
use Rattle.flash.proofs.Kit.{eq-eqb, ltb-false, le-ltb, not-false}
use Rattle.flash.specs.Lists.{range, any, is_same}
use Rattle.flash.specs.Tables.{Row, refusal}
use Rattle.flash.specs.declared.sizes.Sizes.{Sizes}
use Rattle.flash.specs.Geometry.{in_range, original_count, slot_count, store_len, marks_len, list_len, pins_len, sets_len, work_len}
use Rattle.flash.specs.declared.wear.Wear.{Wear}
use Rattle.flash.specs.Chip.{Chip, erased, mark_at, is_blank}
use Rattle.flash.proofs.Bools.{bool_cases, or-false-left, or-false-right}
use Rattle.flash.proofs.Tables.{refusal-zero, refusal-skip, refusal-nil}
use Rattle.flash.proofs.Bounds.{in-range, range-in}
use Rattle.flash.proofs.Ranges.{none_in, none_is}
use Rattle.flash.proofs.Same.{same-eq, eq-same}
use Rattle.split.specs.OneToOne.{bad_list, is_one_to_one}
use Rattle.split.specs.Pins.{moves_pinned}
use Rattle.split.specs.Request.{Request, bad_request}
pub use Rattle.split.proofs.Answers.{lengths-are}
use Rattle.split.proofs.DropLaws.{completed-length, completed-accepted}
use Rattle.method.specs.Move.{move, AcceptedMove, Lent}
use Rattle.method.specs.Place.{last_place, marks_of}
use Rattle.method.specs.Worn.{is_worn_out}
use Rattle.method.specs.Answers.{bad_chip, bad_parts, is_elsewhere, move_rows, run_rows}

-- store and marks as a place has them: its marks, and every page marked 255 is blank
pub record StandsAt (Z : Sizes) (chip : Chip) (place : ℕ) : Type 0 where
  pub inside : place ≤ last_place Z
  pub marks : chip.marks ≡ marks_of Z place
  pub blank : (t : ℕ) → t < slot_count Z → mark_at chip.marks t ≡ erased → is_blank Z.p chip t ≡ true

-- the lent list and the pins are as long as there are pages, the list can be completed, and leaves the pinned pages where they are
pub record ListFits (R : Request) : Type 0 where
  pub list_length : length R.list ≡ list_len R.sizes
  pub good : bad_list (original_count R.sizes) R.list ≡ false
  pub pins-length : length R.pins ≡ pins_len R.sizes
  pub stay : moves_pinned R.pins R.list ≡ false

-- then the completed list is one-to-one
pub fits-one-to-one : (R : Request) → ListFits R → is_one_to_one (original_count R.sizes) (move R).list ≡ true
fits-one-to-one R F = completed-accepted (original_count R.sizes) R.list F.list_length F.good

same_length : (x y : ℕ) → not (eqb x y) ≡ false → x ≡ y
same_length x y e = eqb-true x y (not-false (eqb x y) e)

length-same : (x y : ℕ) → x ≡ y → not (eqb x y) ≡ false
length-same x y e = rw (eq-eqb x y e)

-- rows 1 to 4
module _ (R : Request) (chip : Chip) (work : List ℕ) where
  open R use {sizes as Z, list, pins, sets}

  pub parts-ok : bad_parts R chip work ≡ false
      → (length list ≡ list_len Z) × (length pins ≡ pins_len Z) × (length sets ≡ sets_len Z) × Lent Z chip work
  unfolding bad_parts bad_chip
  parts-ok e =
      let c = not (eqb (length chip.store) (store_len Z)) in
      let d = not (eqb (length chip.marks) (marks_len Z)) in
      let f = not (eqb (length work) (work_len Z)) in
      let asked = or-false-left (bad_request R || (c || d)) f e in
      let l = lengths-are R (or-false-left (bad_request R) (c || d) asked) in
      let cd = or-false-right (bad_request R) (c || d) asked in (
        l.0,
        l.1,
        l.2,
        record {
          store_length = same_length (length chip.store) (store_len Z) (or-false-left c d cd);
          marks-length = same_length (length chip.marks) (marks_len Z) (or-false-right c d cd);
          work-length = same_length (length work) (work_len Z) (or-false-right (bad_request R || (c || d)) f e);
        },
      )

  ok-parts : length list ≡ list_len Z → length pins ≡ pins_len Z → length sets ≡ sets_len Z → Lent Z chip work → bad_parts R chip work ≡ false
  unfolding bad_request bad_parts bad_chip
  ok-parts a p b L = rw (
    length-same (length list) (list_len Z) a,
    length-same (length pins) (pins_len Z) p,
    length-same (length sets) (sets_len Z) b,
    length-same (length chip.store) (store_len Z) L.store_length,
    length-same (length chip.marks) (marks_len Z) L.marks-length,
    length-same (length work) (work_len Z) L.work-length,
  )

  pub move-accepted : (rest : List (Row ℕ)) → refusal (move_rows R chip work rest) ≡ 0
      → AcceptedMove (move R) × Lent Z chip work × ListFits R × (refusal rest ≡ 0)
  unfolding move_rows
  move-accepted rest e =
      let one = refusal-zero _ _ (omega arith) e in
      let two = refusal-zero _ _ (omega arith) one.1 in
      let three = refusal-zero _ _ (omega arith) two.1 in
      let eleven = refusal-zero _ _ (omega arith) three.1 in
      let four = refusal-zero _ _ (omega arith) eleven.1 in
      let parts = parts-ok two.0 in
      let F : ListFits R = record { list_length = parts.0; good = three.0; pins-length = parts.1; stay = eleven.0 } in (
        record {
          ranges = in-range Z (not-false (in_range Z) one.0);
          list_length = completed-length list ∙ parts.0;
          sets-length = parts.2;
          one-to-one = fits-one-to-one R F;
          split = not-false _ four.0;
        },
        parts.3,
        F,
        four.1,
      )

  pub accepted-move : (rest : List (Row ℕ)) → AcceptedMove (move R) → Lent Z chip work → ListFits R → refusal rest ≡ 0
      → refusal (move_rows R chip work rest) ≡ 0
  unfolding move_rows
  accepted-move rest A L F e =
      refusal-skip _ _ (ap not (range-in Z A.ranges)) (refusal-skip _ _ (ok-parts F.list_length F.pins-length A.sets-length L)
      (refusal-skip _ _ F.good (refusal-skip _ _ F.stay (refusal-skip _ _ (ap not A.split) e))))

-- row 5
module _ (Z : Sizes) (chip : Chip) (place : ℕ) where
  abbrev torn : ℕ → Bool
  torn t = eqb (mark_at chip.marks t) erased && not (is_blank Z.p chip t)

  pub stands_at : is_elsewhere Z chip place ≡ false → StandsAt Z chip place
  unfolding is_elsewhere
  stands_at e =
      let far = ltb (last_place Z) place in
      let other = not (is_same chip.marks (marks_of Z place)) in
      let ab = or-false-left (far || other) (any torn (range 0 (slot_count Z))) e in
      let c = or-false-right (far || other) (any torn (range 0 (slot_count Z))) e in
      record {
        inside = ltb-false (last_place Z) place (or-false-left far other ab);
        marks = same-eq _ _ (not-false _ (or-false-right far other ab));
        blank = λ t h q.
            let r : torn t ≡ false = none_in torn 0 (slot_count Z) c t (omega arith) (omega arith) in
            not-false _ (rw (eq-eqb (mark_at chip.marks t) erased q) at r);
      }

  pub at-stands : StandsAt Z chip place → is_elsewhere Z chip place ≡ false
  unfolding is_elsewhere
  at-stands S =
      let c : any torn (range 0 (slot_count Z)) ≡ false = none_is torn 0 (slot_count Z) (λ t a h. whole t (omega arith) (bool_cases (eqb (mark_at chip.marks t) erased))) in
      rw (le-ltb (last_place Z) place S.inside, eq-same _ _ S.marks, c)
    where
      whole : (t : ℕ) → t < slot_count Z → (eqb (mark_at chip.marks t) erased ≡ true) ⊎ (eqb (mark_at chip.marks t) erased ≡ false) → torn t ≡ false
      whole t h (inl q) = rw (q, S.blank t h (eqb-true _ _ q))
      whole t h (inr q) = rw q

-- what a run that is not refused was given
pub record RunTaken (R : Request) (chip : Chip) (work : List ℕ) (wear : Wear) (place limit : ℕ) : Type 0 where
  pub accepted : AcceptedMove (move R)
  pub lent : Lent R.sizes chip work
  pub stands : StandsAt R.sizes chip place
  pub fits : ListFits R
  pub lasts : is_worn_out R.sizes.n wear place limit ≡ false

pub run-taken : (R : Request) (chip : Chip) (work : List ℕ) (wear : Wear) (place limit : ℕ) → refusal (run_rows R chip work wear place limit) ≡ 0
    → RunTaken R chip work wear place limit
unfolding run_rows
run-taken R chip work wear place limit e =
    let a = move-accepted R chip work _ e in
    let five = refusal-zero _ _ (omega arith) a.3 in
    record {
      accepted = a.0;
      lent = a.1;
      stands = stands_at R.sizes chip place five.0;
      fits = a.2;
      lasts = (refusal-zero _ _ (omega arith) five.1).0;
    }

pub taken-run : (R : Request) (chip : Chip) (work : List ℕ) (wear : Wear) (place limit : ℕ) → RunTaken R chip work wear place limit
    → refusal (run_rows R chip work wear place limit) ≡ 0
unfolding run_rows
taken-run R chip work wear place limit T =
    accepted-move R chip work _ T.accepted T.lent T.fits
    (refusal-skip _ _ (at-stands R.sizes chip place T.stands) (refusal-skip _ [] T.lasts refusal-nil))
