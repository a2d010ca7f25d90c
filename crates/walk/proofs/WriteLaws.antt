-- What is left of the slots of a write, where pages are dropped: in the forward pass, and in the backward pass.
use Rattle.flash.proofs.Kit.{◌≡◌, refl, sym, ap, ◌∙◌, ⊎_elim, Bool, true, false, cond, List, [], ◌∷◌, ◌++◌, map, append-nil, ℕ, suc, ◌+◌, ◌-◌}
use Rattle.flash.proofs.Kit.{◌*◌, ◌≤◌, ◌<◌, arith, length, get_or, take, drop, le-leb, length-take-le, get_or-take, suc-mul, lt-ltb, le-ltb, lt-leb}
use Rattle.flash.proofs.Kit.{length-set, zero, subst, ◌≢◌, get_or-set_same, get_or-set_other}
use Rattle.flash.specs.declared.sizes.Sizes.{Sizes}
use Rattle.flash.specs.Geometry.{number_at, original_count}
use Rattle.flash.specs.Lists.{concat_map}
use Rattle.flash.proofs.Bools.{bool_cases}
use Rattle.flash.proofs.Comparisons.{eq-cases, lt-cases}
use Rattle.split.specs.Split.{set_of}
use Rattle.split.specs.inner.Mask.{is_marked}
use Rattle.method.specs.Move.{Move, Plan, move_of, AcceptedMove}
use Rattle.method.specs.Read.{Term, stored, term_at, read_slots, read_terms}
use Rattle.method.specs.Cycle.{D, pred, is_top, coded, sent_to}
use Rattle.method.specs.Place.{forward, backward, written}
use Rattle.method.specs.State.{held_originals}
use Rattle.method.specs.Step.{originals_of, write_terms}
use Rattle.method.specs.inner.Shape.{Shape}
use Rattle.method.proofs.basics.EachNumber.{Each}
use Rattle.method.proofs.basics.MoveShape.{term-kept}
use Rattle.method.proofs.basics.Indexes.{slot_lt}
use Rattle.method.proofs.cycles.Orbits.{DataBlock}
use Rattle.method.proofs.cycles.SetCycles.{D-page, pred_in, sent-in}
use Rattle.method.proofs.walks.Terms.{terms-kept, terms-dropped}
use Rattle.walk.specs.declared.terms.Addends.{Addends}
use Rattle.walk.specs.inner.Moments.{Tells, moment_in}
use Rattle.walk.specs.inner.Rows.{PagesRow, SourcesRow}
use Rattle.walk.specs.inner.Slots.{SumsAs, plain_at, forward_by, backward_by}
use Rattle.walk.specs.inner.Terms.{plan_by, AddsUp, only_filler, drops_plain, last_left, rest_left, first_out, first_left}
use Rattle.walk.proofs.BackwardLaws.{backward-slots}
use Rattle.walk.proofs.ForwardLaws.{own-slots, slots-are}
use Rattle.walk.proofs.TermLaws.{Stands, stands-none, stands-stored, stands-filler, stands_same, stands-all, swapped, last-few, adds-up}
use Rattle.walk.proofs.TermLaws.{long-more}
use Rattle.walk.proofs.LeftLaws.{told, read_by, term_is, read-stands, long_kept, long-read, read_dropped}

-- ---- a write in the forward pass to a block, of c(i) for the block i above it
only-first : (xs : List ℕ) → drop 1 (take 1 xs) ≡ []
only-first [] = refl
only-first (x ∷ xs) = refl

taken-head : (xs : List ℕ) (count : ℕ) → 1 ≤ count → count ≤ length xs → take count xs ≡ get_or xs 0 0 ∷ drop 1 (take count xs)
taken-head [] count h l = absurd (omega arith)
taken-head (x ∷ xs) zero h l = absurd (omega arith)
taken-head (x ∷ xs) (suc count) h l = refl

-- how many are left behind the first, and with it
pub rest-few : (m plain : ℕ) (drops : List ℕ) (number : ℕ) (slots : List ℕ) (count : ℕ) → 1 ≤ count → (left : Addends) → left ≡ rest_left m plain drops number slots count
    → (1 ≤ left.count) × (left.count ≤ count)
rest-few m plain drops number slots count some left e =
    rw e
    (⊎_elim
    (λ (h : count < 2). rw (lt-ltb count 2 h) (some, omega arith))
    (λ (h : 2 ≤ count).
    rw (le-ltb count 2 h)
    (⊎_elim
    (λ (d : is_marked drops number ≡ true). rw d (omega arith, omega arith))
    (λ (d : is_marked drops number ≡ false).
    let few = last-few (drops_plain m plain drops (get_or slots (count - 1) 0)) count in
    rw d (omega (arith, few.0), few.1))
    (bool_cases (is_marked drops number))))
    (lt-cases count 2))

-- what holds of each slot holds of each that is left
pub first-among : (Q : ℕ → Type 0) (slots : List ℕ) (count : ℕ) → count ≤ length slots → ((j : ℕ) → j < count → Q (get_or slots j 0))
    → (is_out : Bool) (left : Addends) → 1 ≤ left.count → left.count ≤ count
    → (let r = first_left is_out left in let after = cond is_out (first_out slots left.count) slots in
    (r.count ≤ count) × (length after ≡ length slots) × ((j : ℕ) → j < r.count → Q (get_or after j 0)))
first-among Q slots count room each false left low high = (high, refl, λ j h. each j (omega arith))
first-among Q slots count room each true left low high =
    let last : ℕ = get_or slots (left.count - 1) 0 in (
      omega arith,
      length-set slots 0 last,
      λ j h. ⊎_elim
          (λ (z : j ≡ 0). rw (z, get_or-set_same slots 0 last 0 (omega arith)) (each (left.count - 1) (omega arith)))
          (λ (z : j ≢ 0). rw (get_or-set_other slots 0 j last 0 z) (each j (omega arith)))
          (eq-cases j 0),
    )

module _ (Z : Sizes) (list sets drops : List ℕ) (A : AcceptedMove (move_of Z list sets)) (marks : List ℕ) (block : ℕ) (S : Shape Z marks block (block + 1) 0)
    (set : ℕ) (set-ok : set < Z.m) (pages sources : List ℕ) (P : PagesRow (move_of Z list sets) set pages) (Q : SourcesRow (move_of Z list sets) set sources)
    (block_in : block < Z.n) (slots : List ℕ) (count : ℕ) (room : count ≤ length slots)
    (gathered : take count slots ≡ forward_by Z.m set pages sources Z.n (block + 1)) where
  open Z use {n, m}

  abbrev i : ℕ
  i = block + 1

  abbrev N : Move
  N = move_of Z list sets

  abbrev Y : Plan
  Y = plan_by Z list sets drops

  i-in : DataBlock n i
  i-in = record { low = omega arith; high = omega arith }

  abbrev u : ℕ
  u = pred N set i

  u-in : DataBlock n u
  u-in = pred_in N A set set-ok i i-in

  abbrev first : ℕ
  first = D N set i

  abbrev other : ℕ
  other = D N set u

  abbrev own : ℕ
  own = plain_at m pages i

  abbrev is_last : Bool
  is_last = is_top N set i

  -- behind D(i) come the terms and the slots of D(pred(i)), unless i is the top
  abbrev rest_terms : List Term
  rest_terms = cond is_last [] (read_terms Y marks other ++ [])

  abbrev rest_slots : List ℕ
  rest_slots = cond is_last [] (read_slots N marks other ++ [])

  tells-it : Tells N marks (moment_in false n block i)
  tells-it = told Z list sets drops A marks false block i S

  own_is : read_slots N marks first ≡ own ∷ []
  own_is = own-slots N A set set-ok pages sources P Q i i-in marks block tells-it

  parts : {B : Type 0} (f : ℕ → List B) → concat_map f (coded N set i) ≡ f first ++ cond is_last [] (f other ++ [])
  unfolding concat_map coded
  parts f = ⊎_elim
      (λ (t : is_last ≡ true). rw t)
      (λ (t : is_last ≡ false). rw t)
      (bool_cases is_last)

  slots-is : take count slots ≡ own ∷ rest_slots
  slots-is =
      gathered ∙ slots-are N A set set-ok pages sources P Q i i-in marks block tells-it ∙ parts (read_slots N marks) ∙ ap (λ (ts : List ℕ). ts ++ rest_slots) own_is

  terms-is : write_terms Y forward block set marks ≡ read_terms Y marks first ++ rest_terms
  unfolding write_terms originals_of written held_originals
  terms-is = parts (read_terms Y marks)

  size : count ≡ suc (length rest_slots)
  size = sym (length-take-le count slots room) ∙ ap length slots-is

  -- the page number as the code counts it
  other-is : (let v = get_or sources block 0 in (v - 1) * m + get_or pages (v - 1) 0) ≡ other
  other-is =
      let at : block ≡ i - 1 = omega arith in
      ap (λ (v : ℕ). (v - 1) * m + get_or pages (v - 1) 0) (ap (λ (x : ℕ). get_or sources x 0) at ∙ Q.is i i-in.low i-in.high) ∙ P.is u u-in.low u-in.high

  own_back : own - m ≡ first
  own_back =
      let up : i ≡ suc (i - 1) = omega arith in
      omega (arith, P.is i i-in.low i-in.high, ap (λ (x : ℕ). x * m) up ∙ suc-mul (i - 1) m)

  -- ---- behind the first
  abbrev Rest : Addends → Type 0
  Rest r = Stands rest_terms (drop 1 (take r.count slots)) r.filler

  rest-top : is_last ≡ true → Rest (record { count = count; filler = false })
  rest-top t = rw (slots-is, t) stands-none

  rest-dropped : is_last ≡ false → is_marked drops other ≡ true → Rest (record { count = 1; filler = true })
  rest-dropped t d = rw (t, only-first slots, terms-dropped Y marks other d) (stands-filler stands-none)

  rest-kept : is_last ≡ false → is_marked drops other ≡ false → 1 < count → Rest (last_left m i drops slots count)
  rest-kept t d h =
      let is : drop 1 (take count slots) ≡ read_slots N marks other = ap (drop 1) slots-is ∙ rw t (append-nil (read_slots N marks other)) in
      rw (t, terms-kept Y marks other d, append-nil)
      (read-stands Z list sets drops A marks false block i S other (D-page N A set set-ok u u-in).inside slots 1 count h room is)

  rest-is : Rest (rest_left m i drops other slots count)
  rest-is = ⊎_elim
      (λ (t : is_last ≡ true).
      let one : length rest_slots ≡ 0 = rw t refl in
      rw (lt-ltb count 2 (omega (arith, size))) (rest-top t))
      (λ (t : is_last ≡ false).
      let some = (read_by Z list sets drops A marks false block i S other (D-page N A set set-ok u u-in).inside).some in
      let more : length rest_slots ≡ length (read_slots N marks other) = rw (t, append-nil) in
      rw (le-ltb count 2 (omega (arith, size)))
      (⊎_elim
      (λ (d : is_marked drops other ≡ true). rw d (rest-dropped t d))
      (λ (d : is_marked drops other ≡ false). rw d (rest-kept t d (omega (arith, size))))
      (bool_cases (is_marked drops other))))
      (bool_cases is_last)

  -- ---- and the first
  abbrev is_out : Bool
  is_out = drops_plain m i drops (get_or slots 0 0)

  own_at : get_or slots 0 0 ≡ own
  own_at = sym (get_or-take count slots 0 0 (omega (arith, size))) ∙ ap (λ (ts : List ℕ). get_or ts 0 0) slots-is

  out-is : is_out ≡ is_marked drops first
  out-is = rw (own_at, le-leb (i * m) own (omega arith), own_back)

  all-stand : (left : Addends) → 1 ≤ left.count → left.count ≤ length slots → Rest left
      → (let r = first_left is_out left in Stands (read_terms Y marks first ++ rest_terms) (take r.count (cond is_out (first_out slots left.count) slots)) r.filler)
  all-stand left low high R = ⊎_elim
      (λ (d : is_marked drops first ≡ true). rw (out-is, d, terms-dropped Y marks first d) (stands_same (stands-filler R) (swapped slots left.count low high)))
      (λ (d : is_marked drops first ≡ false).
      let term : term_at Y marks own ≡ stored own = term-kept Y marks own (ap (is_marked drops) own_back ∙ d) in
      rw (out-is, d, terms-kept Y marks first d, own_is, term, taken-head slots left.count low high, own_at) (stands-stored R own))
      (bool_cases (is_marked drops first))

  pub forward-adds : (left r : Addends) (after : List ℕ) → left ≡ rest_left m i drops ((get_or sources block 0 - 1) * m + get_or pages (get_or sources block 0 - 1) 0) slots count
      → r ≡ first_left is_out left → after ≡ cond is_out (first_out slots left.count) slots → AddsUp Z (write_terms Y forward block set marks) after r
  forward-adds left r after e f g =
      let left_is : left ≡ rest_left m i drops other slots count = e ∙ ap (λ (k : ℕ). rest_left m i drops k slots count) other-is in
      let few = rest-few m i drops other slots count (omega (arith, size)) left left_is in
      let bounds = first-among (λ t. Unit) slots count room (λ j h. tt) is_out left few.0 few.1 in
      let first-in = (D-page N A set set-ok i i-in).inside in
      rw (f, g, terms-is)
      (adds-up Z (read_terms Y marks first ++ rest_terms) (cond is_out (first_out slots left.count) slots) (first_left is_out left) (omega (arith, bounds.0, bounds.1))
      (all-stand left few.0 (omega (arith, few.1)) (subst Rest (sym left_is) rest-is))
      (long-more Z (read_terms Y marks first) rest_terms (long-read Z list sets drops A marks false block i S first first-in)))

-- ---- a write in the backward pass, of the page that goes to a page of a block
module _ (Z : Sizes) (list sets drops : List ℕ) (A : AcceptedMove (move_of Z list sets)) (marks : List ℕ) (block : ℕ) (S : Shape Z marks block (block + 1) 2)
    (page set : ℕ) (low : 1 ≤ block) (high : block ≤ Z.n) (page-ok : page < Z.m) (slots : List ℕ) where
  open Z use {n, m}

  abbrev O : Move
  O = move_of Z list sets

  abbrev W : Plan
  W = plan_by Z list sets drops

  abbrev sent : ℕ
  sent = sent_to O (number_at m block page)

  sent-ok : sent < original_count Z
  sent-ok = sent-in O A (number_at m block page) (slot_lt m (block - 1) page n (omega arith) page-ok)

  sent-terms : write_terms W backward block page marks ≡ read_terms W marks sent
  unfolding write_terms originals_of written held_originals concat_map
  sent-terms = append-nil (read_terms W marks sent)

  pub backward-dropped : is_marked drops sent ≡ true → AddsUp Z (write_terms W backward block page marks) slots only_filler
  backward-dropped d = rw sent-terms (read_dropped Z list sets drops A marks true block (block + 1) S sent sent-ok slots d)

  pub backward-kept : (count : ℕ) → count ≤ length slots → is_marked drops sent ≡ false → set ≡ set_of sets sent → (pages : List ℕ) → PagesRow O set pages
      → take count slots ≡ backward_by m list set pages n block
      → AddsUp Z (write_terms W backward block page marks) slots (record { count = count; filler = false })
  backward-kept count room d e pages P gathered =
      let R = read_by Z list sets drops A marks true block (block + 1) S sent sent-ok in
      let same : SumsAs (take count slots) (read_slots O marks sent) =
      rw gathered
      (backward-slots O A block page set low high page-ok e pages P marks (told Z list sets drops A marks true block (block + 1) S)) in
      let each : Each (λ t. term_at W marks t ≡ stored t) (read_slots O marks sent) = λ j h.
      let t : ℕ = get_or (read_slots O marks sent) j 0 in
      let site = R.sited j h in
      term_is Z list sets drops A marks true block (block + 1) S t site ∙ rw (lt-leb ((n + 1) * m) t site.inside) in
      rw (sent-terms, terms-kept W marks sent d)
      (adds-up Z (map (term_at W marks) (read_slots O marks sent)) slots _ room
      (stands_same (stands-all (term_at W marks) (read_slots O marks sent) each) same) (long_kept Z list sets drops A marks true block (block + 1) S sent sent-ok))
