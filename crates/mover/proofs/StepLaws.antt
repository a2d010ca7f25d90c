-- What a step does: what a write sums, and the operation that a place has.
use Rattle.flash.proofs.Kit.{[], ◌≡◌, refl, sym, ap, ◌∙◌, subst, ⊎_elim, Bool, true, false, ◌||◌, cond, List, ℕ, ◌+◌, ◌-◌, ◌*◌, ◌%◌, ◌≤◌, ◌<◌, add-one, arith}
use Rattle.flash.proofs.Kit.{length, get_or, set, take, drop, get_or-take, length-take-le}
use Rattle.flash.specs.Lists.{part, set_part}
use Rattle.flash.specs.declared.sizes.Sizes.{Sizes}
use Rattle.flash.specs.Geometry.{Bounds, slot, number_at, store_len}
use Rattle.flash.proofs.Bounds.{slot-in-marks, product_le}
use Rattle.flash.specs.PageSum.{written_bytes}
use Rattle.flash.specs.Chip.{Chip, write_page}
use Rattle.flash.specs.inner.Totals.{total_page}
use Rattle.flash.proofs.Bools.{bool_cases}
use Rattle.flash.proofs.Comparisons.{lt-cases}
use Rattle.split.specs.Split.{set_of}
use Rattle.split.specs.inner.Rows.{ByDestination}
use Rattle.split.specs.inner.Mask.{is_marked}
use Rattle.method.specs.declared.tally.Tally.{Tally}
use Rattle.method.specs.Move.{Move, Plan, AcceptedMove}
use Rattle.method.specs.Cycle.{sent_to}
use Rattle.method.specs.Place.{Pass, Operation, write, mark_of, last_place, operation_at, pass_at, filling, marks_of}
use Rattle.method.specs.Step.{running_of, write_terms, pages_read, written_page, perform, Running, step, tallied}
use Rattle.method.specs.inner.Shape.{Shape}
use Rattle.method.proofs.basics.Indexes.{clash, slot_lt}
use Rattle.method.proofs.cycles.SetCycles.{set-in, sent-in, entry-sent}
use Rattle.method.proofs.places.PagesHeld.{Change, by-write, by-erase, change, MarksAt, marks_of-at}
use Rattle.method.proofs.places.PlaceShape.{letter_above, shape-filling}
use Rattle.method.proofs.places.StepsAtPlaces.{operation-done}
use Rattle.places.specs.declared.place.Place.{Place}
use Rattle.places.specs.inner.Place.{is_backward, pass_of, place_of}
use Rattle.walk.specs.inner.Rows.{row_length}
use Rattle.walk.specs.declared.terms.Addends.{Addends}
use Rattle.walk.specs.inner.Terms.{AddsUp}
use Rattle.mover.specs.inner.Steps.{DropsIn, OtherTable, SetWritten}

-- ---- a write
module _ (X : Plan) (pass : Pass) (block page : ℕ) (store marks : List ℕ) (size : length store ≡ store_len X.move.sizes) (slots : List ℕ) (r : Addends)
    (S : AddsUp X.move.sizes (write_terms X pass block page marks) slots r) where
  open X.move.sizes use {m, p as P}

  abbrev total : List ℕ
  total = total_page P r.filler store (take r.count slots)

  page-is : written_page X pass block page (record { store = store; marks = marks }) ≡ total
  unfolding written_page
  page-is = S.page (record { store = store; marks = marks }) size

  pub wrote : (store' : List ℕ) (mark : ℕ) → store' ≡ set_part P (slot m block page) store total → mark ≡ mark_of X.move.sizes pass
      → ◌≡◌ {A = Chip} (record { store = store'; marks = set marks (slot m block page) mark })
      (perform X (write pass block page) (running_of store marks [])).chip
  unfolding perform write_page
  wrote store' mark e f = rw (e, ← page-is, f)

  pub wrote-bytes : (bytes : ℕ) → bytes ≡ written_bytes total → bytes ≡ written_bytes (perform X (write pass block page) (running_of store marks [])).work
  unfolding perform
  wrote-bytes bytes e = rw page-is e

  -- as many slots are summed as its terms have stored pages
  pub wrote-reads : pages_read X pass block page marks ≡ r.count
  unfolding pages_read
  wrote-reads = S.number

-- the set of the page that goes to a page of a block
pub set-sent : (M : Move) → AcceptedMove M → (other : List ℕ) → ByDestination M.list M.sets other → (b page : ℕ) → 1 ≤ b → b ≤ M.sizes.n → page < M.sizes.m
    → (get_or other (number_at M.sizes.m b page) 0 ≡ set_of M.sets (sent_to M (number_at M.sizes.m b page)))
    × (get_or other (number_at M.sizes.m b page) 0 < M.sizes.m)
unfolding set_of
set-sent M A other D b page low high page-ok =
    let m = M.sizes.m in
    let number : ℕ = number_at m b page in
    let number_in = slot_lt m (b - 1) page M.sizes.n (omega arith) page-ok in
    let k : ℕ = sent_to M number in
    let k-in = sent-in M A number number_in in
    let set-lt = set-in M A k k-in in
    let there : get_or other number 0 ≡ get_or M.sets k 0 % 128 = rw (entry-sent M A number number_in) at (D k (rw A.list_length k-in)) in
    (omega (arith, A.ranges.m-high), omega (arith, A.ranges.m-high))

-- the set of a page that is written, as a table and the page tell it
module _ (M : Move) (A : AcceptedMove M) (t few : Bool) (other : List ℕ) (b page set : ℕ) (T : OtherTable M (t || few) other)
    (low : t ≡ true → 1 ≤ b) (high : b ≤ M.sizes.n) (page-in : page < M.sizes.m)
    (own : t ≡ false → set ≡ page) (there : t ≡ true → set ≡ get_or other (number_at M.sizes.m b page) 0) where
  sent : t ≡ true → (set ≡ set_of M.sets (sent_to M (number_at M.sizes.m b page))) × (set < M.sizes.m)
  sent back =
      let s = set-sent M A other (T.sets-tell (rw back)) b page (low back) high page-in in
      (there back ∙ s.0, rw (there back) s.1)

  pub written-set : SetWritten M t b page set × (set < M.sizes.m)
  written-set = (
    (own, λ back. (sent back).0),
    ⊎_elim (λ (back : t ≡ true). (sent back).1) (λ (forth : t ≡ false). rw (own forth) page-in) (bool_cases t),
  )

-- the bit of a place tells whether the page that goes there is dropped
pub drop-sent : (M : Move) → AcceptedMove M → (drops places : List ℕ) → DropsIn M drops places → (b page : ℕ) → 1 ≤ b → b ≤ M.sizes.n → page < M.sizes.m
    → is_marked places (number_at M.sizes.m b page) ≡ is_marked drops (sent_to M (number_at M.sizes.m b page))
drop-sent M A drops places D b page low high page-ok =
    let number : ℕ = number_at M.sizes.m b page in
    let number_in = slot_lt M.sizes.m (b - 1) page M.sizes.n (omega arith) page-ok in
    rw (entry-sent M A number number_in) at (D.places-tell (sent_to M number) (sent-in M A number number_in))

-- ---- a row of a table
pub row_is : (table : List ℕ) (set : ℕ) → take (set * row_length + row_length - set * row_length) (drop (set * row_length) table) ≡ part row_length set table
unfolding part
row_is table set = (let e : set * row_length + row_length - set * row_length ≡ row_length = omega arith in rw e)

-- ---- the step at a place
pub stepped : (X : Plan) (at : ℕ) (op : Operation) → operation_at X.move.sizes at ≡ op
    → (run : Running) (after : Chip) (tally next : Tally) → after ≡ (perform X op run).chip
    → next ≡ tallied X op run.chip.marks (perform X op run).work tally
    → {Room : Type 0} → Room
    → ((after ≡ (step X at run).chip) × (next ≡ tallied X (operation_at X.move.sizes at) run.chip.marks (step X at run).work tally)) × Room
unfolding step
stepped X at op is run after tally next e f room = rw is ((e, f), room)

-- ---- what is known where a page is written: the pass, and what the other blocks are full of
told-by : (t : Bool) → (is_backward (pass_of t) ≡ t) × (letter_above (pass_of t) ≡ cond t 2 0)
told-by true = (refl, refl)
told-by false = (refl, refl)

module _ (M : Move) (A : AcceptedMove M) (here : Place) (placed : here ≡ place_of M.sizes here.at) (marks : List ℕ)
    (is : marks ≡ marks_of M.sizes here.at) where
  open M.sizes use {n, m}

  abbrev at : ℕ
  at = here.at

  pub record WriteKnown (t : Bool) (b : ℕ) : Type 0 where
    pub pass-is : here.backward ≡ t
    pub shape : Shape M.sizes marks b (b + 1) (cond t 2 0)

  by-change : at < last_place M.sizes → Change M.sizes at → (t : Bool) (b q : ℕ) → operation_at M.sizes at ≡ write (pass_of t) b q → WriteKnown t b
  unfolding place_of
  by-change h (by-write room op W) t b q e =
      let p : pass_at M.sizes at ≡ pass_of t = cc in
      let f : filling M.sizes at ≡ b = cc in
      let S = shape-filling M.sizes at (omega arith) marks (subst (MarksAt M.sizes at) (sym is) (marks_of-at M.sizes at)) room in
      record {
        pass-is = ap (λ (p : Place). p.backward) placed ∙ ap is_backward p ∙ (told-by t).0;
        shape = rw (p, f, ← add-one b, (told-by t).1) at S;
      }
  by-change h (by-erase full op E) t b q e = let z : ◌≡◌ {A = ℕ} 0 1 = cc in absurd (clash z)

  pub write_known : (t : Bool) (b q : ℕ) → operation_at M.sizes at ≡ write (pass_of t) b q → WriteKnown t b
  write_known t b q e = ⊎_elim
      (λ (h : at < last_place M.sizes). by-change h (change M.sizes at h) t b q e)
      (λ (h : last_place M.sizes ≤ at). absurd (clash (let f = operation-done M.sizes at h in (cc))))
      (lt-cases at (last_place M.sizes))

-- what holds of the first slots of an array, as a list of their own
pub of-front : (P : ℕ → Type 0) (slots : List ℕ) (count : ℕ) → count ≤ length slots → ((j : ℕ) → j < count → P (get_or slots j 0))
    → (j : ℕ) → j < length (take count slots) → P (get_or (take count slots) j 0)
of-front P slots count l f j h =
    let k : j < count = omega (arith, length-take-le count slots l) in
    subst P (sym (get_or-take count slots j 0 k)) (f j k)

-- the slot of a write is one of the store, which has few
pub slot-inside : (Z : Sizes) → Bounds Z → (b page : ℕ) → b ≤ Z.n → page < Z.m → (b * Z.m + page < (Z.n + 1) * Z.m) × ((Z.n + 1) * Z.m ≤ 4160)
slot-inside Z R b page b-in page-in = (slot-in-marks Z b page b-in page-in, product_le (Z.n + 1) Z.m {c = 65} {d = 64} (omega (arith, R.n-high)) R.m-high)
