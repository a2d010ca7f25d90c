-- `move_refusal` gives the first number of rows 1, 2, 3, 11 and 4 that fits; past 11 it leaves the list completed, and where none fits the sets by destination.
use Rattle.std.proofs.lemmas.Result.{err_from_is_err_and}
use Rattle.flash.proofs.Kit.{[], ◌≡◌, refl, sym, ap, ◌∙◌, ◌≢◌, Bool, true, false, cond, List, ℕ, ◌*◌, ◌≤◌, arith, eqb, length}
use Rattle.split.specs.OneToOne.{bad_list}
use Rattle.split.specs.Drops.{completed, list_left}
use Rattle.split.specs.Pins.{moves_pinned}
use Rattle.split.specs.Split.{is_split}
use Rattle.split.specs.Request.{Request, request_of}
use Rattle.split.proofs.DropLaws.{completed-length, completed-accepted, undropped-completed}
use Rattle.flash.proofs.Refused.{some-number}
use Rattle.flash.specs.Lists.{any}
use Rattle.flash.specs.Tables.{refusal}
use Rattle.flash.specs.Refusals.{number_of, number_in}
use Rattle.flash.specs.Geometry.{Bounds, in_range}
use Rattle.flash.specs.Chip.{Chip}
use Rattle.flash.specs.declared.sizes.Sizes.{Sizes}
use Rattle.flash.proofs.Bounds.{in-range, product_le}
use Rattle.method.specs.Answers.{bad_parts, move_rows}
use Rattle.method.proofs.basics.AcceptedCalls.{parts-ok}
use Rattle.mover.specs.inner.Refusals.{kept_number}
use Rattle.mover.proofs.PlanLaws.{left-judged, left_split, left-undropped, none_told}
use Rattle.mover.proofs.RefusalLaws.{move-number, by-list, by-drops, past-drops}
use contract.Lifetimes.{Lfts}
use Rattle.mover.proofs.refusals.move_refusal.Goals as goal
use Rattle.mover.proofs.refusals.move_refusal.Lts as lts
use Rattle.mover.proofs.refusals.move_refusal.Reads as reads
use Rattle.mover.proofs.refusals.move_refusal.Tie as tie

abbrev asked : {κs : Lfts 9} → lts.Args tie.the-claims reads.Pre reads.Post tie.handed_clauses κs → Request
asked a = request_of a.sizes a.list.now a.pins.now a.sets.now

abbrev chip : {κs : Lfts 9} → lts.Args tie.the-claims reads.Pre reads.Post tie.handed_clauses κs → Chip
chip a = record { store = a.store.now; marks = a.marks.now }

pub returns-then-not-in_range : goal.returns-then-not-in_range
unfolding list_left any
returns-then-not-in_range c =
    record {
      value = sym (move-number (asked c.args) (chip c.args) c.args.work.now ∙ rw (← c.in_range.ensures, c.if-not-in_range.true));
      list_after = refl;
      by_destination = λ z. absurd (omega arith);
    }

-- ---- the sizes are in their ranges
ranged : (Z : Sizes) {t : Bool} → t ≡ in_range Z → t ≡ true → in_range Z ≡ true
ranged Z e t = sym e ∙ t

pub bad_parts-requires : goal.bad_parts-requires
bad_parts-requires c = let B = in-range _ (ranged c.args.sizes c.in_range.ensures c.if-not-in_range.false) in (B.n-high, B.m-high, B.p-high)

pub returns-then-bad_parts : goal.returns-then-bad_parts
unfolding list_left any
returns-then-bad_parts c =
    let r = ranged c.args.sizes c.in_range.ensures c.if-not-in_range.false in
    record {
      value = sym (move-number (asked c.args) (chip c.args) c.args.work.now ∙ rw (r, ← c.bad_parts.ensures, c.if-bad_parts.true));
      list_after = refl;
      by_destination = λ z. absurd (omega arith);
    }

-- ---- past rows 1 and 2
record Lengths (R : Request) : Type 0 where
  list : length R.list ≡ R.sizes.n * R.sizes.m
  pins : length R.pins ≡ R.sizes.n * R.sizes.m
  sets : length R.sets ≡ R.sizes.n * R.sizes.m
  few : R.sizes.n * R.sizes.m ≤ 4096
  bounds : Bounds R.sizes

lengths : (R : Request) (chip : Chip) (work : List ℕ) → in_range R.sizes ≡ true → bad_parts R chip work ≡ false → Lengths R
lengths R chip work r p =
    let l = parts-ok R chip work p in
    let B = in-range R.sizes r in
    record { list = l.0; pins = l.1; sets = l.2; few = product_le R.sizes.n R.sizes.m B.n-high B.m-high; bounds = B }

-- ---- with drops: the list and its pins are judged
pub original_count-requires : goal.original_count-requires
original_count-requires c = let B = in-range _ (ranged c.args.sizes c.in_range.ensures c.if-not-in_range.false) in (B.n-high, B.m-high)

pub list_refusal-requires : goal.list_refusal-requires
list_refusal-requires c =
    let r = ranged c.args.sizes c.in_range.ensures c.if-not-in_range.false in
    let l = lengths (asked c.args) (chip c.args) c.args.work.now r (sym c.bad_parts.ensures ∙ c.if-bad_parts.false) in
    (l.pins ∙ sym l.list, omega (arith, l.list, l.few), omega (arith, c.original_count.ensures, l.few), c.requires.1)

-- what was found
abbrev judged : Request → ℕ
judged R = cond (bad_list (R.sizes.n * R.sizes.m) R.list) 3 (cond (moves_pinned R.pins R.list) 11 0)

pub returns-in_err-list_refusal : goal.returns-in_err-list_refusal
returns-in_err-list_refusal c =
    let R = asked c.args in
    let list = c.args.list.now in
    let r = ranged c.args.sizes c.in_range.ensures c.if-not-in_range.false in
    let e = err_from_is_err_and c.from_residual.result c.from_residual.ensures.1 in
    let found : number_of c.in_err-list_refusal.field-0.0 ≡ judged R = rw c.original_count.ensures at c.in_err-list_refusal.ensures.value in
    let ne : judged R ≢ 0 = λ z. absurd (omega (arith, some-number c.in_err-list_refusal.field-0.0, found ∙ z)) in
    rw (e.1, e.2) (record {
      value = found ∙ sym (by-drops R (chip c.args) c.args.work.now r (sym c.bad_parts.ensures ∙ c.if-bad_parts.false) ne);
      list_after = rw found (left-judged (bad_list (c.args.sizes.n * c.args.sizes.m) list) (moves_pinned c.args.pins.now list) list ne);
      by_destination = λ z. absurd (ne (sym found ∙ z));
    })

-- ---- and it is completed
past : (R : Request) (chip : Chip) (work : List ℕ) {originals : ℕ} → in_range R.sizes ≡ true → bad_parts R chip work ≡ false → originals ≡ R.sizes.n * R.sizes.m
    → ◌≡◌ {A = ℕ} 0 (cond (bad_list originals R.list) 3 (cond (moves_pinned R.pins R.list) 11 0))
    → (bad_list (R.sizes.n * R.sizes.m) R.list ≡ false)
    × (refusal (move_rows R chip work []) ≡ cond (is_split R.sizes.n R.sizes.m (completed R.list) R.sets) 0 4)
past R chip work r p o e = past-drops R chip work r p (sym (rw o at e))

pub complete-requires : goal.complete-requires
complete-requires c =
    let R = asked c.args in
    let r = ranged c.args.sizes c.in_range.ensures c.if-not-in_range.false in
    let p = sym c.bad_parts.ensures ∙ c.if-bad_parts.false in
    let l = lengths R (chip c.args) c.args.work.now r p in
    let good = past R (chip c.args) c.args.work.now r p c.original_count.ensures c.in_ok-list_refusal.ensures.value in
    record {
      list_len_bound = (omega (arith, l.list, l.few), rw l.list good.0);
      pages_value = (c.requires.0, c.in_ok-list_refusal.ensures.kept_marked refl);
    }

pub sets_refusal-requires : goal.sets_refusal-requires
sets_refusal-requires c =
    let r = ranged c.args.sizes c.in_range.ensures c.if-not-in_range.false in
    let l = lengths (asked c.args) (chip c.args) c.args.work.now r (sym c.bad_parts.ensures ∙ c.if-bad_parts.false) in
    let B = l.bounds in
    let size = ap length c.complete.ensures.list_after ∙ completed-length c.args.list.now ∙ l.list in
    record { le_m = (B.m-low, B.n-high, B.m-high); list_len = (size, l.sets, omega arith) }

pub shape_of-list-then-has_drop : goal.shape_of-list-then-has_drop
shape_of-list-then-has_drop c =
    ap length c.complete.ensures.list_after ∙ completed-length c.args.list.now

pub returns-then-has_drop : goal.returns-then-has_drop
returns-then-has_drop c =
    let R = asked c.args in
    let Z = c.args.sizes in
    let list = c.args.list.now in
    let r = ranged Z c.in_range.ensures c.if-not-in_range.false in
    let p = sym c.bad_parts.ensures ∙ c.if-bad_parts.false in
    let l = lengths R (chip c.args) c.args.work.now r p in
    let good = past R (chip c.args) c.args.work.now r p c.original_count.ensures c.in_ok-list_refusal.ensures.value in
    let done = c.complete.ensures.list_after in
    let split = is_split Z.n Z.m (completed list) c.args.sets.now in
    let found : number_in c.sets_refusal.result ≡ cond split 0 4 =
    c.sets_refusal.ensures.value ∙ rw (done, completed-accepted (Z.n * Z.m) list l.list good.0) in record {
      value = found ∙ sym good.1;
      list_after = done ∙ rw found (left_split split list);
      by_destination = λ z. (c.sets_refusal.ensures.by_destination z, c.complete.ensures.drops_told);
    }

-- ---- without drops
pub kept_refusal-requires : goal.kept_refusal-requires
kept_refusal-requires c =
    let r = ranged c.args.sizes c.in_range.ensures c.if-not-in_range.false in
    let l = lengths (asked c.args) (chip c.args) c.args.work.now r (sym c.bad_parts.ensures ∙ c.if-bad_parts.false) in
    let B = l.bounds in
    (B.m-low, B.n-high, B.m-high, l.list, l.pins, l.sets)

pub returns : goal.returns
unfolding kept_number
returns c =
    let R = asked c.args in
    let list = c.args.list.now in
    let r = ranged c.args.sizes c.in_range.ensures c.if-not-in_range.false in
    let none : any (eqb 65535) list ≡ false = sym c.has_drop.ensures ∙ c.if-has_drop.false in record {
      value = c.kept_refusal.ensures.value ∙ sym (by-list R (chip c.args) c.args.work.now r (sym c.bad_parts.ensures ∙ c.if-bad_parts.false) none);
      list_after = left-undropped _ list (undropped-completed list none);
      by_destination = λ z. (c.kept_refusal.ensures.by_destination z, none_told list _ _ none c.requires.0 c.requires.1);
    }
