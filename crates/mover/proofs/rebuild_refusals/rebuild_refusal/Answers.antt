-- `rebuild_refusal` gives the first number of rows 1, 2, 3, 11 and 4 that fits.
use Rattle.flash.proofs.Kit.{◌≡◌, sym, ◌∙◌, Bool, true, false, ◌||◌, arith}
use Rattle.flash.specs.Geometry.{Bounds, in_range}
use Rattle.flash.specs.declared.sizes.Sizes.{Sizes}
use Rattle.flash.specs.Chip.{Chip}
use Rattle.flash.proofs.Bools.{or-false-left}
use Rattle.flash.proofs.Bounds.{in-range, product_le}
use Rattle.split.specs.Request.{Request, request_of, bad_request}
use Rattle.method.proofs.basics.AcceptedCalls.{lengths-are}
use Rattle.method.specs.Answers.{bad_chip}
use Rattle.method.specs.Rebuild.{bad_areas}
use Rattle.mover.specs.inner.Refusals.{rebuild_number}
use contract.Lifetimes.{Lfts}
use Rattle.mover.proofs.rebuild_refusals.rebuild_refusal.Goals as goal
use Rattle.mover.proofs.rebuild_refusals.rebuild_refusal.Lts as lts
use Rattle.mover.proofs.rebuild_refusals.rebuild_refusal.Reads as reads
use Rattle.mover.proofs.rebuild_refusals.rebuild_refusal.Tie as tie

abbrev asked : {κs : Lfts 7} → lts.Args tie.the-claims reads.Pre reads.Post tie.handed_clauses κs → Request
asked a = request_of a.sizes a.list.now a.pins.now a.sets.now

abbrev chip : {κs : Lfts 7} → lts.Args tie.the-claims reads.Pre reads.Post tie.handed_clauses κs → Chip
chip a = record { store = a.store.now; marks = a.marks.now }

pub returns-then-not-in_range : goal.returns-then-not-in_range
unfolding rebuild_number
returns-then-not-in_range c = sym (rw (← c.in_range.ensures, c.if-not-in_range.true))

ranged : (Z : Sizes) {t : Bool} → t ≡ in_range Z → t ≡ true → in_range Z ≡ true
ranged Z e t = sym e ∙ t

ranges : (Z : Sizes) {t : Bool} → t ≡ in_range Z → t ≡ true → Bounds Z
ranges Z e t = in-range Z (ranged Z e t)

pub original_count-originals-requires : goal.original_count-originals-requires
original_count-originals-requires c = (let B = ranges c.args.sizes c.in_range.ensures c.if-not-in_range.false in (B.n-high, B.m-high))

pub bad_lent-requires : goal.bad_lent-requires
bad_lent-requires c = (let B = ranges c.args.sizes c.in_range.ensures c.if-not-in_range.false in (B.n-high, B.m-high, B.p-high))

pub overflow_mul-originals : goal.overflow_mul-originals
overflow_mul-originals c =
    let B = ranges c.args.sizes c.in_range.ensures c.if-not-in_range.false in
    let few = product_le c.args.sizes.n c.args.sizes.m {c = 64} {d = 64} B.n-high B.m-high in
    omega (arith, product_le c.original_count-originals.result c.args.sizes.p {c = 4096} {d = 4096} (omega (arith, c.original_count-originals.ensures, few)) B.p-high)

pub returns-then-bad_lent-area : goal.returns-then-bad_lent-area
unfolding rebuild_number bad_areas
returns-then-bad_lent-area c =
    let r = ranged c.args.sizes c.in_range.ensures c.if-not-in_range.false in
    sym (rw (r, ← c.bad_lent.ensures, ← c.original_count-originals.ensures, c.if-bad_lent-area.true))

pub kept_refusal-requires : goal.kept_refusal-requires
kept_refusal-requires c =
    let B = ranges c.args.sizes c.in_range.ensures c.if-not-in_range.false in
    let R = asked c.args in
    let parts : (bad_request R || bad_chip c.args.sizes (chip c.args)) ≡ false = sym c.bad_lent.ensures ∙ or-false-left _ _ c.if-bad_lent-area.false in
    let l = lengths-are R (or-false-left (bad_request R) (bad_chip c.args.sizes (chip c.args)) parts) in
    (B.m-low, B.n-high, B.m-high, l.0, l.1, l.2)

pub returns : goal.returns
unfolding rebuild_number bad_areas
returns c =
    let r = ranged c.args.sizes c.in_range.ensures c.if-not-in_range.false in
    c.kept_refusal.ensures.value
    ∙ sym (rw (r, ← c.bad_lent.ensures, ← c.original_count-originals.ensures, c.if-bad_lent-area.false))
