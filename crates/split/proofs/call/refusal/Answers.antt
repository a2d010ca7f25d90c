-- The number that the split call's tests give is that of the table's first row that fits.
use Rattle.flash.proofs.Kit.{◌≡◌, sym, ◌∙◌, true, false, arith}
use Rattle.flash.specs.Geometry.{in_range}
use Rattle.flash.proofs.Bounds.{in-range}
use Rattle.split.specs.Request.{Request, request_of, bad_request}
use Rattle.split.proofs.Answers.{small, gives-1, gives-2, gives-list, lengths-are}
use Rattle.split.proofs.call.refusal.Goals as goal
use Rattle.split.proofs.call.refusal.Lts as lts
use Rattle.split.proofs.call.refusal.Reads as reads
use Rattle.split.proofs.call.refusal.Tie as tie

pub returns-then-not-in_range : goal.returns-then-not-in_range
returns-then-not-in_range c =
    record { value = sym (gives-1 _ (sym c.in_range.ensures ∙ c.if-not-in_range.true)); kept_marked = λ z. absurd (omega arith) }

-- the sizes are in range
ranged : (c : lts.Else1 tie.the-claims reads.Pre reads.Post tie.handed_clauses) → in_range c.args.sizes ≡ true
ranged c = sym c.in_range.ensures ∙ c.if-not-in_range.false

pub original_count-originals-requires : goal.original_count-originals-requires
original_count-originals-requires c = let B = in-range _ (ranged c.before) in (B.n-high, B.m-high)

pub returns-then-list-originals : goal.returns-then-list-originals
unfolding bad_request
returns-then-list-originals c =
    record { value = sym (gives-2 _ (ranged c.before.before.before) (rw (← c.original_count-originals.ensures) c.if-list-originals.true)); kept_marked = λ z. absurd (omega arith) }

-- the parts have their lengths
abbrev asked : lts.Else2 tie.the-claims reads.Pre reads.Post tie.handed_clauses → Request
asked c =
    let a = c.args in
    request_of a.sizes a.list.now a.pins.now a.sets.now

lengths : (c : lts.Else2 tie.the-claims reads.Pre reads.Post tie.handed_clauses) → bad_request (asked c) ≡ false
unfolding bad_request
lengths c = rw (← c.original_count-originals.ensures) c.if-list-originals.false

pub list_refusal-requires : goal.list_refusal-requires
list_refusal-requires c =
    let l = lengths-are (asked c.before.before) (lengths c.before.before) in
    let few = small (asked c.before.before).sizes (ranged c.before.before.before.before) in
    (l.1 ∙ sym l.0, omega (arith, l.0, few), omega (arith, c.original_count-originals.ensures, few), c.requires)

pub returns : goal.returns
returns c =
    record { value = c.list_refusal.ensures.value ∙ rw c.original_count-originals.ensures (sym (gives-list (asked c.before.before.before) (ranged c.before.before.before.before.before) (lengths c.before.before.before))); kept_marked = c.list_refusal.ensures.kept_marked }
