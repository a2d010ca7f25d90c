-- The terms of c(i): what is left behind D(i), and D(i) itself or 255s.
use Rattle.flash.proofs.Kit.{◌≡◌, ◌∙◌, ℕ, ◌+◌, ◌-◌, ◌*◌, ◌≤◌, ◌<◌, arith, length, get_or}
use Rattle.flash.proofs.Bounds.{product_le}
use Rattle.method.proofs.basics.Indexes.{slot_lt}
use Rattle.walk.specs.inner.Terms.{drops_plain}
use Rattle.walk.proofs.GatherLaws.{among}
use Rattle.walk.proofs.LeftLaws.{room_of}
use Rattle.walk.proofs.RowLaws.{Read, forward-read}
use Rattle.walk.proofs.WriteLaws.{rest-few, first-among, forward-adds}
use Rattle.walk.proofs.terms.forward_terms.Goals as goal
use Rattle.walk.proofs.terms.forward_terms.Lts as lts
use Rattle.walk.proofs.terms.forward_terms.Reads as reads
use Rattle.walk.proofs.terms.forward_terms.Tie as tie

-- the block that D(pred(i)) came from, and its number
source : (c : lts.After-from tie.the-claims reads.Pre reads.Post tie.handed_clauses) → (1 ≤ c.from-u.result) × (c.from-u.result ≤ c.args.sizes.n)
source c =
    let at : c.args.block + 1 - 1 ≡ c.args.block = omega arith in
    let B = c.requires.pages_in.1 in
    let low = rw at at (B.low (c.args.block + 1) (omega arith) (omega arith)) in
    let high = rw at at (B.high (c.args.block + 1) (omega arith) (omega arith)) in
    rw c.from-u.ensures (low, high)

number_lt : (c : lts.After-from2 tie.the-claims reads.Pre reads.Post tie.handed_clauses)
    → (c.from-u.result - 1) * c.args.sizes.m + c.from.result < 4096
number_lt c =
    let z = c.args.sizes in
    let v = source c.before.before in
    let page : c.from.result < z.m = rw c.from.ensures (c.requires.pages_in.0.page-lt c.from-u.result v.0 v.1) in
    omega (arith, slot_lt z.m (c.from-u.result - 1) c.from.result z.n (omega (arith, v)) page, product_le z.n z.m {c = 64} {d = 64} c.requires.n_bound.0 c.requires.n_bound.1)

inside : (c : lts.After-forward_slots tie.the-claims reads.Pre reads.Post tie.handed_clauses)
    → (let a = c.args in
    (j : ℕ) → j < c.forward_slots-count.result → Read a.sizes a.set a.block (get_or c.forward_slots-count.new.slots j 0))
inside c =
    let a = c.args in
    let G = c.forward_slots-count.ensures in
    let read = forward-read a.sizes a.set c.requires.n_bound.2 a.pages.now c.requires.pages_in.0 a.set c.requires.n_bound.2 a.sources.now c.requires.pages_in.1 a.block
    (record { low = omega arith; high = omega arith }) in
    among (Read a.sizes a.set a.block) _ _ c.forward_slots-count.result (omega (arith, G.2, G.3)) G.0 read

left-few : (c : lts.After-rest_left tie.the-claims reads.Pre reads.Post tie.handed_clauses) → (1 ≤ c.rest_left-left.result.count) × (c.rest_left-left.result.count ≤ c.forward_slots-count.result)
left-few c =
    let a = c.args in
    let number = (c.from-u.result - 1) * a.sizes.m + c.from.result in
    rest-few a.sizes.m (a.block + 1) a.drops.now number c.forward_slots-count.new.slots c.forward_slots-count.result c.forward_slots-count.ensures.1
    c.rest_left-left.result c.rest_left-left.ensures

pub overflow_sub-u : goal.overflow_sub-u
overflow_sub-u c = (source c.before).0

pub bounds-pages-u : goal.bounds-pages-u
bounds-pages-u c =
    omega (arith, source c.before.before, c.requires.pages_in.0.room, c.requires.n_bound.0)

pub rest_left-left-requires : goal.rest_left-left-requires
rest_left-left-requires c =
    let G = c.forward_slots-count.ensures in
    let fits = room_of c.args.sizes c.requires.n_bound.0 c.requires.n_bound.1 in
    let last = (inside c.before.before.before.before.before.before.before (c.forward_slots-count.result - 1) (omega (arith, G.1))).0 in
    record { le_plain = (omega arith, omega arith, c.requires.n_bound.1, number_lt c.before.before.before, c.requires.pages_in.3); le_count = (G.1, omega (arith, G.2, G.3), omega (arith, last, fits)) }

pub first_left-requires : goal.first_left-requires
first_left-requires c =
    let G = c.forward_slots-count.ensures in
    let few = left-few c.before.before in
    let fits = room_of c.args.sizes c.requires.n_bound.0 c.requires.n_bound.1 in
    let first = (inside c.before.before.before.before.before.before.before.before.before 0 (omega (arith, G.1))).0 in
    record { le_plain = (omega arith, omega arith, c.requires.n_bound.1, c.requires.pages_in.3, omega (arith, first, fits)); le_count = (few.0, omega (arith, few.1, G.2), G.3) }

pub returns : goal.returns
returns c =
    let a = c.args in
    let G = c.forward_slots-count.ensures in
    let E = c.first_left.ensures in
    let few = left-few c.before.before.before in
    let fits : c.forward_slots-count.result ≤ length c.forward_slots-count.new.slots = omega (arith, G.2, G.3) in
    let slots = c.forward_slots-count.new.slots in
    let is_out = drops_plain a.sizes.m (a.block + 1) a.drops.now (get_or slots 0 0) in
    let among = first-among (Read a.sizes a.set a.block) slots c.forward_slots-count.result fits (inside c.before.before.before.before.before.before.before.before.before.before) is_out c.rest_left-left.result few.0 few.1 in record {
      count_le_slots_length = rw (E.0, E.1) (omega (arith, among.0, G.2), among.1 ∙ G.3, among.2);
      by_index = λ list sets marks A P Q S. forward-adds a.sizes list sets a.drops.now A marks a.block S a.set c.requires.n_bound.2 a.pages.now a.sources.now P Q
          c.requires.pages_in.2 _ c.forward_slots-count.result fits G.0 c.rest_left-left.result c.first_left.result _
          (c.rest_left-left.ensures ∙ rw (c.from.ensures, c.from-u.ensures)) E.0 E.1;
    }
