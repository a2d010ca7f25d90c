-- A dropped page is not looked for; of the slots of another, the last may be left out.
use Rattle.flash.proofs.Kit.{◌≡◌, sym, ◌∙◌, List, [], ℕ, ◌-◌, ◌≤◌, ◌<◌, arith, length, get_or}
use Rattle.flash.specs.Geometry.{slot_count}
use Rattle.method.specs.Move.{move_of}
use Rattle.method.specs.Read.{read_slots}
use Rattle.walk.specs.inner.Moments.{HasMoment}
use Rattle.walk.specs.inner.Slots.{slots_length, StartsWith}
use Rattle.walk.specs.inner.Terms.{drops_plain}
use Rattle.walk.proofs.GatherLaws.{among, count-is}
use Rattle.walk.proofs.LeftLaws.{room_of, moment-told, plain_in, moment-reads, moment-dropped, moment-kept}
use Rattle.walk.proofs.TermLaws.{last-few}
use Rattle.walk.proofs.terms.read_terms.Goals as goal
use Rattle.walk.proofs.terms.read_terms.Lts as lts
use Rattle.walk.proofs.terms.read_terms.Reads as reads
use Rattle.walk.proofs.terms.read_terms.Tie as tie

pub returns-then-is_marked : goal.returns-then-is_marked
returns-then-is_marked c =
    let a = c.args in
    rw c.only_filler.ensures record {
      count_le_slots_length = (omega arith, c.requires.2, λ j h. absurd (omega arith));
      by_index = λ marks H. moment-dropped a.moved.sizes a.moved.list.now a.moved.sets.now a.drops.now c.args.moved.accepted marks a.moment H a.k c.requires.0 a.slots.now
          (sym c.is_marked.ensures ∙ c.if-is_marked.true);
    }

-- the slots that were gathered, by the marks that have the moment
gathered : (c : lts.After-read_slots tie.the-claims reads.Pre reads.Post tie.handed_clauses)
    → (let a = c.args in
    (marks : List ℕ) → HasMoment a.moved.sizes marks a.moment
    → StartsWith a.slots.now 1 (read_slots (move_of a.moved.sizes a.moved.list.now a.moved.sets.now) marks a.k) c.read_slots-count.new.slots c.read_slots-count.result)
gathered c marks H =
    let a = c.args in
    c.read_slots-count.ensures marks (moment-told a.moved.sizes a.moved.list.now a.moved.sets.now a.drops.now c.args.moved.accepted marks a.moment H)

within : (c : lts.After-read_slots tie.the-claims reads.Pre reads.Post tie.handed_clauses)
    → (let z = c.args.moved.sizes in
    let slots = c.read_slots-count.new.slots in
    let count = c.read_slots-count.result in
    (1 ≤ count) × (count ≤ slots_length) × (length slots ≡ slots_length) × ((j : ℕ) → j < count → get_or slots j 0 < slot_count z))
within c =
    let a = c.args in
    let R = moment-reads a.moved.sizes a.moved.list.now a.moved.sets.now a.drops.now c.args.moved.accepted c.requires.3.0 a.moment c.requires.3.1 a.k c.requires.0 [] in
    let G = gathered c c.requires.3.0 c.requires.3.1 in (
      omega (arith, R.some, count-is _ _ _ _ G),
      omega (arith, G.few),
      G.room,
      among (λ t. t < slot_count a.moved.sizes) _ _ c.read_slots-count.result (omega (arith, G.few, G.room)) G.slots-are (λ i h. (R.sited i h).inside),
    )

pub last_left-requires : goal.last_left-requires
last_left-requires c =
    let a = c.args in
    let G = c.args.moved.accepted.ranges in
    let p = plain_in a.moved.sizes a.moved.list.now a.moved.sets.now a.drops.now c.args.moved.accepted c.requires.3.0 a.moment c.requires.3.1 in
    let W = within c.before.before.before in
    record { le_plain = (p.0, omega (arith, p.1, G.n-high), G.m-high, c.requires.1); le_count = (W.0, omega (arith, W.1, W.2), omega (arith, W.3 (c.read_slots-count.result - 1) (omega (arith, W.0)), room_of a.moved.sizes G.n-high G.m-high)) }

pub returns : goal.returns
returns c =
    let a = c.args in
    let W = within c.before.before.before.before in
    let count = c.read_slots-count.result in
    let slots = c.read_slots-count.new.slots in
    let few : c.last_left.result.count ≤ count = rw c.last_left.ensures (last-few (drops_plain a.moved.sizes.m a.moment.plain a.drops.now (get_or slots (count - 1) 0)) count).1 in record {
      count_le_slots_length = (omega (arith, W.1), W.2, λ j h. W.3 j (omega arith));
      by_index = λ marks H. rw c.last_left.ensures
          (moment-kept a.moved.sizes a.moved.list.now a.moved.sets.now a.drops.now c.args.moved.accepted marks a.moment H a.k c.requires.0 slots a.slots.now count
          (sym c.is_marked.ensures ∙ c.if-is_marked.false) (gathered c.before.before.before.before marks H));
    }
