-- `last_to_slot` makes of the page of a slot what a pass makes of it, piece by piece, and counts it.
use Rattle.flash.proofs.Kit.{◌≡◌, refl, sym, ap, ◌∙◌, ℕ, ◌+◌, ◌-◌, ◌*◌, ◌≤◌, arith, take, length-take, length-drop}
use Rattle.flash.proofs.Kit.{take_all}
use Rattle.flash.specs.Lists.{part, set_part, count}
use Rattle.flash.specs.PageSum.{written_bytes}
use Rattle.flash.specs.inner.Terms.{passed}
use Rattle.flash.proofs.Loops.{front-all}
use Rattle.flash.proofs.Parts.{length_part, part-set_part, lent-piece}
use Rattle.flash.proofs.PassLaws.{length-passed, rest-counted}
use Rattle.flash.proofs.SlotLaws.{set_part-self, slot-piece, slot-put, slot-rest}
use Rattle.flash.proofs.Written.{written-most}
use Rattle.flash.proofs.slots.last_to_slot.Goals as goal

pub loop-i-init : goal.loop-i-init
unfolding written_bytes count
loop-i-init c = (sym (set_part-self _ _ _), refl, omega arith, omega arith, refl)

pub make_piece-requires : goal.make_piece-requires
make_piece-requires c =
    record { each_term = (rw c.loop-i.invariant.4 c.requires.0, omega arith); len = (simp (length-take, length-drop) (omega arith), omega arith) }

pub loop-i-preserved : goal.loop-i-preserved
loop-i-preserved c =
    let mk = c.make_piece in
    let l = c.loop-i in
    let a = c.args in
    let s : ℕ = a.to * a.p + l.i in
    let new = passed a.store.now a.p a.terms a.add (part a.p a.to a.store.now) in
    let n-is : s + 128 - s ≡ 128 = omega arith in
    let fits : l.i + 128 ≤ a.p = omega (arith, c.loop-i-test.true) in
    let m = slot-piece a.p a.to a.store.now l.store a.terms a.add l.i c.requires.2 c.requires.1 l.invariant.3 l.invariant.0
    128 _ fits (rw n-is at mk.ensures.0) in
    let counted = rw (← l.invariant.1, ← mk.ensures.1, ← c.from-written.ensures) at m.counted in (
      rw (n-is, c.copy_from_slice.ensures.after)
          (slot-put a.p a.to a.store.now l.store a.terms a.add l.i c.requires.2 c.requires.1 l.invariant.3 l.invariant.0 128 _ fits m),
      counted,
      omega (arith, counted, written-most (take (l.i + 128) new), length-take (l.i + 128) new),
      omega arith,
      omega (arith, c.store-1.given),
    )

pub returns-then-i-p : goal.returns-then-i-p
returns-then-i-p c =
    let l = c.loop-i in
    let a = c.args in
    let page = part a.p a.to a.store.now in
    let whole = length_part a.p a.to a.store.now c.requires.2 in
    let new = passed a.store.now a.p a.terms a.add page in
    let size = length-passed a.store.now a.p a.terms a.add page whole in (
      l.invariant.0 ∙ ap (set_part a.p a.to a.store.now) (front-all new page l.i size (omega arith)),
      l.invariant.1 ∙ ap written_bytes (take_all l.i new (omega arith)),
    )

pub sum_within-requires : goal.sum_within-requires
sum_within-requires c =
    let pre = c.requires in
    record { each_term = (rw c.loop-i.invariant.4 pre.0, pre.1); p_in_bounds = (omega arith, omega arith) }

pub returns : goal.returns
returns c =
    let sw = c.sum_within in
    let l = c.loop-i in
    let a = c.args in
    let page = part a.p a.to a.store.now in
    let whole = length_part a.p a.to a.store.now c.requires.2 in
    let new = passed a.store.now a.p a.terms a.add page in
    let size = length-passed a.store.now a.p a.terms a.add page whole in
    let Store-is = sw.ensures
    ∙ slot-rest a.p a.to a.store.now l.store a.terms a.add l.i c.requires.2 c.requires.1 l.invariant.3 l.invariant.0 in
    let page-is = ap (part a.p a.to) Store-is ∙ part-set_part a.p a.to a.store.now new c.requires.2 (size ∙ whole) in
    let n-is : a.to * a.p + a.p - (a.to * a.p + l.i) ≡ a.p - l.i = omega arith in
    let lent = lent-piece a.p a.to l.i (a.p - l.i) sw.new.store (omega arith) in
    let rest = rw (n-is, lent) at (c.from.ensures ∙ c.count_few.ensures) in
    (Store-is, rest-counted new (part a.p a.to sw.new.store) l.i a.p _ _ page-is (omega arith) l.invariant.3 l.invariant.1 rest)
