-- `sum_within` leaves the sum of up to four pages of the store in another page of it, from a byte on.
use Rattle.flash.proofs.Kit.{◌≡◌, refl, sym, ap, ◌∙◌, List, ◌++◌, ℕ, ◌+◌, ◌-◌, ◌*◌, ◌≤◌, arith, length, get_or, take, drop}
use Rattle.flash.proofs.Kit.{length-set, length-append, length-take, length-drop, length-take-le, take_at, get_or-drop}
use Rattle.flash.proofs.Kit.{get_or-append-add, take-append-drop}
use Rattle.flash.specs.Lists.{part, set_part}
use Rattle.flash.specs.inner.Terms.{sum_of, passed}
use Rattle.flash.proofs.Loops.{front_at, front-more, front-all}
use Rattle.flash.proofs.Parts.{length_part, set_part-at}
use Rattle.flash.proofs.PassLaws.{sum_of-at, sum_of-kept, length-passed, passed-at}
use Rattle.flash.proofs.SlotLaws.{set_part-self, set-set_part}
use Rattle.flash.proofs.slots.sum_within.Invariants.{joined}
use Rattle.flash.proofs.slots.sum_within.Goals as goal

module _ (from : ℕ) (page new : List ℕ) (e : length new ≡ length page) (h : from ≤ length page) where
  length-joined : length (joined from page new) ≡ length page
  length-joined = simp (length-append, length-take, length-drop) (omega arith)

  joined_at : (i : ℕ) → from ≤ i → get_or (joined from page new) i 0 ≡ get_or new i 0
  joined_at i l =
      let size : length (take from page) ≡ from = length-take-le from page h in
      let i-is : i ≡ length (take from page) + (i - from) = omega arith in
      let back : from + (i - from) ≡ i = omega arith in
      ap (λ (k : ℕ). get_or (joined from page new) k 0) i-is
      ∙ get_or-append-add (take from page) (drop from new) (i - from) 0
      ∙ get_or-drop from new (i - from) 0
      ∙ ap (λ (k : ℕ). get_or new k 0) back

  joined-begun : take from (joined from page new) ++ drop from page ≡ page
  joined-begun = rw (take_at (take from page) (drop from new) from (length-take-le from page h)) (take-append-drop from page)

pub loop-i-init : goal.loop-i-init
loop-i-init c =
    let a = c.args in
    let page = part a.p a.to a.store.now in
    let whole = length_part a.p a.to a.store.now c.requires.p_in_bounds.0 in
    let new = passed a.store.now a.p a.terms a.add page in
    let begun = joined-begun a.from page new (length-passed a.store.now a.p a.terms a.add page whole) (omega arith) in
    (sym (ap (set_part a.p a.to a.store.now) begun ∙ set_part-self _ _ _), refl)

pub sum_at-sum-requires : goal.sum_at-sum-requires
sum_at-sum-requires c =
    (rw c.loop-i.invariant.1 c.requires.each_term.0, omega arith)

pub loop-i-preserved : goal.loop-i-preserved
loop-i-preserved c =
    let l = c.loop-i in
    let a = c.args in
    let fits = c.requires.p_in_bounds.0 in
    let page = part a.p a.to a.store.now in
    let whole = length_part a.p a.to a.store.now fits in
    let new = passed a.store.now a.p a.terms a.add page in
    let length-new = length-passed a.store.now a.p a.terms a.add page whole in
    let to-be = joined a.from page new in
    let length-to-be = length-joined a.from page new length-new (omega arith) in
    let mid = take l.i to-be ++ drop l.i page in
    let size : length mid ≡ a.p = simp (length-append, length-take, length-drop) (omega arith) in
    let old = ap (λ (s : List ℕ). get_or s (a.to * a.p + l.i) 0) l.invariant.0
    ∙ set_part-at a.p a.to a.store.now mid fits size l.i 0 (omega arith)
    ∙ front_at to-be page l.i length-to-be (omega arith) in
    let kept = sum_of-kept a.p a.to a.store.now mid l.store a.terms fits size l.invariant.0 c.requires.each_term.1 in
    let read = c.sum_at-sum.ensures ∙ sym (sum_of-at l.store a.p a.terms l.i (omega arith))
    ∙ ap (λ (s : List ℕ). get_or s l.i 0) kept in
    let byte = passed-at a.add page (sum_of a.store.now a.p a.terms) l.i _ _ _ old read c.added.ensures
    ∙ sym (joined_at a.from page new length-new (omega arith) l.i (omega arith)) in (
      set-set_part a.p a.to a.store.now mid l.store fits size l.invariant.0 l.i c.added.result (omega arith)
          ∙ ap (set_part a.p a.to a.store.now) (rw byte (front-more to-be page l.i length-to-be (omega arith))),
      simp length-set (omega arith),
    )

pub returns : goal.returns
returns c =
    let a = c.args in
    let l = c.loop-i in
    let page = part a.p a.to a.store.now in
    let whole = length_part a.p a.to a.store.now c.requires.p_in_bounds.0 in
    let new = passed a.store.now a.p a.terms a.add page in
    let length-to-be = length-joined a.from page new (length-passed a.store.now a.p a.terms a.add page whole) (omega arith) in
    l.invariant.0 ∙ ap (set_part a.p a.to a.store.now)
    (front-all (joined a.from page new) page l.i length-to-be (omega arith))
