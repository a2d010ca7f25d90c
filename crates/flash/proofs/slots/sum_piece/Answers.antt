-- `sum_piece` leaves a piece of the sum of up to four pages of the store in a part outside it.
use Rattle.flash.proofs.Kit.{◌≡◌, refl, sym, ap, ◌∙◌, cond, List, [], ℕ, ◌+◌, ◌≤◌, ◌<◌, arith, length, get_or, drop}
use Rattle.flash.proofs.Kit.{length-set, length-take, length-drop, get_or-take, get_or-drop}
use Rattle.flash.specs.PageSum.{◌⊕◌}
use Rattle.flash.specs.declared.slots.Terms.{Terms}
use Rattle.flash.specs.inner.Terms.{sum_at, sum_of}
use Rattle.flash.proofs.Loops.{front_at, front-more, front-all}
use Rattle.flash.proofs.PassLaws.{length-sum_of, sum_of-at, length-summed, passed-at}
use Rattle.flash.proofs.slots.sum_piece.Invariants.{due}
use Rattle.flash.proofs.slots.sum_piece.Goals as goal

module _ (store : List ℕ) (p : ℕ) (terms : Terms) (at size : ℕ) (inside : at + size ≤ p) where
  length-due : length (due store p terms at size) ≡ size
  length-due = simp (length-take, length-drop) (omega (arith, length-sum_of store p terms))

  due-at : (j : ℕ) → j < size → get_or (due store p terms at size) j 0 ≡ sum_at store p terms (at + j)
  due-at j h =
      get_or-take size (drop at (sum_of store p terms)) j 0 h
      ∙ get_or-drop at (sum_of store p terms) j 0
      ∙ sum_of-at store p terms (at + j) (omega arith)

pub loop-j-init : goal.loop-j-init
loop-j-init c = refl

pub loop-j-preserved : goal.loop-j-preserved
loop-j-preserved c =
    let l = c.loop-j in
    let a = c.args in
    let piece = a.piece.now in
    let size = length piece in
    let sum = due a.store.now a.p a.terms a.at size in
    let whole = length-due a.store.now a.p a.terms a.at size c.requires.1 in
    let new = cond a.add piece [] ⊕ sum in
    let length-new = length-summed a.add piece sum whole in
    let inside : l.j < length piece = omega arith in
    let old = ap (λ (s : List ℕ). get_or s l.j 0) l.invariant ∙ front_at new piece l.j length-new inside in
    let read = c.sum_at.ensures ∙ sym (due-at a.store.now a.p a.terms a.at size c.requires.1 l.j inside) in
    let byte = passed-at a.add piece sum l.j _ _ _ old read c.added.ensures in
    rw (l.invariant, byte) (front-more new piece l.j length-new inside)

pub returns : goal.returns
returns c =
    let a = c.args in
    let l = c.loop-j in
    let size = length a.piece.now in
    let sum = due a.store.now a.p a.terms a.at size in
    let length-new = length-summed a.add a.piece.now sum (length-due a.store.now a.p a.terms a.at size c.requires.1) in
    l.invariant ∙ front-all (cond a.add a.piece.now [] ⊕ sum) a.piece.now l.j length-new (omega arith)
