-- The loop takes the highest block of the way back, which is the top.
use Rattle.flash.proofs.Kit.{refl, sym, ap, ◌∙◌, inl, inr, add-one, arith}
use Rattle.method.proofs.cycles.Orbits.{iterate, iterate-last}
use Rattle.walk.specs.inner.Rows.{entry_of}
use Rattle.walk.proofs.RoundLaws.{highest-first, highest-next, highest-top}
use Rattle.walk.proofs.walk.top_of.Goals as goal

pub loop-turn-init : goal.loop-turn-init
unfolding iterate
loop-turn-init c = (refl, omega arith, omega arith, highest-first _ _)

pub returns-then-u-v : goal.returns-then-u-v
returns-then-u-v c =
    let a = c.args in
    let l = c.loop-turn in
    let next = c.from-u.ensures ∙ ap (entry_of a.sources.now) l.invariant.0 ∙ sym (iterate-last (entry_of a.sources.now) l._turn a.v) in
    λ M set A ok e S.
    highest-top M A set ok _ (record { low = omega arith; high = omega arith }) _ S l._turn l.top l.invariant.3 (inr (sym next ∙ c.if-u-v.true))

pub loop-turn-preserved : goal.loop-turn-preserved
loop-turn-preserved c =
    let S = c.requires.0 in
    let a = c.args in
    let l = c.loop-turn in
    let w = c.from-u in
    let next = w.ensures ∙ ap (entry_of a.sources.now) l.invariant.0 ∙ sym (iterate-last (entry_of a.sources.now) l._turn a.v) in
    rw (add-one l._turn) (
      next,
      rw w.ensures (S.low l.u (omega arith) (omega arith)),
      rw w.ensures (S.high l.u (omega arith) (omega arith)),
      highest-next _ _ l._turn l.top w.result _ l.invariant.3 next c.max-top.ensures,
    )

pub returns : goal.returns
returns c =
    let l = c.loop-turn in
    λ M set A ok e S.
    highest-top M A set ok _ (record { low = omega arith; high = omega arith }) _ S l._turn l.top l.invariant.3 (inl (omega arith))
