-- `check` tells whether the entries of the kept pages are one-to-one, and leaves their marks.
use Rattle.flash.proofs.Kit.{◌≡◌, sym, ap, ◌∙◌, Bool, true, cond, arith, length}
use Rattle.split.specs.OneToOne.{bad_list}
use Rattle.split.specs.inner.Mask.{is_marked}
use Rattle.split.proofs.DropLaws.{is-kept, is-dropped}
use Rattle.split.proofs.CheckLaws.{none-checked, all-checked, all-marked, check-dropped, too_large, repeated, check-kept}
use Rattle.split.proofs.list.check.Goals as goal
use Rattle.split.proofs.list.check.Goals.{else-lent, then-lent+else-originals-number+else-is_marked}
use Rattle.split.proofs.list.check.Goals.{then-originals-number-via-then-originals-number, then-originals-number-via-else-originals-number+then-is_marked}

pub loop-lent-init : goal.loop-lent-init
loop-lent-init c = none-checked _ _ _ c.requires.1 (ap length c.requires.1)

pub returns-then-originals-number : goal.returns-then-originals-number
returns-then-originals-number c =
    let l = c.loop-lent in
    let kept = is-kept c.args.list.now l.lent-index c.if-lent.true in
    let bad : bad_list c.args.originals c.args.list.now ≡ true = elim c.then-originals-number.branch [
      | then-originals-number-via-then-originals-number w ↦ too_large _ _ _ _ l.invariant c.loop-lent-test.true kept (omega arith)
      | then-originals-number-via-else-originals-number+then-is_marked w ↦ repeated _ _ _ _ l.invariant c.loop-lent-test.true kept
          (ap (is_marked l.marks) (sym c.from-number.ensures) ∙ sym w.is_marked.ensures ∙ w.if-is_marked.true)
    ] in
    record { value = ap (λ (bad : Bool). cond bad 3 0) (sym bad); kept_marked = λ e. absurd (omega arith) }

pub loop-lent-preserved : goal.loop-lent-preserved
loop-lent-preserved c =
    let l = c.loop-lent in
    elim c.if-lent.branch [
      | then-lent+else-originals-number+else-is_marked w ↦ let number = w.from-number.ensures in
          let fresh = ap (is_marked l.marks) (sym number) ∙ sym w.is_marked.ensures ∙ w.if-is_marked.false in
          rw w.marks-is (check-kept _ _ _ _ l.invariant c.loop-lent-test.true (is-kept _ _ w.if-lent.true) w.mark.new.masks (omega arith) fresh
          (omega (arith, w.mark.auto.masks, l.invariant.sized)) (λ x. rw (← number) (w.mark.ensures x)))
      | else-lent w ↦ rw w.marks-is (check-dropped _ _ _ _ l.invariant c.loop-lent-test.true (is-dropped _ _ w.if-lent.false))
    ]

pub returns : goal.returns
returns c =
    let l = c.loop-lent in
    record { value = ap (λ (bad : Bool). cond bad 3 0) (sym (all-checked _ _ _ _ l.invariant c.loop-lent-test.false)); kept_marked = λ e. all-marked _ _ _ _ l.invariant c.loop-lent-test.false }
