-- An accepted request is listed in the form that is asked for.
use Rattle.flash.proofs.Kit.{arith, sym, ◌∙◌}
use Rattle.listing.proofs.InputLaws.{bounded}
use Rattle.listing.proofs.PrintLaws.{first-printed}
use Rattle.steplist.proofs.LengthLaws.{refused-short}
use Rattle.steplist.proofs.FormLaws.{listed-bytes, listed-dropped, listed-originals, accepted}
use Rattle.steplist.proofs.answer.put_form.Goals as goal

pub returns-then-not-named : goal.returns-then-not-named
returns-then-not-named c =
    let a = c.args in
    rw (listed-bytes a.sizes a.list.now a.sets.now a.originals.now c.requires.0 a.named c.if-not-named.true) c.put_accepted.ensures

pub put_refused-requires : goal.put_refused-requires
put_refused-requires c = omega (arith, refused-short)

pub returns-then-has_drop : goal.returns-then-has_drop
returns-then-has_drop c =
    let a = c.args in
    let dropped = sym c.has_drop.ensures ∙ c.if-has_drop.true in
    rw (listed-dropped a.sizes a.list.now a.sets.now a.originals.now c.requires.0 a.named c.if-not-named.false dropped)
    (first-printed c.put_refused.ensures)

pub put_method-requires : goal.put_method-requires
put_method-requires c =
    let a = c.args in
    let l = bounded a.sizes c.requires.0.readable.allowed in
    let undropped = sym c.has_drop.ensures ∙ c.if-has_drop.false in
    (accepted a.sizes a.list.now a.sets.now a.originals.now c.requires.0 undropped, l.few-blocks, l.few-pages, omega arith)

pub returns : goal.returns
returns c =
    let a = c.args in
    let undropped = sym c.has_drop.ensures ∙ c.if-has_drop.false in
    rw (listed-originals a.sizes a.list.now a.sets.now a.originals.now c.requires.0 undropped a.named c.if-not-named.false) c.put_method.ensures
