-- `read` judges the text, then puts its bytes.
use Rattle.flash.proofs.Kit.{refl, ap, length}
use Rattle.flash.specs.Refusals.{number_in}
use Rattle.intel_hex.proofs.VerdictLaws.{handed-on, not-carried}
use Rattle.intel_hex.proofs.ReadLaws.{read-repeated, read-faulty, read_whole}
use Rattle.intel_hex.proofs.read.read.Goals as goal

pub returns-then-repeats : goal.returns-then-repeats
returns-then-repeats c =
    let a = c.args in
    let S = rw c.new-text.ensures at c.survey-found.ensures in
    read-repeated a.text.now (length a.image.now) a.image.now refl _ (rw (c.new-text.ensures, S.size_is) at c.repeats.ensures) c.if-repeats.true

pub returns-in_err-found : goal.returns-in_err-found
returns-in_err-found c =
    let a = c.args in
    let S = rw c.new-text.ensures at c.survey-found.ensures in
    let v = c.survey-found.result.verdict in
    let r = c.from_residual.result in
    let e = c.in_err-found.field-0.0 in
    rw (handed-on v r e c.in_err-found.was c.from_residual.ensures.1)
    (read-faulty a.text.now (length a.image.now) a.image.now refl c.survey-found.result _ _ S (rw (c.new-text.ensures, S.size_is) at c.repeats.ensures)
    c.if-repeats.false (not-carried v r e c.in_err-found.was c.from_residual.ensures.1))

pub returns : goal.returns
returns c =
    let a = c.args in
    let S = rw c.new-text.ensures at c.survey-found.ensures in
    read_whole a.text.now (length a.image.now) a.image.now refl c.survey-found.result _ _ S (rw (c.new-text.ensures, S.size_is) at c.repeats.ensures)
    c.if-repeats.false _ (ap number_in c.in_ok-found.was) (rw (c.new-text.ensures, S.size_is) at c.put_all.ensures)
