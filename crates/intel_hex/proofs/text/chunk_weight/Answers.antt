-- `chunk_weight` weighs a chunk, or says that it is too heavy.
use Rattle.flash.proofs.Kit.{sym, ◌∙◌, arith}
use Rattle.intel_hex.proofs.WeightLaws.{digits-weigh}
use Rattle.intel_hex.proofs.ChunkLaws.{none-digits, weighs-all, weighs-other}
use Rattle.intel_hex.proofs.text.chunk_weight.Goals as goal

pub returns-then-others-ne0 : goal.returns-then-others-ne0
returns-then-others-ne0 c =
    let a = c.args in
    (weighs-other a.codes.now a.from 16 (λ e. c.if-others-ne0.true (c.others.ensures ∙ e)), omega arith)

pub total-requires : goal.total-requires
total-requires c =
    let a = c.args in
    (c.requires, none-digits a.codes.now a.from 32 (sym c.others.ensures ∙ c.if-others-ne0.false))

pub returns : goal.returns
returns c =
    let a = c.args in
    let D = none-digits a.codes.now a.from 32 (sym c.others.ensures ∙ c.if-others-ne0.false) in
    (weighs-all a.codes.now a.from 16 _ c.total.ensures, omega (arith, c.total.ensures, digits-weigh a.codes.now a.from 16 D))
