-- `repeats` looks at each span by itself.
use Rattle.flash.proofs.Kit.{◌+◌, ◌/◌, sym, ◌∙◌, eqb-true, eqb-false, arith, below_more, length-take-le}
use Rattle.intel_hex.proofs.ReadLaws.{repeats-found, repeats-none, repeats-survey}
use Rattle.intel_hex.proofs.read.repeats.Goals as goal

pub returns-then-is_bad_text : goal.returns-then-is_bad_text
returns-then-is_bad_text c =
    let a = c.args in
    repeats-survey a.text.now.codes.now a.found.size a.found a.tops.now c.requires.survey_is (eqb-true _ 10 (sym c.is_bad_text.ensures ∙ c.if-is_bad_text.true))

pub returns-then-span_repeats : goal.returns-then-span_repeats
returns-then-span_repeats c =
    let a = c.args in
    repeats-found a.text.now.codes.now a.found.size c.loop-w.w (c.span_repeats.ensures.repeated c.if-span_repeats.true)

pub loop-w-preserved : goal.loop-w-preserved
loop-w-preserved c =
    below_more _ _ c.loop-w.invariant (λ e. eqb-false _ 10 (sym c.is_bad_text.ensures ∙ c.if-is_bad_text.false) (sym (c.span_repeats.ensures.none c.if-span_repeats.false) ∙ e))

pub returns : goal.returns
returns c =
    let a = c.args in
    let few = length-take-le (a.found.size / 65536 + 1) a.tops.now (omega arith) in
    repeats-none a.text.now.codes.now a.found.size (λ v h. c.loop-w.invariant v (omega arith))
