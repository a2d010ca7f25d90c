-- The split call answers as its definition does: by the rule on the completed list where no row fits, else with the row's number and nothing
-- changed.
use Rattle.std.proofs.lemmas.Result.{err_from_is_err_and}
use Rattle.flash.proofs.Kit.{◌≢◌, refl, sym, ap, ◌∙◌, arith}
use Rattle.flash.specs.Refusals.{number_of}
use Rattle.split.specs.Rule.{split_by_rule}
use Rattle.flash.proofs.Refused.{some-number}
use Rattle.split.proofs.Answers.{lent-good, accepted, answered-0, left-completed, answered-refused, left-lent}
use Rattle.split.proofs.call.split.Goals as goal

pub returns-in_err-refusal : goal.returns-in_err-refusal
returns-in_err-refusal c =
    let p = err_from_is_err_and c.from_residual.result c.from_residual.ensures.1 in
    let e = c.in_err-refusal.ensures.value in
    let some : number_of c.in_err-refusal.field-0.0 ≢ 0 = λ z. absurd (omega (arith, some-number c.in_err-refusal.field-0.0)) in
    rw (p.1, p.2) (record { sets_after = answered-refused _ _ e some; list_after = left-lent _ _ e some })

pub complete_list-requires : goal.complete_list-requires
complete_list-requires c =
    let e = c.in_ok-refusal.ensures in
    let good = lent-good _ (sym e.value) in
    (good.0, good.1, e.kept_marked refl)

pub fill-requires : goal.fill-requires
fill-requires c = rw c.complete_list.ensures (accepted _ (sym c.in_ok-refusal.ensures.value))

pub returns : goal.returns
returns c =
    let list = c.complete_list.ensures in
    record { sets_after = answered-0 _ _ _ c.in_ok-refusal.ensures.value refl (c.fill.ensures ∙ ap (split_by_rule _ _) list); list_after = left-completed _ _ _ refl list }
