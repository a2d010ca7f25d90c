-- `least_y` looks for a refusal, then at the pages.
use Rattle.std.proofs.lemmas.Result.{err_from_is_err_and}
use Rattle.flash.proofs.Kit.{sym, arith}
use Rattle.flash.proofs.Refused.{some-number}
use Rattle.orders.proofs.RowLaws.{passed, surveyable, least-refused, least-17}
use Rattle.orders.proofs.CallLaws.{least-answered}
use Rattle.orders.proofs.calls.least_y.Goals as goal

pub returns-in_err-list_refusal : goal.returns-in_err-list_refusal
returns-in_err-list_refusal c =
    let p = err_from_is_err_and c.from_residual.result c.from_residual.ensures.1 in
    let e = c.in_err-list_refusal.ensures in
    rw (p.1, p.2) (least-refused _ _ _ _ _ e (λ z. absurd (omega (arith, some-number c.in_err-list_refusal.field-0.0))))

pub places_of-requires : goal.places_of-requires
places_of-requires c =
    let P = passed _ _ _ _ _ (sym c.in_ok-list_refusal.ensures) in
    (P.n-high, P.order-size)

pub returns-in_default : goal.returns-in_default
returns-in_default c = least-17 _ _ _ _ (sym c.in_ok-list_refusal.ensures) c.in_default.ensures

pub survey-requires : goal.survey-requires
survey-requires c =
    let P = passed _ _ _ _ _ (sym c.in_ok-list_refusal.ensures) in
    (surveyable _ _ _ 64 _ _ P P.n-high, c.in-Some.ensures.1.size)

pub returns : goal.returns
returns c =
    least-answered _ _ _ _ (sym c.in_ok-list_refusal.ensures) c.in-Some.ensures.0 _ c.in-Some.ensures.1 _ c.survey.ensures
