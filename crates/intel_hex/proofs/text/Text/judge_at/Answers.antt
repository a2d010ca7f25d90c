-- `judge_at` decides the number, or finds that the pass goes on.
use Rattle.flash.proofs.Kit.{sym, ◌∙◌, inl, inr, arith}
use Rattle.intel_hex.proofs.LineLaws.{bad-record}
use Rattle.intel_hex.proofs.HeadLaws.{size_small, count-size}
use Rattle.intel_hex.proofs.TurnLaws.{stops-nothing, stops-malformed, stops_end, stops-after, stops-outside, steps}
use Rattle.intel_hex.proofs.TurnLaws.{offset-small}
use Rattle.intel_hex.proofs.KindLaws.{not-end}
use Rattle.intel_hex.proofs.text.Text.judge_at.Goals as goal

pub returns-then-at-self : goal.returns-then-at-self
returns-then-at-self c = stops-nothing _ _ _ _ c.if-at-self.true

pub returns-then-not-is_good : goal.returns-then-not-is_good
returns-then-not-is_good c =
    let bad = bad-record (omega (arith, c.if-at-self.false, c.requires.0)) (c.is_good.ensures.bad c.if-not-is_good.true) in
    stops-malformed _ _ _ _ bad.0 bad.1

pub returns-then-next_at-self : goal.returns-then-next_at-self
returns-then-next_at-self c =
    let G = c.is_good.ensures.good c.if-not-is_good.false in
    stops_end _ _ _ _ G (sym c.in-End.ensures) (sym c.next_at.ensures ∙ c.if-next_at-self.true)

pub returns-else-next_at-self : goal.returns-else-next_at-self
returns-else-next_at-self c =
    let G = c.is_good.ensures.good c.if-not-is_good.false in
    stops-after _ _ _ _ G (sym c.in-End.ensures) (λ e. c.if-next_at-self.false (c.next_at.ensures ∙ e))

pub overflow_add-end : goal.overflow_add-end
overflow_add-end c =
    let a = c.args in
    let G = c.is_good.ensures.good c.if-not-is_good.false in
    let p = c.offset_at.ensures in
    let n = c.count_at.ensures in
    omega (arith, offset-small a.self.now.codes.now a.at a.upper a.size G c.requires.1, count-size a.self.now.codes.now a.at, size_small a.self.now.codes.now a.at G)

pub returns-then-upper-end : goal.returns-then-upper-end
returns-then-upper-end c =
    let G = c.is_good.ensures.good c.if-not-is_good.false in
    let p = c.offset_at.ensures in
    let n = c.count_at.ensures in
    stops-outside _ _ _ _ G (λ e. not-end _ c.in_default.not-End (c.kind_at.ensures ∙ e)) (inl (omega (arith, c.if-upper-end.true)))

pub returns-then-size-end : goal.returns-then-size-end
returns-then-size-end c =
    let G = c.is_good.ensures.good c.if-not-is_good.false in
    let p = c.offset_at.ensures in
    let n = c.count_at.ensures in
    stops-outside _ _ _ _ G (λ e. not-end _ c.in_default.not-End (c.kind_at.ensures ∙ e)) (inr (omega (arith, c.if-size-end.true)))

pub returns-else-size-end : goal.returns-else-size-end
returns-else-size-end c =
    let G = c.is_good.ensures.good c.if-not-is_good.false in
    let p = c.offset_at.ensures in
    let n = c.count_at.ensures in
    steps _ _ _ _ G (λ e. not-end _ c.in_default.not-End (c.kind_at.ensures ∙ e)) (omega (arith, c.if-upper-end.false))
    (omega (arith, c.if-size-end.false)) c.requires.1
