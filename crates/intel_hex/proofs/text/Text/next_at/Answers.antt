-- `next_at` gives the position behind a record.
use Rattle.flash.proofs.Kit.{ℕ, ◌+◌, ◌*◌, ◌∙◌, ap}
use Rattle.intel_hex.specs.inner.Lines.{next_from}
use Rattle.intel_hex.proofs.NextLaws.{ends-at}
use Rattle.intel_hex.proofs.text.Text.next_at.Goals as goal

pub returns : goal.returns
returns c =
    let a = c.args in
    ends-at _ _ _ c.next_from.ensures c.unwrap.ensures ∙ ap (λ (x : ℕ). next_from a.self.now.codes.now (a.at + 11 + 2 * x)) c.byte_at.ensures.0
