-- `half_at` gives the upper half behind a record.
use Rattle.flash.proofs.Kit.{sym, ◌∙◌, arith}
use Rattle.intel_hex.proofs.HeadLaws.{upper_digits, two_bytes, half-upper, half-data}
use Rattle.intel_hex.proofs.KindLaws.{not-upper}
use Rattle.intel_hex.proofs.text.Text.half_at.Goals as goal

pub word_at-requires : goal.word_at-requires
word_at-requires c =
    let a = c.args in
    let k = sym c.in-Upper.ensures in
    (omega (arith, c.requires.inside, two_bytes a.self.now.codes.now a.at c.requires k), upper_digits a.self.now.codes.now a.at c.requires k)

pub returns-in-Upper : goal.returns-in-Upper
returns-in-Upper c =
    let a = c.args in
    c.word_at.ensures.0 ∙ sym (half-upper a.self.now.codes.now a.at a.upper (sym c.in-Upper.ensures))

pub returns-in-Data : goal.returns-in-Data
returns-in-Data c =
    let a = c.args in
    sym (half-data a.self.now.codes.now a.at a.upper (λ e. not-upper _ c.in-Data.is (c.kind_at.ensures ∙ e)))
