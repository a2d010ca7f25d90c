-- `offset_at` gives the offset of a record's bytes.
use Rattle.flash.proofs.Kit.{sym, ◌∙◌, arith}
use Rattle.intel_hex.proofs.HeadLaws.{address-digits, offset-upper, offset-data}
use Rattle.intel_hex.proofs.KindLaws.{not-upper}
use Rattle.intel_hex.proofs.text.Text.offset_at.Goals as goal

pub returns-in-Upper : goal.returns-in-Upper
returns-in-Upper c =
    let a = c.args in
    sym (offset-upper a.self.now.codes.now a.at a.upper (sym c.in-Upper.ensures))

pub word_at-requires : goal.word_at-requires
word_at-requires c =
    (omega (arith, c.requires.0.inside), address-digits c.args.self.now.codes.now c.args.at c.requires.0)

pub returns-in-Data : goal.returns-in-Data
returns-in-Data c =
    let a = c.args in
    rw c.word_at.ensures.0
    (sym (offset-data a.self.now.codes.now a.at a.upper (λ e. not-upper _ c.in-Data.is (c.kind_at.ensures ∙ e))))
