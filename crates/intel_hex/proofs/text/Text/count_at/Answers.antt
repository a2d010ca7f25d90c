-- `count_at` gives the number of a record's bytes.
use Rattle.flash.proofs.Kit.{sym, ◌∙◌}
use Rattle.intel_hex.proofs.HeadLaws.{count-upper, count-data}
use Rattle.intel_hex.proofs.KindLaws.{not-upper}
use Rattle.intel_hex.proofs.text.Text.count_at.Goals as goal

pub returns-in-Upper : goal.returns-in-Upper
returns-in-Upper c = sym (count-upper c.args.self.now.codes.now c.args.at (sym c.in-Upper.ensures))

pub returns-in-Data : goal.returns-in-Data
returns-in-Data c =
    let a = c.args in
    c.byte_at.ensures.0 ∙ sym (count-data a.self.now.codes.now a.at (λ e. not-upper _ c.in-Data.is (c.kind_at.ensures ∙ e)))
