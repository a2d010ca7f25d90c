-- `kind_at` tells the type of a record from its byte.
use Rattle.flash.proofs.Kit.{sym, arith}
use Rattle.intel_hex.proofs.HeadLaws.{kind-digits}
use Rattle.intel_hex.proofs.KindLaws.{type-last}
use Rattle.intel_hex.proofs.text.Text.kind_at.Goals as goal

pub byte_at-requires : goal.byte_at-requires
byte_at-requires c =
    let a = c.args in
    (omega (arith, c.requires.inside), kind-digits a.self.now.codes.now a.at c.requires)

pub returns-in_default : goal.returns-in_default
returns-in_default c =
    let e = c.byte_at.ensures.0 in
    sym (type-last _ _ _ c.requires.known (λ z. omega (arith, e, z)) (λ z. omega (arith, e, z)))
