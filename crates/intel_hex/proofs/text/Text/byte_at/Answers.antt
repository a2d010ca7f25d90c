-- `byte_at` gives the byte that two digits spell.
use Rattle.flash.proofs.Kit.{◌∙◌, arith}
use Rattle.intel_hex.proofs.WeightLaws.{byte-weight, byte_small}
use Rattle.intel_hex.proofs.text.Text.byte_at.Goals as goal

pub returns : goal.returns
returns c =
    let e = c.weight_from.ensures ∙ byte-weight c.args.self.now.codes.now c.args.at c.requires.1 in
    (e, omega (arith, e, byte_small c.args.self.now.codes.now c.args.at c.requires.1))
