-- `set_rest` makes the spare blank, and marks the data blocks 0.
use Rattle.flash.proofs.Kit.{◌++◌, ap, ◌∙◌, ℕ, drop, replicate, arith, length-take-le}
use Rattle.flash.specs.Chip.{erased}
use Rattle.intel_hex.proofs.CallLaws.{rest-marks}
use Rattle.intel_hex.proofs.call.set_rest.Goals as goal

pub returns : goal.returns
returns c =
    let a = c.args in
    let few = ap (λ (x : ℕ). replicate x erased) (length-take-le a.spare a.store.now (omega arith)) in (
      ap (λ front. front ++ drop a.spare a.store.now) (c.fill.ensures.after (λ y e. e) ∙ few),
      rest-marks a.marks.now c.fill-2.new.self c.fill-3.new.self a.pages (omega arith) (c.fill-2.ensures.after (λ y e. e))
          (c.fill-3.ensures.after (λ y e. e)),
    )
