-- `fit` tells whether every number is at most `most`, before numbers are cut to fewer bits.
use Rattle.std.proofs.Common.{rules, IsTrue, EachIndex, slice_index, ◌↔◌}
use Rattle.flash.proofs.Kit.{◌≤◌}
use Rattle.listing.proofs.Told.{all-told}
use Rattle.listing.proofs.fit.fit.Goals as goal

pub returns : goal.returns
returns c =
    let a = c.args in
    let told : IsTrue c.all.result ↔ EachIndex a.numbers.now (λ k. slice_index a.numbers.now k ≤ a.most) = search rules in
    all-told a.most a.numbers.now c.all.result told
