-- `put_record` prints the text of a record.
use Rattle.flash.proofs.Kit.{◌≡◌, ap, ◌∙◌, List, ◌∷◌, ◌++◌, ℕ, ◌+◌, ◌*◌, ◌/◌, ◌%◌, length, take, drop, replicate}
use Rattle.flash.specs.Lists.{concat_map, total}
use Rattle.listing.specs.Digits.{capitals, hex}
use Rattle.listing.proofs.PrintLaws.{printed-then}
use Rattle.intel_hex.specs.inner.Kinds.{code_of}
use Rattle.intel_hex.proofs.Prints.{zeros-total, front-digits, record-parts}
use Rattle.intel_hex.proofs.print.put_record.Goals as goal

pub returns : goal.returns
returns c =
    let a = c.args in
    let bytes : List ℕ = a.bytes.now in
    let zeros : List ℕ = drop (4 + length bytes) (replicate 24 0) in
    let none = zeros-total (4 + length bytes) 24 in
    let front : List ℕ = length bytes ∷ a.address / 256 ∷ a.address % 256 ∷ code_of a.kind ∷ bytes in
    let g = c.gather.ensures in
    let spelt : take (8 + 2 * length bytes) c.spell-sum.new.digits ≡ concat_map (hex capitals) front =
    ap (take (8 + 2 * length bytes)) (c.spell-sum.ensures.0 ∙ ap (concat_map (hex capitals)) g)
    ∙ front-digits (code_of a.kind) a.address bytes zeros none in
    let sum : c.spell-sum.result ≡ total (front ++ zeros) = c.spell-sum.ensures.1 ∙ ap total g in
    rw (← record-parts (code_of a.kind) a.address bytes zeros none, ← sum, ← spelt)
    (printed-then c.put_text-past_colon.ensures (printed-then c.put_text-past_digits.ensures c.put_tail.ensures))
