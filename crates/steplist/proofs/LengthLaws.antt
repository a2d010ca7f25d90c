-- How long a line can be.
use Rattle.flash.proofs.Kit.{◌≡◌, ⊎_elim, List, ℕ, ◌+◌, ◌*◌, ◌≤◌, ◌<◌, arith, mul-le-mul, length, length-append}
use Rattle.flash.specs.Lists.{concat_map}
use Rattle.flash.specs.declared.sizes.Sizes.{Sizes}
use Rattle.method.specs.Place.{Pass, forward, backward, operation_at, pass_at, filling, filled, last_place}
use Rattle.method.proofs.places.StepsAtPlaces.{next_block, page-cases, filling-in, operation-writes, operation-erases}
use Rattle.listing.specs.Digits.{small, places_up_to, decimal}
use Rattle.listing.specs.Lines.{write_line, originals_line, erase_line, end_line, refused_line}
use Rattle.listing.proofs.DigitLaws.{length_digits}
use Rattle.listing.proofs.ReadBack.{places-few}
use Rattle.listing.proofs.PrintLaws.{length-hex}
use Rattle.steplist.specs.declared.originals.Originals.{Originals}
use Rattle.steplist.specs.declared.originals.Originals.TheVariants.{One, Two}
use Rattle.steplist.specs.Output.{step_line}
use Rattle.steplist.specs.inner.Originals.{originals_as, Within}

decimal-short : (n : ℕ) → n < 1000 → length (decimal n) ≤ 3
unfolding decimal
decimal-short n h = omega (arith, length_digits small 10 (places_up_to n n) n, places-few 2 n n h)

write-short : (step block page : ℕ) (bytes : List ℕ) → step < 1000 → block < 1000 → page < 1000 → length bytes ≤ 64 → length (write_line step block page bytes) ≤ 149
unfolding write_line
write-short step block page bytes h k l few =
    simp length-append (omega (arith, decimal-short step h, decimal-short block k, decimal-short page l, length-hex small bytes))

-- a line by originals, of which a write has two at most
pub originals-short : (step block page count : ℕ) → step < 1000 → block < 1000 → page < 1000 → count ≤ 1000 → (o : Originals) → Within count o → length (originals_line step block page (originals_as o)) ≤ 149
unfolding originals_line concat_map
originals-short step block page count h k l few (One x) w =
    simp length-append (omega (arith, decimal-short step h, decimal-short block k, decimal-short page l, decimal-short x (omega (arith, w))))
originals-short step block page count h k l few (Two x y) w =
    simp length-append (omega (arith, decimal-short step h, decimal-short block k, decimal-short page l, decimal-short x (omega (arith, w.0)), decimal-short y (omega (arith, w.1))))

pub erase-short : (step block : ℕ) → step < 1000 → block < 1000 → length (erase_line step block) ≤ 149
unfolding erase_line
erase-short step block h k = simp length-append (omega (arith, decimal-short step h, decimal-short block k))

pub end_short : (writes erases : ℕ) → writes < 1000 → erases < 1000 → length (end_line writes erases) ≤ 149
unfolding end_line
end_short writes erases h k = simp length-append (omega (arith, decimal-short writes h, decimal-short erases k))

pub refused-short : (number : ℕ) → number < 1000 → length (refused_line number) ≤ 149
unfolding refused_line
refused-short number h = simp length-append (omega (arith, decimal-short number h))

-- rule 9.2: n and m are at most 8, so there are at most 2 × 8 × 9 steps
pub few-steps : (Z : Sizes) → Z.n ≤ 8 → Z.m ≤ 8 → last_place Z ≤ 144
unfolding last_place
few-steps Z h k = mul-le-mul {n₁ = 2 * Z.n} {m₁ = Z.m + 1} {n₂ = 16} {m₂ = 9} (omega arith) (omega arith)

near : (pass : Pass) (block : ℕ) → next_block pass block ≤ block + 1
near forward block = omega arith
near backward block = omega arith

pub line-short : (Z : Sizes) (place : ℕ) (work : List ℕ) → Z.n ≤ 8 → Z.m ≤ 8 → length work ≤ 64 → place < last_place Z → length (step_line place (operation_at Z place) work) ≤ 149
unfolding step_line
line-short Z place work few-blocks few-pages short h =
    let small : place < 144 = omega (arith, few-steps Z few-blocks few-pages) in
    let block : filling Z place ≤ 8 = omega (arith, filling-in Z place (omega arith)) in
    ⊎_elim
    (λ (k : filled Z place < Z.m).
    rw (operation-writes Z place h k) (write-short place (filling Z place) (filled Z place) work (omega arith) (omega arith) (omega arith) short))
    (λ (k : filled Z place ≡ Z.m).
    rw (operation-erases Z place h k) (erase-short place (next_block (pass_at Z place) (filling Z place)) (omega arith) (omega (arith, near (pass_at Z place) (filling Z place)))))
    (page-cases Z place)
