-- `fill` reads numbers into the area until it is full or the input has no further number.
use Rattle.flash.proofs.Kit.{arith, ◌≡◌, refl, sym, ap, ◌∙◌, [], suc, ◌+◌, ◌-◌, ◌<◌, add-one, length, take, drop}
use Rattle.flash.proofs.Kit.{take-length, take-suc-set}
use Rattle.std.proofs.lemmas.List.{set-get_or}
use Rattle.listing.specs.Numbers.{numbers_in, taken, numbers_met}
use Rattle.listing.specs.ReaderAnswers.{told_as}
use Rattle.listing.proofs.TakeLaws.{went_on, stopped, taken_more, met-more, met_all}
use Rattle.flash.proofs.Loops.{rest_more}
use Rattle.listing.proofs.input.fill.Goals as goal

pub loop-cell-init : goal.loop-cell-init
loop-cell-init c =
    let e : length c.args.area.now - 0 ≡ length c.args.area.now = omega arith in
    (rw e, rw e, refl)

pub returns-in_default : goal.returns-in_default
returns-in_default c =
    let l = c.loop-cell in
    let a = c.args in
    let k : length a.area.now - l.cell-index ≡ suc (length a.area.now - l.cell-index - 1) = omega arith in
    let words = numbers_in (drop l.at a.text.now) in
    let none = stopped a.text.now c.number.result words (take l.cell-index l.area) (length a.area.now - l.cell-index - 1) c.in_default.not-Number c.number.ensures in
    let none-met : numbers_met (length a.area.now - l.cell-index) words ≡ [] = rw k none.1 in
    record {
      result_after = sym (l.invariant.0 ∙ rw k none.0);
      area_after = set-get_or l.area l.cell-index 0 ∙ met_all _ l.area a.area.now l.cell-index (omega arith) (rw none-met at l.invariant.1) l.invariant.2;
    }

pub loop-cell-preserved : goal.loop-cell-preserved
loop-cell-preserved c =
    let l = c.loop-cell in
    let a = c.args in
    let v = c.in-Number in
    let n : l.cell-index < length l.area = omega arith in
    let k : length a.area.now - l.cell-index - 1 ≡ length a.area.now - (l.cell-index + 1) = omega arith in
    let rest = numbers_in (drop v.next a.text.now) in
    let words = went_on a.text.now v.value v.next (numbers_in (drop l.at a.text.now)) (ap (told_as a.text.now) (sym v.is) ∙ c.number.ensures) in (
      l.invariant.0 ∙ (taken_more (take l.cell-index l.area) (length a.area.now - l.cell-index) v.value (numbers_in (drop l.at a.text.now)) rest (omega arith) words).0
          ∙ rw (k, add-one l.cell-index, take-suc-set l.area l.cell-index),
      rw (← k) (met-more _ l.area l.cell-index (length a.area.now - l.cell-index) v.value (numbers_in (drop l.at a.text.now)) rest n (omega arith) l.invariant.1 words),
      rest_more l.area a.area.now l.cell-index v.value l.invariant.2,
    )

pub returns : goal.returns
unfolding taken numbers_met
returns c =
    let l = c.loop-cell in
    let a = c.args in
    let end : l.cell-index ≡ length l.area = omega arith in
    let z : length a.area.now - l.cell-index ≡ 0 = omega arith in
    record {
      result_after = sym (l.invariant.0 ∙ rw (z, end, take-length));
      area_after = met_all _ l.area a.area.now l.cell-index (omega arith) (rw z at l.invariant.1) l.invariant.2;
    }
