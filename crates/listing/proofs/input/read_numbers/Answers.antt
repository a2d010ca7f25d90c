-- `read_numbers` tells whether exactly the numbers due stand in the input, bytes to 255.
use Rattle.flash.proofs.Kit.{arith, ◌≡◌, sym, ap, ◌∙◌, ◌++◌, ◌+◌, ◌*◌, leb, drop, length-take-le}
use Rattle.flash.specs.Lists.{all}
use Rattle.listing.specs.Numbers.{numbers_in, numbers_met}
use Rattle.listing.specs.Area.{over}
use Rattle.listing.specs.ReaderAnswers.{filled_as}
use Rattle.listing.proofs.InputLaws.{none_found, bytes-are, all_found, too_large, due-put}
use Rattle.listing.proofs.input.read_numbers.Goals as goal
use Rattle.listing.proofs.input.read_numbers.Lts as lts
use Rattle.listing.proofs.input.read_numbers.Reads as reads
use Rattle.listing.proofs.input.read_numbers.Tie as tie

pub slice_bounds-fill-end-2 : goal.slice_bounds-fill-end-2
slice_bounds-fill-end-2 c = sym (length-take-le c.numbers_due-due.result c.args.numbers.now (omega arith))

-- the numbers met stand at the front
put : (c : lts.After-fill tie.the-claims reads.Pre reads.Post tie.handed_clauses)
    → (let due = c.numbers_due-due.result in let a = c.args in
    c.fill.new.area ++ drop due a.numbers.now ≡ over (numbers_met (a.count + a.count * a.p) (numbers_in (drop a.from a.text.now))) a.numbers.now)
put c =
    let due = c.numbers_due-due in
    let a = c.args in
    due-put due.result (a.count + a.count * a.p) a.numbers.now c.fill.new.area _ due.ensures.0 (omega arith) c.fill.ensures.area_after

pub returns-in_default : goal.returns-in_default
returns-in_default c =
    let f = c.fill in
    let due = c.numbers_due-due in
    let a = c.args in
    let words = numbers_in (drop a.from a.text.now) in
    record {
      none_after = none_found a.count due.result (a.count + a.count * a.p) a.numbers.now f.new.area words (filled_as a.text.now f.new.area f.result)
          due.ensures.0 (omega arith) f.ensures.result_after (ap (filled_as a.text.now f.new.area) c.in_default.is);
      numbers_after = put c.before.before.before.before;
    }

pub returns-then-fit : goal.returns-then-fit
returns-then-fit c =
    let f = c.fill in
    let due = c.numbers_due-due in
    let a = c.args in
    let words = numbers_in (drop a.from a.text.now) in
    let area = f.new.area in
    let found = filled_as a.text.now area f.result in
    let bytes = bytes-are a.count due.result (a.count + a.count * a.p) a.numbers.now area words found due.ensures.0 (omega arith)
    f.ensures.result_after f.auto.area (omega arith) in
    record {
      none_after = all_found a.count due.result (a.count + a.count * a.p) a.numbers.now area words found due.ensures.0 (omega arith)
          f.ensures.result_after f.auto.area (omega arith) _ (ap (filled_as a.text.now area) c.in-Some.is) c.is_end.result
          (ap (all (λ byte. leb byte 255)) (sym bytes) ∙ sym c.fit.ensures ∙ c.if-fit.true) c.is_end.ensures;
      numbers_after = put c.before.before.before.before.before.before.before.before;
    }

pub returns-else-fit : goal.returns-else-fit
returns-else-fit c =
    let f = c.fill in
    let due = c.numbers_due-due in
    let a = c.args in
    let words = numbers_in (drop a.from a.text.now) in
    let area = f.new.area in
    let found = filled_as a.text.now area f.result in
    let bytes = bytes-are a.count due.result (a.count + a.count * a.p) a.numbers.now area words found due.ensures.0 (omega arith)
    f.ensures.result_after f.auto.area (omega arith) in
    record {
      none_after = rw c.if-fit.false (too_large a.count due.result (a.count + a.count * a.p) a.numbers.now area words found due.ensures.0 (omega arith)
          f.ensures.result_after f.auto.area (omega arith) _ (ap (filled_as a.text.now area) c.in-Some.is)
          (ap (all (λ byte. leb byte 255)) (sym bytes) ∙ sym c.fit.ensures ∙ c.if-fit.false));
      numbers_after = put c.before.before.before.before.before.before.before;
    }
