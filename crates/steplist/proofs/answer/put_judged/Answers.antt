-- A list is refused or listed as the output has it, and judged before it is cut to 16 bits.
use Rattle.std.proofs.lemmas.List.{map-id}
use Rattle.flash.proofs.Kit.{arith, sym, ap, ◌∙◌, ◌≢◌, length}
use Rattle.flash.specs.Refusals.{number_in}
use Rattle.flash.proofs.Refused.{some-number}
use Rattle.split.specs.Answer.{SplitAnswer}
use Rattle.listing.proofs.InputLaws.{bounded}
use Rattle.listing.proofs.PrintLaws.{first-printed}
use Rattle.steplist.proofs.LengthLaws.{refused-short}
use Rattle.steplist.proofs.JudgeLaws.{too_large, not-split, is-split}
use Rattle.steplist.proofs.answer.put_judged.Goals as goal

pub put_refused-requires : goal.put_refused-requires
put_refused-requires c = omega (arith, refused-short)

pub returns-then-not-fit : goal.returns-then-not-fit
returns-then-not-fit c =
    let a = c.args in
    let line = c.put_refused.ensures in
    let large = sym c.fit.ensures ∙ c.if-not-fit.true in
    record {
      written = rw (too_large a.sizes c.requires.0.allowed a.entries.now a.originals.now c.requires.0.list_length large a.named) (first-printed line);
      list_after = (rw large, rw large);
    }

pub put-requires : goal.put-requires
put-requires c =
    record { numbers_len = c.requires.0.list_length ∙ sym c.requires.1; numbers_value = sym c.fit.ensures ∙ c.if-not-fit.false }

pub split_unpinned-requires : goal.split_unpinned-requires
split_unpinned-requires c =
    let l = bounded _ c.requires.0.allowed in
    (l.few-blocks, l.few-pages, ap length (c.put.ensures ∙ map-id c.args.entries.now) ∙ c.requires.0.list_length)

pub put_refused-requires-in-Err : goal.put_refused-requires-in-Err
put_refused-requires-in-Err c = omega (arith, refused-short)

pub returns-in-Err : goal.returns-in-Err
returns-in-Err c =
    let a = c.args in
    let split = c.split_unpinned in
    let line = c.put_refused-in-Err.ensures in
    let put = c.put.ensures ∙ map-id a.entries.now in
    let judged = rw put at split.ensures in
    let refused : number_in split.result ≢ 0 = λ z. absurd (omega (arith, some-number c.in-Err.field-0, rw c.in-Err.is at z)) in
    let fits = sym c.fit.ensures ∙ c.if-not-fit.false in
    record {
      written = rw (not-split a.sizes c.requires.0.allowed a.entries.now a.originals.now a.sets.now split.new.sets (number_in split.result)
          c.requires.0.list_length c.requires.2 judged refused a.named) (first-printed line);
      list_after = rw fits (put, ap (λ (a : SplitAnswer). a.sets) judged);
    }

pub put_form-requires : goal.put_form-requires
put_form-requires c =
    let a = c.args in
    let split = c.split_unpinned in
    let put = c.put.ensures ∙ map-id a.entries.now in
    let judged = rw put at split.ensures in
    let good = is-split a.sizes c.requires.0.allowed a.entries.now a.originals.now a.sets.now split.new.sets (number_in split.result)
    c.requires.0.list_length c.requires.2 judged (ap number_in c.in_default.is) c.requires.0 in
    (rw put good, omega arith)

pub returns : goal.returns
returns c =
    let put = c.put.ensures ∙ map-id c.args.entries.now in
    let fits = sym c.fit.ensures ∙ c.if-not-fit.false in
    record {
      written = rw put at c.put_form.ensures;
      list_after = rw fits (put, ap (λ (a : SplitAnswer). a.sets) (rw put at c.split_unpinned.ensures));
    }
