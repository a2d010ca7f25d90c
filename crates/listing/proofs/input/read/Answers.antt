-- `read` answers for every text what its input asks for, and leaves its numbers in the area.
use Rattle.flash.proofs.Kit.{arith, ◌≡◌, sym, ◌∙◌, Bool, true, false, cond}
use Rattle.listing.specs.Area.{over}
use Rattle.listing.specs.Input.{unreadable, input_of, is_allowed, sizes_from, numbers_put}
use Rattle.listing.specs.ReaderAnswers.{request_in}
use Rattle.listing.proofs.InputLaws.{bounded, few-originals, no-sizes, not-allowed, as-asked}
use Rattle.listing.proofs.input.read.Goals as goal
use Rattle.listing.proofs.input.read.Lts as lts
use Rattle.listing.proofs.input.read.Reads as reads
use Rattle.listing.proofs.input.read.Tie as tie

-- the four numbers that were read are judged as the sizes that they are
judged : (c : lts.After-is_allowed tie.the-claims reads.Pre reads.Post tie.handed_clauses)
    → c.is_allowed.result ≡ is_allowed (sizes_from c.fill.new.area)
judged c = c.is_allowed.ensures

told : (c : lts.After-read_numbers tie.the-claims reads.Pre reads.Post tie.handed_clauses) (right : Bool) → c.read_numbers.result ≡ right
    → (let a = c.args in let exit = c.read_numbers.new.numbers in (cond right (request_in exit (sizes_from c.fill.new.area)) unreadable ≡ input_of a.text.now)
    × (exit ≡ over (numbers_put a.text.now) a.numbers.now))
told c right e =
    let a = c.args in
    let r = c.read_numbers in
    let count = c.original_count.ensures in
    let allowed = sym (judged c.before.before.before.before) ∙ c.if-not-is_allowed.false in
    as-asked a.text.now _ a.numbers.now c.in-Some.next c.in-Some.ensures.result_after right _ allowed
    (rw (e, count) at r.ensures.none_after) (rw count at r.ensures.numbers_after)

pub returns-in_default : goal.returns-in_default
returns-in_default c =
    let told = no-sizes c.args.text.now c.args.numbers.now c.in_default.ensures.result_after in
    record { result_after = told.0; numbers_after = told.1 }

pub returns-then-not-is_allowed : goal.returns-then-not-is_allowed
returns-then-not-is_allowed c =
    let judged-so = sym (judged c.before.before) ∙ c.if-not-is_allowed.true in
    let told = not-allowed c.args.text.now _ c.args.numbers.now c.in-Some.next c.in-Some.ensures.result_after judged-so in
    record { result_after = told.0; numbers_after = told.1 }

pub original_count-requires : goal.original_count-requires
original_count-requires c =
    let l = bounded _ (sym c.is_allowed.ensures ∙ c.if-not-is_allowed.false) in
    omega arith

pub read_numbers-requires : goal.read_numbers-requires
read_numbers-requires c =
    let l = bounded _ (sym c.is_allowed.ensures ∙ c.if-not-is_allowed.false) in
    omega (arith, few-originals _ _ l.few-blocks l.few-pages)

pub returns-then-read_numbers : goal.returns-then-read_numbers
returns-then-read_numbers c =
    let so = told c.before.before true c.if-read_numbers.true in
    record { result_after = so.0; numbers_after = so.1 }

pub returns-else-read_numbers : goal.returns-else-read_numbers
returns-else-read_numbers c =
    let so = told c.before.before false c.if-read_numbers.false in
    record { result_after = so.0; numbers_after = so.1 }
