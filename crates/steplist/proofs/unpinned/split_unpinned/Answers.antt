-- The split call with a copy of the list, and as many zeros for pins as there are pages.
use Rattle.flash.proofs.Kit.{◌≡◌, sym, ap, ap₂, ◌∙◌, List, ℕ, ◌≤◌, arith, length}
use Rattle.split.specs.Request.{request_of}
use Rattle.split.specs.Answer.{split_answer}
use Rattle.listing.proofs.InputLaws.{few-originals}
use Rattle.steplist.proofs.RestLaws.{zeros-length, no_pins, room-again, front-again, length-again}
use Rattle.steplist.proofs.unpinned.split_unpinned.Goals as goal
use Rattle.steplist.proofs.unpinned.split_unpinned.Lts as lts
use Rattle.steplist.proofs.unpinned.split_unpinned.Reads as reads
use Rattle.steplist.proofs.unpinned.split_unpinned.Tie as tie

few : (c : lts.After-original_count tie.the-claims reads.Pre reads.Post tie.handed_clauses) → c.original_count-count.result ≤ 64
few c =
    omega (arith, c.original_count-count.ensures, few-originals c.args.sizes.n c.args.sizes.m c.requires.0 c.requires.1)

pub slice_bounds-copy_from_slice-end : goal.slice_bounds-copy_from_slice-end
slice_bounds-copy_from_slice-end c = sym (zeros-length c.original_count-count.result 64 (few c.before.before))

pub copy_from_slice-requires : goal.copy_from_slice-requires
copy_from_slice-requires c =
    zeros-length c.original_count-count.result 64 (few c.before.before) ∙ c.original_count-count.ensures ∙ sym c.requires.2

-- the copy is as long as the list
copied : (c : lts.After-copy_from_slice tie.the-claims reads.Pre reads.Post tie.handed_clauses)
    → length c.copy_from_slice.new.self ≡ c.original_count-count.result
copied c =
    ap length c.copy_from_slice.ensures.after ∙ c.requires.2 ∙ sym c.original_count-count.ensures

pub slice_bounds-own-end-2 : goal.slice_bounds-own-end-2
slice_bounds-own-end-2 c =
    room-again c.original_count-count.result 64 c.copy_from_slice.new.self (copied c.before.before)

pub slice_bounds-split-end : goal.slice_bounds-split-end
slice_bounds-split-end c =
    length-again c.original_count-count.result 64 c.copy_from_slice.new.self (copied c.before.before.before)

pub slice_bounds-pins-end : goal.slice_bounds-pins-end
slice_bounds-pins-end c = few c.before.before.before.before.before

pub slice_bounds-split-end-2 : goal.slice_bounds-split-end-2
slice_bounds-split-end-2 c = sym (zeros-length c.original_count-count.result 64 (few c.before.before.before.before.before.before))

pub returns : goal.returns
returns c =
    let a = c.args in
    c.split.ensures.sets_after
    ∙ ap₂ (λ (list pins : List ℕ). split_answer (request_of a.sizes list pins a.sets.now))
    (front-again c.original_count-count.result 64 c.copy_from_slice.new.self (copied c.before.before.before.before.before.before.before.before.before)
    ∙ c.copy_from_slice.ensures.after)
    (no_pins c.original_count-count.ensures (few c.before.before.before.before.before.before.before.before.before.before.before))
