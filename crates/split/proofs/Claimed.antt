-- The proofs of what specs/Claims.antt claims.
use Rattle.flash.proofs.Kit.{◌≡◌, refl, ◌∙◌, Bool, true, false, ◌||◌, not, arith, leb, eq-eqb}
use Rattle.flash.specs.Lists.{range, any, filter, first}
use Rattle.flash.specs.Geometry.{original_count}
use Rattle.split.specs.OneToOne.{met_twice, is_one_to_one, kept_entries, bad_list}
use Rattle.split.specs.Drops.{is_dropped, free_places, paired, completed}
use Rattle.split.specs.Split.{source_block, dest_block, set_of}
use Rattle.split.specs.Rule.{other_end, swapped, block_at, is_page_of, is_used, lowest_unused, pages_met, exchange, give_next, sets_given, split_by_rule}
use Rattle.split.specs.Pins.{is_pinned, moves_pinned}
use Rattle.split.specs.Answer.{split_answer}
use Rattle.split.specs.PinFirst.{moves_pinned_kept}
use Rattle.split.specs.Claims.{SplitEnds, walk_of, WalkEnds, WalkIsShort, WalkBoundMet, Completes, NoDrops, DropCases, FilledFits}
use Rattle.split.proofs.Answers.{passed}
use Rattle.split.proofs.DropLaws.{completed-length, completed-kept, completed-new, completed-ascends, completed-one-to-one, completed-accepted}
use Rattle.split.proofs.DropLaws.{undropped-completed, undropped-bad}
use Rattle.split.proofs.RuleLaws.{given, rule-split, rule-length, walk-bound, walk-length}

pub split-ends : SplitEnds
split-ends n m list listed accepted = rule-split n m list listed accepted

pub walk_ends : WalkEnds
unfolding walk_of
walk_ends n m list listed accepted k more h =
    let g = given n m list listed accepted k (omega arith) in
    rw g.counted at (walk-bound n m list listed accepted (sets_given m list k) g.coloured (omega (arith, g.counted)) more)

pub walk-is-short : WalkIsShort
unfolding walk_of
walk-is-short n m list listed accepted k h =
    let g = given n m list listed accepted k (omega arith) in
    rw g.counted at (walk-length n m list listed accepted (sets_given m list k) g.coloured (omega (arith, g.counted)))

pub walk-bound-met : WalkBoundMet
unfolding walk_of other_end swapped block_at is_page_of is_used lowest_unused pages_met exchange give_next sets_given source_block dest_block set_of range any first
walk-bound-met = refl

pub completes : Completes
completes list good = (
  completed-length list,
  completed-one-to-one list good,
  completed-kept list,
  completed-new list good,
  completed-ascends list good,
)

pub no-drops : NoDrops
unfolding is_one_to_one
no-drops list none = (
  undropped-completed list none,
  λ originals. undropped-bad list none originals ∙ twice-not (any (leb originals) list || met_twice list),
)
  where
    twice-not : (t : Bool) → not (not t) ≡ t
    twice-not true = refl
    twice-not false = refl

pub drop-cases : DropCases
unfolding is_one_to_one met_twice kept_entries bad_list is_dropped free_places paired completed is_pinned moves_pinned moves_pinned_kept range any filter
drop-cases = (refl, refl, refl, refl, refl, refl, refl, refl)

pub filled-fits : FilledFits
unfolding split_answer
filled-fits R e =
    let Z = R.sizes in
    let list = completed R.list in
    let p = passed R e in
    let s : (split_answer R).sets ≡ split_by_rule Z.n Z.m list = rw (eq-eqb _ 0 e) in
    let listed = completed-length R.list ∙ p.listed in
    let accepted = completed-accepted (original_count Z) R.list p.listed p.good in
    rw s (rule-length Z.n Z.m list listed accepted, p.pinned, p.good, p.stays, rule-split Z.n Z.m list listed accepted)
