-- The list decides, then the pins, and then the split.
use Rattle.flash.proofs.Kit.{◌≡◌, sym, ◌∙◌, Bool, cond, ◌&&◌, not, List, ℕ, arith, eqb}
use Rattle.flash.specs.declared.sizes.Sizes.{Sizes}
use Rattle.flash.proofs.Bounds.{product_le}
use Rattle.split.specs.Pins.{moves_pinned}
use Rattle.mover.specs.inner.Refusals.{sets_number, kept_number}
use Rattle.mover.proofs.refusals.kept_refusal.Goals as goal

pub sets_refusal-judged-requires : goal.sets_refusal-judged-requires
sets_refusal-judged-requires c =
    record { le_m = (c.requires.0, c.requires.1, c.requires.2); list_len = (c.requires.3, c.requires.5, omega arith) }

pub moves_pinned-requires : goal.moves_pinned-requires
moves_pinned-requires c =
    (c.requires.4 ∙ sym c.requires.3, omega (arith, c.requires.3, product_le c.args.sizes.n c.args.sizes.m {c = 64} {d = 64} c.requires.1 c.requires.2))

decided : (Z : Sizes) (list pins sets : List ℕ) (found : ℕ) (bad moved : Bool) → found ≡ sets_number Z list sets → bad ≡ eqb found 3
    → moved ≡ moves_pinned pins list → kept_number Z list pins sets ≡ cond (not bad && moved) 11 found
unfolding kept_number
decided Z list pins sets found bad moved f b m = rw (b, m, f)

pub returns-then-is_bad_list-moves_pinned : goal.returns-then-is_bad_list-moves_pinned
returns-then-is_bad_list-moves_pinned c =
    let a = c.args in
    let d = decided a.sizes a.list.now a.pins.now a.sets.now _ _ _ c.sets_refusal-judged.ensures.value c.is_bad_list.ensures c.moves_pinned.ensures in
    record { value = sym (d ∙ rw c.if-is_bad_list-moves_pinned.true); by_destination = λ z. absurd (omega arith) }

pub returns : goal.returns
returns c =
    let a = c.args in
    let d = decided a.sizes a.list.now a.pins.now a.sets.now _ _ _ c.sets_refusal-judged.ensures.value c.is_bad_list.ensures c.moves_pinned.ensures in
    record { value = sym (d ∙ rw c.if-is_bad_list-moves_pinned.false); by_destination = c.sets_refusal-judged.ensures.by_destination }
