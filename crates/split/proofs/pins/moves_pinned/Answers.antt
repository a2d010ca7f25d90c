-- `moves_pinned` meets its contract: where no byte pins, nothing pinned moves; else what is gathered tells whether a page passed does.
use Rattle.flash.proofs.Kit.{◌≡◌, refl, sym, ap, ◌∙◌, Bool, false, true, ◌&&◌, not, eqb, List, ℕ, arith, length, get_or}
use Rattle.flash.proofs.Kit.{add-one, zero-add}
use Rattle.flash.specs.Lists.{range, all, any}
use Rattle.flash.proofs.Ranges.{any_next, none_is}
use Rattle.flash.proofs.Searches.{all-at}
use Rattle.split.specs.Pins.{is_pinned, moves_pinned}
use Rattle.split.proofs.pins.moves_pinned.Goals as goal

none-moved : (pins list : List ℕ) → length pins ≡ length list → all (λ byte. eqb byte 0) pins ≡ true → false ≡ moves_pinned pins list
unfolding is_pinned moves_pinned
none-moved pins list h e = sym (none_is _ 0 (length list) (λ j l m.
    let blank : eqb (get_or pins j 0) 0 ≡ true = all-at (λ byte. eqb byte 0) pins j 0 e (omega arith) in rw blank))

pub loop-k-init : goal.loop-k-init
unfolding any range
loop-k-init c = refl

pub loop-k-preserved : goal.loop-k-preserved
unfolding is_pinned
loop-k-preserved c =
    let a = c.args in
    let l = c.loop-k in
    let test : ℕ → Bool = λ j. is_pinned a.pins.now j && not (eqb (get_or a.list.now j 0) j) in
    let next = rw (zero-add l.k) at (any_next test 0 l.k) in
    rw l.invariant (sym next ∙ ap (λ (n : ℕ). any test (range 0 n)) (sym (add-one l.k)))

pub returns-then-is_filled : goal.returns-then-is_filled
returns-then-is_filled c = none-moved _ _ c.requires.0 (sym c.is_filled.ensures ∙ c.if-is_filled.true)

pub returns : goal.returns
unfolding moves_pinned
returns c =
    let l = c.loop-k in
    let end : l.k ≡ length c.args.list.now = omega arith in
    l.invariant ∙ rw end
