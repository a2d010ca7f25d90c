-- `pair` gives the dropped pages their places: with each turn one page more has its place.
use Rattle.flash.proofs.Kit.{◌≡◌, sym, ◌∙◌, List, ℕ, ◌-◌, ◌≤◌, ◌<◌, arith, length, get_or}
use Rattle.std.proofs.lemmas.List.{set-get_or}
use Rattle.flash.specs.Lists.{range, first}
use Rattle.split.specs.inner.Mask.{is_marked}
use Rattle.split.proofs.DropLaws.{is-kept, is-dropped}
use Rattle.split.proofs.PairLaws.{Pairing, no-pair, all-paired, entry-is, pair-kept, next-lt, pair-dropped}
use Rattle.split.proofs.drops.pair.Goals as goal
use Rattle.split.proofs.drops.pair.Goals.{else-entry, then-entry}

pub loop-k-init : goal.loop-k-init
loop-k-init c =
    no-pair _ _ _ c.requires.list_len.0 c.requires.list_len.1 c.requires.by_index.0 c.requires.by_index.1

-- the page is dropped, and there is a place for it
place-lt : {lent list pages places : List ℕ} {place k found : ℕ} → Pairing lent list pages places place k → k < length lent → length lent ≤ 4096
    → get_or list k 0 ≡ 65535 → found ≡ first (is_marked places) (range place (4096 - place)) 4096 → found < length lent
place-lt P inside few gone e =
    rw e (next-lt _ _ _ _ _ _ P (omega arith) few (is-dropped _ _ (sym (entry-is _ _ _ _ _ _ P (omega arith)) ∙ gone)))

pub overflow_cast-entry : goal.overflow_cast-entry
overflow_cast-entry c = let p = place-lt c.loop-k.invariant c.loop-k-test.true c.requires.list_len.0 c.if-entry.true c.next_mark-place.ensures in record { fits = omega (arith, p, c.requires.list_len.0) }

pub overflow_add-place : goal.overflow_add-place
overflow_add-place c = let p = place-lt c.loop-k.invariant c.loop-k-test.true c.requires.list_len.0 c.if-entry.true c.next_mark-place.ensures in record { fits = omega (arith, p, c.requires.list_len.0) }

pub loop-k-preserved : goal.loop-k-preserved
loop-k-preserved c =
    let l = c.loop-k in
    let lent = c.args.list.now in
    let more : l.k < length lent = omega arith in
    elim c.if-entry.branch [
      | then-entry w ↦ let d = is-dropped _ _ (sym (entry-is _ _ _ _ _ _ l.invariant more) ∙ w.if-entry.true) in
          rw (w.list-is, w.pages-is, w.place-is, w.next_mark-place.ensures) (pair-dropped _ _ _ _ _ _ l.invariant more c.requires.list_len.0 d _ w.mark.ensures)
      | else-entry w ↦ rw (w.list-is, w.pages-is, w.place-is, set-get_or l.list l.k 0)
          (pair-kept _ _ _ _ _ _ l.invariant more (is-kept _ _ (λ e. w.if-entry.false (entry-is _ _ _ _ _ _ l.invariant more ∙ e))))
    ]

pub returns : goal.returns
returns c =
    let l = c.loop-k in
    let all = all-paired _ _ _ _ _ _ l.invariant (omega arith) in
    record { list_after = all.0; by_index_2 = all.1 }
