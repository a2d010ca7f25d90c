-- Each step of an accepted move keeps what whole pages hold: their originals, coded pages and final pages.
use Rattle.flash.proofs.Kit.{◌≡◌, refl, sym, ap, ap₂, ◌∙◌, ⊎_elim, ◌≢◌, List, [], ◌∷◌, ℕ, zero, suc, ◌+◌, ◌-◌, ◌*◌, ◌/◌, ◌%◌, ◌≤◌, ◌<◌, mod-lt}
use Rattle.flash.proofs.Kit.{div-add-mod', arith, length, get_or}
use Rattle.flash.specs.Lists.{part}
use Rattle.flash.specs.declared.sizes.Sizes.{Sizes}
use Rattle.flash.specs.Geometry.{slot, slot_of, block_of, page_of, number_at, original_count, slot_count, letter}
use Rattle.flash.specs.PageSum.{sum}
use Rattle.flash.specs.Chip.{Chip, page_at, mark_at, write_page}
use Rattle.flash.proofs.Comparisons.{eq-cases}
use Rattle.flash.proofs.Bounds.{slot-in-marks, slot-in-store}
use Rattle.flash.proofs.Sums.{sum_one}
use Rattle.flash.proofs.Chips.{write-mark, write-mark-other, write-page, write-page-other}
use Rattle.method.specs.Move.{Plan, AcceptedMove, Lent}
use Rattle.method.specs.Cycle.{coded, sent_to}
use Rattle.method.specs.Place.{Pass, forward, backward, written, mark_of, last_place, operation_at, pass_at, filling, filled}
use Rattle.method.specs.State.{held_originals, counts_as}
use Rattle.method.specs.Step.{Running, originals_of, written_page, perform, step, steps}
use Rattle.method.proofs.basics.MoveShape.{Holding}
use Rattle.method.proofs.basics.Indexes.{slot-div, slot-mod}
use Rattle.method.proofs.cycles.SetCycles.{sent-entry}
use Rattle.method.proofs.places.StepsAtPlaces.{next_block}
use Rattle.method.proofs.places.PagesHeld.{Change, by-write, by-erase, change}
use Rattle.method.proofs.recovery.MarksFade.{erase-fades, holding-fades}
use Rattle.method.proofs.states.StepsLeadOn.{Stood, page-length, page-sum, step-stands}

module _ (X : Plan) (A : AcceptedMove X.move) (originals : List ℕ) (full : length originals ≡ original_count X.move.sizes * X.move.sizes.p) where
  open X use {move as M}
  open M.sizes use {n, m, p as P}

  abbrev Z : Sizes
  Z = M.sizes

  abbrev original : ℕ → List ℕ
  original k = counts_as X originals k

  -- a write's mark is no s, and tells what is written
  not_plain : (pass : Pass) → mark_of Z pass ≢ letter Z 0
  unfolding mark_of letter
  not_plain forward e = absurd (omega arith)
  not_plain backward e = absurd (omega arith)

  forward-sources : (pass : Pass) (b q : ℕ) → mark_of Z pass ≡ letter Z 1 → originals_of M pass b q ≡ coded M q (b + 1)
  unfolding mark_of letter originals_of written held_originals
  forward-sources forward b q e = refl
  forward-sources backward b q e = absurd (omega arith)

  backward-sources : (pass : Pass) (b q : ℕ) → mark_of Z pass ≡ letter Z 2 → originals_of M pass b q ≡ sent_to M (number_at m b q) ∷ []
  unfolding mark_of letter originals_of written held_originals
  backward-sources forward b q e = absurd (omega arith)
  backward-sources backward b q e = refl

  module _ (pass : Pass) (b q : ℕ) (b-in : b ≤ n) (q-in : q < m) (chip : Chip) (work : List ℕ) (L : Lent Z chip work) (H : Holding X originals chip)
      (page : List ℕ) (whole : length page ≡ P) (is : page ≡ sum original (originals_of M pass b q)) where
    abbrev here : ℕ
    here = slot m b q

    abbrev new : Chip
    new = write_page P here page (mark_of Z pass) chip

    here_in : here < slot_count Z
    here_in = slot-in-marks Z b q b-in q-in

    fits : here * P + P ≤ length chip.store
    fits = rw L.store_length (slot-in-store Z here here_in)

    here-mark : mark_at new.marks here ≡ mark_of Z pass
    here-mark = write-mark P here page (mark_of Z pass) chip (rw L.marks-length here_in)

    -- another slot with a letter holds what it held; at the slot written the letter is the pass's
    holds_at : (t : ℕ) (value : List ℕ) (i : ℕ) → mark_at new.marks t ≡ letter Z i
        → (t ≡ here → mark_of Z pass ≡ letter Z i → page ≡ value) → (mark_at chip.marks t ≡ letter Z i → page_at P chip t ≡ value) → page_at P new t ≡ value
    holds_at t value i e at was = ⊎_elim
        (λ (same : t ≡ here).
        ap (page_at P new) same ∙ write-page P here page (mark_of Z pass) chip fits whole ∙ at same (sym here-mark ∙ ap (mark_at new.marks) (sym same) ∙ e))
        (λ (apart : t ≢ here).
        write-page-other P here page (mark_of Z pass) chip fits whole t apart ∙ was (sym (write-mark-other P here page (mark_of Z pass) chip t apart) ∙ e))
        (eq-cases t here)

    write-holds : Holding X originals new
    write-holds = record {
      plain = λ k h e. holds_at (slot_of m k) (part P k originals) 0 e (λ _ f. absurd (not_plain pass f)) (H.plain k h);
      code = λ set v s l u e. holds_at (slot m (v - 1) set) (sum original (coded M set v)) 1 e
          (λ same f.
          let at_b : v - 1 ≡ b = sym (slot-div m (v - 1) set s) ∙ ap (λ (x : ℕ). x / m) same ∙ slot-div m b q q-in in
          let at-q : set ≡ q = sym (slot-mod m (v - 1) set s) ∙ ap (λ (x : ℕ). x % m) same ∙ slot-mod m b q q-in in
          let at-v : b + 1 ≡ v = omega arith in
          is ∙ ap (sum original) (forward-sources pass b q f ∙ ap₂ (coded M) (sym at-q) at-v))
          (H.code set v s l u);
      final = λ k h e. holds_at (slot_of m (get_or M.list k 0)) (original k) 2 e
          (λ same f.
          let t = get_or M.list k 0 in
          let pages : 0 < m = omega arith in
          let at_b : block_of m t ≡ b = sym (slot-div m (block_of m t) (page_of m t) (mod-lt t pages)) ∙ ap (λ (x : ℕ). x / m) same ∙ slot-div m b q q-in in
          let at-q : page_of m t ≡ q = sym (slot-mod m (block_of m t) (page_of m t) (mod-lt t pages)) ∙ ap (λ (x : ℕ). x % m) same ∙ slot-mod m b q q-in in
          let number : number_at m b q ≡ t = ap₂ (number_at m) (sym at_b) (sym at-q) ∙ back t in
          is ∙ ap (sum original) (backward-sources pass b q f) ∙ sum_one original (sent_to M (number_at m b q))
          ∙ ap original (ap (sent_to M) number ∙ sent-entry M A k h))
          (H.final k h);
    }
      where
        back : (t : ℕ) → number_at m (block_of m t) (page_of m t) ≡ t
        back t =
            let e : t / m + 1 - 1 ≡ t / m = omega arith in
            ap (λ (x : ℕ). x * m + t % m) e ∙ div-add-mod' t m

  module _ (place : ℕ) (run : Running) (on : place < last_place Z) (S : Stood X A run place) (H : Holding X originals run.chip) where
    pub step-holds : Holding X originals (step X place run).chip
    unfolding step perform
    step-holds = go (change Z place on)
      where
        go : Change Z place → Holding X originals (perform X (operation_at Z place) run).chip
        go (by-write room op W) =
            rw op
            (write-holds (pass_at Z place) (filling Z place) (filled Z place) W.block_in room run.chip run.work S.lent H
            (written_page X (pass_at Z place) (filling Z place) (filled Z place) run.chip)
            (page-length X A place on room run.chip run.work S.lent S.stands)
            (page-sum X A place on room run.chip run.work S.lent S.stands originals full H))
        go (by-erase all op E) =
            rw op (holding-fades X originals run.chip _ H (erase-fades Z (next_block (pass_at Z place) (filling Z place)) run.chip E.block_in S.lent.store_length S.lent.marks-length))

  pub steps-hold : (count place : ℕ) (run : Running) → place + count ≤ last_place Z → Stood X A run place → Holding X originals run.chip → Holding X originals (steps X count place run).chip
  unfolding steps
  steps-hold zero place run h S H = H
  steps-hold (suc count) place run h S H =
      steps-hold count (suc place) (step X place run) (omega arith) (step-stands X A place run (omega arith) S) (step-holds place run (omega arith) S H)
