-- Each step of an accepted move leads from one place to the next, and keeps what whole pages hold.
use Rattle.flash.proofs.Kit.{◌≡◌, refl, sym, subst, List, ℕ, zero, suc, ◌+◌, ◌*◌, ◌≤◌, ◌<◌, add-zero, arith, length}
use Rattle.flash.specs.declared.sizes.Sizes.{Sizes}
use Rattle.flash.specs.Geometry.{number_at, original_count}
use Rattle.flash.specs.PageSum.{sum}
use Rattle.flash.specs.Chip.{Chip}
use Rattle.method.specs.Move.{Plan, AcceptedMove, Lent}
use Rattle.method.specs.Cycle.{sent_to}
use Rattle.method.specs.Place.{Pass, forward, backward, written, write, erase, last_place, operation_at, pass_at, filling, filled}
use Rattle.method.specs.State.{held_originals, counts_as}
use Rattle.method.specs.Step.{Running, originals_of, written_page, perform, step, steps}
use Rattle.method.specs.inner.Shape.{Shape}
use Rattle.method.proofs.basics.MoveShape.{Holding}
use Rattle.method.proofs.basics.AcceptedCalls.{StandsAt}
use Rattle.method.proofs.cycles.SetCycles.{sent-in}
use Rattle.method.proofs.places.StepsAtPlaces.{next_block, forward-high, filling-in, backward-low}
use Rattle.method.proofs.places.PagesHeld.{Writes, Erases, Change, by-write, by-erase, change, stands-marks}
use Rattle.method.proofs.places.PlaceShape.{letter_above, which-pass, shape-filling}
use Rattle.method.proofs.states.NextPlace.{write-lent, write-stands, erase-lent, erase-stands}
use Rattle.method.proofs.states.PagesWritten.{Originals, originals-one, number_in, coded_in, coded-some, length-written, written-sum}

module _ (X : Plan) (A : AcceptedMove X.move) where
  open X use {move as M}
  open M.sizes use {n, m, p as P}

  abbrev Z : Sizes
  Z = M.sizes

  -- the originals of a page that a pass writes
  module _ (place : ℕ) (on : place < last_place Z) (room : filled Z place < m) where
    abbrev pass : Pass
    pass = pass_at Z place

    abbrev sources : List ℕ
    sources = originals_of M (pass_at Z place) (filling Z place) (filled Z place)

    sources-in : (p : Pass) → pass_at Z place ≡ p → Originals M (originals_of M p (filling Z place) (filled Z place))
    unfolding originals_of held_originals written
    sources-in forward e =
        let b = forward-high Z place (omega arith) e in
        coded_in M A (filled Z place) (filling Z place + 1) room (record { low = omega arith; high = omega arith })
    sources-in backward e =
        originals-one M (sent_to M (number_at m (filling Z place) (filled Z place)))
        (sent-in M A (number_at m (filling Z place) (filled Z place))
        (number_in M A (filling Z place) (filled Z place) (backward-low Z place on e) (filling-in Z place (omega arith)) room))

    sources-some : (p : Pass) → 0 < length (originals_of M p (filling Z place) (filled Z place))
    unfolding originals_of held_originals written
    sources-some forward = coded-some M A (filled Z place) (filling Z place + 1)
    sources-some backward = omega arith

    module _ (chip : Chip) (work : List ℕ) (L : Lent Z chip work) (S : StandsAt Z chip place) where
      shape-here : Shape Z chip.marks (filling Z place) (suc (filling Z place)) (letter_above (pass_at Z place))
      shape-here = shape-filling Z place (omega arith) chip.marks (stands-marks Z S) room

      pub page-length : length (written_page X (pass_at Z place) (filling Z place) (filled Z place) chip) ≡ P
      page-length =
          length-written X A chip (filling Z place) (suc (filling Z place)) (letter_above (pass_at Z place)) (which-pass (pass_at Z place)) shape-here L.store_length
          (pass_at Z place) (filling Z place) (filled Z place) (sources-in (pass_at Z place) refl) (sources-some (pass_at Z place))

      pub page-sum : (originals : List ℕ) → length originals ≡ original_count Z * P → Holding X originals chip
          → written_page X (pass_at Z place) (filling Z place) (filled Z place) chip ≡ sum (counts_as X originals) (originals_of M (pass_at Z place) (filling Z place) (filled Z place))
      page-sum =
          written-sum X A chip (filling Z place) (suc (filling Z place)) (letter_above (pass_at Z place)) (which-pass (pass_at Z place)) shape-here L.store_length
          (pass_at Z place) (filling Z place) (filled Z place) (sources-in (pass_at Z place) refl) (sources-some (pass_at Z place))

  -- ---- one step
  pub record Stood (run : Running) (place : ℕ) : Type 0 where
    pub lent : Lent Z run.chip run.work
    pub stands : StandsAt Z run.chip place

  module _ (place : ℕ) (run : Running) (on : place < last_place Z) (S : Stood run place) where
    step-write : filled Z place < m → Writes Z place (pass_at Z place) (filling Z place) (filled Z place)
        → Stood (perform X (write (pass_at Z place) (filling Z place) (filled Z place)) run) (suc place)
    unfolding perform
    step-write room W =
        let page = written_page X (pass_at Z place) (filling Z place) (filled Z place) run.chip in
        let whole = page-length place on room run.chip run.work S.lent S.stands in
        record {
          lent = write-lent Z A.ranges run.chip run.work S.lent place S.stands on (pass_at Z place) (filling Z place) (filled Z place) W page whole;
          stands = write-stands Z A.ranges run.chip run.work S.lent place S.stands on (pass_at Z place) (filling Z place) (filled Z place) W page whole;
        }

    step-erase : (b : ℕ) → Erases Z place b → Stood (perform X (erase b) run) (suc place)
    unfolding perform
    step-erase b E = record {
      lent = erase-lent Z A.ranges run.chip run.work S.lent place S.stands on b E;
      stands = erase-stands Z A.ranges run.chip run.work S.lent place S.stands on b E;
    }

    pub step-stands : Stood (step X place run) (suc place)
    unfolding step
    step-stands = go (change Z place on)
      where
        go : Change Z place → Stood (perform X (operation_at Z place) run) (suc place)
        go (by-write room op W) = rw op (step-write room W)
        go (by-erase full op E) = rw op (step-erase (next_block (pass_at Z place) (filling Z place)) E)

  pub steps-stand : (count place : ℕ) (run : Running) → place + count ≤ last_place Z → Stood run place → Stood (steps X count place run) (place + count)
  unfolding steps
  steps-stand zero place run h S = subst (Stood run) (sym (add-zero place)) S
  steps-stand (suc count) place run h S =
      subst (Stood (steps X count (suc place) (step X place run))) (omega arith)
      (steps-stand count (suc place) (step X place run) (omega arith) (step-stands place run (omega arith) S))
