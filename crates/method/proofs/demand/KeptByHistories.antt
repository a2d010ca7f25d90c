-- What a list of calls and cuts keeps, and that demand 3 holds of a moment that has it.
use Rattle.flash.proofs.Kit.{◌≡◌, refl, sym, ap, ◌∙◌, subst, inl, inr, ⊎_elim, true, false, List, ℕ, suc, ◌+◌, ◌-◌, ◌*◌, ◌≤◌, ◌<◌, min, arith, length, get_or, take}
use Rattle.flash.proofs.Kit.{eq-eqb}
use Rattle.flash.specs.Lists.{count}
use Rattle.flash.specs.Tables.{refusal}
use Rattle.flash.specs.declared.sizes.Sizes.{Sizes}
use Rattle.flash.specs.Geometry.{slot_of, original_count, slot_count, store_len, work_len}
use Rattle.flash.specs.declared.wear.Wear.{Wear}
use Rattle.flash.specs.Chip.{Chip, page_at, is_whole}
use Rattle.flash.proofs.Searches.{count-take}
use Rattle.split.specs.Drops.{is_dropped}
use Rattle.split.specs.Request.{Request}
use Rattle.split.proofs.DropLaws.{completed-kept}
use Rattle.method.specs.Move.{Plan, plan, AcceptedMove, Lent}
use Rattle.method.specs.Place.{operations, last_place, filled}
use Rattle.method.specs.Read.{filler_page, stored_slots, read_slots}
use Rattle.method.specs.State.{originals_in, counts_as}
use Rattle.method.specs.Step.{is_erase, erases_block}
use Rattle.method.specs.Worn.{is_worn_out}
use Rattle.method.specs.Answers.{read_rows, run_carried_out, steps_taken, MendAnswer, mend_answer, read_gives, read_answer, run_answer}
use Rattle.method.specs.Runs.{Start}
use Rattle.method.specs.Events.{History}
use Rattle.method.specs.Demand3.{Stays, Keeps}
use Rattle.method.proofs.basics.MoveShape.{Holding, counted, counts-kept, counts-dropped, holding-shows}
use Rattle.method.proofs.basics.AcceptedCalls.{StandsAt, RunTaken, run-taken, taken-run}
use Rattle.method.proofs.places.StepsAtPlaces.{filled-early}
use Rattle.method.proofs.places.PlaceShape.{letter_above, which-pass}
use Rattle.method.proofs.walks.Terms.{terms-kept, terms-dropped, stored-few, stored-each, sum-terms, page-dropped, page-kept, added-once}
use Rattle.method.proofs.walks.ReadsOriginals.{reads}
use Rattle.method.proofs.states.StatesOfPlaces.{is_state}
use Rattle.method.proofs.states.RunsAddUp.{run-answer, start-accepted, start_fits, start-full, start-page}
use Rattle.method.proofs.places.Turns.{turn, turn-high, turn-erases}
use Rattle.method.proofs.recovery.MarksSeen.{terms-seen, page-seen}
use Rattle.method.proofs.recovery.Moments.{Moment, moment-shape, finished-page}
use Rattle.method.proofs.recovery.ReadAnswers.{read_taken}
use Rattle.method.proofs.recovery.MendAnswers.{Recovered, recovers}
use Rattle.method.proofs.places.ErasesCounted.{at-most-twice}

-- where an erase is still to come, so is its turn's end
turn-before : (Z : Sizes) (place : ℕ) → place ≤ last_place Z → 1 ≤ Z.m → filled Z place ≡ Z.m → turn Z place < 2 * Z.n
turn-before Z place h l k = omega (arith, turn-erases Z place k, turn-high Z (suc place) (filled-early Z place h (omega arith)))

module _ (X : Plan) where
  abbrev Z : Sizes
  Z = X.move.sizes

  -- The erases begun: one a turn and one a mend; and one more while an erase was begun that has taken no mark, before a mend.
  pub data Bounded (h : History) (place : ℕ) : Type 0 where
    within : count is_erase h.begun ≤ turn Z place + h.mends → Bounded h place
    once_more : h.unmended ≡ true → filled Z place ≡ Z.m → count is_erase h.begun ≤ suc (turn Z place + h.mends) → Bounded h place

  -- with no cut and no mend: just the first steps of the move were begun
  pub record Fresh (h : History) : Type 0 where
    pub taken : ℕ
    pub stands : StandsAt Z h.chip taken
    pub done : h.begun ≡ take taken (operations Z)

  -- what every list of events keeps; `place` is where the move goes on after a mend
  pub record Kept (originals : List ℕ) (h : History) : Type 0 where
    pub place : ℕ
    pub moment : Moment Z h.chip.marks place
    pub store_length : length h.chip.store ≡ store_len Z
    pub holds : Holding X originals h.chip
    pub bounded : Bounded h place
    pub ended : h.finished ≡ true → place ≡ last_place Z
    pub fresh : h.cuts ≡ 0 → h.mends ≡ 0 → Fresh h

module _ (R : Request) (chip₀ : Chip) (S : Start R chip₀) where
  abbrev X : Plan
  X = plan R

  abbrev W : Sizes
  W = R.sizes

  A : AcceptedMove X.move
  A = start-accepted R chip₀ S

  abbrev originals : List ℕ
  originals = originals_in W chip₀

  module _ (h : History) (K : Kept X originals h) where
    abbrev chip : Chip
    chip = h.chip

    lent : (work : List ℕ) → length work ≡ work_len W → Lent W chip work
    lent work l = record { store_length = K.store_length; marks-length = K.moment.marks-length; work-length = l }

    -- read is not refused
    taken : (work : List ℕ) → length work ≡ work_len W → (k : ℕ) → k < original_count W → refusal (read_rows R chip work k) ≡ 0
    taken work l = read_taken R A (start_fits R chip₀ S) chip work (lent work l) K.place K.moment

    stays : (k : ℕ) → k < original_count W → is_dropped R.list k ≡ false → Stays R chip k (page_at W.p chip₀ (slot_of W.m k))
    unfolding read_answer
    stays k k-in kept =
        let T = moment-shape W chip.marks K.place K.moment in
        let D = reads X.move A chip.marks T.low T.high k k-in (letter_above T.pass) (which-pass T.pass) T.shape in
        let slots = read_slots X.move chip.marks k in
        let shows = holding-shows X originals chip (start-full R chip₀ S) K.holds in
        let page = D.original (counts_as X originals) (counted X chip) shows ∙ counts-kept X originals k kept ∙ start-page R chip₀ S k in
        let total = sum-terms X chip slots ∙ page in
        record {
          few = rw (terms-kept X chip.marks k kept) (omega (arith, stored-few X chip.marks slots, D.few));
          stored = rw (terms-kept X chip.marks k kept) (stored-each X chip.marks (λ t. t < slot_count W) slots (λ i l. (D.sited i l).inside));
          whole = rw (terms-kept X chip.marks k kept) (stored-each X chip.marks (λ t. is_whole chip.marks t ≡ true) slots (λ i l. (D.sited i l).whole));
          total = rw (terms-kept X chip.marks k kept) (⊎_elim (λ e. inl (e ∙ total)) (λ e. inr (e ∙ total)) (added-once X chip slots D.coded-first));
          read-gives = λ work l. rw (taken work l k k-in, page-seen X chip k, terms-seen X chip.marks k, page-kept X chip k kept, page);
        }

    dropped : (k : ℕ) → k < original_count W → is_dropped R.list k ≡ true → (work : List ℕ) → length work ≡ work_len W
        → read_answer R chip work k ≡ read_gives 0 (filler_page W.p)
    unfolding read_answer stored_slots
    dropped k k-in gone work l =
        rw (taken work l k k-in, page-seen X chip k, terms-seen X chip.marks k, page-dropped X chip k gone, terms-dropped X chip.marks k gone)

    few-erases : count is_erase h.begun ≤ 2 * W.n + h.mends
    few-erases = go K.bounded
      where
        go : Bounded X h K.place → count is_erase h.begun ≤ 2 * W.n + h.mends
        go (within b) = omega (arith, turn-high W K.place K.moment.in-move)
        go (once_more u k b) = omega (arith, turn-before W K.place K.moment.in-move A.ranges.m-low k)

    block-erases : h.cuts ≡ 0 → h.mends ≡ 0 → (b : ℕ) → count (erases_block b) h.begun ≤ 2
    block-erases c m b =
        let F = K.fresh c m in
        rw F.done (omega (arith, at-most-twice W b, count-take (erases_block b) F.taken (operations W)))

    final : h.finished ≡ true → (k : ℕ) → k < original_count W → page_at W.p chip (slot_of W.m (get_or X.move.list k 0)) ≡ counts_as X originals k
    final e k k-in = finished-page X A originals chip (subst (Moment W chip.marks) (K.ended e) K.moment) K.holds k k-in

    module _ (worn : Wear) where
      abbrev answer : MendAnswer
      answer = mend_answer W chip worn

      C : Recovered W chip K.place answer
      C = recovers W A.ranges chip K.store_length K.place K.moment worn

      goes_on : (work : List ℕ) → length work ≡ work_len W → (wear : Wear) (limit : ℕ) → is_worn_out W.n wear answer.place limit ≡ false
          → (budget : ℕ) → last_place W ≤ budget → (run_answer R answer.chip work wear answer.place budget limit).finished ≡ 1
      unfolding run_carried_out steps_taken
      goes_on work l wear limit lasts budget enough =
          let T : RunTaken R answer.chip work wear K.place limit = record {
            accepted = A;
            lent = record { store_length = C.store_length; marks-length = C.marks-length; work-length = l };
            stands = C.stands;
            fits = start_fits R chip₀ S;
            lasts = rw C.place_is at lasts;
          } in
          let to_end : K.place + min budget (last_place W - K.place) ≡ last_place W = omega (arith, K.moment.in-move) in
          rw (C.place_is, run-answer R answer.chip work wear K.place budget limit (taken-run R _ _ _ _ limit T), to_end, eq-eqb (last_place W) (last_place W) refl)

    pub keeps : Keeps R chip₀ h
    keeps = record {
      stays = stays;
      dropped = dropped;
      erases = few-erases;
      block-erases = block-erases;
      final = λ e k k-in kept.
          ap (λ (to : ℕ). page_at W.p chip (slot_of W.m to)) (sym (completed-kept R.list k kept)) ∙ final e k k-in
          ∙ counts-kept X originals k kept ∙ start-page R chip₀ S k;
      final-dropped = λ e k k-in gone. final e k k-in ∙ counts-dropped X originals k gone;
      placed = λ work wear place limit e. (let T = run-taken R chip work wear place limit e in is_state X A originals chip place T.stands K.store_length K.holds);
      recovers = λ worn. (C worn).number_is;
      goes_on = goes_on;
    }
