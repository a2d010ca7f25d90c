-- The paper's method passes: its lines are sound from rest to the finish.
use Rattle.flash.proofs.Kit.{◌≡◌, refl, sym, ap, ap₂, ◌∙◌, subst, true, false, List, [], ◌∷◌, ◌++◌, map, ℕ, zero, suc, ◌+◌, ◌*◌, ◌≤◌, ◌<◌, arith, length, drop, get_or}
use Rattle.flash.proofs.Kit.{drop-cons, drop_of_length-le, length-append, eq-eqb}
use Rattle.flash.specs.Lists.{count}
use Rattle.flash.specs.declared.sizes.Sizes.{Sizes}
use Rattle.flash.specs.Tables.{refusal}
use Rattle.method.specs.Move.{Move, AcceptedMove}
use Rattle.method.specs.Place as method
use Rattle.method.specs.Place.{Operation, done, operations, operation_at, last_place, pass_at, filling, filled}
use Rattle.method.specs.Step as method-step
use Rattle.method.specs.Step.{originals_of}
use Rattle.method.proofs.places.PagesHeld.{held-blank, Writes, Erases, Change, by-write, by-erase, change}
use Rattle.method.proofs.places.StepsAtPlaces.{next_block, after-erase}
use Rattle.method.proofs.places.StepsCounted.{steps-counted}
use Rattle.method.specs.Claims.{StepsCounted}
use Rattle.listing.specs.Lines.{end_line}
use Rattle.checker.specs.Lines.{Line, write, erase, other}
use Rattle.checker.specs.Pages.{mask_of, resting_pages, is_blank, is_bad_write, block_erased, are_determined, is_requested}
use Rattle.checker.specs.Answer.{said, start, check_from, check_rows, check_answer}
use Rattle.checker.specs.Method.{ascending, step_text, steps_text, move_by, method_text}
use Rattle.checker.specs.Claims.{printed, pages_after, pages_lost, Sound, AllSound, listed, is_write, is_erase, MethodPasses}
use Rattle.checker.proofs.PageLaws.{write-back, written-determined, erased-twice, resting-determined}
use Rattle.checker.proofs.RowsLaws.{rows_pass}
use Rattle.checker.proofs.SoundLaws.{end-some, determined-holds, allowed-test, lines-few, accepts-from}
use Rattle.checker.proofs.HeldLaws.{held, held-blank-page, held-determined}
use Rattle.checker.proofs.PlacesHeld.{originals-good, write-next, fits, erase-next, held_first, held-last}

module _ (n m : ℕ) (list sets : List ℕ) (A : AcceptedMove (move_by n m list sets)) where
  abbrev M : Move
  M = move_by n m list sets

  abbrev Z : Sizes
  Z = M.sizes

  abbrev pages : ℕ → List ℕ
  pages place = held n m list sets place

  -- the line of a step
  unfoldable line_of : Operation → Line
  line_of (method.write pass block page) = write block page (ascending (originals_of M pass block page))
  line_of (method.erase block) = erase block
  line_of done = other

  -- ---- one line
  module _ (place : ℕ) (on : place < last_place Z) (known : are_determined (n * m) (pages place) ≡ true) where
    module _ (room : filled Z place < m) (W : Writes Z place (pass_at Z place) (filling Z place) (filled Z place)) where
      abbrev b : ℕ
      b = filling Z place

      abbrev q : ℕ
      q = filled Z place

      abbrev ks : List ℕ
      ks = ascending (originals_of M (pass_at Z place) b q)

      blank-from : (j : ℕ) → q ≤ j → j < m → is_blank (pages place) (b * m + j) ≡ true
      blank-from j h k = eq-eqb (get_or (pages place) (b * m + j) 0) 0 (held-blank-page n m list sets place b j W.block_in k (held-blank Z place b j refl h))

      good : is_bad_write m (pages place) b q ≡ false
      good = allowed-test n m list (pages place) b q (blank-from q (omega arith) room) (λ j h k. blank-from j (omega arith) k)

      next_known : are_determined (n * m) (pages (suc place)) ≡ true
      next_known = ap (are_determined (n * m)) (sym (write-next n m list sets A place (pass_at Z place) b q W)) ∙ written-determined m (pages place) b q room good (n * m) (mask_of ks) known

      sound-write : Sound n m list (write b q ks) (pages place)
      unfolding pages_after pages_lost
      sound-write = record {
        named = (W.block_in, W.page-in, originals-good n m list sets A place on room (pass_at Z place) refl);
        allowed = (blank-from q (omega arith) room, λ j h k. blank-from j (omega arith) k);
        after = determined-holds n m list _ (ap (are_determined (n * m)) (write-next n m list sets A place (pass_at Z place) b q W) ∙ next_known);
        lost = determined-holds n m list _ (ap (are_determined (n * m)) (write-back m (pages place) b q room good (mask_of ks)) ∙ known);
      }

    module _ (full : filled Z place ≡ m) (E : Erases Z place (next_block (pass_at Z place) (filling Z place))) where
      abbrev c : ℕ
      c = next_block (pass_at Z place) (filling Z place)

      erased-known : are_determined (n * m) (pages (suc place)) ≡ true
      erased-known = held-determined n m list sets A (suc place) on (omega (arith, (after-erase Z place on full).pages-is, A.ranges.m-low))

      kept : are_determined (n * m) (block_erased m (pages place) c) ≡ true
      kept = ap (are_determined (n * m)) (erase-next n m list sets A place c E) ∙ erased-known

      sound-erase : Sound n m list (erase c) (pages place)
      unfolding pages_after pages_lost
      sound-erase = record {
        named = E.block_in;
        allowed = tt;
        after = determined-holds n m list _ kept;
        lost = determined-holds n m list _ (ap (are_determined (n * m)) (erased-twice m (pages place) c (fits n m list sets A place c E)) ∙ kept);
      }

  -- ---- all lines from a place on
  size : length (operations Z) ≡ last_place Z
  unfolding StepsCounted
  size = steps-counted Z

  here : (place : ℕ) → place < last_place Z → drop place (operations Z) ≡ operation_at Z place ∷ drop (suc place) (operations Z)
  unfolding operation_at
  here place h = drop-cons (operations Z) place done (omega (arith, size))

  Rest : ℕ → Type 0
  Rest place = AllSound n m list (λ p. is_requested m list p ≡ true) (map line_of (drop place (operations Z))) (pages place)

  -- the line of a place before those that come after it
  sound-before : (place : ℕ) → place < last_place Z → are_determined (n * m) (pages place) ≡ true → (are_determined (n * m) (pages (suc place)) ≡ true → Rest (suc place)) → Rest place
  unfolding Rest AllSound line_of pages_after
  sound-before place on known more = go (change Z place on)
    where
      go : Change Z place → Rest place
      go (by-write room op W) =
          rw (here place on, op) (
            sound-write place on known room W,
            subst (AllSound n m list (λ p. is_requested m list p ≡ true) (map line_of (drop (suc place) (operations Z))))
                (sym (write-next n m list sets A place (pass_at Z place) (filling Z place) (filled Z place) W))
                (more (next_known place on known room W)),
          )
      go (by-erase full op E) =
          rw (here place on, op) (
            sound-erase place on known full E,
            subst (AllSound n m list (λ p. is_requested m list p ≡ true) (map line_of (drop (suc place) (operations Z))))
                (sym (erase-next n m list sets A place (next_block (pass_at Z place) (filling Z place)) E))
                (more (erased-known place on known full E)),
          )

  sound-from : (left place : ℕ) → place + left ≡ last_place Z → are_determined (n * m) (pages place) ≡ true → Rest place
  unfolding Rest AllSound
  sound-from zero place e known =
      let last : place ≡ last_place Z = omega arith in
      rw (drop_of_length-le (operations Z) {i = place} (omega (arith, size)), last) (held-last n m list sets A)
  sound-from (suc left) place e known = sound-before place (omega arith) known (λ next. sound-from left (suc place) (omega arith) next)

  -- ---- the text is that of the lines
  printed-is : (place : ℕ) (op : Operation) → printed place (line_of op) ≡ step_text M place op
  unfolding printed line_of step_text
  printed-is place (method.write pass block page) = refl
  printed-is place (method.erase block) = refl
  printed-is place done = refl

  listed-is : (place : ℕ) (ops : List Operation) → listed n m list place (map line_of ops) ≡ steps_text M place ops
  unfolding listed steps_text
  listed-is place [] = refl
  listed-is place (op ∷ ops) = ap₂ (λ (x y : List ℕ). x ++ y) (printed-is place op) (listed-is (suc place) ops)

  writes_are : (ops : List Operation) → count (is_write n m list) (map line_of ops) ≡ count method-step.is_write ops
  unfolding count is_write method-step.is_write line_of
  writes_are [] = refl
  writes_are (method.write pass block page ∷ ops) = ap suc (writes_are ops)
  writes_are (method.erase block ∷ ops) = writes_are ops
  writes_are (done ∷ ops) = writes_are ops

  erases-are : (ops : List Operation) → count (is_erase n m list) (map line_of ops) ≡ count method-step.is_erase ops
  unfolding count is_erase method-step.is_erase line_of
  erases-are [] = refl
  erases-are (method.write pass block page ∷ ops) = erases-are ops
  erases-are (method.erase block ∷ ops) = ap suc (erases-are ops)
  erases-are (done ∷ ops) = erases-are ops

  pub passes : check_from n m list (length (method_text n m list sets)) (method_text n m list sets) (start n m list) ≡ said true
  unfolding method_text Rest
  passes =
      let ops = operations Z in
      let lines = map line_of ops in
      let sound : AllSound n m list (λ p. is_requested m list p ≡ true) lines (resting_pages n m) =
      subst (AllSound n m list (λ p. is_requested m list p ≡ true) lines) (held_first n m list sets A)
      (sound-from (last_place Z) 0 (omega arith) (ap (are_determined (n * m)) (held_first n m list sets A) ∙ resting-determined n m)) in
      let text : steps_text M 0 ops ≡ listed n m list 0 lines = sym (listed-is 0 ops) in
      let long = lines-few n m list 0 lines (resting_pages n m) _ sound in
      ap (λ (l : List ℕ). check_from n m list (length (method_text n m list sets)) (l ++ end_line (count method-step.is_write ops) (count method-step.is_erase ops)) (start n m list)) text
      ∙ accepts-from n m list lines (start n m list) (length (method_text n m list sets)) _ _
      (omega (
        arith,
        long,
        ap length text,
        length-append (steps_text M 0 ops) (end_line (count method-step.is_write ops) (count method-step.is_erase ops)),
        end-some (count method-step.is_write ops) (count method-step.is_erase ops),
      ))
      sound (omega (arith, writes_are ops)) (omega (arith, erases-are ops))

pub method-passes : MethodPasses
unfolding MethodPasses check_answer
method-passes n m list sets rows size split =
    let K = rows_pass n m list rows in
    let A : AcceptedMove (move_by n m list sets) = record {
      ranges = record { n-low = K.n-low; n-high = K.n-high; m-low = K.m-low; m-high = K.m-high; p-low = omega arith; p-high = omega arith; s-high = omega arith };
      list_length = K.size;
      sets-length = size;
      one-to-one = K.one-to-one;
      split = split;
    } in
    rw (eq-eqb (refusal (check_rows n m list)) 0 rows) (passes n m list sets A)
