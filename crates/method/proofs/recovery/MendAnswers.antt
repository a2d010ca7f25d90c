-- Recovery: what mend answers at a moment. It leaves store and marks as a place has them, so a run from there is not refused.
use Rattle.flash.proofs.Kit.{◌≡◌, refl, sym, ap, subst, true, false, not, some, none, List, [], ℕ, suc, ◌+◌, ◌≤◌, ◌<◌, arith, length, eq-eqb}
use Rattle.flash.specs.Tables.{refusal}
use Rattle.flash.specs.declared.sizes.Sizes.{Sizes}
use Rattle.flash.specs.Geometry.{Bounds, slot, store_len, marks_len, letter}
use Rattle.flash.specs.declared.wear.Wear.{Wear}
use Rattle.flash.specs.Wear.{risen}
use Rattle.flash.specs.Chip.{Chip, erased, mark_at, is_blank, erase_block}
use Rattle.flash.proofs.Blocks.{full_at}
use Rattle.flash.proofs.Bounds.{range-in}
use Rattle.flash.proofs.Tables.{refusal-skip, refusal-nil}
use Rattle.method.specs.Place.{pass_at, filling, filled, blank, held_at}
use Rattle.method.specs.Mend.{Reading, reading}
use Rattle.method.specs.Answers.{bad_chip, marks_answer, fits_none, mend_rows, MendAnswer, mended, mend_answer}
use Rattle.method.proofs.basics.Indexes.{each-slot}
use Rattle.method.specs.inner.Shape.{Shape}
use Rattle.method.proofs.basics.AcceptedCalls.{StandsAt}
use Rattle.method.proofs.places.PagesHeld.{MarksAt, held-blank, marks-eq}
use Rattle.method.proofs.places.PlaceShape.{letter_above, shape-full}
use Rattle.method.proofs.places.Turns.{resumes-begun}
use Rattle.method.proofs.states.NextPlace.{erased-store, erased-marks, erased-stands}
use Rattle.method.proofs.recovery.Moments.{Moment, place-moment}
use Rattle.method.proofs.recovery.MendFinds.{Finds, torn, full, finds}
use Rattle.method.proofs.recovery.MarksFade.{Fades, fades-refl, erase-fades}

-- only the block between has pages that are not written
erased-between : (Z : Sizes) (marks : List ℕ) (low high i b q : ℕ) → Shape Z marks low high i → b ≤ Z.n → q < Z.m → mark_at marks (slot Z.m b q) ≡ erased → (low ≤ b) × (b < high)
unfolding letter
erased-between Z marks low high i b q S h k e =
    let not-below : b < low → ⊥ = λ l. absurd (omega (arith, full_at Z.m marks b (letter Z 1) q (S.below b l) k)) in
    let not-above : high ≤ b → ⊥ = λ l. absurd (omega (arith, full_at Z.m marks b (letter Z i) q (S.above b l h) k)) in
    (omega arith, omega arith)

-- an answer by which the move goes on at a place
pub record Recovered (Z : Sizes) (chip : Chip) (place : ℕ) (answer : MendAnswer) : Type 0 where
  pub number_is : answer.number ≡ 0
  pub place_is : answer.place ≡ place
  pub stands : StandsAt Z answer.chip place
  pub moment : Moment Z answer.chip.marks place
  pub store_length : length answer.chip.store ≡ store_len Z
  pub marks-length : length answer.chip.marks ≡ marks_len Z
  pub fades : Fades Z chip answer.chip

module _ (Z : Sizes) (B : Bounds Z) (chip : Chip) (store_length : length chip.store ≡ store_len Z) (place : ℕ) (C : Moment Z chip.marks place) (wear : Wear) where
  open Z use {n, m, p as P}

  accepted : (found : Reading) → reading Z chip.marks ≡ some found → refusal (mend_rows Z chip) ≡ 0
  unfolding mend_rows bad_chip fits_none marks_answer
  accepted found e =
      let lengths : bad_chip Z chip ≡ false = rw (eq-eqb _ _ store_length, eq-eqb _ _ C.marks-length) refl in
      refusal-skip _ _ (ap not (range-in Z B)) (refusal-skip _ _ lengths (refusal-skip _ [] (ap fits_none e) refusal-nil))

  pub answers : (found : Reading) → reading Z chip.marks ≡ some found → mend_answer Z chip wear ≡ mended Z chip wear found
  unfolding mend_answer
  answers found e = rw (accepted found e, e)

  -- with no block unfinished nothing is marked 255
  stands-full : filled Z place ≡ m → MarksAt Z place chip.marks → StandsAt Z chip place
  stands-full k A =
      let S = shape-full Z place C.in-move chip.marks A k in
      record {
        inside = C.in-move;
        marks = marks-eq Z place chip.marks B.m-low A;
        blank =
            each-slot m (n + 1) (λ t. mark_at chip.marks t ≡ erased → is_blank P chip t ≡ true)
            (λ b q h k e.
            let r = erased-between Z chip.marks _ _ _ b q S (omega arith) k e in
            absurd (omega arith));
      }

  -- Where a block is unfinished, it is erased.
  module _ (z : filled Z place ≡ 0) (S : Shape Z chip.marks (filling Z place) (suc (filling Z place)) (letter_above (pass_at Z place))) where
    abbrev b : ℕ
    b = filling Z place

    abbrev left : Chip
    left = erase_block m P b chip

    own : (q : ℕ) → held_at Z place b q ≡ blank
    own q = held-blank Z place b q refl (omega arith)

    left-marks : MarksAt Z place left.marks
    left-marks = erased-marks Z chip b S.inside store_length C.marks-length place own C.others

    stands-torn : StandsAt Z left place
    stands-torn =
        erased-stands Z chip b S.inside store_length C.marks-length place own C.others
        (λ c q apart h k e. (let r = erased-between Z chip.marks b (suc b) _ c q S h k e in absurd (apart (omega arith)))) B.m-low C.in-move

    recovered-torn : Recovered Z chip place (record { number = 0; place = place; erases = 1; chip = left; wear = risen b wear })
    recovered-torn = record {
      number_is = refl;
      place_is = refl;
      stands = stands-torn;
      moment = subst (Moment Z left.marks) (resumes-begun Z place z) (place-moment Z place C.in-move left.marks left-marks);
      store_length = erased-store Z chip b S.inside store_length C.marks-length;
      marks-length = left-marks.length-is;
      fades = erase-fades Z b chip S.inside store_length C.marks-length;
    }

  recovered-full : filled Z place ≡ m → MarksAt Z place chip.marks → Recovered Z chip place (record { number = 0; place = place; erases = 0; chip = chip; wear = wear })
  recovered-full k A = record {
    number_is = refl;
    place_is = refl;
    stands = stands-full k A;
    moment = C;
    store_length = store_length;
    marks-length = C.marks-length;
    fades = fades-refl Z chip;
  }

  pub recovers : Recovered Z chip place (mend_answer Z chip wear)
  unfolding mended
  recovers = go (finds Z B chip.marks place C)
    where
      go : Finds Z chip.marks place → Recovered Z chip place (mend_answer Z chip wear)
      go (torn z S e) = subst (Recovered Z chip place) (sym (answers (record { place = place; to_erase = some (filling Z place) }) e)) (recovered-torn z S)
      go (full k A e) = subst (Recovered Z chip place) (sym (answers (record { place = place; to_erase = none }) e)) (recovered-full k A)
