-- The answer of mend, case by case.
use Rattle.flash.proofs.Kit.{◌≡◌, true, false, not, none, some, ℕ, eqb, length, eqb-true, not-false}
use Rattle.flash.specs.Tables.{first_fit, number_or0, refusal}
use Rattle.flash.specs.declared.sizes.Sizes.{Sizes}
use Rattle.flash.specs.Geometry.{in_range, store_len, marks_len}
use Rattle.flash.specs.Chip.{Chip, erase_block}
use Rattle.flash.specs.declared.wear.Wear.{Wear}
use Rattle.flash.specs.Wear.{risen}
use Rattle.flash.proofs.Bools.{or-false-left, or-false-right}
use Rattle.method.specs.Mend.{reading}
use Rattle.method.specs.Answers.{bad_chip, marks_answer, fits_none, mend_rows, mended, mend_answer}

pub chip-lengths : (Z : Sizes) (chip : Chip) → bad_chip Z chip ≡ false → (length chip.store ≡ store_len Z) × (length chip.marks ≡ marks_len Z)
unfolding bad_chip
chip-lengths Z chip e =
    let store = eqb (length chip.store) (store_len Z) in
    let marks = eqb (length chip.marks) (marks_len Z) in (
      eqb-true _ _ (not-false store (or-false-left (not store) (not marks) e)),
      eqb-true _ _ (not-false marks (or-false-right (not store) (not marks) e)),
    )

module _ (Z : Sizes) (chip : Chip) (wear : Wear) where
  abbrev Refused : ℕ → Type 0
  Refused number = mend_answer Z chip wear ≡ record { number = number; place = 0; erases = 0; chip = chip; wear = wear }

  pub refused-1 : in_range Z ≡ false → Refused 1
  unfolding mend_answer mend_rows refusal first_fit number_or0
  refused-1 e = rw e

  module _ (sizes : in_range Z ≡ true) where
    pub refused-2 : bad_chip Z chip ≡ true → Refused 2
    unfolding mend_answer mend_rows refusal first_fit number_or0
    refused-2 e = rw (sizes, e)

    module _ (lengths : bad_chip Z chip ≡ false) where
      pub refused-6 : reading Z chip.marks ≡ none → Refused 6
      unfolding mend_answer mend_rows refusal first_fit number_or0 fits_none marks_answer
      refused-6 e = rw (sizes, lengths, e)

      pub mended-full : (place : ℕ) → reading Z chip.marks ≡ some (record { place = place; to_erase = none }) → mend_answer Z chip wear ≡ record { number = 0; place = place; erases = 0; chip = chip; wear = wear }
      unfolding mend_answer mend_rows refusal first_fit number_or0 fits_none marks_answer mended
      mended-full place e = rw (sizes, lengths, e)

      pub mended-torn : (place block : ℕ) → reading Z chip.marks ≡ some (record { place = place; to_erase = some block }) → mend_answer Z chip wear ≡ record { number = 0; place = place; erases = 1; chip = erase_block Z.m Z.p block chip; wear = risen block wear }
      unfolding mend_answer mend_rows refusal first_fit number_or0 fits_none marks_answer mended
      mended-torn place block e = rw (sizes, lengths, e)
