-- Rule 7.6: the step at a place, as numbers.
use Rattle.std.specs.Prelude.{cond, not, ℕ, ◌≤◌, ◌<◌, ltb, Result, Ok, Err}
use Rattle.flash.specs.declared.sizes.Sizes.{Sizes}
use Rattle.flash.specs.declared.refusal.Refusal.{Refusal}
use Rattle.flash.specs.Geometry.{in_range}
use Rattle.flash.specs.Refusals.{number_of}
use Rattle.method.specs.Place.{Operation, write, erase, done, mark_of, operation_at, last_place}
use Rattle.places.specs.declared.place.Op.{Op}
use Rattle.places.specs.declared.place.Op.TheVariants.{Write, Erase, Done}

-- The refusal number, or 0; the kind: 0 for a write, 1 for an erase, 2 where no step is left; the block, the page and its mark.
pub record OperationResult : Type 0 where
  pub number : ℕ
  pub kind : ℕ
  pub block : ℕ
  pub page : ℕ
  pub mark : ℕ

-- 0 for a write, 1 for an erase, 2 where no step is left; numbers that do not apply are 0
unfoldable pub told_of : Sizes → Operation → OperationResult
told_of Z (write pass block page) = record { number = 0; kind = 0; block = block; page = page; mark = mark_of Z pass }
told_of Z (erase block) = record { number = 0; kind = 1; block = block; page = 0; mark = 0 }
told_of Z done = record { number = 0; kind = 2; block = 0; page = 0; mark = 0 }

-- rule 7.6: refused as 1 or 5, else the step
unfoldable pub operation_answer : Sizes → (place : ℕ) → OperationResult
operation_answer Z place =
    let refused : ℕ → OperationResult = λ number. record { number = number; kind = 0; block = 0; page = 0; mark = 0 } in
    cond (not (in_range Z)) (refused 1) (cond (ltb (last_place Z) place) (refused 5) (told_of Z (operation_at Z place)))

-- The same numbers of what the code returns: a step, or a refusal, for which every other number is 0.
abbrev pub told_in : Result Op Refusal → OperationResult
told_in (Ok (Write is_backward block page mark)) = record { number = 0; kind = 0; block = block; page = page; mark = mark }
told_in (Ok (Erase block)) = record { number = 0; kind = 1; block = block; page = 0; mark = 0 }
told_in (Ok Done) = record { number = 0; kind = 2; block = 0; page = 0; mark = 0 }
told_in (Err refusal) = record { number = number_of refusal; kind = 0; block = 0; page = 0; mark = 0 }

-- where a step is: a block of the chip, and a page of it
abbrev pub IsWithin : Sizes → Op → Type 0
IsWithin Z (Write is_backward block page mark) = (block ≤ Z.n) × (page < Z.m)
IsWithin Z (Erase block) = block ≤ Z.n
IsWithin Z Done = Unit {0}
