-- The answers as the code returns them.
use Rattle.std.specs.Prelude.{List, ℕ, Result, Ok, Err}
use Rattle.flash.specs.declared.refusal.Refusal.{Refusal}
use Rattle.flash.specs.Refusals.{number_of}
use Rattle.orders.specs.declared.survey.Least.{Least}
use Rattle.orders.specs.Answer.{LeastAnswer, BestAnswer}

abbrev pub least_as : Result Least Refusal → LeastAnswer
least_as (Ok r) = record { number = 0; y = r.y; page = r.page }
least_as (Err refusal) = record { number = number_of refusal; y = 0; page = 0 }

-- the same, with the lent bytes
abbrev pub best_as : Result Least Refusal → (order : List ℕ) → BestAnswer
best_as r order = record { number = (least_as r).number; order = order; y = (least_as r).y; page = (least_as r).page }
