-- A pass begins with nothing given, and walks over records that were judged until the one that decides.
use Rattle.flash.proofs.Kit.{◌≡◌, refl, Bool, false, List, Option, none, ℕ, zero, suc, ◌≤◌, ◌<◌, arith, get_or, drop, replicate}
use Rattle.flash.specs.Refusals.{number_in}
use Rattle.intel_hex.specs.Reading.{records_in, going, is_given, start}
use Rattle.intel_hex.specs.declared.survey.Found.{Found}
use Rattle.intel_hex.specs.inner.Passes.{judge_all_in, state_of, judged_by, half_at, next_at, Stops, Steps, Walk, arrived, walks}

abbrev pub nothing : Option ℕ
nothing = none

pub none-at : (n b : ℕ) → is_given (get_or (replicate n nothing) b none) ≡ false
unfolding is_given
none-at zero b = refl
none-at (suc n) zero = refl
none-at (suc n) (suc b) = none-at n b

pub begins : (looked : ℕ → Bool) (size : ℕ) (text : List ℕ) → judged_by looked size text ≡ judge_all_in looked size (going (state_of 0 (replicate size nothing))) (records_in (drop 0 text))
unfolding start
begins looked size text = refl

-- ---- a walk over records that were judged
module _ {text : List ℕ} {found : Found} where
  walk-le : {at upper : ℕ} → Walk text found at upper → at ≤ found.end
  walk-le (arrived e S) = omega arith
  walk-le (walks s W) = omega (arith, s.goes.inside, walk-le W)

  pub walk_step : {at upper : ℕ} → Walk text found at upper → at < found.end → Steps text at upper found.size
  walk_step (arrived e S) h = absurd (omega arith)
  walk_step (walks s W) h = s

  pub walk-on : {at upper : ℕ} → Walk text found at upper → at < found.end → Walk text found (next_at text at) (half_at text at upper)
  walk-on (arrived e S) h = absurd (omega arith)
  walk-on (walks s W) h = W

  pub walk_end : {at upper : ℕ} → Walk text found at upper → found.end ≤ at → Stops text at upper found.size (number_in found.verdict)
  walk_end (arrived e S) h = S
  walk_end (walks s W) h = absurd (omega (arith, s.goes.inside, walk-le W))
