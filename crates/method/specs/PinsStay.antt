-- Pinned pages, along any list of calls with cuts: once the finish was reported each is where it lay at first, and before that
-- it can be read as every other page can. In mid-move it may lie elsewhere.
use Rattle.std.specs.Prelude.{true, ◌≡◌, List, ℕ, ◌<◌, length}
use Rattle.flash.specs.Geometry.{slot_of, original_count}
use Rattle.flash.specs.Chip.{Chip, page_at}
use Rattle.split.specs.Pins.{is_pinned}
use Rattle.split.specs.Request.{Request}
use Rattle.method.specs.Runs.{Start}
use Rattle.method.specs.Events.{Event, History, starting, moments}
use Rattle.method.specs.Demand3.{AllAllowed, Stays, AtEach}

pub record Pinned (R : Request) (chip₀ : Chip) (h : History) (k : ℕ) : Type 0 where
  pub in_place : h.finished ≡ true → page_at R.sizes.p h.chip (slot_of R.sizes.m k) ≡ page_at R.sizes.p chip₀ (slot_of R.sizes.m k)
  pub stays : Stays R h.chip k (page_at R.sizes.p chip₀ (slot_of R.sizes.m k))

unfoldable pub PinsStay : Type 0
PinsStay =
    (R : Request) (chip₀ : Chip) → Start R chip₀ → (events : List Event) → AllAllowed R events (starting chip₀)
    → AtEach (λ h. (k : ℕ) → k < original_count R.sizes → is_pinned R.pins k ≡ true → Pinned R chip₀ h k)
    (moments events (starting chip₀))
