-- A pinned page is kept as every other, and its entry is its own number: so it ends where it lay.
use Rattle.flash.proofs.Kit.{◌≡◌, Bool, true, false, ◌&&◌, not, List, [], ◌∷◌, ℕ, ◌<◌, arith, eqb, length, get_or, eqb-true, ne_eqb, not-false}
use Rattle.flash.specs.Geometry.{original_count}
use Rattle.flash.specs.Chip.{Chip}
use Rattle.flash.proofs.Bounds.{product_le}
use Rattle.flash.proofs.Ranges.{none_in}
use Rattle.split.specs.OneToOne.{dropped}
use Rattle.split.specs.Drops.{is_dropped}
use Rattle.split.specs.Pins.{is_pinned, moves_pinned}
use Rattle.split.specs.Request.{Request}
use Rattle.method.specs.Runs.{Start}
use Rattle.method.specs.Events.{History}
use Rattle.method.specs.Demand3.{Keeps, AtEach}
use Rattle.method.specs.PinsStay.{Pinned, PinsStay}
use Rattle.method.proofs.basics.AcceptedCalls.{ListFits}
use Rattle.method.proofs.states.RunsAddUp.{start_fits, start-accepted}
use Rattle.method.proofs.demand.EveryEvent.{demand-3}

at_each : (P Q : History → Type 0) → ((h : History) → P h → Q h) → (hs : List History) → AtEach P hs → AtEach Q hs
unfolding AtEach
at_each P Q f [] a = tt
at_each P Q f (h ∷ hs) a = (f h a.0, at_each P Q f hs a.1)

module _ (R : Request) (chip₀ : Chip) (S : Start R chip₀) where
  abbrev F : ListFits R
  F = start_fits R chip₀ S

  entry-own : (k : ℕ) → k < original_count R.sizes → is_pinned R.pins k ≡ true → get_or R.list k 0 ≡ k
  unfolding moves_pinned
  entry-own k k-in pinned =
      let test : ℕ → Bool = λ j. is_pinned R.pins j && not (eqb (get_or R.list j 0) j) in
      let misses = none_in test 0 (length R.list) F.stay k (omega arith) (omega (arith, F.list_length)) in
      eqb-true _ _ (not-false _ (rw pinned at misses))

  -- the number that drops a page is no page's
  is-kept : (k : ℕ) → k < original_count R.sizes → is_pinned R.pins k ≡ true → is_dropped R.list k ≡ false
  unfolding is_dropped
  is-kept k k-in pinned = ne_eqb (get_or R.list k 0) dropped (λ q. omega (arith, q, entry-own k k-in pinned, k-in, product_le R.sizes.n R.sizes.m {c = 64} {d = 64} (start-accepted R chip₀ S).ranges.n-high (start-accepted R chip₀ S).ranges.m-high))

  pinned-kept : (h : History) → Keeps R chip₀ h → (k : ℕ) → k < original_count R.sizes → is_pinned R.pins k ≡ true → Pinned R chip₀ h k
  pinned-kept h K k k-in pinned =
      let kept = is-kept k k-in pinned in
      record { in_place = λ e. rw (entry-own k k-in pinned) at (K.final e k k-in kept); stays = K.stays k k-in kept }

pub pins-stay : PinsStay
unfolding PinsStay
pins-stay R chip₀ S events O = at_each _ _ (pinned-kept R chip₀ S) _ (demand-3.kept R chip₀ S events O)
