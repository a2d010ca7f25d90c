-- A list whose front is filled.
use Rattle.flash.proofs.Kit.{◌≡◌, sym, ap, ◌∙◌, List, ◌++◌, ℕ, ◌*◌, ◌≤◌, arith, length, take, drop, replicate, length-replicate}
use Rattle.flash.proofs.Kit.{length-append, take_at}
use Rattle.flash.specs.Lists.{part}
use Rattle.flash.proofs.Parts.{part-replicate}

pub zeros-taken : (count most : ℕ) → count ≤ most → take count (replicate {A = ℕ} most 0) ≡ replicate count 0
unfolding part
zeros-taken count most h = let z : 0 * count ≡ 0 = omega arith in rw z at (part-replicate count 0 most 0 (omega arith))

pub zeros-length : (count most : ℕ) → count ≤ most → length (take count (replicate {A = ℕ} most 0)) ≡ count
zeros-length count most h = ap length (zeros-taken count most h) ∙ length-replicate {A = ℕ} count 0

-- as many zeros as there are pages pin none
pub no_pins : {count originals : ℕ} → count ≡ originals → count ≤ 64 → take count (replicate {A = ℕ} 64 0) ≡ replicate originals 0
no_pins {count} {originals} e h = zeros-taken count 64 h ∙ ap (λ (x : ℕ). replicate {A = ℕ} x 0) e

-- an array of zeros whose front came back from a call, to be lent once more
abbrev pub whole : (count most : ℕ) → (front : List ℕ) → List ℕ
whole count most front = front ++ drop count (replicate most 0)

module _ (count most : ℕ) (front : List ℕ) (size : length front ≡ count) where
  pub room-again : count ≤ length (whole count most front)
  room-again = omega (arith, length-append front (drop count (replicate most 0)))

  pub front-again : take count (whole count most front) ≡ front
  front-again = take_at front (drop count (replicate most 0)) count size

  pub length-again : count ≡ length (take count (whole count most front))
  length-again = sym (ap length front-again ∙ size)
