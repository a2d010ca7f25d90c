-- There are 2 × n × (m + 1) steps.
use Rattle.flash.proofs.Kit.{◌≡◌, refl, ap, ap₂, ◌∙◌, List, [], ◌∷◌, ◌++◌, ℕ, zero, suc, ◌+◌, ◌-◌, ◌*◌, suc-mul, arith, length, length-append}
use Rattle.flash.proofs.Kit.{length-map}
use Rattle.flash.specs.Lists.{range, down_from, concat_map}
use Rattle.flash.specs.declared.sizes.Sizes.{Sizes}
use Rattle.flash.proofs.Ranges.{length-range}
use Rattle.method.specs.Place.{Pass, forward, backward, write, erase, writes, forward_turn, backward_turn, operations, last_place}
use Rattle.method.specs.Claims.{StepsCounted}

pub length-down_from : (n : ℕ) → length (down_from n) ≡ n
unfolding down_from
length-down_from zero = refl
length-down_from (suc n) = ap suc (length-down_from n)

-- lists of one length, one after the other
length-concat_map : {A B : Type 0} (f : A → List B) (size : ℕ) → ((x : A) → length (f x) ≡ size) → (xs : List A) → length (concat_map f xs) ≡ length xs * size
unfolding concat_map
length-concat_map f size each [] = omega arith
length-concat_map f size each (x ∷ xs) =
    length-append (f x) (concat_map f xs) ∙ omega (arith, each x, length-concat_map f size each xs, suc-mul (length xs) size)

module _ (Z : Sizes) where
  open Z use {n, m}

  pub length-writes : (pass : Pass) (block : ℕ) → length (writes Z pass block) ≡ m
  unfolding writes
  length-writes pass block = length-map (range 0 m) (write pass block) ∙ length-range 0 m

  -- a turn: the m writes of a block, and an erase
  length-turn : (pass : Pass) (block other : ℕ) → length (writes Z pass block ++ (erase other ∷ [])) ≡ m + 1
  length-turn pass block other = length-append (writes Z pass block) (erase other ∷ []) ∙ ap (λ (x : ℕ). x + 1) (length-writes pass block)

  pub length-forward_turn : (i : ℕ) → length (forward_turn Z i) ≡ m + 1
  unfolding forward_turn
  length-forward_turn i = length-turn forward (i - 1) i

  pub length-backward_turn : (b : ℕ) → length (backward_turn Z b) ≡ m + 1
  unfolding backward_turn
  length-backward_turn b = length-turn backward b (b - 1)

  -- the two loops
  pub length-there : length (concat_map (forward_turn Z) (range 1 n)) ≡ n * (m + 1)
  length-there = length-concat_map (forward_turn Z) (m + 1) length-forward_turn (range 1 n) ∙ ap (λ (x : ℕ). x * (m + 1)) (length-range 1 n)

  length_back : length (concat_map (backward_turn Z) (down_from n)) ≡ n * (m + 1)
  length_back = length-concat_map (backward_turn Z) (m + 1) length-backward_turn (down_from n) ∙ ap (λ (x : ℕ). x * (m + 1)) (length-down_from n)

pub steps-counted : StepsCounted
unfolding StepsCounted operations last_place
steps-counted Z =
    length-append (concat_map (forward_turn Z) (range 1 Z.n)) (concat_map (backward_turn Z) (down_from Z.n))
    ∙ ap₂ ◌+◌ (length-there Z) (length_back Z) ∙ omega arith
