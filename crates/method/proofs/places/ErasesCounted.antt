-- How often each block is erased, and how many writes and erases there are in all.
use Rattle.flash.proofs.Kit.{◌≡◌, refl, sym, ap, ap₂, ◌∙◌, ⊎_elim, Bool, true, false, cond, List, [], ◌∷◌, ◌++◌, map, ℕ, zero, suc, ◌+◌, ◌-◌, ◌*◌}
use Rattle.flash.proofs.Kit.{◌/◌, ◌≤◌, ◌<◌, zero-div, mul-div_cancel, arith, eqb, ltb, take_all, eqb-true, eq-eqb, ne_eqb, lt-ltb, le-ltb}
use Rattle.flash.specs.Lists.{range, down_from, concat_map, count}
use Rattle.flash.specs.declared.sizes.Sizes.{Sizes}
use Rattle.flash.proofs.Bools.{bool_cases}
use Rattle.flash.proofs.Searches.{count-append, count_none}
use Rattle.flash.proofs.Ranges.{none_is, one-counted}
use Rattle.flash.proofs.Bounds.{in-range}
use Rattle.method.specs.Place.{Pass, forward, backward, write, erase, writes, forward_turn, backward_turn, operations, last_place}
use Rattle.method.specs.Step.{is_write, is_erase, erases_block, operations_from}
use Rattle.method.specs.Claims.{StepsCounted, ErasesCounted}
use Rattle.method.proofs.basics.Indexes.{Order, less, same, more, order}
use Rattle.method.proofs.places.StepsCounted.{steps-counted}
use Rattle.method.proofs.places.Tallies.{writes-and-erases, erases-in}

-- lists of which each has one that passes, or none
count-concat_map : {A B : Type 0} (test : B → Bool) (f : A → List B) (one : A → Bool)
    → ((x : A) → count test (f x) ≡ cond (one x) 1 0) → (xs : List A) → count test (concat_map f xs) ≡ count one xs
unfolding count concat_map
count-concat_map test f one each [] = refl
count-concat_map test f one each (x ∷ xs) =
    let rest = count-concat_map test f one each xs in
    count-append test (f x) (concat_map f xs)
    ∙ ⊎_elim
    (λ (e : one x ≡ true). rw e (omega (arith, rw e at (each x))))
    (λ (e : one x ≡ false). rw e (omega (arith, rw e at (each x))))
    (bool_cases (one x))

no-erase : (block : ℕ) (pass : Pass) (b : ℕ) (pages : List ℕ) → count (erases_block block) (map (write pass b) pages) ≡ 0
unfolding count erases_block
no-erase block pass b [] = refl
no-erase block pass b (q ∷ pages) = no-erase block pass b pages

-- the backward erases: each block below n once
count_down : (n block : ℕ) → count (λ b. eqb (b - 1) block) (down_from n) ≡ cond (ltb block n) 1 0
unfolding count down_from
count_down zero block = rw (le-ltb block 0 (omega arith))
count_down (suc n) block = rw at (go (count_down n block) (order block n))
  where
    at : suc n - 1 ≡ n
    at = omega arith

    rest : ℕ
    rest = count (λ b. eqb (b - 1) block) (down_from n)

    go : rest ≡ cond (ltb block n) 1 0 → Order block n → cond (eqb n block) (suc rest) rest ≡ cond (ltb block (suc n)) 1 0
    go r (less h) = rw (ne_eqb n block (omega arith), lt-ltb block (suc n) (omega arith)) (r ∙ rw (lt-ltb block n h))
    go r (same e) = rw (eq-eqb n block (sym e), lt-ltb block (suc n) (omega arith)) (ap suc (r ∙ rw (le-ltb block n (omega arith))))
    go r (more h) = rw (ne_eqb n block (omega arith), le-ltb block (suc n) h) (r ∙ rw (le-ltb block n (omega arith)))

module _ (Z : Sizes) (block : ℕ) where
  open Z use {n, m}

  turn-erases : (pass : Pass) (b other : ℕ) → count (erases_block block) (writes Z pass b ++ (erase other ∷ [])) ≡ cond (eqb other block) 1 0
  unfolding count writes erases_block
  turn-erases pass b other =
      count-append (erases_block block) (writes Z pass b) (erase other ∷ [])
      ∙ omega (arith, no-erase block pass b (range 0 m))

  -- Both passes: forward the blocks 1 to n are erased, backward those below n.
  both-passes : count (erases_block block) (operations Z) ≡ count (λ i. eqb i block) (range 1 n) + cond (ltb block n) 1 0
  unfolding operations forward_turn backward_turn
  both-passes =
      count-append (erases_block block) (concat_map (forward_turn Z) (range 1 n)) (concat_map (backward_turn Z) (down_from n))
      ∙ ap₂ ◌+◌
      (count-concat_map (erases_block block) (forward_turn Z) (λ i. eqb i block) (λ i. turn-erases forward (i - 1) i) (range 1 n))
      (count-concat_map (erases_block block) (backward_turn Z) (λ b. eqb (b - 1) block) (λ b. turn-erases backward b (b - 1)) (down_from n)
      ∙ count_down n block)

  forward-once : 1 ≤ block → block ≤ n → count (λ i. eqb i block) (range 1 n) ≡ 1
  forward-once h l =
      one-counted (λ i. eqb i block) 1 n block
      (record { low = h; high = omega arith; passes = eq-eqb block block refl; others = λ j _ _ e. eqb-true j block e })

  forward-never : block < 1 → count (λ i. eqb i block) (range 1 n) ≡ 0
  forward-never h = count_none (λ i. eqb i block) (range 1 n) (none_is (λ i. eqb i block) 1 n (λ j l _. ne_eqb j block (omega arith)))

  -- no block is erased more than twice
  pub at-most-twice : count (erases_block block) (operations Z) ≤ 2
  at-most-twice = go (order 0 block) (order block n)
    where
      last : cond (ltb block n) 1 0 ≤ 1
      last = ⊎_elim
          (λ (e : ltb block n ≡ true). rw e (omega arith))
          (λ (e : ltb block n ≡ false). rw e (omega arith))
          (bool_cases (ltb block n))

      never : ((j : ℕ) → 1 ≤ j → j < 1 + n → eqb j block ≡ false) → count (erases_block block) (operations Z) ≤ 2
      never f = omega (arith, both-passes, last, count_none (λ i. eqb i block) (range 1 n) (none_is (λ i. eqb i block) 1 n f))

      go : Order 0 block → Order block n → count (erases_block block) (operations Z) ≤ 2
      go (same e) _ = never (λ j l u. ne_eqb j block (omega arith))
      go (more h) _ = absurd (omega arith)
      go (less l) (more h) = never (λ j l u. ne_eqb j block (omega arith))
      go (less l) (less h) = omega (arith, both-passes, last, forward-once (omega arith) (omega arith))
      go (less l) (same e) = omega (arith, both-passes, last, forward-once (omega arith) (omega arith))

-- all the steps, as the steps of a run from place 0
module _ (Z : Sizes) where
  open Z use {n, m}

  all-steps : operations_from Z 0 (last_place Z) ≡ operations Z
  unfolding operations_from StepsCounted
  all-steps = take_all (last_place Z) (operations Z) (omega (arith, steps-counted Z))

  pub all-erases : count is_erase (operations Z) ≡ 2 * n
  unfolding last_place
  all-erases =
      let turns : (0 + 2 * n * (m + 1)) / (m + 1) ≡ 2 * n = ap (λ (p : ℕ). p / (m + 1)) (omega arith) ∙ mul-div_cancel (2 * n) (omega arith) in
      let found = erases-in Z (last_place Z) 0 (omega arith) in
      omega (arith, rw all-steps at found, zero-div (m + 1))

  pub all-writes : count is_write (operations Z) ≡ 2 * n * m
  unfolding last_place
  all-writes = omega (arith, rw all-steps at (writes-and-erases Z (last_place Z) 0 (omega arith)), all-erases)

pub erases-counted : ErasesCounted
erases-counted = record {
  spare = λ Z h. both-passes Z 0 ∙ rw (forward-never Z 0 (omega arith), lt-ltb 0 Z.n (in-range Z h).n-low) (omega arith);
  highest = λ Z h. both-passes Z Z.n ∙ rw (forward-once Z Z.n (in-range Z h).n-low (omega arith), le-ltb Z.n Z.n (omega arith)) (omega arith);
  between = λ Z b h l. both-passes Z b ∙ rw (forward-once Z b h (omega arith), lt-ltb b Z.n l) (omega arith);
  all-erases = all-erases;
  all-writes = all-writes;
}
