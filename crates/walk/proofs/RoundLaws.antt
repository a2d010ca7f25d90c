-- The top of a cycle is the highest block that is met on the way round, whichever way that goes.
use Rattle.flash.proofs.Kit.{◌≡◌, refl, sym, ap, ◌∙◌, ◌⊎◌, ⊎_elim, List, ℕ, zero, suc, ◌≤◌, ◌<◌, max, le_antisymm, arith}
use Rattle.flash.proofs.Comparisons.{lt-cases}
use Rattle.method.specs.Move.{Move, AcceptedMove}
use Rattle.method.specs.Cycle.{pred, top}
use Rattle.method.proofs.cycles.Orbits.{DataBlock, iterate, iterate-last}
use Rattle.method.proofs.cycles.SetCycles.{pred_in}
use Rattle.method.proofs.cycles.Tops.{top-ge-self, top-pred, top-behind}
use Rattle.walk.specs.inner.Rows.{entry_of, SourcesRow}

-- a way that comes back to its start meets nothing above what it has met
module _ (f : ℕ → ℕ) (d b high : ℕ) (home : iterate f (suc d) b ≡ b) (met : (i : ℕ) → i ≤ d → iterate f i b ≤ high) where
  came-back : (steps : ℕ) → (i : ℕ) × (i ≤ d) × (iterate f steps b ≡ iterate f i b)
  unfolding iterate
  came-back zero = (0, omega arith, refl)
  came-back (suc steps) =
      let r = came-back steps in
      let next : iterate f (suc steps) b ≡ iterate f (suc r.0) b = iterate-last f steps b ∙ ap f r.2 ∙ sym (iterate-last f r.0 b) in
      ⊎_elim
      (λ (l : r.0 < d). (suc r.0, l, next))
      (λ (l : d ≤ r.0).
      let at : r.0 ≡ d = omega (arith, r.1) in
      (0, omega arith, next ∙ ap (λ (i : ℕ). iterate f (suc i) b) at ∙ home))
      (lt-cases r.0 d)

  pub round-le : (steps : ℕ) → iterate f steps b ≤ high
  round-le steps = let r = came-back steps in rw r.2 (met r.0 r.1)

-- t is the highest of what is met in j steps
pub record Highest (f : ℕ → ℕ) (v j t : ℕ) : Type 0 where
  pub met : (i : ℕ) → i ≤ j → iterate f i v ≤ t
  pub at : ℕ
  pub is : t ≡ iterate f at v

module _ (f : ℕ → ℕ) (v : ℕ) where
  pub highest-first : Highest f v 0 v
  unfolding iterate
  highest-first = record { met = λ i h. (let z : i ≡ 0 = omega arith in rw z (omega arith)); at = 0; is = refl }

  pub highest-next : (j t w t' : ℕ) → Highest f v j t → w ≡ iterate f (suc j) v → t' ≡ max t w → Highest f v (suc j) t'
  highest-next j t w t' H w-is e =
      let met : (i : ℕ) → i ≤ suc j → iterate f i v ≤ t' = λ i h.
      ⊎_elim
      (λ (l : i < suc j). (let o = H.met i (omega arith) in omega arith))
      (λ (l : suc j ≤ i). (let q : i ≡ suc j = omega arith in rw (q, ← w-is) (omega arith)))
      (lt-cases i (suc j)) in
      ⊎_elim
      (λ (l : t < w). (let up : t' ≡ w = omega arith in record { met = met; at = suc j; is = up ∙ w-is }))
      (λ (l : w ≤ t). (let same : t' ≡ t = omega arith in record { met = met; at = H.at; is = same ∙ H.is }))
      (lt-cases t w)

module _ (M : Move) (A : AcceptedMove M) (set : ℕ) (set-ok : set < M.sizes.m) (v : ℕ) (b : DataBlock M.sizes.n v) where
  open M.sizes use {n}

  -- ---- the way back
  pub back_in : (steps : ℕ) → DataBlock n (iterate (pred M set) steps v)
  unfolding iterate
  back_in zero = b
  back_in (suc steps) = rw (iterate-last (pred M set) steps v) (pred_in M A set set-ok (iterate (pred M set) steps v) (back_in steps))

  pub same-top : (steps : ℕ) → top M set (iterate (pred M set) steps v) ≡ top M set v
  unfolding iterate
  same-top zero = refl
  same-top (suc steps) =
      ap (top M set) (iterate-last (pred M set) steps v) ∙ top-pred M A set set-ok (iterate (pred M set) steps v) (back_in steps) ∙ same-top steps

  pub back-le : (steps : ℕ) → iterate (pred M set) steps v ≤ top M set v
  back-le steps = omega (arith, top-ge-self M A set set-ok (iterate (pred M set) steps v) (back_in steps), same-top steps)

  -- ---- the loop that looks for it
  module _ (sources : List ℕ) (S : SourcesRow M set sources) where
    same_way : (steps : ℕ) → iterate (entry_of sources) steps v ≡ iterate (pred M set) steps v
    unfolding iterate
    same_way zero = refl
    same_way (suc steps) =
        let u-in = back_in steps in
        iterate-last (entry_of sources) steps v ∙ rw (same_way steps, iterate-last (pred M set) steps v) (S.is (iterate (pred M set) steps v) u-in.low u-in.high)

    pub highest-top : (j t : ℕ) → Highest (entry_of sources) v j t → (n ≤ j) ⊎ (iterate (entry_of sources) (suc j) v ≡ v) → t ≡ top M set v
    highest-top j t H end =
        let r = top-behind M A set set-ok v b in
        let there : iterate (entry_of sources) r.0 v ≡ top M set v = same_way r.0 ∙ r.2 in
        le_antisymm (omega (arith, H.is, same_way H.at, back-le H.at))
        (⊎_elim
        (λ (h : n ≤ j). rw (← there) (H.met r.0 (omega (arith, r.1))))
        (λ (h : iterate (entry_of sources) (suc j) v ≡ v). rw (← there) (round-le (entry_of sources) j v t h H.met r.0))
        end)
