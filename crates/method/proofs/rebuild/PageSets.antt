-- The set of a page, by what it holds.
use Rattle.flash.proofs.Kit.{◌≡◌, refl, ⊎_elim, true, false, cond, [], ◌∷◌, ℕ, ◌+◌, ◌<◌, not-suc-le-zero, arith, ltb}
use Rattle.flash.specs.Geometry.{number_at}
use Rattle.flash.proofs.Bools.{bool_cases}
use Rattle.split.specs.Split.{set_of}
use Rattle.method.specs.Move.{Move, AcceptedMove}
use Rattle.method.specs.Cycle.{D, pred, is_top, coded, sent_to}
use Rattle.method.specs.Place.{Pass, Held, blank, plain, code, final, above}
use Rattle.method.specs.State.{held_originals}
use Rattle.method.proofs.basics.EachNumber.{Each, each-cons, each-one}
use Rattle.method.proofs.cycles.Orbits.{DataBlock}
use Rattle.method.proofs.cycles.SetCycles.{D-page, pred_in}

-- what the pages of a block hold, another one being filled
abbrev pub held_beside : Pass → (low b : ℕ) → Held
held_beside pass low b = cond (ltb b low) code (above pass)

module _ (M : Move) where
  open M.sizes use {n, m}

  unfoldable pub set_at : Held → (b q : ℕ) → ℕ
  set_at blank b q = 0
  set_at plain b q = set_of M.sets (number_at m b q)
  set_at code b q = q
  set_at final b q = set_of M.sets (sent_to M (number_at m b q))

  -- code lies below the highest block
  abbrev pub Within : Held → (b : ℕ) → Type 0
  Within blank b = Unit
  Within plain b = Unit
  Within code b = b < n
  Within final b = Unit

  module _ (A : AcceptedMove M) where
    coded_set : (q v : ℕ) → q < m → DataBlock n v → Each (λ j. set_of M.sets j ≡ q) (coded M q v)
    unfolding coded
    coded_set q v k v-in =
        let Q : ℕ → Type 0 = λ j. set_of M.sets j ≡ q in
        let own = (D-page M A q k v v-in).in-set in
        let theirs = (D-page M A q k (pred M q v) (pred_in M A q k v v-in)).in-set in
        ⊎_elim
        (λ (t : is_top M q v ≡ true). rw t (each-one Q (D M q v) own))
        (λ (t : is_top M q v ≡ false). rw t (each-cons Q (D M q v) (D M q (pred M q v) ∷ []) own (each-one Q (D M q (pred M q v)) theirs)))
        (bool_cases (is_top M q v))

    -- all that a page holds is of its set
    pub held-set : (held : Held) (b q : ℕ) → q < m → Within held b → Each (λ j. set_of M.sets j ≡ set_at held b q) (held_originals M held b q)
    unfolding held_originals set_at
    held-set blank b q k h = λ i l. absurd (not-suc-le-zero l)
    held-set plain b q k h = each-one (λ j. set_of M.sets j ≡ set_of M.sets (number_at m b q)) (number_at m b q) refl
    held-set code b q k h = coded_set q (b + 1) k (record { low = omega arith; high = omega arith })
    held-set final b q k h = each-one (λ j. set_of M.sets j ≡ set_of M.sets (sent_to M (number_at m b q))) (sent_to M (number_at m b q)) refl
