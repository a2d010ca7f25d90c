-- A walk from block to block that takes a slot at each, until a test ends it. Read's rules 2 and 3 are two such walks.
use Rattle.flash.proofs.Kit.{◌≡◌, refl, sym, ap, ◌∙◌, ◌≢◌, Bool, true, false, cond, ◌||◌, List, [], ◌∷◌, ℕ, zero, suc, ◌+◌, ◌-◌, ◌≤◌, ◌<◌}
use Rattle.flash.proofs.Kit.{not-suc-le-zero, arith, length}
use Rattle.flash.specs.Lists.{range, first}
use Rattle.flash.proofs.Bools.{never_both}
use Rattle.flash.proofs.Ranges.{first-hit}
use Rattle.method.specs.Move.{Move}
use Rattle.method.specs.Cycle.{D, dest, pred, is_top}
use Rattle.method.specs.Read.{full_of, coded_slot, plain_slot, final_slot, go_back, go_on}
use Rattle.method.proofs.basics.EachNumber.{Each, each-cons}
use Rattle.method.proofs.cycles.Orbits.{iterate, iterate-add}

module _ (f : ℕ → ℕ) (ends : ℕ → Bool) where
  -- the walk from b ends at the block that it meets after d steps
  pub record Ends (d b : ℕ) : Type 0 where
    pub here : ends (iterate f d b) ≡ true
    pub not-before : (i : ℕ) → i < d → ends (iterate f i b) ≡ false

  pub ends_by : (d b : ℕ) → ends (iterate f d b) ≡ true → (e : ℕ) × (e ≤ d) × Ends e b
  ends_by d b h =
      let e : ℕ = first (λ i. ends (iterate f i b)) (range 0 (suc d)) 0 in
      let r = first-hit (λ i. ends (iterate f i b)) 0 (suc d) d 0 (omega arith) (omega arith) h in
      (e, omega (arith, r.high), record { here = r.passes; not-before = λ i l. r.before i (omega arith) l })

  pub ends_next : (d b : ℕ) → Ends (suc d) b → Ends d (f b)
  unfolding iterate
  ends_next d b E = record { here = E.here; not-before = λ i h. E.not-before (suc i) (omega arith) }

  -- it meets no block twice: it would have ended before
  pub once : (d b : ℕ) → Ends d b → (i j : ℕ) → i < j → j ≤ d → iterate f i b ≢ iterate f j b
  once d b E i j h l e =
      let rest : ℕ = d - j in
      let d-is : j + rest ≡ d = omega arith in
      let same : iterate f d b ≡ iterate f (i + rest) b =
      ap (λ (x : ℕ). iterate f x b) (sym d-is) ∙ iterate-add f rest j b ∙ ap (iterate f rest) (sym e) ∙ sym (iterate-add f rest i b) in
      never_both E.here (ap ends same ∙ E.not-before (i + rest) (omega arith))

module _ (f slot : ℕ → ℕ) (last : ℕ → List ℕ) where
  -- a walk of d steps
  unfoldable pub way : (d b : ℕ) → List ℕ
  way zero b = slot b ∷ last b
  way (suc d) b = slot b ∷ way d (f b)

  pub each_way : (Q : ℕ → Type 0) (d b : ℕ) → ((i : ℕ) → i ≤ d → Q (slot (iterate f i b))) → Each Q (last (iterate f d b)) → Each Q (way d b)
  unfolding way iterate
  each_way Q zero b met end = each-cons Q (slot b) (last b) (met 0 (omega arith)) end
  each_way Q (suc d) b met end =
      each-cons Q (slot b) (way d (f b)) (met 0 (omega arith)) (each_way Q d (f b) (λ i h. met (suc i) (omega arith)) end)

  pub length-way : (d b : ℕ) → length (way d b) ≡ suc (d + length (last (iterate f d b)))
  unfolding way iterate
  length-way zero b = omega arith
  length-way (suc d) b = omega (arith, length-way d (f b))

  module _ (ends : ℕ → Bool) where
    -- a walk until the test holds
    unfoldable pub walk : (bound b : ℕ) → List ℕ
    walk zero b = []
    walk (suc bound) b = slot b ∷ cond (ends b) (last b) (walk bound (f b))

    pub walk_is : (bound d b : ℕ) → Ends f ends d b → d < bound → walk bound b ≡ way d b
    unfolding walk way iterate
    walk_is zero d b E h = absurd (not-suc-le-zero h)
    walk_is (suc bound) zero b E h = rw E.here
    walk_is (suc bound) (suc d) b E h =
        rw (E.not-before 0 (omega arith)) (ap (λ (ts : List ℕ). slot b ∷ ts) (walk_is bound d (f b) (ends_next f ends d b E) (omega arith)))

    -- a wider bound changes nothing
    pub walk_more : (bound extra d b : ℕ) → Ends f ends d b → d < bound → walk (bound + extra) b ≡ walk bound b
    walk_more bound extra d b E h = walk_is (bound + extra) d b E (omega arith) ∙ sym (walk_is bound d b E h)

cond-or : (a b : Bool) (x y z : List ℕ) → cond a x (cond b y z) ≡ cond (a || b) (cond a x y) z
cond-or true b x y z = refl
cond-or false b x y z = refl

module _ (M : Move) (marks : List ℕ) (set : ℕ) where
  -- rule 2 ends at the top, or before a block that is full of s
  unfoldable pub back_ends : (v : ℕ) → Bool
  back_ends v = is_top M set v || full_of M marks 0 (pred M set v)

  unfoldable pub back_last : (v : ℕ) → List ℕ
  back_last v = cond (is_top M set v) [] (plain_slot M marks (D M set (pred M set v)) ∷ [])

  pub back-walk : (bound v : ℕ) → go_back M marks set bound v ≡ walk (pred M set) (coded_slot M marks set) back_last back_ends bound v
  unfolding go_back walk back_ends back_last
  back-walk zero v = refl
  back-walk (suc bound) v =
      let u : ℕ = pred M set v in
      rw (back-walk bound u)
      (ap (λ (ts : List ℕ). coded_slot M marks set v ∷ ts)
      (cond-or (is_top M set v) (full_of M marks 0 u) [] (plain_slot M marks (D M set u) ∷ [])
      (walk (pred M set) (coded_slot M marks set) back_last back_ends bound u)))

  -- rule 3 ends before a block that is full of s + 2
  unfoldable pub on_ends : (v : ℕ) → Bool
  on_ends v = full_of M marks 2 (dest M set v)

  unfoldable pub on_last : (v : ℕ) → List ℕ
  on_last v = final_slot M marks (D M set v) ∷ []

  pub on-walk : (bound v : ℕ) → go_on M marks set bound v ≡ walk (dest M set) (coded_slot M marks set) on_last on_ends bound (dest M set v)
  unfolding go_on walk on_ends on_last
  on-walk zero v = refl
  on-walk (suc bound) v = rw (on-walk bound (dest M set v))
