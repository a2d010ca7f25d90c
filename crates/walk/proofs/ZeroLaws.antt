-- The zero sums as the code puts them together.
use Rattle.flash.proofs.Kit.{◌≡◌, refl, sym, ap, ap₂, ◌∙◌, subst, ⊎_elim, true, false, cond, List, [], ◌∷◌, append-nil, ℕ, suc, ◌+◌, ◌-◌, ◌*◌, ◌/◌, ◌≤◌, ◌<◌, div-add-mod', arith, get_or}
use Rattle.flash.specs.Lists.{any, filter}
use Rattle.flash.specs.Geometry.{slot, block_of, page_of, number_at}
use Rattle.flash.proofs.Bools.{bool_cases}
use Rattle.split.specs.Split.{source_block, dest_block}
use Rattle.method.specs.Move.{Move, AcceptedMove}
use Rattle.method.specs.Cycle.{D, dest, pred, is_top, coded, sent_to}
use Rattle.method.specs.Place.{forward, backward, written, marks_of}
use Rattle.method.specs.Read.{read_slots}
use Rattle.method.specs.State.{held_originals}
use Rattle.method.specs.Step.{originals_of}
use Rattle.method.specs.Rebuild.{apart, added, set_page, zero_slots}
use Rattle.method.proofs.cycles.Orbits.{DataBlock}
use Rattle.method.proofs.cycles.SetCycles.{D-page, pred_in, dest-pred, sent-entry}
use Rattle.method.proofs.places.StepsAtPlaces.{turn_of}
use Rattle.method.proofs.rebuild.BlockFilled.{begins}
use Rattle.walk.specs.inner.Moments.{Tells, moment_in}
use Rattle.walk.proofs.MomentLaws.{tells}
use Rattle.walk.proofs.ReadLaws.{read_plain}
use Rattle.walk.proofs.RowLaws.{home-is}

-- nothing is left out beside no slots
apart-nil : (ts : List ℕ) → apart ts [] ≡ ts
unfolding apart any filter
apart-nil ts = append-nil (filter (λ t. true) ts) ∙ all-kept ts
  where
    all-kept : (us : List ℕ) → filter (λ t. true) us ≡ us
    all-kept [] = refl
    all-kept (u ∷ us) = ap (λ (vs : List ℕ). u ∷ vs) (all-kept us)

module _ (M : Move) (A : AcceptedMove M) (set : ℕ) (set-ok : set < M.sizes.m) where
  open M.sizes use {n, m}

  -- there are marks with which the block was begun
  pub some-forth : (i : ℕ) → 1 ≤ i → i ≤ n → (begun : List ℕ) × Tells M begun (moment_in false n (i - 1) i)
  some-forth i l h =
      let B = begins M.sizes A.ranges.m-low forward (i - 1) (omega arith) in
      let up : suc (i - 1) ≡ i = omega arith in
      let begun : List ℕ = marks_of M.sizes (turn_of M.sizes forward (i - 1) * (m + 1) + 0) in
      (begun, subst (λ (x : ℕ). Tells M begun (moment_in false n (i - 1) x)) up (tells M A begun false (i - 1) (suc (i - 1)) B.shape))

  pub some_back : (b : ℕ) → b ≤ n → (begun : List ℕ) × Tells M begun (moment_in true n b (b + 1))
  some_back b h =
      let B = begins M.sizes A.ranges.m-low backward b h in
      let up : suc b ≡ b + 1 = omega arith in
      let begun : List ℕ = marks_of M.sizes (turn_of M.sizes backward b * (m + 1) + 0) in
      (begun, subst (λ (x : ℕ). Tells M begun (moment_in true n b x)) up (tells M A begun true b (suc b) B.shape))

  pub zero-forth : (i : ℕ) → 1 ≤ i → i ≤ n → (begun : List ℕ) → Tells M begun (moment_in false n (i - 1) i)
      → apart (slot m (i - 1) set ∷ []) (apart ((D M set i + m) ∷ []) (cond (is_top M set i) [] (read_slots M begun (D M set (pred M set i))))) ≡ zero_slots M begun forward (i - 1) set
  unfolding zero_slots added set_page originals_of held_originals written coded source_block
  zero-forth i l h begun T =
      let i-in : DataBlock n i = record { low = l; high = h } in
      let p = D-page M A set set-ok i i-in in
      let up : i - 1 + 1 ≡ i = omega arith in
      let own : read_slots M begun (D M set i) ≡ (D M set i + m) ∷ [] = read_plain M A begun _ T (D M set i) p.inside (omega (arith, p.at_block)) in
      ⊎_elim
      (λ (t : is_top M set i ≡ true). rw (up, t, own))
      (λ (t : is_top M set i ≡ false). rw (up, t, own, apart-nil (read_slots M begun (D M set (pred M set i)))))
      (bool_cases (is_top M set i))

  pub zero-back : (b : ℕ) → 1 ≤ b → b ≤ n → (begun : List ℕ)
      → (let k = D M set (pred M set b) in apart ((get_or M.list k 0 + m) ∷ []) (read_slots M begun k)) ≡ zero_slots M begun backward b set
  unfolding zero_slots added set_page originals_of held_originals written dest dest_block
  zero-back b l h begun =
      let b-in : DataBlock n b = record { low = l; high = h } in
      let k : ℕ = D M set (pred M set b) in
      let k-in = (D-page M A set set-ok (pred M set b) (pred_in M A set set-ok b b-in)).inside in
      let to : ℕ = get_or M.list k 0 in
      let goes : block_of m to ≡ b = dest-pred M A set set-ok b b-in in
      let down : b - 1 ≡ to / m = omega (arith, goes) in
      let home : number_at m b (page_of m to) ≡ to = ap (λ (x : ℕ). x * m + page_of m to) down ∙ div-add-mod' to m in
      let sent : sent_to M (number_at m b (page_of m to)) ≡ k = ap (sent_to M) home ∙ sent-entry M A k k-in in
      ap₂ (λ (x : ℕ) (ts : List ℕ). apart (x ∷ []) ts) (home-is m to ∙ ap (λ (x : ℕ). slot m x (page_of m to)) goes)
      (sym (ap (λ (j : ℕ). apart (read_slots M begun j) []) sent ∙ apart-nil (read_slots M begun k)))
