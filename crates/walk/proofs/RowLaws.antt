-- The walks by the rows of a set, turn by turn: they are read's rules 2 and 3, and their slots are slots of the store, none the one that is written.
use Rattle.flash.proofs.Kit.{◌≡◌, refl, sym, ap, ◌∙◌, ◌≢◌, ⊎_elim, Bool, true, false, cond, ◌||◌, List, [], ◌∷◌, ℕ, zero, suc, ◌+◌, ◌-◌, ◌*◌, ◌/◌}
use Rattle.flash.proofs.Kit.{◌%◌, ◌≤◌, ◌<◌, not-suc-le-zero, suc-mul, div-add-mod', mod-lt, add-one, arith, eqb, leb, length, get_or, drop, eqb-true}
use Rattle.flash.proofs.Kit.{eq-eqb, ne_eqb, le-leb, lt-leb, leb-true, leb-false}
use Rattle.flash.specs.declared.sizes.Sizes.{Sizes}
use Rattle.flash.specs.Geometry.{slot, block_of, slot_of, number_at, slot_count}
use Rattle.flash.proofs.Bools.{bool_cases, bool_eq, or-false-left}
use Rattle.flash.proofs.Bounds.{slot-in-marks}
use Rattle.split.specs.Split.{dest_block}
use Rattle.split.proofs.SplitLaws.{block-range}
use Rattle.method.specs.Move.{Move, AcceptedMove}
use Rattle.method.specs.Cycle.{D, dest, pred, top, is_top}
use Rattle.method.specs.Read.{full_of, coded_slot, plain_slot, final_slot, go_back, go_on}
use Rattle.method.proofs.basics.EachNumber.{Each, each-cons, each-one}
use Rattle.method.proofs.basics.Indexes.{slot_lt}
use Rattle.method.proofs.cycles.Orbits.{DataBlock, iterate, iterate-in}
use Rattle.method.proofs.cycles.SetCycles.{dest-in, dest-one, pred_in}
use Rattle.method.proofs.cycles.Tops.{top_in, top-pred}
use Rattle.method.proofs.walks.WalkBounds.{back-ends, on-ends}
use Rattle.method.proofs.walks.WalkSlots.{Ends, way, walk, walk_is, back_ends, back_last, back-walk, on_ends, on_last, on-walk}
use Rattle.walk.specs.inner.Rows.{entry_of, PagesIn, BlocksIn, ListIn, PagesRow, SourcesRow}
use Rattle.walk.specs.inner.Slots.{walk_by, coded_at, plain_at, sent_by, back_by, on_by, forward_by, backward_by}

module _ (Q : ℕ → Type 0) where
  each_none : Each Q []
  each_none i h = absurd (not-suc-le-zero h)

  each-cond : (t : Bool) (xs ys : List ℕ) → (t ≡ true → Each Q xs) → (t ≡ false → Each Q ys) → Each Q (cond t xs ys)
  each-cond true xs ys a b = a refl
  each-cond false xs ys a b = b refl

-- ---- walks
module _ (next slot_at : ℕ → ℕ) (last : ℕ → List ℕ) (ends : ℕ → Bool) where
  pub walk_turn : (left v : ℕ) → 0 < left → walk_by next slot_at last ends left v ≡ slot_at v ∷ cond (ends v) (last v) (walk_by next slot_at last ends (left - 1) (next v))
  unfolding walk_by
  walk_turn left v more =
      (let again : left ≡ suc (left - 1) = omega arith in ap (λ (x : ℕ). walk_by next slot_at last ends x v) again)

  pub walk-some : (left v : ℕ) → 0 < left → 1 ≤ length (walk_by next slot_at last ends left v)
  walk-some left v more = rw (walk_turn left v more) (omega arith)

  -- the same by other functions that agree on the blocks that it may meet
  module _ (In : ℕ → Type 0) (next' : ℕ → ℕ) (last' : ℕ → List ℕ) (ends' : ℕ → Bool)
      (same : (v : ℕ) → In v → (next v ≡ next' v) × In (next' v) × (last v ≡ last' v) × (ends v ≡ ends' v)) where
    pub walk_same : (bound v : ℕ) → In v → walk_by next slot_at last ends bound v ≡ walk next' slot_at last' ends' bound v
    unfolding walk_by walk
    walk_same zero v h = refl
    walk_same (suc bound) v h = let s = same v h in rw (s.0, s.2, s.3, walk_same bound (next' v) s.1)

  -- what holds of all its slots, and of all but the first, whose block may be another than those that it goes on to
  module _ (Q From In : ℕ → Type 0) (at : (v : ℕ) → In v → From v × Q (slot_at v))
      (on : (v : ℕ) → From v → (ends v ≡ true → Each Q (last v)) × (ends v ≡ false → In (next v))) where
    walk-each : (bound v : ℕ) → In v → Each Q (walk_by next slot_at last ends bound v)
    unfolding walk_by
    walk-each zero v h = each_none Q
    walk-each (suc bound) v h =
        let o = on v (at v h).0 in
        let rest : List ℕ = walk_by next slot_at last ends bound (next v) in
        each-cons Q (slot_at v) (cond (ends v) (last v) rest) (at v h).1 (each-cond Q (ends v) (last v) rest o.0 (λ e. walk-each bound (next v) (o.1 e)))

    walk-rest : (bound v : ℕ) → 0 < bound → From v → Each Q (drop 1 (walk_by next slot_at last ends bound v))
    walk-rest bound v some h =
        let o = on v h in
        let rest : List ℕ = walk_by next slot_at last ends (bound - 1) (next v) in
        rw (walk_turn bound v some) (each-cond Q (ends v) (last v) rest o.0 (λ e. walk-each (bound - 1) (next v) (o.1 e)))

module _ (f slot_at : ℕ → ℕ) where
  pub length-way : (last : ℕ → List ℕ) (d b : ℕ) → length (way f slot_at last d b) ≡ suc d + length (last (iterate f d b))
  unfolding way iterate
  length-way last zero b = omega arith
  length-way last (suc d) b = omega (arith, length-way last d (f b))

  pub way_end : (last last' : ℕ → List ℕ) (d b : ℕ) → last (iterate f d b) ≡ last' (iterate f d b) → way f slot_at last d b ≡ way f slot_at last' d b
  unfolding way iterate
  way_end last last' zero b e = rw e
  way_end last last' (suc d) b e = ap (λ (ts : List ℕ). slot_at b ∷ ts) (way_end last last' d (f b) e)

-- ---- what the rows tell
-- the slot of a page number
pub home-is : (m k : ℕ) → k + m ≡ slot_of m k
home-is m k = omega (arith, suc-mul (k / m) m, div-add-mod' k m, add-one (k / m))

block_up : (m v : ℕ) → 1 ≤ v → v * m ≡ (v - 1) * m + m
block_up m v h = (let e : v ≡ suc (v - 1) = omega arith in ap (λ (x : ℕ). x * m) e ∙ suc-mul (v - 1) m)

module _ (M : Move) (A : AcceptedMove M) (set : ℕ) (set-ok : set < M.sizes.m) (pages : List ℕ) (P : PagesRow M set pages) where
  open M.sizes use {n, m}

  pub plain_at_lem : (v : ℕ) → DataBlock n v → plain_at m pages v ≡ slot_of m (D M set v)
  plain_at_lem v b = rw (← home-is m (D M set v), ← P.is v b.low b.high) (omega (arith, block_up m v b.low))

  sent_is : (v : ℕ) → DataBlock n v → sent_by m M.list pages v ≡ get_or M.list (D M set v) 0
  sent_is v b = ap (λ (k : ℕ). get_or M.list k 0) (P.is v b.low b.high)

  -- ---- rule 2, where the walk stops at the top
  module _ (sources marks : List ℕ) (S : SourcesRow M set sources) (plain : ℕ) (plain-is : (u : ℕ) → u ≤ n → full_of M marks 0 u ≡ leb plain u) where
    pub back_is : (v : ℕ) → DataBlock n v → back_by m set pages sources plain (top M set v) n v ≡ go_back M marks set n v
    unfolding coded_slot plain_slot back_ends back_last is_top
    back_is v b =
        let tip : ℕ = top M set v in
        walk_same (entry_of sources) (coded_at m set) (λ c. cond (eqb c tip) [] (plain_at m pages (entry_of sources c) ∷ [])) (λ c. eqb c tip || leb plain (entry_of sources c))
        (λ c. DataBlock n c × (top M set c ≡ tip)) (pred M set) (back_last M marks set) (back_ends M marks set)
        (λ c h.
        let u-in = pred_in M A set set-ok c h.0 in
        let u-is = S.is c h.0.low h.0.high in
        let ends : eqb (top M set c) c ≡ eqb c tip =
        bool_eq (eqb (top M set c) c) (eqb c tip) (λ q. eq-eqb c tip (sym (eqb-true (top M set c) c q) ∙ h.1)) (λ q. eq-eqb (top M set c) c (h.1 ∙ sym (eqb-true c tip q))) in
        (u-is, (u-in, top-pred M A set set-ok c h.0 ∙ h.1), rw (u-is, ends, plain_at_lem (pred M set c) u-in), rw (u-is, ends, plain-is (pred M set c) u-in.high)))
        n v (b, refl)
        ∙ sym (back-walk M marks set n v)

  pub back-few : (marks : List ℕ) (v : ℕ) → DataBlock n v → length (go_back M marks set n v) ≤ n
  unfolding back_last
  back-few marks v b =
      let e = back-ends M A marks set set-ok v b in
      let way-is = walk_is (pred M set) (coded_slot M marks set) (back_last M marks set) (back_ends M marks set) n e.0 v e.2 e.1 in
      rw (back-walk M marks set n v, way-is, length-way (pred M set) (coded_slot M marks set) (back_last M marks set) e.0 v)
      (⊎_elim
      (λ (t : is_top M set (iterate (pred M set) e.0 v) ≡ true). rw t (omega (arith, e.1)))
      (λ (t : is_top M set (iterate (pred M set) e.0 v) ≡ false). rw t (omega (arith, e.3 t)))
      (bool_cases (is_top M set (iterate (pred M set) e.0 v))))

  -- ---- going on
  module _ (done stop : ℕ) where
    abbrev pub on_stops : (v : ℕ) → Bool
    on_stops v = leb done (dest M set v) || eqb (dest M set v) stop

    abbrev pub on_end : (v : ℕ) → List ℕ
    on_end v = cond (leb done (dest M set v)) (slot_of m (get_or M.list (D M set v) 0) ∷ []) []

    pub on_same : (v : ℕ) → DataBlock n v → on_by m M.list set pages done stop n v ≡ walk (dest M set) (coded_at m set) on_end on_stops n v
    unfolding dest dest_block
    on_same =
        let to : ℕ → ℕ = sent_by m M.list pages in
        walk_same (λ c. block_of m (to c)) (coded_at m set) (λ c. cond (leb done (block_of m (to c))) ((to c + m) ∷ []) [])
        (λ c. leb done (block_of m (to c)) || eqb (block_of m (to c)) stop)
        (DataBlock n) (dest M set) on_end on_stops
        (λ c h. (let e = sent_is c h in (ap (block_of m) e, dest-in M A set set-ok c h, rw (e, home-is m (get_or M.list (D M set c) 0)), rw e)))
        n

    -- rule 3, where a block that is full of s + 2 is met before `stop`
    module _ (marks : List ℕ) (done-is : (u : ℕ) → u ≤ n → full_of M marks 2 u ≡ leb done u) (v : ℕ) (v-in : DataBlock n v) (w : ℕ)
        (w-is : dest M set v ≡ w) (there : done ≤ top M set v) (not_yet : w < done) where
      pub on-is : ((d : ℕ) → Ends (dest M set) (λ c. leb done (dest M set c)) d w → (j : ℕ) → j < d → eqb (dest M set (iterate (dest M set) j w)) stop ≡ false)
          → (on_by m M.list set pages done stop n w ≡ go_on M marks set n v) × (length (go_on M marks set n v) ≤ n)
      unfolding on_ends on_last coded_slot final_slot
      on-is apart =
          let w-in : DataBlock n w = rw w-is at (dest-in M A set set-ok v v-in) in
          let top-full = done-is (top M set v) (top_in M A set set-ok v v-in).high ∙ le-leb done (top M set v) there in
          let e = rw w-is at (on-ends M A marks set set-ok v v-in top-full (rw w-is (done-is w w-in.high ∙ lt-leb done w not_yet))) in
          let d : ℕ = e.0 in
          let at : ℕ → ℕ = λ j. iterate (dest M set) j w in
          let at_in : (j : ℕ) → DataBlock n (at j) = λ j. iterate-in n (dest M set) (dest-one M A set set-ok) j w w-in in
          let told : (j : ℕ) → full_of M marks 2 (dest M set (at j)) ≡ leb done (dest M set (at j)) = λ j.
          done-is (dest M set (at j)) (dest-in M A set set-ok (at j) (at_in j)).high in
          let E : Ends (dest M set) (λ c. leb done (dest M set c)) d w =
          record { here = sym (told d) ∙ e.2.here; not-before = λ j h. sym (told j) ∙ e.2.not-before j h } in
          let stops : Ends (dest M set) on_stops d w = record { here = rw E.here; not-before = λ j h. rw (E.not-before j h) (apart d E j h) } in
          let on : go_on M marks set n v ≡ way (dest M set) (coded_at m set) (on_last M marks set) d w =
          on-walk M marks set n v
          ∙ rw w-is (walk_is (dest M set) (coded_slot M marks set) (on_last M marks set) (on_ends M marks set) n d w e.2 (omega (arith, e.1))) in (
            on_same w w-in
                ∙ walk_is (dest M set) (coded_at m set) on_end on_stops n d w stops (omega (arith, e.1))
                ∙ way_end (dest M set) (coded_at m set) on_end (on_last M marks set) d w (rw E.here)
                ∙ sym on,
            rw (on, length-way (dest M set) (coded_at m set) (on_last M marks set) d w) (omega (arith, e.1)),
          )

-- ---- the slots of a walk are slots of the store, and none of them is the one that is written: this page of this block
abbrev pub Read : Sizes → (page block t : ℕ) → Type 0
Read Z page block t = (t < slot_count Z) × (t ≢ slot Z.m block page)

module _ (Z : Sizes) (set : ℕ) (set-ok : set < Z.m) (pages : List ℕ) (P : PagesIn Z.n Z.m pages) (page : ℕ) (page-ok : page < Z.m) where
  open Z use {n, m}

  -- the coded pages lie in blocks below, the others in blocks above
  coded_in : (block v : ℕ) → DataBlock n v → v ≤ block → Read Z page block (coded_at m set v)
  coded_in block v b low =
      (slot-in-marks Z (v - 1) set (omega (arith, b.high)) set-ok, λ e. omega (arith, slot_lt m (v - 1) set block (omega (arith, b.low)) set-ok))

  above_in : (block v q : ℕ) → v ≤ n → q < m → block < v → Read Z page block (slot m v q)
  above_in block v q high q-in up = (slot-in-marks Z v q high q-in, λ e. omega (arith, slot_lt m block page v up page-ok))

  pub backward-read : (list : List ℕ) → ListIn n m list → (b : ℕ) → DataBlock n b → Each (Read Z page b) (backward_by m list set pages n b)
  backward-read list L b b-in =
      let to : ℕ → ℕ = sent_by m list pages in
      let next : ℕ → ℕ = λ c. block_of m (to c) in
      walk-each next (coded_at m set) _ _ (Read Z page b) (DataBlock n) (λ c. DataBlock n c × (c ≤ b))
      (λ c h. (h.0, coded_in b c h.0 h.1))
      (λ c h.
      let k-in = slot_lt m (c - 1) (entry_of pages c) n (omega (arith, h.low, h.high)) (P.page-lt c h.low h.high) in
      let r = block-range n m (to c) (L.entry_lt (number_at m c (entry_of pages c)) k-in) in
      let final-in : leb (b + 1) (next c) ≡ true → Each (Read Z page b) ((to c + m) ∷ []) = λ e.
      let up = leb-true (b + 1) (next c) e in
      each-one (Read Z page b) (to c + m) (rw (home-is m (to c)) (above_in b (next c) (to c % m) r.1 (mod-lt (to c) (omega arith)) (omega arith))) in (
        λ e. each-cond (Read Z page b) (leb (b + 1) (next c)) _ [] final-in (λ f. each_none (Read Z page b)),
        λ e.
            let low = leb-false (b + 1) (next c) (or-false-left (leb (b + 1) (next c)) (eqb (next c) b) e) in
            (record { low = r.0; high = r.1 }, omega arith),
      ))
      n b (b-in, omega arith)

  pub forward-read : (sources : List ℕ) → BlocksIn n sources → (block : ℕ) → DataBlock n (block + 1) → Each (Read Z page block) (forward_by m set pages sources n (block + 1))
  unfolding forward_by
  forward-read sources S block i-in =
      let Q : ℕ → Type 0 = Read Z page block in
      let i : ℕ = block + 1 in
      let own : ℕ = plain_at m pages i in
      let rest : List ℕ = drop 1 (back_by m set pages sources i 0 n i) in
      let plain_in : (v : ℕ) → DataBlock n v → i ≤ v → Q (plain_at m pages v) = λ v b up.
      above_in block v (entry_of pages v) b.high (P.page-lt v b.low b.high) (omega arith) in
      let own_in = plain_in i i-in (omega arith) in
      let rest_in : Each Q rest = walk-rest (entry_of sources) (coded_at m set) _ _ Q (DataBlock n) (λ c. DataBlock n c × (c < i))
      (λ c h. (h.0, coded_in block c h.0 (omega (arith, h.1))))
      (λ c h.
      let u : ℕ = entry_of sources c in
      let u-in : DataBlock n u = record { low = S.low c h.low h.high; high = S.high c h.low h.high } in
      let not-0 : eqb c 0 ≡ false = ne_eqb c 0 (λ z. omega (arith, h.low)) in (
        λ e. rw not-0 (each-one Q (plain_at m pages u) (plain_in u u-in (leb-true i u (rw not-0 at e)))),
        λ e. (u-in, leb-false i u (rw not-0 at e)),
      ))
      n i (omega (arith, i-in.low, i-in.high)) i-in in
      each-cond Q (eqb (get_or (own ∷ rest) (length rest) 0) own) (own ∷ []) (own ∷ rest) (λ e. each-one Q own own_in) (λ e. each-cons Q own rest own_in rest_in)
