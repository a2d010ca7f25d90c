-- The slots of a write in the forward pass: D(i) lies plain in its block, and the way back tells whether i is the top.
use Rattle.flash.proofs.Kit.{◌≡◌, refl, sym, ap, ◌∙◌, ⊎_elim, ◌≢◌, Bool, false, cond, ◌||◌, or-true, List, [], ◌∷◌, append-nil, ℕ, zero, suc, ◌+◌}
use Rattle.flash.proofs.Kit.{◌/◌, ◌≤◌, ◌<◌, le_antisymm, arith, eqb, leb, length, get_or, drop, eq-eqb, ne_eqb, leb-true, leb-false, le-leb, lt-leb}
use Rattle.flash.specs.Lists.{concat_map}
use Rattle.flash.proofs.Comparisons.{eq-cases}
use Rattle.split.specs.Split.{source_block}
use Rattle.method.specs.Move.{Move, AcceptedMove}
use Rattle.method.specs.Cycle.{D, dest, pred, top, is_top, coded}
use Rattle.method.specs.Read.{full_of, coded_slot, plain_slot, go_back, read_slots}
use Rattle.method.proofs.basics.Indexes.{slot-div}
use Rattle.method.proofs.cycles.Orbits.{DataBlock, iterate, iterate-last}
use Rattle.method.proofs.cycles.SetCycles.{D-page, dest-in, pred_in}
use Rattle.method.proofs.cycles.Tops.{top-ge-self, top-pred, top-behind}
use Rattle.method.proofs.walks.WalkSlots.{Ends, ends_by, way, walk_is, back_ends, back_last, back-walk}
use Rattle.walk.specs.inner.Moments.{Tells, moment_in}
use Rattle.walk.specs.inner.Rows.{entry_of, PagesRow, SourcesRow}
use Rattle.walk.specs.inner.Slots.{coded_at, plain_at, back_by, forward_by}
use Rattle.walk.proofs.ReadLaws.{any-plain}
use Rattle.walk.proofs.RowLaws.{walk_same, way_end, plain_at_lem}
use Rattle.walk.proofs.RoundLaws.{round-le, back_in, same-top, back-le}

-- rule 2 from a block on that may be plain itself
abbrev read_back : (M : Move) (marks : List ℕ) (set bound v : ℕ) → List ℕ
read_back M marks set bound v = cond (full_of M marks 0 v) (plain_slot M marks (D M set v) ∷ []) (go_back M marks set bound v)

-- the last slot of a way that ends with one
last_of : (f slot_at at : ℕ → ℕ) (d b y : ℕ) → (let ts = way f slot_at (λ v. at v ∷ []) d b in get_or (y ∷ ts) (length ts) 0 ≡ at (iterate f d b))
unfolding way iterate
last_of f slot_at at zero b y = refl
last_of f slot_at at (suc d) b y = last_of f slot_at at d (f b) (slot_at b)

module _ (M : Move) (A : AcceptedMove M) (set : ℕ) (set-ok : set < M.sizes.m) (pages sources : List ℕ) (P : PagesRow M set pages) (S : SourcesRow M set sources)
    (i : ℕ) (b : DataBlock M.sizes.n i) where
  open M.sizes use {n, m}

  abbrev u : ℕ
  u = pred M set i

  u-in : DataBlock n u
  u-in = pred_in M A set set-ok i b

  -- the way back from i until a block that is not below i
  abbrev ends : ℕ → Bool
  ends v = leb i (pred M set v)

  abbrev last : ℕ → List ℕ
  last v = plain_at m pages (pred M set v) ∷ []

  passed : (j : ℕ) → pred M set (iterate (pred M set) j i) ≡ iterate (pred M set) j u
  unfolding iterate
  passed j = sym (iterate-last (pred M set) j i)

  round : (d : ℕ) × (d < n) × Ends (pred M set) ends d i
  round =
      let r = top-behind M A set set-ok u u-in in
      let high = top-ge-self M A set set-ok i b in
      let E = ends_by (pred M set) ends r.0 i (rw (passed r.0, r.2) (le-leb i (top M set u) (omega (arith, top-pred M A set set-ok i b)))) in
      (E.0, omega (arith, E.1, r.1), E.2)

  abbrev d : ℕ
  d = round.0

  abbrev w : ℕ
  w = iterate (pred M set) d u

  w-in : DataBlock n w
  w-in = back_in M A set set-ok u u-in d

  all-is : back_by m set pages sources i 0 n i ≡ way (pred M set) (coded_at m set) last d i
  all-is =
      walk_same (entry_of sources) (coded_at m set) (λ c. cond (eqb c 0) [] (plain_at m pages (entry_of sources c) ∷ [])) (λ c. eqb c 0 || leb i (entry_of sources c)) (DataBlock n) (pred M set) last ends
      (λ c h.
      let e = S.is c h.low h.high in
      let some = ne_eqb c 0 (λ z. omega (arith, h.low)) in
      (e, pred_in M A set set-ok c h, rw (e, some), rw (e, some)))
      n i b
      ∙ walk_is (pred M set) (coded_at m set) last ends n d i round.2 round.1

  last-slot : (e : ℕ) (own : ℕ) → (let rest = drop 1 (way (pred M set) (coded_at m set) last e i) in get_or (own ∷ rest) (length rest) 0 ≡ plain_at m pages (iterate (pred M set) e u))
  unfolding way iterate
  last-slot zero own = refl
  last-slot (suc e) own = last_of (pred M set) (coded_at m set) (λ v. plain_at m pages (pred M set v)) e u own ∙ ap (plain_at m pages) (passed (suc e))

  plain-same : (v w : ℕ) → DataBlock n v → DataBlock n w → plain_at m pages v ≡ plain_at m pages w → v ≡ w
  plain-same v w v-in w-in e =
      sym (slot-div m v (entry_of pages v) (P.fits.page-lt v v-in.low v-in.high))
      ∙ ap (λ (t : ℕ). t / m) e
      ∙ slot-div m w (entry_of pages w) (P.fits.page-lt w w-in.low w-in.high)

  -- that block is i itself exactly where i is the top
  top-comes : top M set i ≡ i → w ≡ i
  top-comes t =
      le_antisymm (omega (arith, back-le M A set set-ok u u-in d, top-pred M A set set-ok i b)) (leb-true i w (rw (passed d) at round.2.here))

  comes-top : w ≡ i → top M set i ≡ i
  unfolding iterate
  comes-top e =
      let r = top-behind M A set set-ok i b in
      let met : (j : ℕ) → j ≤ d → iterate (pred M set) j i ≤ i = met-le in
      le_antisymm (rw r.2 at (round-le (pred M set) d i i e met r.0)) (top-ge-self M A set set-ok i b)
    where
      met-le : (j : ℕ) → j ≤ d → iterate (pred M set) j i ≤ i
      met-le zero h = omega arith
      met-le (suc j) h = (let l = leb-false i (pred M set (iterate (pred M set) j i)) (round.2.not-before j h) in omega (arith, passed j))

  -- ---- at the moment of the write
  module _ (marks : List ℕ) (below : ℕ) (T : Tells M marks (moment_in false n below i)) where
    read_is : (v : ℕ) → DataBlock n v → read_slots M marks (D M set v) ≡ read_back M marks set n v
    unfolding read_slots source_block
    read_is v v-in =
        let p = D-page M A set set-ok v v-in in
        let to = dest-in M A set set-ok v v-in in
        rw (p.at_block, p.in-set, T.done-is (dest M set v) to.high, lt-leb (n + 1) (dest M set v) (omega (arith, to.high)), any-plain M A marks (moment_in false n below i) T, le-leb i n b.high, or-true)

    pub own-slots : read_slots M marks (D M set i) ≡ plain_at m pages i ∷ []
    unfolding plain_slot
    own-slots = read_is i b ∙ rw (T.plain-is i b.high, le-leb i i (omega arith), plain_at_lem M A set set-ok pages P i b)

    -- the blocks on the way lie below i, and so are not the top
    not_top : (j : ℕ) → ends (iterate (pred M set) j i) ≡ false → is_top M set (iterate (pred M set) j u) ≡ false
    unfolding is_top
    not_top j e =
        let low = leb-false i (pred M set (iterate (pred M set) j i)) e in
        ne_eqb (top M set (iterate (pred M set) j u)) (iterate (pred M set) j u)
        (λ q. omega (arith, passed j, same-top M A set set-ok u u-in j, top-pred M A set set-ok i b, top-ge-self M A set set-ok i b))

    rest-slots : (e : ℕ) → Ends (pred M set) ends e i → e < n → drop 1 (way (pred M set) (coded_at m set) last e i) ≡ read_back M marks set n u
    unfolding way iterate plain_slot back_ends back_last coded_slot
    rest-slots zero E h = rw (T.plain-is u u-in.high, E.here, plain_at_lem M A set set-ok pages P u u-in)
    rest-slots (suc e) E h =
        let x : ℕ → ℕ = λ j. iterate (pred M set) j u in
        let y-in : (j : ℕ) → DataBlock n (pred M set (x j)) = λ j. pred_in M A set set-ok (x j) (back_in M A set set-ok u u-in j) in
        rw (T.plain-is u u-in.high, E.not-before 0 (omega arith))
        (sym (back-walk M marks set n u
        ∙ walk_is (pred M set) (coded_slot M marks set) (back_last M marks set) (back_ends M marks set) n e u
        (record {
          here = rw (not_top e (E.not-before e (omega arith)), T.plain-is (pred M set (x e)) (y-in e).high) E.here;
          not-before = λ j l. rw (not_top j (E.not-before j (omega arith)), T.plain-is (pred M set (x j)) (y-in j).high) (E.not-before (suc j) (omega arith));
        })
        (omega arith)
        ∙ way_end (pred M set) (coded_at m set) (back_last M marks set) last e u (rw (not_top e (E.not-before e (omega arith)), plain_at_lem M A set set-ok pages P (pred M set (x e)) (y-in e)))))

    pub slots-are : forward_by m set pages sources n i ≡ concat_map (read_slots M marks) (coded M set i)
    unfolding forward_by concat_map coded is_top
    slots-are =
        let own : ℕ = plain_at m pages i in
        rw (all-is, last-slot d own)
        (⊎_elim
        (λ (t : top M set i ≡ i). rw (top-comes t, eq-eqb own own refl, eq-eqb (top M set i) i t, own-slots))
        (λ (t : top M set i ≢ i).
        rw (ne_eqb (plain_at m pages w) own (λ e. t (comes-top (plain-same w i w-in b e))), ne_eqb (top M set i) i t, own-slots, append-nil)
        (ap (λ (ts : List ℕ). own ∷ ts) (rest-slots d round.2 round.1 ∙ sym (read_is u u-in))))
        (eq-cases (top M set i) i))
