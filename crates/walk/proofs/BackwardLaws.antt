-- The slots of a write in the backward pass: those that read gives, or the same in reverse where the block is the top.
use Rattle.flash.proofs.Kit.{◌≡◌, refl, sym, ap, ◌∙◌, ⊎_elim, ◌≢◌, Bool, true, false, cond, or-false, List, [], ◌∷◌, ◌++◌, ℕ, zero, suc, ◌+◌, ◌-◌}
use Rattle.flash.proofs.Kit.{◌≤◌, ◌<◌, le_antisymm, arith, eqb, leb, ltb, get_or, eqb-true, eq-eqb, leb-false, lt-leb, lt-ltb, le-ltb}
use Rattle.flash.specs.Geometry.{block_of, number_at, original_count}
use Rattle.flash.specs.PageSum.{◌⊕◌, sum}
use Rattle.flash.proofs.Bools.{never_both, fails}
use Rattle.flash.proofs.Comparisons.{eq-cases}
use Rattle.flash.proofs.Sums.{⊕-comm, sum_more}
use Rattle.split.specs.Split.{dest_block, set_of}
use Rattle.split.proofs.SplitLaws.{place-block}
use Rattle.method.specs.Move.{Move, AcceptedMove}
use Rattle.method.specs.Cycle.{dest, pred, top, sent_to}
use Rattle.method.specs.Read.{full_of, coded_slot, go_back, go_on, read_slots}
use Rattle.method.proofs.basics.Indexes.{slot_lt}
use Rattle.method.proofs.cycles.Orbits.{DataBlock, OneToOne, iterate, iterate-last, iterate-in, undone, round}
use Rattle.method.proofs.cycles.SetCycles.{set-in, block_in, dest-in, pred_in, dest-is, dest-one, dest-pred, pred-dest, sent-in, entry-sent}
use Rattle.method.proofs.cycles.Tops.{top-is, top-ge, top-ge-self, top-dest, is_top-true, top-is_top}
use Rattle.method.proofs.walks.WalkSlots.{Ends, ends_by, way, walk_is, back_ends, back_last, back-walk}
use Rattle.walk.specs.inner.Moments.{Tells, moment_in}
use Rattle.walk.specs.inner.Rows.{PagesRow}
use Rattle.walk.specs.inner.Slots.{SumsAs, coded_at, backward_by}
use Rattle.walk.proofs.ReadLaws.{read-walks}
use Rattle.walk.proofs.RowLaws.{length-way, way_end, on_same, on-is}
use Rattle.walk.proofs.RoundLaws.{round-le, back_in, same-top}

-- ---- a walk the other way round
module _ (f slot : ℕ → ℕ) where
  way-last : (d b : ℕ) → way f slot (λ _. []) (suc d) b ≡ way f slot (λ _. []) d b ++ (slot (iterate f (suc d) b) ∷ [])
  unfolding way iterate
  way-last zero b = refl
  way-last (suc d) b = ap (λ (ts : List ℕ). slot b ∷ ts) (way-last d (f b))

module _ (n : ℕ) (f g slot : ℕ → ℕ) (F : OneToOne n f) (back : (b : ℕ) → DataBlock n b → g (f b) ≡ b) (page : ℕ → List ℕ) where
  way-turned : (d b : ℕ) → DataBlock n b → sum page (way f slot (λ _. []) d b) ≡ sum page (way g slot (λ _. []) d (iterate f d b))
  unfolding iterate way sum
  way-turned zero b h = refl
  way-turned (suc d) b h =
      let y : ℕ = iterate f d (f b) in
      let rest : List ℕ = way g slot (λ _. []) d y in
      ⊕-comm (page (slot b)) (sum page (way f slot (λ _. []) d (f b)))
      ∙ ap (λ (s : List ℕ). s ⊕ page (slot b)) (way-turned d (f b) (F.into b h))
      ∙ sym (ap (sum page) (way-last g slot d y)
      ∙ sum_more page rest (slot (iterate g (suc d) y))
      ∙ ap (λ (x : ℕ). sum page rest ⊕ page (slot x)) (undone n f g F back (suc d) b h))

-- ---- a write to block b, of the original k that goes there
module _ (M : Move) (A : AcceptedMove M) (k : ℕ) (k-in : k < original_count M.sizes) (b : ℕ) (goes : dest_block M.sizes.m M.list k ≡ b) where
  open M.sizes use {n, m}

  abbrev set : ℕ
  set = set_of M.sets k

  abbrev v : ℕ
  v = block_of m k

  set-ok : set < m
  set-ok = set-in M A k k-in

  v-in : DataBlock n v
  v-in = block_in M A k k-in

  dest-v : dest M set v ≡ b
  dest-v = dest-is M A k k-in ∙ goes

  b-in : DataBlock n b
  b-in = rw (← dest-v) (dest-in M A set set-ok v v-in)

  top-v : top M set v ≡ top M set b
  top-v = sym (top-dest M A set set-ok v v-in) ∙ ap (top M set) dest-v

  pred-b : pred M set b ≡ v
  pred-b = ap (pred M set) (sym dest-v) ∙ pred-dest M A set set-ok v v-in

  -- b is the top where the way on from it comes back and nothing above b was met
  round-top : (d : ℕ) → iterate (dest M set) (suc d) b ≡ b → ((i : ℕ) → i ≤ d → iterate (dest M set) i b ≤ b) → top M set b ≡ b
  round-top d home met =
      let r = top-is M A set set-ok b b-in in
      le_antisymm (rw r.2 (round-le (dest M set) d b b home met r.0)) (top-ge-self M A set set-ok b b-in)

  none_above : (d : ℕ) → Ends (dest M set) (λ c. leb (b + 1) (dest M set c)) d b → (j : ℕ) → j < d → (i : ℕ) → i ≤ j → iterate (dest M set) i b ≤ b
  unfolding iterate
  none_above d E j h zero l = omega arith
  none_above d E j h (suc i) l =
      let low = leb-false (b + 1) (dest M set (iterate (dest M set) i b)) (E.not-before i (omega arith)) in
      omega (arith, iterate-last (dest M set) i b)

  module _ (pages : List ℕ) (P : PagesRow M set pages) (marks : List ℕ) (T : Tells M marks (moment_in true n b (b + 1))) where
    not_plain : (u : ℕ) → u ≤ n → full_of M marks 0 u ≡ false
    not_plain u h = T.plain-is u h ∙ lt-leb (n + 1) u (omega arith)

    walks : (t : Bool) → ltb (top M set b - 1) b ≡ t → read_slots M marks k ≡ cond t (go_back M marks set n v) (go_on M marks set n v)
    unfolding dest_block
    walks t e =
        read-walks M A marks (moment_in true n b (b + 1)) T k k-in (omega (arith, v-in.high)) (rw goes (omega arith)) ∙ rw (top-v, e, lt-leb (n + 1) n (omega arith), or-false)

    -- ---- not the top: a block above b is met before b comes again
    below_top : top M set b ≢ b → backward_by m M.list set pages n b ≡ read_slots M marks k
    below_top ne =
        let high : b < top M set b = omega (arith, top-ge-self M A set set-ok b b-in, ne) in
        let o = on-is M A set set-ok pages P (b + 1) b marks T.done-is v v-in b dest-v (rw top-v (omega arith)) (omega arith)
        (λ d E j h. fails (λ e. ne (round-top j (iterate-last (dest M set) j b ∙ eqb-true (dest M set (iterate (dest M set) j b)) b e) (none_above d E j h)))) in
        o.0 ∙ sym (walks false (le-ltb (top M set b - 1) b (omega arith)))

    -- ---- the top: the whole cycle, which read goes round the other way
    module _ (is-top : top M set b ≡ b) where
      F : OneToOne n (dest M set)
      F = dest-one M A set set-ok

      G : OneToOne n (pred M set)
      G = record {
        into = pred_in M A set set-ok;
        same = λ x y x-in y-in e. sym (dest-pred M A set set-ok x x-in) ∙ ap (dest M set) e ∙ dest-pred M A set set-ok y y-in;
      }

      closes : (d : ℕ) × (d < n) × Ends (dest M set) (λ c. eqb (dest M set c) b) d b
      closes =
          let r = round n (dest M set) F b b-in in
          let last : ℕ = r.steps - 1 in
          let steps : suc last ≡ r.steps = omega (arith, r.some) in
          let home : dest M set (iterate (dest M set) last b) ≡ b = sym (iterate-last (dest M set) last b) ∙ ap (λ (j : ℕ). iterate (dest M set) j b) steps ∙ r.home in
          let E = ends_by (dest M set) (λ c. eqb (dest M set c) b) last b (eq-eqb (dest M set (iterate (dest M set) last b)) b home) in
          (E.0, omega (arith, E.1, r.few), E.2)

      abbrev d : ℕ
      d = closes.0

      on-home : (j : ℕ) → eqb (dest M set (iterate (dest M set) j b)) b ≡ true → iterate (dest M set) (suc j) b ≡ b
      on-home j e = iterate-last (dest M set) j b ∙ eqb-true (dest M set (iterate (dest M set) j b)) b e

      -- the way back from v ends at b as well
      back-home : iterate (pred M set) d v ≡ b
      unfolding iterate
      back-home =
          ap (iterate (pred M set) d) (sym pred-b)
          ∙ ap (iterate (pred M set) (suc d)) (sym (on-home d closes.2.here))
          ∙ undone n (dest M set) (pred M set) F (pred-dest M A set set-ok) (suc d) b b-in

      back-not : (j : ℕ) → j < d → iterate (pred M set) j v ≢ b
      unfolding iterate
      back-not j h e =
          let home : iterate (pred M set) (suc j) b ≡ b = ap (iterate (pred M set) j) pred-b ∙ e in
          let on : iterate (dest M set) (suc j) b ≡ b = ap (iterate (dest M set) (suc j)) (sym home) ∙ undone n (pred M set) (dest M set) G (dest-pred M A set set-ok) (suc j) b b-in in
          never_both (eq-eqb (dest M set (iterate (dest M set) j b)) b (sym (iterate-last (dest M set) j b) ∙ on)) (closes.2.not-before j h)

      back-ends : Ends (pred M set) (back_ends M marks set) d v
      unfolding back_ends
      back-ends = record {
        here = rw (back-home, top-is_top M set b is-top);
        not-before = λ j h.
            let x-in = back_in M A set set-ok v v-in j in
            let x-top : top M set (iterate (pred M set) j v) ≡ b = same-top M A set set-ok v v-in j ∙ top-v ∙ is-top in
            rw (fails (λ t. back-not j h (sym (is_top-true M set (iterate (pred M set) j v) t) ∙ x-top)))
            (not_plain (pred M set (iterate (pred M set) j v)) (pred_in M A set set-ok (iterate (pred M set) j v) x-in).high);
      }

      back-way : read_slots M marks k ≡ way (pred M set) (coded_at m set) (λ _. []) d v
      unfolding back_last coded_slot
      back-way =
          walks true (lt-ltb (top M set b - 1) b (omega (arith, b-in.low)))
          ∙ back-walk M marks set n v
          ∙ walk_is (pred M set) (coded_at m set) (back_last M marks set) (back_ends M marks set) n d v back-ends closes.1
          ∙ way_end (pred M set) (coded_at m set) (back_last M marks set) (λ _. []) d v (rw (back-home, top-is_top M set b is-top))

      on-way : backward_by m M.list set pages n b ≡ way (dest M set) (coded_at m set) (λ _. []) d b
      on-way =
          let low : (j : ℕ) → leb (b + 1) (dest M set (iterate (dest M set) j b)) ≡ false = λ j.
          lt-leb (b + 1) (dest M set (iterate (dest M set) j b)) (omega (arith, iterate-last (dest M set) j b, top-ge M A set set-ok (suc j) b b-in)) in
          on_same M A set set-ok pages P (b + 1) b b b-in
          ∙ walk_is (dest M set) (coded_at m set) _ _ n d b
          (record { here = rw (low d) closes.2.here; not-before = λ j h. rw (low j) (closes.2.not-before j h) }) closes.1
          ∙ way_end (dest M set) (coded_at m set) _ (λ _. []) d b (rw (low d))

      at_top : SumsAs (backward_by m M.list set pages n b) (read_slots M marks k)
      at_top =
          let meets : iterate (dest M set) d b ≡ v =
          sym (pred-dest M A set set-ok (iterate (dest M set) d b) (iterate-in n (dest M set) F d b b-in)) ∙ ap (pred M set) (eqb-true (dest M set (iterate (dest M set) d b)) b closes.2.here) ∙ pred-b in
          rw (on-way, back-way)
          (record {
            number = length-way (dest M set) (coded_at m set) (λ _. []) d b ∙ sym (length-way (pred M set) (coded_at m set) (λ _. []) d v);
            sums = λ page. rw meets at (way-turned n (dest M set) (pred M set) (coded_at m set) F (pred-dest M A set set-ok) page d b b-in);
          })

    read-sums : SumsAs (backward_by m M.list set pages n b) (read_slots M marks k)
    read-sums = ⊎_elim
        (λ (t : top M set b ≡ b). at_top t)
        (λ (t : top M set b ≢ b). rw (below_top t) (record { number = refl; sums = λ page. refl }))
        (eq-cases (top M set b) b)

pub backward-slots : (M : Move) → AcceptedMove M → (b page set : ℕ) → 1 ≤ b → b ≤ M.sizes.n → page < M.sizes.m → set ≡ set_of M.sets (sent_to M (number_at M.sizes.m b page))
    → (pages : List ℕ) → PagesRow M set pages → (marks : List ℕ) → Tells M marks (moment_in true M.sizes.n b (b + 1))
    → SumsAs (backward_by M.sizes.m M.list set pages M.sizes.n b) (read_slots M marks (sent_to M (number_at M.sizes.m b page)))
unfolding dest_block
backward-slots M A b page set low high page-ok e pages P marks T =
    let m = M.sizes.m in
    let number : ℕ = number_at m b page in
    let number_ok = slot_lt m (b - 1) page M.sizes.n (omega arith) page-ok in
    let k : ℕ = sent_to M number in
    let goes : block_of m (get_or M.list k 0) ≡ b = ap (block_of m) (entry-sent M A number number_ok) ∙ place-block m b page low page-ok in
    rw e (read-sums M A k (sent-in M A number number_ok) b goes pages (rw e at P) marks T)
