-- Read's rules 2 and 3: a walk over the coded pages of a cycle sums to the original that it was begun for.
use Rattle.flash.proofs.Kit.{◌≡◌, refl, sym, ap, ◌∙◌, ⊎_elim, ◌≢◌, Bool, true, false, List, [], ◌∷◌, ℕ, zero, suc, ◌+◌, ◌-◌, ◌/◌, ◌≤◌, ◌<◌}
use Rattle.flash.proofs.Kit.{not-suc-le-zero, zero-add, suc-add, arith}
use Rattle.flash.specs.Geometry.{letter}
use Rattle.flash.proofs.Bools.{bool_cases, or-false-left, fails}
use Rattle.split.specs.Split.{source_block}
use Rattle.method.specs.Move.{Move, AcceptedMove}
use Rattle.method.specs.Cycle.{D, dest, pred, top, is_top, coded}
use Rattle.method.specs.Read.{full_of, coded_slot, plain_slot, final_slot, go_back, go_on}
use Rattle.method.proofs.basics.EachNumber.{Each, each-one}
use Rattle.method.specs.inner.Shape.{Shape}
use Rattle.method.proofs.basics.Indexes.{slot-div}
use Rattle.method.proofs.cycles.Orbits.{DataBlock, iterate}
use Rattle.method.proofs.cycles.SetCycles.{D-page, dest-in, pred_in, pred-dest}
use Rattle.method.proofs.cycles.Tops.{top-dest, top-pred, is_top-true}
use Rattle.method.proofs.walks.WalkSlots.{Ends, ends_next, once, way, each_way, walk, walk_is, back_ends, back_last, back-walk, on_ends, on_last, on-walk}
use Rattle.method.proofs.walks.WalkBounds.{back-ends, on-ends}
use Rattle.method.proofs.walks.StoredPages.{Stored, Reads, Adds, pair-adds, swap-adds, reads-one, reads-add, reads-within, stored-apart, plain-stored, final-stored, code-stored}

-- ---- what a coded page sums
module _ (M : Move) (A : AcceptedMove M) (set : ℕ) (set-ok : set < M.sizes.m) (v : ℕ) (v-in : DataBlock M.sizes.n v) where
  coded-top : is_top M set v ≡ true → coded M set v ≡ D M set v ∷ []
  unfolding coded
  coded-top e = rw e

  coded-adds : is_top M set v ≡ false → Adds M (coded M set v) (D M set v) (D M set (pred M set v))
  unfolding coded
  coded-adds e =
      rw e (pair-adds M (D M set v) (D M set (pred M set v)) (D-page M A set set-ok v v-in).inside (D-page M A set set-ok (pred M set v) (pred_in M A set set-ok v v-in)).inside)

-- a block of the cycle with top `tip` whose coded page is there: below `low`
pub record Met (M : Move) (low set tip b : ℕ) : Type 0 where
  pub inside : DataBlock M.sizes.n b
  pub under : b ≤ low
  pub of-cycle : top M set b ≡ tip

module _ (M : Move) (A : AcceptedMove M) (marks : List ℕ) (low high i : ℕ) (S : Shape M.sizes marks low high i) where
  open M.sizes use {n, m}

  -- ---- a walk over coded pages of a set
  module _ (set : ℕ) (set-ok : set < m) (tip : ℕ) where
    met-stored : (b : ℕ) → Met M low set tip b → Stored M marks 1 (coded_slot M marks set b) (coded M set b)
    met-stored b o = code-stored M marks low high A i S set b set-ok o.inside o.under

    -- each coded page has a slot of its own
    coded-same : (b c : ℕ) → Met M low set tip b → Met M low set tip c → coded_slot M marks set b ≡ coded_slot M marks set c → b ≡ c
    unfolding coded_slot
    coded-same b c o p e =
        let q : b - 1 ≡ c - 1 = sym (slot-div m (b - 1) set set-ok) ∙ ap (λ (t : ℕ). t / m) e ∙ slot-div m (c - 1) set set-ok in
        omega arith

    -- The slots of a walk from b on sum to original `x b`; `last` tells what follows the last coded page.
    module _ (last : ℕ → List ℕ) (x : ℕ → ℕ) where
      record End (bound c : ℕ) : Type 0 where
        reads : Reads M marks bound (coded_slot M marks set c ∷ last c) (x c)
        apart : (b : ℕ) → Met M low set tip b → Each (λ t. t ≢ coded_slot M marks set b) (last c)

      -- the coded page of c and one page more
      end-two : (j c t y : ℕ) → Met M low set tip c → last c ≡ t ∷ [] → letter M.sizes j ≢ letter M.sizes 1 → Stored M marks j t (y ∷ []) → Adds M (coded M set c) (x c) y → End 2 c
      end-two j c t y o is ne s a = record {
        reads = rw is (reads-add M marks 1 (coded_slot M marks set c) (x c) y (coded M set c) (t ∷ []) (met-stored c o) a (differs c o) (reads-one M marks j t y s));
        apart = λ b p. rw is (differs b p);
      }
        where
          differs : (b : ℕ) → Met M low set tip b → Each (λ u. u ≢ coded_slot M marks set b) (t ∷ [])
          differs b p =
              each-one (λ u. u ≢ coded_slot M marks set b) t
              (stored-apart M marks j 1 t (coded_slot M marks set b) (y ∷ []) (coded M set b) ne s (met-stored b p))

      module _ (f : ℕ → ℕ) (ends : ℕ → Bool)
          (stays : (b : ℕ) → Met M low set tip b → ends b ≡ false → Met M low set tip (f b))
          (adds : (b : ℕ) → Met M low set tip b → ends b ≡ false → Adds M (coded M set b) (x b) (x (f b))) where
        met-way : (d b : ℕ) → Ends f ends d b → Met M low set tip b → (j : ℕ) → j ≤ d → Met M low set tip (iterate f j b)
        unfolding iterate
        met-way d b E o zero h = o
        met-way zero b E o (suc j) h = absurd (not-suc-le-zero h)
        met-way (suc d) b E o (suc j) h =
            met-way d (f b) (ends_next f ends d b E) (stays b o (E.not-before 0 (omega arith))) j (omega arith)

        reads-way : (bound d b : ℕ) → Ends f ends d b → Met M low set tip b → End bound (iterate f d b) → Reads M marks (d + bound) (way f (coded_slot M marks set) last d b) (x b)
        unfolding iterate way
        reads-way bound zero b E o end = rw (zero-add bound) end.reads
        reads-way bound (suc d) b E o end =
            let goes : ends b ≡ false = E.not-before 0 (omega arith) in
            let E' = ends_next f ends d b E in
            let o' = stays b o goes in
            let fresh = each_way f (coded_slot M marks set) last (λ t. t ≢ coded_slot M marks set b) d (f b)
            (λ j h e. once f ends (suc d) b E 0 (suc j) (omega arith) (omega arith) (sym (coded-same (iterate f j (f b)) b (met-way d (f b) E' o' j h) o e)))
            (end.apart b o) in
            rw (suc-add d bound)
            (reads-add M marks (d + bound) (coded_slot M marks set b) (x b) (x (f b)) (coded M set b) (way f (coded_slot M marks set) last d (f b))
            (met-stored b o) (adds b o goes) fresh (reads-way bound d (f b) E' o' end))

        reads-walk : (bound d b : ℕ) → Ends f ends d b → Met M low set tip b → (Met M low set tip (iterate f d b) → End bound (iterate f d b)) → 1 ≤ bound → d + bound ≤ n
            → Reads M marks n (walk f (coded_slot M marks set) last ends n b) (x b)
        reads-walk bound d b E o end h l =
            rw (walk_is f (coded_slot M marks set) last ends n d b E (omega arith))
            (reads-within M marks (d + bound) n (x b) (way f (coded_slot M marks set) last d b) l
            (reads-way bound d b E o (end (met-way d b E o d (omega arith)))))

    -- ---- rule 2
    module _ (v : ℕ) (v-met : Met M low set tip v) (near : (b : ℕ) → Met M low set tip b → back_ends M marks set b ≡ false → pred M set b ≤ low) where
      stays-back : (b : ℕ) → Met M low set tip b → back_ends M marks set b ≡ false → Met M low set tip (pred M set b)
      stays-back b o goes = record {
        inside = pred_in M A set set-ok b o.inside;
        under = near b o goes;
        of-cycle = top-pred M A set set-ok b o.inside ∙ o.of-cycle;
      }

      adds-back : (b : ℕ) → Met M low set tip b → back_ends M marks set b ≡ false → Adds M (coded M set b) (D M set b) (D M set (pred M set b))
      unfolding back_ends
      adds-back b o goes = coded-adds M A set set-ok b o.inside (or-false-left (is_top M set b) (full_of M marks 0 (pred M set b)) goes)

      end-top : (c : ℕ) → Met M low set tip c → is_top M set c ≡ true → End (back_last M marks set) (D M set) 1 c
      unfolding back_last
      end-top c o is-top =
          let s : Stored M marks 1 (coded_slot M marks set c) (D M set c ∷ []) = rw (coded-top M A set set-ok c o.inside is-top) at (met-stored c o) in
          record {
            reads = rw is-top (reads-one M marks 1 (coded_slot M marks set c) (D M set c) s);
            apart = λ b p. rw is-top (λ j h. absurd (not-suc-le-zero h));
          }

      end-plain : (c : ℕ) → Met M low set tip c → is_top M set c ≡ false → back_ends M marks set c ≡ true → End (back_last M marks set) (D M set) 2 c
      unfolding back_last back_ends letter source_block
      end-plain c o not_top here =
          let u : ℕ = pred M set c in
          let page = D-page M A set set-ok u (pred_in M A set set-ok c o.inside) in
          let full : full_of M marks 0 u ≡ true = rw not_top at here in
          end-two (back_last M marks set) (D M set) 0 c (plain_slot M marks (D M set u)) (D M set u) o (rw not_top) (omega arith)
          (plain-stored M marks low high A i S (D M set u) page.inside (rw page.at_block full))
          (coded-adds M A set set-ok c o.inside not_top)

      pub reads-back : Reads M marks n (go_back M marks set n v) (D M set v)
      reads-back =
          let e = back-ends M A marks set set-ok v v-met.inside in
          let d : ℕ = e.0 in
          let E = e.2 in
          let c : ℕ = iterate (pred M set) d v in
          rw (back-walk M marks set n v)
          (⊎_elim
          (λ (is-top : is_top M set c ≡ true).
          reads-walk (back_last M marks set) (D M set) (pred M set) (back_ends M marks set) stays-back adds-back
          1 d v E v-met (λ o. end-top c o is-top) (omega arith) (omega (arith, e.1)))
          (λ (not_top : is_top M set c ≡ false).
          reads-walk (back_last M marks set) (D M set) (pred M set) (back_ends M marks set) stays-back adds-back
          2 d v E v-met (λ o. end-plain c o not_top E.here) (omega arith) (omega (arith, e.3 not_top)))
          (bool_cases (is_top M set c)))

    -- ---- rule 3
    module _ (v : ℕ) (v-in : DataBlock n v) (v-top : top M set v ≡ tip) (over : low < tip) (tip-full : full_of M marks 2 tip ≡ true) (not_there : full_of M marks 2 (dest M set v) ≡ false)
        (near : (b : ℕ) → DataBlock n b → full_of M marks 2 (dest M set b) ≡ false → dest M set b ≤ low) where
      -- what the slots from b on sum to
      before : (b : ℕ) → ℕ
      before b = D M set (pred M set b)

      stays_on : (b : ℕ) → Met M low set tip b → on_ends M marks set b ≡ false → Met M low set tip (dest M set b)
      unfolding on_ends
      stays_on b o goes = record {
        inside = dest-in M A set set-ok b o.inside;
        under = near b o.inside goes;
        of-cycle = top-dest M A set set-ok b o.inside ∙ o.of-cycle;
      }

      not_top : (b : ℕ) → Met M low set tip b → is_top M set b ≡ false
      not_top b o = fails (λ e. (let at = is_top-true M set b e in omega arith))

      adds-before : (b : ℕ) → Met M low set tip b → Adds M (coded M set b) (before b) (D M set b)
      unfolding before
      adds-before b o = swap-adds M (coded-adds M A set set-ok b o.inside (not_top b o))

      adds_on : (b : ℕ) → Met M low set tip b → on_ends M marks set b ≡ false → Adds M (coded M set b) (before b) (before (dest M set b))
      unfolding before
      adds_on b o goes = rw (pred-dest M A set set-ok b o.inside) (adds-before b o)

      end-final : (c : ℕ) → Met M low set tip c → on_ends M marks set c ≡ true → End (on_last M marks set) before 2 c
      unfolding on_last on_ends letter dest
      end-final c o here =
          end-two (on_last M marks set) before 2 c (final_slot M marks (D M set c)) (D M set c) o refl (omega arith)
          (final-stored M marks low high A i S (D M set c) (D-page M A set set-ok c o.inside).inside here)
          (adds-before c o)

      pub reads_on : Reads M marks n (go_on M marks set n v) (D M set v)
      unfolding before
      reads_on =
          let e = on-ends M A marks set set-ok v v-in (rw v-top tip-full) not_there in
          let d : ℕ = e.0 in
          let E = e.2 in
          let w : ℕ = dest M set v in
          let w-met : Met M low set tip w = record { inside = dest-in M A set set-ok v v-in; under = near v v-in not_there; of-cycle = top-dest M A set set-ok v v-in ∙ v-top } in
          let r =
          reads-walk (on_last M marks set) before (dest M set) (on_ends M marks set) stays_on adds_on
          2 d w E w-met (λ o. end-final (iterate (dest M set) d w) o E.here) (omega arith) (omega (arith, e.1)) in
          rw (on-walk M marks set n v) (rw (pred-dest M A set set-ok v v-in) at r)
