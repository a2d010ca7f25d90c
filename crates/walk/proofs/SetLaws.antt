-- What a set of a move and its rows tell of the block where the page that goes to a block comes from.
use Rattle.flash.proofs.Kit.{◌≡◌, sym, ap, ◌∙◌, subst, ℕ, ◌+◌, ◌-◌, ◌*◌, ◌≤◌, ◌<◌}
use Rattle.split.specs.Split.{set_of}
use Rattle.method.specs.Move.{Move}
use Rattle.method.specs.Cycle.{D, pred}
use Rattle.method.specs.inner.MoveIn.{move_in}
use Rattle.method.proofs.cycles.SetCycles.{D-page, pred_in}
use Rattle.walk.specs.declared.set.Rows.{Rows}
use Rattle.walk.specs.inner.Rows.{entry_of, PagesRow, SourcesRow}

abbrev pub moves : Rows → Move
moves rows = move_in rows.moved

-- the rows are those of the set of each of its originals
module _ (rows : Rows) (k : ℕ) (of : rows.set ≡ set_of rows.moved.sets.now k) where
  pub pages-of : PagesRow (moves rows) (set_of rows.moved.sets.now k) rows.pages.now
  pages-of = subst (λ (x : ℕ). PagesRow (moves rows) x rows.pages.now) of rows.pages_row

  pub sources-of : SourcesRow (moves rows) (set_of rows.moved.sets.now k) rows.sources.now
  sources-of = subst (λ (x : ℕ). SourcesRow (moves rows) x rows.sources.now) of rows.sources_row

-- block u, where the set's page that goes to block b comes from, and the page number of that page
module _ (rows : Rows) (b u page : ℕ) (low : 1 ≤ b) (high : b ≤ rows.moved.sizes.n) (is : u ≡ entry_of rows.sources.now b)
    (page-is : page ≡ entry_of rows.pages.now u) where
  u-low : 1 ≤ u
  u-low = subst (λ (x : ℕ). 1 ≤ x) (sym is) (rows.sources_row.fits.low b low high)

  u-high : u ≤ rows.moved.sizes.n
  u-high = subst (λ (x : ℕ). x ≤ rows.moved.sizes.n) (sym is) (rows.sources_row.fits.high b low high)

  pub number-is : (u - 1) * rows.moved.sizes.m + page ≡ D (moves rows) rows.set (pred (moves rows) rows.set b)
  number-is =
      ap (λ (x : ℕ). (u - 1) * rows.moved.sizes.m + x) page-is
      ∙ rows.pages_row.is u u-low u-high
      ∙ ap (D (moves rows) rows.set) (is ∙ rows.sources_row.is b low high)

  pub number_in : (u - 1) * rows.moved.sizes.m + page < rows.moved.sizes.n * rows.moved.sizes.m
  number_in =
      let u-in = pred_in (moves rows) rows.moved.accepted rows.set rows.set_in b (record { low = low; high = high }) in
      subst (λ (x : ℕ). x < rows.moved.sizes.n * rows.moved.sizes.m) (sym number-is)
      (D-page (moves rows) rows.moved.accepted rows.set rows.set_in (pred (moves rows) rows.set b) u-in).inside

  -- it is of the set
  pub number-set : rows.set ≡ set_of rows.moved.sets.now ((u - 1) * rows.moved.sizes.m + page)
  number-set =
      let u-in = pred_in (moves rows) rows.moved.accepted rows.set rows.set_in b (record { low = low; high = high }) in
      sym (ap (set_of rows.moved.sets.now) number-is ∙ (D-page (moves rows) rows.moved.accepted rows.set rows.set_in (pred (moves rows) rows.set b) u-in).in-set)
